-- What the paper and document 01 say, as judgements: the rules of sections 2.2 and 2.3, Table 1 and Table 3, as document 01 amends
-- them. The laws in proofs/ say that what executes (`Clauses`, `Reduction`, `Services`) agrees with them.
use Rattle.std.specs.Prelude.{ℕ, ◌+◌, suc, ◌≡◌, true, Bool, false, length}
use Rattle.std.proofs.Math.Option.{none, some}
use mathlib.Core.List.{List, [], ◌∷◌, ◌++◌, Memᴰ}
use Rattle.std.proofs.Math.ListN.{get_elem?}
use Rattle.limits.specs.Limits.{variables}
use Rattle.calculus.specs.Trees.{Ty, tunit, tsum, tprod, Tag, left, right, Pat, pvar, pinj, Val, vinj, Let, Clause, Iso, part, tlist, Leaf, unit_leaf}
use Rattle.calculus.specs.Trees.{empty_leaf, Node, pair_node, element_node, pleaf, pnode, vleaf, vnode, vars, invert}
use Rattle.calculus.specs.Slots.{Slots, put, empty, all_empty}
use Rattle.calculus.specs.Reduction.{bind, build, run_lets, apply, reduce_to, reduce_free}
use Rattle.calculus.specs.Clauses.{Deed, binds, uses, events, history, Sigs, sigs_of, lefts, rights}

-- "A closed value …: U for the unit type; L or R before a closed value of the left or right type for a sum; P before one of each
-- part for a product"; and for a list N, or K before one of the element and one of the list
pub data Of : Val → Ty → Type 0 where
  unit : Of (vleaf unit_leaf) tunit
  nil : {a : Ty} → Of (vleaf empty_leaf) (tlist a)
  inj : {t : Tag} {v : Val} {a b : Ty} → Of v (part t a b) → Of (vinj t v) (tsum a b)
  pair : {v w : Val} {a b : Ty} → Of v a → Of w b → Of (vnode pair_node v w) (tprod a b)
  cons : {v w : Val} {a : Ty} → Of v a → Of w (tlist a) → Of (vnode element_node v w) (tlist a)

-- Typing contexts Δ: a slot for each variable number. `Join d e f`: d is e, f, which share no variable.
pub data Join : Slots Ty → Slots Ty → Slots Ty → Type 0 where
  done : Join [] [] []
  neither : {d e f : Slots Ty} → Join d e f → Join (none ∷ d) (none ∷ e) (none ∷ f)
  first : {a b : Ty} {d e f : Slots Ty} → a ≡ b → Join d e f → Join (some a ∷ d) (some b ∷ e) (none ∷ f)
  second : {a b : Ty} {d e f : Slots Ty} → a ≡ b → Join d e f → Join (some a ∷ d) (none ∷ e) (some b ∷ f)

-- Table 1, the rules for (), x, inj and pairs, and those for lists, which are 1 ⊕ (a × [a]): Δ ⊢ p : a. "linear: … we forbid the repetition
-- of variables"
pub data Fits : Slots Ty → Pat → Ty → Type 0 where
  unit : {d : Slots Ty} → all_empty d ≡ true → Fits d (pleaf unit_leaf) tunit
  nil : {d : Slots Ty} {a : Ty} → all_empty d ≡ true → Fits d (pleaf empty_leaf) (tlist a)
  var : {d : Slots Ty} {n : ℕ} {a : Ty} (e : Slots Ty) → all_empty e ≡ true → put n a e ≡ some d → Fits d (pvar n) a
  inj : {d : Slots Ty} {t : Tag} {p : Pat} {a b : Ty} → Fits d p (part t a b) → Fits d (pinj t p) (tsum a b)
  pair : {d e f : Slots Ty} {p q : Pat} {a b : Ty} → Join d e f → Fits e p a → Fits f q b → Fits d (pnode pair_node p q) (tprod a b)
  cons : {d e f : Slots Ty} {p q : Pat} {a : Ty} → Join d e f → Fits e p a → Fits f q (tlist a) → Fits d (pnode element_node p q) (tlist a)

-- Table 1, the rules for application and let: Δ ⊢ let p = ω q in … in v : b, where isos have the types `sigs`
pub data Chain (sigs : Sigs) : Slots Ty → List Let → Pat → Ty → Type 0 where
  value : {d : Slots Ty} {p : Pat} {b : Ty} → Fits d p b → Chain sigs d [] p b
  step : {d e f g h : Slots Ty} {l : Let} {ls : List Let} {p : Pat} {b : Ty} (s : Ty × Ty) → get_elem? sigs l.iso ≡ some s
      → Join d e f → Fits e l.q s.0 → Fits g l.p s.1 → Join h f g → Chain sigs h ls p b → Chain sigs d (l ∷ ls) p b

-- a clause of the iso rule: Δ ⊢ v : a and Δ ⊢ e : b for one Δ. A let takes the variables of its q out of the context and puts those of its p
-- in, so that "Each binding has its own type" (request 03).
pub record Linear (sigs : Sigs) (a b : Ty) (c : Clause) : Type 0 where
  pub context : Slots Ty
  pub wide : length context ≡ variables
  pub lhs : Fits context c.lhs a
  pub rest : Chain sigs context c.lets c.rhs b

-- Request 03: "A number must now not be live (bound and still unused) when it is bound; it may have been used up earlier in the clause":
-- what happens to it is nothing, or it is bound and then used, over and over.
pub data Alternate : List Deed → Type 0 where
  rest : Alternate []
  again : {ds : List Deed} → Alternate ds → Alternate (binds ∷ (uses ∷ ds))

abbrev pub BoundThenUsed : Clause → Type 0
BoundThenUsed c = (n : ℕ) → Alternate (history n (events c))

-- no number twice
pub data Distinct : List ℕ → Type 0 where
  nobody : Distinct []
  another : {n : ℕ} {ns : List ℕ} → (Memᴰ n ns → ⊥) → Distinct ns → Distinct (n ∷ ns)

-- (Products) p ::= () | x | ⟨p₁, p₂⟩, of which let patterns are made
pub data Product : Pat → Type 0 where
  unit : Product (pleaf unit_leaf)
  var : {n : ℕ} → Product (pvar n)
  pair : {p q : Pat} → Product p → Product q → Product (pnode pair_node p q)

abbrev pub LetProducts : Clause → Type 0
LetProducts c = (l : Let) → Memᴰ l c.lets → Product l.p × Product l.q

-- The orthogonality rules of section 2.2, where an empty list is a left and an element before a list a right
pub data Orth : Pat → Pat → Type 0 where
  left_right : {p q : Pat} → Orth (pinj left p) (pinj right q)
  right_left : {p q : Pat} → Orth (pinj right p) (pinj left q)
  nil_cons : {p q : Pat} → Orth (pleaf empty_leaf) (pnode element_node p q)
  cons_nil : {p q : Pat} → Orth (pnode element_node p q) (pleaf empty_leaf)
  under : {s t : Tag} {p q : Pat} → s ≡ t → Orth p q → Orth (pinj s p) (pinj t q)
  fst : {k m : Node} {p q p' q' : Pat} → k ≡ m → Orth p q → Orth (pnode k p p') (pnode m q q')
  snd : {k m : Node} {p q p' q' : Pat} → k ≡ m → Orth p' q' → Orth (pnode k p p') (pnode m q q')

-- ∀ i ≠ j, vᵢ ⊥ vⱼ
pub data Apart : List Pat → Type 0 where
  alone : Apart []
  beside : {p : Pat} {ps : List Pat} → ((q : Pat) → Memᴰ q ps → Orth p q) → Apart ps → Apart (p ∷ ps)

-- "A clause matches a closed value when some choice of closed values for the variables of its left pattern turns that pattern into
-- the value."
abbrev pub fill : (ℕ → Val) → Pat → Val
fill χ (pvar n) = χ n
fill χ (pleaf l) = vleaf l
fill χ (pinj t p) = vinj t (fill χ p)
fill χ (pnode k p q) = vnode k (fill χ p) (fill χ q)

pub record Matched (p : Pat) (v : Val) : Type 0 where
  pub choice : ℕ → Val
  pub turns : fill choice p ≡ v

-- "Covering means here: every closed value of the type is matched by some pattern of that side."
abbrev pub Covers : Ty → List Pat → Type 0
Covers a ps = (v : Val) → Of v a → (p : Pat) × Memᴰ p ps × Matched p v

-- Request 14, the recursion of an iso i. No let step calls it
abbrev pub Quiet : ℕ → List Let → Type 0
Quiet i ls = (l : Let) → Memᴰ l ls → l.iso ≡ i → ⊥

abbrev pub NeverCalls : ℕ → Iso → Type 0
NeverCalls i o = (c : Clause) → Memᴰ c o.clauses → Quiet i c.lets

-- "its from-type is a list, or a product whose first part is one"
pub data Zoned : Ty → Type 0 where
  list : {a : Ty} → Zoned (tlist a)
  product : {a b : Ty} → Zoned (tprod (tlist a) b)

-- "on that element's whole tail, a variable, …, alone or as the first part of a pair"
pub data OnTail (n : ℕ) : Pat → Type 0 where
  alone : {m : ℕ} → n ≡ m → OnTail n (pvar m)
  first : {m : ℕ} {q : Pat} → n ≡ m → OnTail n (pnode pair_node (pvar m) q)

-- "at most one, on that element's whole tail, a variable, as the left pattern bound it": no step before it uses the variable
pub data TailCall (i n : ℕ) : List Let → Type 0 where
  never : {ls : List Let} → Quiet i ls → TailCall i n ls
  here : {l : Let} {ls : List Let} → l.iso ≡ i → OnTail n l.q → Quiet i ls → TailCall i n (l ∷ ls)
  later : {l : Let} {ls : List Let} → (l.iso ≡ i → ⊥) → (Memᴰ n (vars l.q) → ⊥) → TailCall i n ls → TailCall i n (l ∷ ls)

-- "each left pattern shows empty or an element there; a clause with empty makes no such call; another makes at most one"
pub data Shows (i : ℕ) (ls : List Let) : Pat → Type 0 where
  nil : Quiet i ls → Shows i ls (pleaf empty_leaf)
  quiet : {p q : Pat} → Quiet i ls → Shows i ls (pnode element_node p q)
  tail : {p : Pat} {n : ℕ} → TailCall i n ls → Shows i ls (pnode element_node p (pvar n))

pub data ShowsThere (i : ℕ) (ls : List Let) : Pat → Type 0 where
  alone : {p : Pat} → Shows i ls p → ShowsThere i ls p
  first : {p q : Pat} → Shows i ls p → ShowsThere i ls (pnode pair_node p q)

-- the rule in one direction
pub record Structural (i : ℕ) (o : Iso) : Type 0 where
  pub zone : Zoned o.from
  pub clauses : (c : Clause) → Memᴰ c o.clauses → ShowsThere i c.lets c.lhs

-- "that iso, as written or as turned, must meet this"
pub data Recursion (i : ℕ) (o : Iso) : Type 0 where
  never : NeverCalls i o → Recursion i o
  written : Structural i o → Recursion i o
  turned : Structural i (invert o) → Recursion i o

-- "those that never call themselves meet it in both"
pub data MeetsRule (i : ℕ) (o : Iso) : Type 0 where
  never : NeverCalls i o → MeetsRule i o
  structural : Structural i o → MeetsRule i o

-- "an iso and all it reaches"
pub data Reaches (os : List Iso) : ℕ → ℕ → Type 0 where
  itself : {i j : ℕ} → i ≡ j → Reaches os i j
  through : {i j : ℕ} (o : Iso) (c : Clause) (l : Let) → get_elem? os i ≡ some o → Memᴰ c o.clauses → Memᴰ l c.lets
      → Reaches os l.iso j → Reaches os i j

-- "Where an iso and all it reaches meet the rule in one direction": the one in which they are written
abbrev pub Ending : List Iso → ℕ → Type 0
Ending os i = (j : ℕ) (o : Iso) → Reaches os i j → get_elem? os j ≡ some o → MeetsRule j o

-- "files where no iso calls itself"
abbrev pub NoneCalls : List Iso → Type 0
NoneCalls os = (i : ℕ) (o : Iso) → get_elem? os i ≡ some o → NeverCalls i o

-- what a clause and an iso must satisfy
pub record ClauseOk (sigs : Sigs) (a b : Ty) (c : Clause) : Type 0 where
  pub variables : BoundThenUsed c
  pub shapes : LetProducts c
  pub types : Linear sigs a b c

pub record IsoOk (sigs : Sigs) (i : ℕ) (o : Iso) : Type 0 where
  pub clauses : (c : Clause) → Memᴰ c o.clauses → ClauseOk sigs o.from o.to c
  pub recursion : Recursion i o
  pub lefts_apart : Apart (lefts o)
  pub rights_apart : Apart (rights o)
  pub lefts_cover : Covers o.from (lefts o)
  pub rights_cover : Covers o.to (rights o)

abbrev pub FileOk : List Iso → Type 0
FileOk os = (i : ℕ) (o : Iso) → get_elem? os i ≡ some o → IsoOk (sigs_of os) i o

-- Section 2.3: valuations σ, and σ[v] = w
abbrev pub Valuation : Type 0
Valuation = List (ℕ × Val)

abbrev pub Disjoint : Valuation → Valuation → Type 0
Disjoint σ ρ = (n : ℕ) (v w : Val) → Memᴰ (n, v) σ → Memᴰ (n, w) ρ → ⊥

pub data Matches : Valuation → Pat → Val → Type 0 where
  leaf : {l k : Leaf} → l ≡ k → Matches [] (pleaf l) (vleaf k)
  var : {σ : Valuation} {n : ℕ} {v : Val} → σ ≡ ((n, v) ∷ []) → Matches σ (pvar n) v
  inj : {σ : Valuation} {s t : Tag} {p : Pat} {v : Val} → s ≡ t → Matches σ p v → Matches σ (pinj s p) (vinj t v)
  node : {σ ρ τ : Valuation} {k m : Node} {p q : Pat} {v w : Val} → k ≡ m → Matches σ p v → Matches ρ q w → Disjoint σ ρ → τ ≡ σ ++ ρ
      → Matches τ (pnode k p q) (vnode m v w)

-- "exactly one clause matches": one stands in the list that matches, and no other
pub record ExactlyOne (cs : List Clause) (v : Val) : Type 0 where
  pub above : List Clause
  pub clause : Clause
  pub below : List Clause
  pub splits : cs ≡ above ++ (clause ∷ below)
  pub matches : Matched clause.lhs v
  pub others : (c : Clause) → Memᴰ c (above ++ below) → Matched c.lhs v → ⊥

-- "On the way are all applications of this reduction": iso j gets w in the reduction of iso i and v, which is the application itself or
-- one in that of a let step whose q has its value once the steps before it have run.
pub data OnWay (os : List Iso) : ℕ → Val → ℕ → Val → Type 0 where
  itself : {i j : ℕ} {v w : Val} → i ≡ j → v ≡ w → OnWay os i v j w
  below : {i j : ℕ} {v w : Val} (o : Iso) (c : Clause) (ls : List Let) (l : Let) (ls' : List Let) (e d d' : Slots Val) (n k : ℕ) (u : Val)
      → get_elem? os i ≡ some o → Memᴰ c o.clauses → bind c.lhs v (empty Val) ≡ some e → c.lets ≡ ls ++ (l ∷ ls')
      → run_lets (reduce_free n os) ls e ≡ (some d, k) → build l.q d ≡ some (u, d') → OnWay os l.iso u j w → OnWay os i v j w

-- Request 14: the reduction, calls nested at most d deep, stops at what is too large when it has made m applications. "an application is
-- counted …, then its argument and depth are measured, its result when it is there"
pub data Stops (os : List Iso) (fits : Val → Bool) : ℕ → ℕ → Val → ℕ → Type 0 where
  deep : {i : ℕ} {v : Val} → Stops os fits 0 i v 1
  argument : {d i : ℕ} {v : Val} → fits v ≡ false → Stops os fits (suc d) i v 1
  inside : {d i m : ℕ} {v : Val} (o : Iso) (c : Clause) (ls : List Let) (l : Let) (ls' : List Let) (e δ φ : Slots Val) (k j : ℕ) (u : Val)
      → fits v ≡ true → get_elem? os i ≡ some o → Memᴰ c o.clauses → bind c.lhs v (empty Val) ≡ some e → c.lets ≡ ls ++ (l ∷ ls')
      → run_lets (reduce_to fits d os) ls e ≡ (some δ, k) → build l.q δ ≡ some (u, φ) → Stops os fits d l.iso u j → m ≡ suc (k + j)
      → Stops os fits (suc d) i v m
  result : {d i m : ℕ} {v : Val} (o : Iso) (w : Val) (k : ℕ) → fits v ≡ true → get_elem? os i ≡ some o → apply (reduce_to fits d os) o v ≡ (some w, k)
      → fits w ≡ false → m ≡ suc k → Stops os fits (suc d) i v m
