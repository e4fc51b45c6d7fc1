-- Rows without lists and self-calls: no line of theirs unfolds to a tree with a list, so no iso has to do with one, and no iso calls itself.
use Prim.Native.Nat.{ℕ, zero, suc, ◌+◌, ◌<◌}
use native.Mathlib.Omega.{arith}
use mathlib.Core.Path.{◌≡◌, refl, sym, ap, subst, ◌∙◌}
use mathlib.Core.Bool.{Bool, true, false, cond, false≢true}
use mathlib.Core.Option.{none, some}
use mathlib.Core.List.{List, [], ◌∷◌, ◌++◌, Memᴰ}
use lib.Dec.{eqb}
use lib.ListN.{get_or, get_elem?}
use Rattle.calculus.specs.Tools.{all}
use Rattle.calculus.specs.Trees.{Ty, tunit, Pat, Let, Clause, Iso}
use Rattle.calculus.specs.Refusals.{Kind, type_line, pattern_line, iso_line, clause_line, let_line}
use Rattle.calculus.specs.Clauses.{breach, recursion_fault}
use Rattle.calculus.specs.Paper.{NeverCalls, NoneCalls, Recursion, Reaches}
use Rattle.calculus.specs.Lists.{Finite, ListFree, free_iso, free_from, free_isos, is_free}
use Rattle.calculus.proofs.Basic.{none≢some, some_inj, each_nil, each_cons, index_mem, mem_all, true_and, eqb_false}
use Rattle.calculus.proofs.Ending.{strictly}
use Rattle.calculus.proofs.Recursion.{recursion_iff}
use Rattle.calculus.proofs.Lists.{finite_free, free_iff}
use Rattle.format.specs.Lines.{Row}
use Rattle.format.specs.Judge.{Seen, start, after_kind, after_all, type_node, type_tree}
use Rattle.format.specs.Unfold.{Tail, place, tail_from, isos_of}
use Rattle.format.proofs.Passing.{Passes, done, next, Fit, judge_fit, let_fit}
use Rattle.model.specs.Services.{toward}
use Rattle.model.specs.Answers.{GoodRows}
use Rattle.model.proofs.Runs.{good, good_toward}
use Rattle.model.proofs.Sizes.{near_of, free_toward}
use Rattle.law_zoned.specs.Before.{of_lists, calls_itself}
use Rattle.law_zoned.specs.Unzoned.{Plain}

-- ---- types

node_finite : (k : ℕ) {a b : Ty} → eqb k 3 ≡ false → Finite a → Finite b → Finite (type_node k a b)
node_finite zero e f g = Finite.unit
node_finite (suc zero) e f g = Finite.sum f g
node_finite (suc (suc zero)) e f g = Finite.product f g
node_finite (suc (suc (suc zero))) e f g = absurd (false≢true (sym e))
node_finite (suc (suc (suc (suc k)))) e f g = Finite.unit

-- what holds of each place of a list and of a tree more holds of each place of the longer list
each_place : {A : Type 0} (P : A → Type 0) (d : A) (xs : List A) (x : A) → ((i : ℕ) → P (get_or xs i d)) → P x → (i : ℕ) → P (get_or (xs ++ (x ∷ [])) i d)
each_place P d [] x h p zero = p
each_place P d [] x h p (suc i) = h i
each_place P d (y ∷ xs) x h p zero = h zero
each_place P d (y ∷ xs) x h p (suc i) = each_place P d xs x (λ j. h (suc j)) p i

abbrev AllFinite : Seen → Type 0
AllFinite s = (i : ℕ) → Finite (get_or s.types i tunit)

finite_kind : (k : Kind) (s : Seen) (r : Row) → of_lists k r ≡ false → AllFinite s → AllFinite (after_kind k s r)
finite_kind type_line s r e h = each_place Finite tunit s.types (type_tree s.types r) h (node_finite r.x e (h r.y) (h r.z))
finite_kind pattern_line s r e h = h
finite_kind iso_line s r e h = h
finite_kind clause_line s r e h = h
finite_kind let_line s r e h = h

finite_all : {s : Seen} {rs : List Row} → Plain s rs → AllFinite s → AllFinite (after_all s rs)
finite_all Plain.ends h = h
finite_all (Plain.next {s = s} {r = r} e c p) h = finite_all p (finite_kind r.kind s r e h)

pub rows_finite : {rs : List Row} → Plain start rs → AllFinite (after_all start rs)
unfolding start
rows_finite p = finite_all p (λ i. Finite.unit)

-- ---- isos

abbrev pub FiniteIso : Iso → Type 0
FiniteIso o = Finite o.from × Finite o.to

module _ (s : Seen) (h : AllFinite s) where
  finite_place : (k : Kind) (n : ℕ) (r : Row) (t : Tail) → ((o : Iso) → Memᴰ o t.isos → FiniteIso o)
      → (o : Iso) → Memᴰ o (place s.types s.patterns k n r t).isos → FiniteIso o
  finite_place type_line n r t e = e
  finite_place pattern_line n r t e = e
  finite_place iso_line n r t e = each_cons FiniteIso (h r.x, h r.y) e
  finite_place clause_line n r t e = e
  finite_place let_line n r t e = e

  finite_tail : (n : ℕ) (rs : List Row) → (o : Iso) → Memᴰ o (tail_from s.types s.patterns n rs).isos → FiniteIso o
  finite_tail n [] = each_nil FiniteIso
  finite_tail n (r ∷ rs) = finite_place r.kind n r (tail_from s.types s.patterns (suc n) rs) (finite_tail (suc n) rs)

pub isos_finite : {rs : List Row} → Plain start rs → (o : Iso) → Memᴰ o (isos_of rs) → FiniteIso o
unfolding isos_of
isos_finite {rs} p = finite_tail (after_all start rs) (rows_finite p) 1 rs

-- whatever iso: it reaches no list
pub isos_free : {rs : List Row} → Plain start rs → (i : ℕ) → ListFree (isos_of rs) i
isos_free {rs} p i j o h e = isos_finite p o (index_mem (isos_of rs) j e)

-- and every test of requests 05, 07 and 12 finds so
abbrev AllTrue : List Bool → Type 0
AllTrue bs = (i : ℕ) → get_or bs i true ≡ true

snoc_true : (bs : List Bool) {b : Bool} → AllTrue bs → b ≡ true → AllTrue (bs ++ (b ∷ []))
snoc_true [] h e zero = e
snoc_true [] h e (suc i) = h i
snoc_true (c ∷ bs) h e zero = h zero
snoc_true (c ∷ bs) h e (suc i) = snoc_true bs (λ j. h (suc j)) e i

free_one : (known : List Bool) → AllTrue known → (o : Iso) → FiniteIso o → free_iso known o ≡ true
free_one known h o f =
    true_and (true_and (finite_free f.0) (finite_free f.1))
    (mem_all (λ c. all (λ l. get_or known l.iso true) c.lets) o.clauses (λ c m. mem_all (λ l. get_or known l.iso true) c.lets (λ l k. h l.iso)))

free_from_lem : (known : List Bool) → AllTrue known → (os : List Iso) → ((o : Iso) → Memᴰ o os → FiniteIso o) → AllTrue (free_from known os)
free_from_lem known h [] f = h
free_from_lem known h (o ∷ os) f =
    free_from_lem (known ++ (free_iso known o ∷ [])) (snoc_true known h (free_one known h o (f o (Memᴰ.head refl)))) os (λ p m. f p (Memᴰ.tail m))

pub is_free_lem : {rs : List Row} → Plain start rs → (i : ℕ) → is_free (isos_of rs) i ≡ true
unfolding free_isos
is_free_lem {rs} p = free_from_lem [] (λ i. refl) (isos_of rs) (isos_finite p)

-- ---- calls of itself

-- an iso that does not call itself passes 23
pub no_recursion : (i : ℕ) (o : Iso) → NeverCalls i o → recursion_fault i o ≡ none
unfolding recursion_fault
no_recursion i o h = ap (λ b. cond b none (breach i o)) ((recursion_iff i o).1 (Recursion.never h))

-- ---- the L lines of a tail, below n I lines

abbrev pub NamesBefore : ℕ → Let → Type 0
NamesBefore n l = suc l.iso < n

abbrev pub AllBefore : ℕ → Clause → Type 0
AllBefore n c = (l : Let) → Memᴰ l c.lets → NamesBefore n l

-- the lets and clauses in front belong to iso n - 1, the first whole iso is number n
record Before (n : ℕ) (o : Tail) : Type 0 where
  lets : (l : Let) → Memᴰ l o.lets → NamesBefore n l
  clauses : (c : Clause) → Memᴰ c o.clauses → AllBefore n c
  isos : (j : ℕ) (a : Iso) → get_elem? o.isos j ≡ some a → (c : Clause) → Memᴰ c a.clauses → AllBefore (suc (n + j)) c

earlier : (y n : ℕ) → y < n → eqb (suc y) n ≡ false → suc y < n
earlier y n l e = strictly (suc y) n l (eqb_false e)

module _ (ts : List Ty) (ps : List Pat) where
  cons_isos : (m n : ℕ) (r : Row) (o : Tail) → Before (suc m) o → (j : ℕ) (a : Iso) → get_elem? (place ts ps iso_line n r o).isos j ≡ some a
      → (c : Clause) → Memᴰ c a.clauses → AllBefore (suc (m + j)) c
  cons_isos m n r o b zero a e c k l i =
      let h = b.clauses c (subst (λ (d : Iso). Memᴰ c d.clauses) (sym (some_inj e)) k) l i in omega arith
  cons_isos m n r o b (suc j) a e c k l i = let h = b.isos j a e c k l i in omega arith

  before_from : {s : Seen} {rs : List Row} (n : ℕ) → Passes s rs → Plain s rs → Before s.isos (tail_from ts ps n rs)
  before_from {s} n done p =
      record { lets = each_nil (NamesBefore s.isos); clauses = each_nil (AllBefore s.isos); isos = λ j a e. absurd (none≢some e) }
  before_from n (next {s = s} {r = r} {rs = rs} j d) (Plain.next e q p) = step r.kind (judge_fit s r j) q (before_from (suc n) d p)
    where
      o : Tail
      o = tail_from ts ps (suc n) rs

      step : (k : Kind) → Fit s k r → calls_itself s k r ≡ false → Before (after_kind k s r).isos o → Before s.isos (place ts ps k n r o)
      step type_line f q b = b
      step pattern_line f q b = b
      step iso_line f q b = record { lets = each_nil (NamesBefore s.isos); clauses = each_nil (AllBefore s.isos); isos = cons_isos s.isos n r o b }
      step clause_line f q b = record { lets = each_nil (NamesBefore s.isos); clauses = each_cons (AllBefore s.isos) b.lets b.clauses; isos = b.isos }
      step let_line f q b = record { lets = each_cons (NamesBefore s.isos) (earlier r.y s.isos (let_fit s r f).2 q) b.lets; clauses = b.clauses; isos = b.isos }

-- the isos of a file name earlier ones
pub isos_earlier : {rs : List Row} → Passes start rs → Plain start rs → (i : ℕ) (o : Iso) → get_elem? (isos_of rs) i ≡ some o → (c : Clause) → Memᴰ c o.clauses
    → (l : Let) → Memᴰ l c.lets → l.iso < i
unfolding isos_of start
isos_earlier {rs} d p i o e c m l k =
    let s : Seen = after_all start rs in
    let b = (before_from s.types s.patterns 1 d p).isos i o e c m l k in
    omega arith

-- so none calls itself
pub isos_quiet : {rs : List Row} → Passes start rs → Plain start rs → NoneCalls (isos_of rs)
isos_quiet d p i o e c m l k z = let h = isos_earlier d p i o e c m l k in omega arith

-- ---- turned rows

pub toward_free : (back : Bool) (rs : List Row) → GoodRows rs → Plain start rs → (i : ℕ) → ListFree (isos_of (toward back rs)) i
toward_free back rs g p i j o h e =
    let q = good_toward back rs g in
    (free_iff (isos_of (toward back rs)) (near_of (good (toward back rs) q)) j o e).0 (free_toward back rs g j ∙ is_free_lem p j) j o (Reaches.itself refl) e
