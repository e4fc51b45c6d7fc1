-- The letters of a value that stand at a place: the first of them, its parts' letters, and the place behind them, found by counting the
-- values that are still to come.
use Prim.Native.Nat.{ℕ, ◌+◌, ◌-◌, ◌≤◌, ◌<◌}
use native.Mathlib.Nat.{add-zero}
use native.Mathlib.Omega.{arith}
use mathlib.Core.Path.{◌≡◌, refl, sym, ap, ◌∙◌, subst}
use mathlib.Core.Bool.{Bool, true, false, cond}
use mathlib.Core.Option.{Option, some}
use mathlib.Core.List.{List, [], ◌∷◌, ◌++◌, append_assoc, append-nil}
use lib.Dec.{eqb}
use lib.ListN.{length, get_or, drop, length-drop}
use lib.Seq.{get_or-drop, drop-drop, drop-append_seam}
use Rattle.calculus.specs.Trees.{Leaf, unit_leaf, empty_leaf, Tag, left, right, Node, pair_node, element_node, Val, vleaf, vinj, vnode}
use Rattle.calculus.specs.Letters.{letters, leaf_letter, letter_of, node_letter}
use Rattle.calculus.proofs.Basic.{some_inj}
use Rattle.run_values.specs.Texts.{At}

-- ---- the first letter

-- the node at the top of a value
pub data Top : Type 0 where
  leaf_top : Leaf → Top
  tag_top : Tag → Top
  node_top : Node → Top

abbrev pub top_of : Val → Top
top_of (vleaf l) = leaf_top l
top_of (vinj t v) = tag_top t
top_of (vnode k v w) = node_top k

abbrev pub top_letter : Top → ℕ
top_letter (leaf_top l) = leaf_letter l
top_letter (tag_top t) = letter_of t
top_letter (node_top k) = node_letter k

-- the first letter of a value
abbrev pub first_of : Val → ℕ
first_of v = top_letter (top_of v)

-- letters tell nodes apart
abbrev read_top : ℕ → Option Top
read_top b =
    cond (eqb b 85) (some (leaf_top unit_leaf))
    (cond (eqb b 78) (some (leaf_top empty_leaf))
    (cond (eqb b 76) (some (tag_top left))
    (cond (eqb b 82) (some (tag_top right))
    (cond (eqb b 80) (some (node_top pair_node)) (some (node_top element_node))))))

read_top_lem : (x : Top) → read_top (top_letter x) ≡ some x
read_top_lem (leaf_top unit_leaf) = refl
read_top_lem (leaf_top empty_leaf) = refl
read_top_lem (tag_top left) = refl
read_top_lem (tag_top right) = refl
read_top_lem (node_top pair_node) = refl
read_top_lem (node_top element_node) = refl

same_top : (x y : Top) → top_letter x ≡ top_letter y → x ≡ y
same_top x y e = some_inj (sym (read_top_lem x) ∙ ap read_top e ∙ read_top_lem y)

-- what holds of each value with a node at the top holds of a value that begins with that node's letter
pub with_leaf : (P : Val → Type 0) (l : Leaf) → P (vleaf l) → (v : Val) → first_of v ≡ leaf_letter l → P v
with_leaf P l h (vleaf k) e = let q = same_top (leaf_top k) (leaf_top l) e in let r : l ≡ k = cc in subst (λ x. P (vleaf x)) r h
with_leaf P l h (vinj t v) e =
    let q = same_top (tag_top t) (leaf_top l) e in let z : ◌≡◌ {A = ℕ} 0 1 = cc in absurd (omega arith)
with_leaf P l h (vnode k v w) e =
    let q = same_top (node_top k) (leaf_top l) e in let z : ◌≡◌ {A = ℕ} 0 1 = cc in absurd (omega arith)

pub with_tag : (P : Val → Type 0) (t : Tag) → ((v : Val) → P (vinj t v)) → (v : Val) → first_of v ≡ letter_of t → P v
with_tag P t h (vleaf k) e =
    let q = same_top (leaf_top k) (tag_top t) e in let z : ◌≡◌ {A = ℕ} 0 1 = cc in absurd (omega arith)
with_tag P t h (vinj s v) e = let q = same_top (tag_top s) (tag_top t) e in let r : t ≡ s = cc in subst (λ x. P (vinj x v)) r (h v)
with_tag P t h (vnode k v w) e =
    let q = same_top (node_top k) (tag_top t) e in let z : ◌≡◌ {A = ℕ} 0 1 = cc in absurd (omega arith)

pub with_node : (P : Val → Type 0) (m : Node) → ((v w : Val) → P (vnode m v w)) → (v : Val) → first_of v ≡ node_letter m → P v
with_node P m h (vleaf k) e =
    let q = same_top (leaf_top k) (node_top m) e in let z : ◌≡◌ {A = ℕ} 0 1 = cc in absurd (omega arith)
with_node P m h (vinj t v) e =
    let q = same_top (tag_top t) (node_top m) e in let z : ◌≡◌ {A = ℕ} 0 1 = cc in absurd (omega arith)
with_node P m h (vnode k v w) e = let q = same_top (node_top k) (node_top m) e in let r : m ≡ k = cc in subst (λ x. P (vnode x v w)) r (h v w)

-- the other letters
abbrev rest_of : Val → List ℕ
rest_of (vleaf l) = []
rest_of (vinj t v) = letters v
rest_of (vnode k v w) = letters v ++ letters w

-- both together
letters_first : (v : Val) → letters v ≡ first_of v ∷ rest_of v
letters_first (vleaf l) = refl
letters_first (vinj t v) = refl
letters_first (vnode k v w) = refl

-- the letter at a place where bytes are told
byte_here : (s : List ℕ) (i : ℕ) (b : ℕ) (bs : List ℕ) → drop i s ≡ b ∷ bs → get_or s i 0 ≡ b
byte_here s i b bs e = ap (λ k. get_or s k 0) (sym (add-zero i)) ∙ sym (get_or-drop i s 0 0) ∙ ap (λ l. get_or l 0 0) e

-- what stands behind it
behind_here : (s : List ℕ) (i : ℕ) (b : ℕ) (bs : List ℕ) → drop i s ≡ b ∷ bs → drop (i + 1) s ≡ bs
behind_here s i b bs e = sym (drop-drop 1 i s) ∙ ap (drop 1) e

-- a letter stands within the list
here_within : (s : List ℕ) (i : ℕ) (b : ℕ) (bs : List ℕ) → drop i s ≡ b ∷ bs → i < length s
here_within s i b bs e = omega (arith, length-drop i s, ap length e)

-- a value's place lies within the list
pub at_within : {s : List ℕ} {at : ℕ} {v : Val} → At s at v → at < length s
at_within {s} {at} {v} a = here_within s at (first_of v) (rest_of v ++ a.rest) (a.spells ∙ ap (λ l. l ++ a.rest) (letters_first v))

-- its first letter
pub at_first : {s : List ℕ} {at : ℕ} {v : Val} → At s at v → get_or s at 0 ≡ first_of v
at_first {s} {at} {v} a = byte_here s at (first_of v) (rest_of v ++ a.rest) (a.spells ∙ ap (λ l. l ++ a.rest) (letters_first v))

-- ---- the parts

-- the value below a left or a right
pub at_inj : {s : List ℕ} {at : ℕ} {t : Tag} {v : Val} → At s at (vinj t v) → At s (at + 1) v
at_inj {s} {at} {t} {v} a = record { rest = a.rest; spells = behind_here s at (letter_of t) (letters v ++ a.rest) a.spells }

-- the first value of a pair, and an element
pub at_left : {s : List ℕ} {at : ℕ} {k : Node} {v w : Val} → At s at (vnode k v w) → At s (at + 1) v
at_left {s} {at} {k} {v} {w} a =
    record {
      rest = letters w ++ a.rest;
      spells = behind_here s at (node_letter k) (letters v ++ letters w ++ a.rest) a.spells ∙ append_assoc (letters v) (letters w) a.rest;
    }

-- the second value of a pair, and the list behind an element
pub at_right : {s : List ℕ} {at : ℕ} {k : Node} {v w : Val} → At s at (vnode k v w) → At s (at + 1 + length (letters v)) w
at_right {s} {at} {k} {v} {w} a =
    record {
      rest = a.rest;
      spells =
          sym (drop-drop (length (letters v)) (at + 1) s)
          ∙ ap (drop (length (letters v)))
          (behind_here s at (node_letter k) (letters v ++ letters w ++ a.rest) a.spells ∙ append_assoc (letters v) (letters w) a.rest)
          ∙ drop-append_seam (letters v) (letters w ++ a.rest);
    }

-- ---- values that stand side by side

-- the letters of values side by side
abbrev spell : List Val → List ℕ
spell [] = []
spell (v ∷ vs) = letters v ++ spell vs

-- at place i so many values begin that stand side by side up to place `end`
pub record Going (s : List ℕ) (i n end : ℕ) : Type 0 where
  pub values : List Val
  pub rest : List ℕ
  pub count : length values ≡ n
  pub spells : drop i s ≡ spell values ++ rest
  pub ends : i + length (spell values) ≡ end

-- the value alone
pub going_start : {s : List ℕ} {at : ℕ} {v : Val} → At s at v → Going s at 1 (at + length (letters v))
going_start {at = at} {v = v} a =
    record {
      values = v ∷ [];
      rest = a.rest;
      count = refl;
      spells = a.spells ∙ ap (λ l. l ++ a.rest) (sym (append-nil (letters v)));
      ends = ap (λ l. at + length l) (append-nil (letters v));
    }

-- how many values are left, once a letter is read
abbrev pub left_after : ℕ → ℕ → ℕ
left_after b n = cond (eqb b 85) (n - 1) (cond (eqb b 78) (n - 1) (cond (eqb b 80) (n + 1) (cond (eqb b 75) (n + 1) n)))

after_leaf : (l : Leaf) (n : ℕ) → n - 1 ≡ left_after (leaf_letter l) n
after_leaf unit_leaf n = refl
after_leaf empty_leaf n = refl

after_tag : (t : Tag) (n : ℕ) → n ≡ left_after (letter_of t) n
after_tag left n = refl
after_tag right n = refl

after_node : (k : Node) (n : ℕ) → n + 1 ≡ left_after (node_letter k) n
after_node pair_node n = refl
after_node element_node n = refl

-- one letter further, by the value that begins
next_letter : (s : List ℕ) (i : ℕ) {n end : ℕ} (v : Val) (vs : List Val) (rest : List ℕ) → length (v ∷ vs) ≡ n → drop i s ≡ spell (v ∷ vs) ++ rest
    → i + length (spell (v ∷ vs)) ≡ end → Going s (i + 1) (left_after (first_of v) n) end
next_letter s i {n} (vleaf l) vs rest c e h =
    record { values = vs; rest = rest; count = let q : length vs ≡ n - 1 = omega arith in q ∙ after_leaf l n; spells = behind_here s i (leaf_letter l) (spell vs ++ rest) e; ends = omega arith }
next_letter s i {n} (vinj t v) vs rest c e h =
    record {
      values = v ∷ vs;
      rest = rest;
      count = c ∙ after_tag t n;
      spells = behind_here s i (letter_of t) (spell (v ∷ vs) ++ rest) e;
      ends = omega arith;
    }
next_letter s i {n} (vnode k v w) vs rest c e h =
    record {
      values = v ∷ (w ∷ vs);
      rest = rest;
      count = let q : length (v ∷ (w ∷ vs)) ≡ n + 1 = omega arith in q ∙ after_node k n;
      spells =
          behind_here s i (node_letter k) (((letters v ++ letters w) ++ spell vs) ++ rest) e ∙ ap (λ l. l ++ rest) (append_assoc (letters v) (letters w) (spell vs));
      ends = omega (arith, ap length (append_assoc (letters v) (letters w) (spell vs)));
    }

-- the letter that stands there
first_letter : (s : List ℕ) (i : ℕ) (v : Val) (vs : List Val) (rest : List ℕ) → drop i s ≡ spell (v ∷ vs) ++ rest → At s i v
first_letter s i v vs rest e = record { rest = spell vs ++ rest; spells = e ∙ append_assoc (letters v) (spell vs) rest }

-- one letter further, by the letter
pub going_next : {s : List ℕ} {i n end : ℕ} → Going s i n end → 0 < n → Going s (i + 1) (left_after (get_or s i 0) n) end
going_next {s} {i} {n} {end} g some' = go g.values g.count g.spells g.ends
  where
    go : (vs : List Val) → length vs ≡ n → drop i s ≡ spell vs ++ g.rest → i + length (spell vs) ≡ end → Going s (i + 1) (left_after (get_or s i 0) n) end
    go [] c e h = absurd (omega arith)
    go (v ∷ vs) c e h =
        subst (λ b. Going s (i + 1) (left_after b n) end) (sym (at_first (first_letter s i v vs g.rest e))) (next_letter s i v vs g.rest c e h)

-- while values are left, there is a letter
pub going_within : {s : List ℕ} {i n end : ℕ} → Going s i n end → 0 < n → i < length s
going_within {s} {i} {n} g some' = go g.values g.count g.spells
  where
    go : (vs : List Val) → length vs ≡ n → drop i s ≡ spell vs ++ g.rest → i < length s
    go [] c e = absurd (omega arith)
    go (v ∷ vs) c e = at_within (first_letter s i v vs g.rest e)

-- none is left at the end
pub going_last : {s : List ℕ} {i n end : ℕ} → Going s i n end → n ≡ 0 → i ≡ end
going_last {i = i} {n} {end} g z = go g.values g.count g.ends
  where
    go : (vs : List Val) → length vs ≡ n → i + length (spell vs) ≡ end → i ≡ end
    go [] c h = omega arith
    go (v ∷ vs) c h = absurd (omega arith)

-- ---- the search for a value's end

-- what the search knows at place i, whatever the value is
pub record Searching (s : List ℕ) (at i n : ℕ) : Type 0 where
  pub some' : 0 < n
  pub few : n ≤ i + 1
  pub going : (v : Val) → At s at v → Going s i n (at + length (letters v))

-- the start
pub search_start : (s : List ℕ) (at : ℕ) → Searching s at at 1
search_start s at = record { some' = omega arith; few = omega arith; going = λ v a. going_start a }

-- no more values than letters read, and one
left_few : (b n i : ℕ) → n ≤ i + 1 → left_after b n ≤ i + 1 + 1
left_few b n i h = go (eqb b 85) (eqb b 78) (eqb b 80) (eqb b 75)
  where
    go : (u e p k : Bool) → cond u (n - 1) (cond e (n - 1) (cond p (n + 1) (cond k (n + 1) n))) ≤ i + 1 + 1
    go true e p k = omega arith
    go false true p k = omega arith
    go false false true k = omega arith
    go false false false true = omega arith
    go false false false false = omega arith

-- a letter further, as it is read
after_read : {s : List ℕ} {at i n b r : ℕ} → Searching s at i n → b ≡ get_or s i 0 → r ≡ left_after b n → (v : Val) → At s at v → Going s (i + 1) r (at + length (letters v))
after_read {s} {at} {i} {n} g e q v a =
    subst (λ k. Going s (i + 1) k (at + length (letters v))) (sym (q ∙ ap (λ c. left_after c n) e)) (going_next (g.going v a) g.some')

pub search_next : {s : List ℕ} {at i n b r : ℕ} → Searching s at i n → b ≡ get_or s i 0 → r ≡ left_after b n → (r ≡ 0 → ⊥) → Searching s at (i + 1) r
search_next {i = i} {n} {b} {r} g e q z =
    record { some' = omega arith; few = subst (λ k. k ≤ i + 1 + 1) (sym q) (left_few b n i g.few); going = after_read g e q }

-- the last letter is read
pub search_last : {s : List ℕ} {at i n b r : ℕ} → Searching s at i n → b ≡ get_or s i 0 → r ≡ left_after b n → r ≡ 0 → (v : Val) → At s at v → i + 1 ≡ at + length (letters v)
search_last g e q z v a = going_last (after_read g e q v a) z

-- the letters do not end before
pub search_end : {s : List ℕ} {at i n r : ℕ} → Searching s at i n → length s ≤ i → (v : Val) → At s at v → r ≡ at + length (letters v)
search_end g h v a = absurd (omega (arith, going_within (g.going v a) g.some'))
