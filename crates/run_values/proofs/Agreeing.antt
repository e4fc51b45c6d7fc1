-- Letters in an area against values: where a value's letters stand, the ranges that matching leaves, what building makes of them, and the
-- closed values of a type.
use Prim.Native.Nat.{ℕ, zero, suc, ◌+◌, ◌-◌, ◌%◌, ◌≤◌, ◌<◌}
use native.Mathlib.Nat.{suc-add, zero-add, mod-eq_of_lt}
use native.Mathlib.Numerals.{add-one}
use native.Mathlib.Decide.{ℕ_discrete}
use native.Mathlib.Omega.{arith}
use mathlib.Core.Path.{◌≡◌, refl, sym, ap, ap₂, ◌∙◌, subst, subst₂}
use mathlib.Core.Bool.{Bool, true, false, cond}
use mathlib.Core.Option.{none, some}
use mathlib.Core.List.{List, [], ◌∷◌, ◌++◌, append_assoc, append-nil}
use lib.Dec.{eqb, ltb}
use lib.ListN.{length, get_or, set, take, drop, length-append, length-drop, length-set}
use lib.Seq.{take-nil, take-append_seam, take-append-add, drop-append_seam, get_or-set_same, get_or-set_other, take-set-le, take-take, drop-drop, drop_at, length-take-le, sets, sets-eq, slice}
use Rattle.calculus.specs.Tools.{◌>>=◌, guard}
use Rattle.limits.specs.Limits.{variables}
use Rattle.calculus.specs.Trees.{Ty, tunit, tlist, tsum, tprod, unit_leaf, empty_leaf, Tag, left, right, Node, pair_node, element_node, Pat, pleaf, pvar, pinj, pnode, Val, vleaf, vinj}
use Rattle.calculus.specs.Trees.{vnode, same_leaf, same_tag, same_node}
use Rattle.calculus.specs.Slots.{Slots, put, empty}
use Rattle.calculus.specs.Letters.{letters, leaf_letter, letter_of, node_letter, value_of, inhabits}
use Rattle.calculus.specs.Reduction.{bind, build}
use Rattle.calculus.specs.Paper.{Of}
use Rattle.model.specs.Services.{value_in}
use Rattle.calculus.proofs.Basic.{bind_some, some_bind, none≢some, some_inj, not_some, guard_true, true_guard, true_and, eqb_eq, ltb_lt, lt_ltb}
use Rattle.calculus.proofs.Slots.{slot, put_of_get, put_length, Filled, put_filled, filled_keeps, slot_empty}
use Rattle.calculus.proofs.Binding.{bind_length}
use Rattle.calculus.proofs.Letters.{value_letters, letters_value, inhabits_of, of_inhabits, letters_some}
use Rattle.run_values.specs.Texts.{At, behind, behind_list, alike, put_range, ranges, range_of, built, Below}
use Rattle.run_values.specs.Agrees.{Agrees}

-- ---- where a value's letters stand

pub drop_take : (n m : ℕ) (l : List ℕ) → drop n (take (n + m) l) ≡ take m (drop n l)
drop_take zero m l = ap (λ k. take k l) (zero-add m)
drop_take (suc n) m [] = ap (drop (suc n)) (take-nil (suc n + m)) ∙ sym (take-nil m)
drop_take (suc n) m (x ∷ xs) = ap (λ k. drop (suc n) (take k (x ∷ xs))) (suc-add n m) ∙ drop_take n m xs

drop_suc : (l : List ℕ) (n : ℕ) {b : ℕ} {bs : List ℕ} → drop n l ≡ b ∷ bs → drop (suc n) l ≡ bs
drop_suc l n e = ap (λ k. drop k l) (sym (add-one n)) ∙ sym (drop-drop 1 n l) ∙ ap (drop 1) e

-- they lie within the area
pub at_within : {s : List ℕ} {at : ℕ} {v : Val} → At s at v → at + length (letters v) ≤ length s
at_within {s} {at} {v} h =
    let d = length-drop at s in
    let e = ap length h.spells in
    omega (arith, letters_some v, length-append (letters v) h.rest)

-- a tag's value stands behind the tag
pub at_inj : {s : List ℕ} {at : ℕ} {t : Tag} {v : Val} → At s at (vinj t v) → At s (suc at) v
at_inj {s} {at} h = record { rest = h.rest; spells = drop_suc s at h.spells }

-- what follows the letter of a pair or of an element
node_spells : {s : List ℕ} {at : ℕ} {k : Node} {v w : Val} (h : At s at (vnode k v w)) → drop (suc at) s ≡ letters v ++ (letters w ++ h.rest)
node_spells {s} {at} {v = v} {w = w} h = drop_suc s at h.spells ∙ append_assoc (letters v) (letters w) h.rest

-- the first value stands behind that letter
pub at_first : {s : List ℕ} {at : ℕ} {k : Node} {v w : Val} → At s at (vnode k v w) → At s (suc at) v
at_first {w = w} h = record { rest = letters w ++ h.rest; spells = node_spells h }

-- and the second behind the first
pub at_second : {s : List ℕ} {at : ℕ} {k : Node} {v w : Val} → At s at (vnode k v w) → At s (suc at + length (letters v)) w
at_second {s} {at} {v = v} {w = w} h =
    record {
      rest = h.rest;
      spells = sym (drop-drop (length (letters v)) (suc at) s) ∙ ap (drop (length (letters v))) (node_spells h)
          ∙ drop-append_seam (letters v) (letters w ++ h.rest);
    }

-- the slice from its place to its end is the value's letters
pub at_slice : {s : List ℕ} {at : ℕ} {v : Val} → At s at v → slice at (at + length (letters v)) s ≡ letters v
at_slice {s} {at} {v} h =
    drop_take at (length (letters v)) s ∙ ap (take (length (letters v))) h.spells ∙ take-append_seam (letters v) h.rest

-- the letters that end at or before top stand in the first top
pub at_take : (s : List ℕ) (at top : ℕ) (v : Val) → At s at v → at + length (letters v) ≤ top → At (take top s) at v
at_take s at top v h b =
    let n = length (letters v) in
    let m = top - (at + n) in
    let e : top ≡ at + (n + m) = omega arith in
    record {
      rest = take m h.rest;
      spells = ap (λ k. drop at (take k s)) e ∙ drop_take at (n + m) s ∙ ap (take (n + m)) h.spells ∙ take-append-add (letters v) h.rest m;
    }

-- letters written to a place stand there
pub at_sets : (l bs : List ℕ) (at : ℕ) (v : Val) → bs ≡ letters v → at + length bs ≤ length l → At (sets l at bs) at v
at_sets l bs at v e h =
    let rest = drop (at + length bs) l in
    record {
      rest = rest;
      spells = ap (drop at) (sets-eq bs l at h ∙ append_assoc (take at l) bs rest)
          ∙ drop_at (take at l) (bs ++ rest) at (length-take-le at l (omega arith))
          ∙ ap (λ r. r ++ rest) e;
    }

-- and leave what is before them
pub take_sets : (l bs : List ℕ) (at top : ℕ) → top ≤ at → take top (sets l at bs) ≡ take top l
take_sets l [] at top h = refl
take_sets l (b ∷ bs) at top h = take_sets (set l at b) bs (suc at) top (omega arith) ∙ take-set-le top l at b h

-- ---- slots

-- a slot that is put into, and one that holds something, is there
put_below : {A : Type 0} (n : ℕ) (a : A) (e : Slots A) {d : Slots A} → put n a e ≡ some d → n < length e
put_below n a [] h = absurd (none≢some h)
put_below zero a (s ∷ e) h = omega arith
put_below (suc n) a (s ∷ e) h =
    let t = bind_some (put n a e) (λ d. some (s ∷ d)) h in let k = put_below n a e t.1 in omega arith

slot_below : {A : Type 0} (e : Slots A) (n : ℕ) {a : A} → slot e n ≡ some a → n < length e
slot_below [] n h = absurd (none≢some h)
slot_below (s ∷ e) zero h = omega arith
slot_below (s ∷ e) (suc n) h = let k = slot_below e n h in omega arith

-- ---- what matching leaves

-- a pattern that binds is of the value's shape
pub bind_alike : (p : Pat) (v : Val) (e : Slots Val) {e' : Slots Val} → bind p v e ≡ some e' → alike p v ≡ true
bind_alike (pvar n) v e h = refl
bind_alike (pleaf l) (vleaf k) e h = guard_true (same_leaf l k) (bind_some (guard (same_leaf l k)) (λ _. some e) h).1
bind_alike (pleaf l) (vinj t v) e h = absurd (none≢some h)
bind_alike (pleaf l) (vnode k v w) e h = absurd (none≢some h)
bind_alike (pinj s p) (vleaf k) e h = absurd (none≢some h)
bind_alike (pinj s p) (vinj t v) e h =
    let d = bind_some (guard (same_tag s t)) (λ _. bind p v e) h in
    true_and (guard_true (same_tag s t) d.1) (bind_alike p v e d.2)
bind_alike (pinj s p) (vnode k v w) e h = absurd (none≢some h)
bind_alike (pnode m p q) (vleaf k) e h = absurd (none≢some h)
bind_alike (pnode m p q) (vinj t v) e h = absurd (none≢some h)
bind_alike (pnode m p q) (vnode k v w) e h =
    let c = bind_some (guard (same_node m k)) (λ _. bind p v e >>= λ d. bind q w d) h in
    let d = bind_some (bind p v e) (bind q w) c.2 in
    true_and (guard_true (same_node m k) c.1) (true_and (bind_alike p v e d.1) (bind_alike q w d.0 d.2))

-- what holds of two lists holds of the one chosen
choose : (P : List ℕ → Type 0) (b : Bool) {xs ys : List ℕ} → (b ≡ true → P xs) → P ys → P (cond b xs ys)
choose P true h k = h refl
choose P false h k = k

length_put_range : (vars : List ℕ) (n from to : ℕ) → length (put_range vars n from to) ≡ length vars
length_put_range vars n from to =
    choose (λ l. length l ≡ length vars) (ltb n variables)
    (λ _. length-set (set vars n (from % 65536)) (variables + n) (to % 65536) ∙ length-set vars n (from % 65536)) refl

-- matching keeps the number of ranges
pub length_ranges : (p : Pat) (v : Val) (at : ℕ) (vars : List ℕ) → length (ranges p v at vars) ≡ length vars
length_ranges (pvar n) v at vars = length_put_range vars n at (at + length (letters v))
length_ranges (pleaf l) v at vars = refl
length_ranges (pinj s p) (vleaf k) at vars = refl
length_ranges (pinj s p) (vinj t v) at vars = choose (λ l. length l ≡ length vars) (same_tag s t) (λ _. length_ranges p v (suc at) vars) refl
length_ranges (pinj s p) (vnode k v w) at vars = refl
length_ranges (pnode m p q) (vleaf k) at vars = refl
length_ranges (pnode m p q) (vinj t v) at vars = refl
length_ranges (pnode m p q) (vnode k v w) at vars =
    let first = length_ranges p v (suc at) vars in
    choose (λ l. length l ≡ length vars) (same_node m k)
    (λ _. choose (λ l. length l ≡ length vars) (alike p v) (λ _. length_ranges q w (suc at + length (letters v)) (ranges p v (suc at) vars) ∙ first) first)
    refl

-- ---- where ranges end

set_le : (l : List ℕ) (i j a top : ℕ) → get_or l j 0 ≤ top → (i ≡ j → a ≤ top) → get_or (set l i a) j 0 ≤ top
set_le [] i j a top h k = h
set_le (x ∷ xs) zero zero a top h k = k refl
set_le (x ∷ xs) zero (suc j) a top h k = h
set_le (x ∷ xs) (suc i) zero a top h k = h
set_le (x ∷ xs) (suc i) (suc j) a top h k = set_le xs i j a top h (λ e. k (ap suc e))

below_put_range : (vars : List ℕ) (n from to top : ℕ) → Below vars top → to ≤ top → Below (put_range vars n from to) top
below_put_range vars n from to top h k =
    choose (λ l. Below l top) (ltb n variables)
    (λ t. let small = ltb_lt n variables t in record {
      ends = λ m.
          set_le (set vars n (from % 65536)) (variables + n) (variables + m) (to % 65536) top
          (set_le vars n (variables + m) (from % 65536) top (h.ends m) (λ e. absurd (omega arith)))
          (λ e. omega arith);
    })
    h

-- the ranges that matching puts end with the value
pub below_ranges : (p : Pat) (v : Val) (at : ℕ) (vars : List ℕ) (top : ℕ) → Below vars top → at + length (letters v) ≤ top
    → Below (ranges p v at vars) top
below_ranges (pvar n) v at vars top h k = below_put_range vars n at (at + length (letters v)) top h k
below_ranges (pleaf l) v at vars top h k = h
below_ranges (pinj s p) (vleaf l) at vars top h k = h
below_ranges (pinj s p) (vinj t v) at vars top h k =
    choose (λ l. Below l top) (same_tag s t) (λ _. below_ranges p v (suc at) vars top h (omega arith)) h
below_ranges (pinj s p) (vnode m v w) at vars top h k = h
below_ranges (pnode m p q) (vleaf l) at vars top h k = h
below_ranges (pnode m p q) (vinj t v) at vars top h k = h
below_ranges (pnode m p q) (vnode m' v w) at vars top h k =
    let n = length-append (letters v) (letters w) in
    let first = below_ranges p v (suc at) vars top h (omega arith) in
    choose (λ l. Below l top) (same_node m m')
    (λ _. choose (λ l. Below l top) (alike p v)
    (λ _. below_ranges q w (suc at + length (letters v)) (ranges p v (suc at) vars) top first (omega arith)) first)
    h

-- a higher bound
pub below_more : (vars : List ℕ) (top top' : ℕ) → Below vars top → top ≤ top' → Below vars top'
below_more vars top top' h k = record { ends = λ n. let e = h.ends n in omega arith }

-- ---- ranges against slots

-- no slot is full
pub agrees_empty : (s vars : List ℕ) → Agrees s vars (empty Val)
agrees_empty s vars = record { holds = λ n v h. absurd (none≢some (sym (slot_empty {A = Val} n) ∙ h)) }

-- ranges that end at or before top see no more than the first top
pub agrees_more : (s vars : List ℕ) (e : Slots Val) (top top' : ℕ) → Agrees (take top s) vars e → Below vars top → top ≤ top'
    → Agrees (take top' s) vars e
agrees_more s vars e top top' h b k =
    record {
      holds = λ n v i.
          let t = b.ends n in
          let end = get_or vars (variables + n) 0 in
          ap (drop (get_or vars n 0)) (take-take end top' s (omega arith) ∙ sym (take-take end top s t)) ∙ h.holds n v i;
    }

-- a variable's range is put
module _ (vars : List ℕ) (n from to : ℕ) (size : length vars ≡ 64) (small : n < 32) where
  put_is : put_range vars n from to ≡ set (set vars n (from % 65536)) (variables + n) (to % 65536)
  put_is = ap (λ b. cond b (set (set vars n (from % 65536)) (variables + n) (to % 65536)) vars) (lt_ltb small)

  range_same : (s : List ℕ) → from < 65536 → to < 65536 → range_of s (put_range vars n from to) n ≡ slice from to s
  range_same s f t =
      ap (λ l. range_of s l n) put_is
      ∙ ap₂ (λ a b. slice a b s)
      (get_or-set_other (set vars n (from % 65536)) (variables + n) n (to % 65536) 0 (λ e. omega arith)
      ∙ get_or-set_same vars n (from % 65536) 0 (omega arith)
      ∙ mod-eq_of_lt f)
      (get_or-set_same (set vars n (from % 65536)) (variables + n) (to % 65536) 0 (omega (arith, length-set vars n (from % 65536)))
      ∙ mod-eq_of_lt t)

  range_other : (s : List ℕ) (m : ℕ) → m < 32 → (m ≡ n → ⊥) → range_of s (put_range vars n from to) m ≡ range_of s vars m
  range_other s m b differs =
      ap (λ l. range_of s l m) put_is
      ∙ ap₂ (λ a c. slice a c s)
      (get_or-set_other (set vars n (from % 65536)) (variables + n) m (to % 65536) 0 (λ e. omega arith)
      ∙ get_or-set_other vars n m (from % 65536) 0 differs)
      (get_or-set_other (set vars n (from % 65536)) (variables + n) (variables + m) (to % 65536) 0 (λ e. differs (omega arith))
      ∙ get_or-set_other vars n (variables + m) (from % 65536) 0 (λ e. omega arith))

agrees_put : (n : ℕ) (v : Val) (e : Slots Val) {e' : Slots Val} (s vars : List ℕ) (at : ℕ) → length vars ≡ 64 → length e ≡ 32 → length s < 65536
    → At s at v → put n v e ≡ some e' → Agrees s vars e → Agrees s (put_range vars n at (at + length (letters v))) e'
agrees_put n v e {e'} s vars at size slots room a h g = record { holds = λ m w i. go m w i (ℕ_discrete m n) }
  where
    filled : Filled n v e e'
    filled = put_filled n v e h

    small : n < 32
    small = let k = put_below n v e h in omega arith

    go : (m : ℕ) (w : Val) → slot e' m ≡ some w → Dec (m ≡ n) → range_of s (put_range vars n at (at + length (letters v))) m ≡ letters w
    go m w i (yes p) =
        let k = at_within a in
        ap (range_of s (put_range vars n at (at + length (letters v)))) p
        ∙ range_same vars n at (at + length (letters v)) size small s (omega arith) (omega arith)
        ∙ at_slice a
        ∙ ap letters (some_inj (sym filled.held ∙ ap (slot e') (sym p) ∙ i))
    go m w i (no differs) =
        let k = slot_below e' m i in
        range_other vars n at (at + length (letters v)) size small s m (omega (arith, put_length n v e h)) differs
        ∙ g.holds m w (sym (filled.same m differs) ∙ i)

-- the ranges after matching agree with the slots after binding
pub agrees_bind : (p : Pat) (v : Val) (e : Slots Val) {e' : Slots Val} (s vars : List ℕ) (at : ℕ) → length vars ≡ 64 → length e ≡ 32 → length s < 65536
    → At s at v → bind p v e ≡ some e' → Agrees s vars e → Agrees s (ranges p v at vars) e'
agrees_bind (pvar n) v e s vars at size slots room a h g = agrees_put n v e s vars at size slots room a h g
agrees_bind (pleaf l) (vleaf k) e s vars at size slots room a h g =
    subst (Agrees s vars) (some_inj (bind_some (guard (same_leaf l k)) (λ _. some e) h).2) g
agrees_bind (pleaf l) (vinj t v) e s vars at size slots room a h g = absurd (none≢some h)
agrees_bind (pleaf l) (vnode k v w) e s vars at size slots room a h g = absurd (none≢some h)
agrees_bind (pinj u p) (vleaf k) e s vars at size slots room a h g = absurd (none≢some h)
agrees_bind (pinj u p) (vinj t v) e {e'} s vars at size slots room a h g =
    let d = bind_some (guard (same_tag u t)) (λ _. bind p v e) h in
    subst (λ b. Agrees s (cond b (ranges p v (suc at) vars) vars) e') (sym (guard_true (same_tag u t) d.1))
    (agrees_bind p v e s vars (suc at) size slots room (at_inj a) d.2 g)
agrees_bind (pinj u p) (vnode k v w) e s vars at size slots room a h g = absurd (none≢some h)
agrees_bind (pnode m p q) (vleaf k) e s vars at size slots room a h g = absurd (none≢some h)
agrees_bind (pnode m p q) (vinj t v) e s vars at size slots room a h g = absurd (none≢some h)
agrees_bind (pnode m p q) (vnode k v w) e {e'} s vars at size slots room a h g =
    let c = bind_some (guard (same_node m k)) (λ _. bind p v e >>= λ d. bind q w d) h in
    let d = bind_some (bind p v e) (bind q w) c.2 in
    let first = ranges p v (suc at) vars in
    let both = ranges q w (suc at + length (letters v)) first in
    subst₂ (λ x b. Agrees s (cond x (cond b both first) vars) e') (sym (guard_true (same_node m k) c.1)) (sym (bind_alike p v e d.1))
    (agrees_bind q w d.0 s first (suc at + length (letters v)) (length_ranges p v (suc at) vars ∙ size) (bind_length p v e d.1 ∙ slots) room
    (at_second a) d.2 (agrees_bind p v e s vars (suc at) size slots room (at_first a) d.1 g))

-- ---- what building makes

-- the letters of a pattern with the ranges' letters put in are those of the value built, and the ranges agree with the slots left
pub built_build : (p : Pat) (e : Slots Val) {v : Val} {e' : Slots Val} (s vars : List ℕ) → build p e ≡ some (v, e') → Agrees s vars e
    → (built p s vars ≡ letters v) × Agrees s vars e'
built_build (pleaf l) e s vars h g = subst (λ r. (leaf_letter l ∷ [] ≡ letters r.0) × Agrees s vars r.1) (some_inj h) (refl, g)
built_build (pvar n) e {v} {e'} s vars h g =
    let f = put_filled n v e' (put_of_get n v e h) in
    (g.holds n v f.held, record { holds = λ m w i. g.holds m w (filled_keeps f m w i) })
built_build (pinj t p) e s vars h g =
    let d = bind_some (build p e) (λ r. some (vinj t r.0, r.1)) h in
    let r = built_build p e s vars d.1 g in
    subst (λ r. (letter_of t ∷ built p s vars ≡ letters r.0) × Agrees s vars r.1) (some_inj d.2) (ap (λ l. letter_of t ∷ l) r.0, r.1)
built_build (pnode k p q) e s vars h g =
    let d = bind_some (build q e) (λ r. build p r.1 >>= λ s. some (vnode k s.0 r.0, s.1)) h in
    let c = bind_some (build p d.0.1) (λ s. some (vnode k s.0 d.0.0, s.1)) d.2 in
    let r = built_build q e s vars d.1 g in
    let l = built_build p d.0.1 s vars c.1 r.1 in
    subst (λ r. (node_letter k ∷ (built p s vars ++ built q s vars) ≡ letters r.0) × Agrees s vars r.1) (some_inj c.2)
    (ap₂ (λ x y. node_letter k ∷ (x ++ y)) l.0 r.0, l.1)

-- ---- the closed values of a type

behind_unit : (bs : List ℕ) {cs : List ℕ} → behind tunit bs ≡ some cs → bs ≡ leaf_letter unit_leaf ∷ cs
behind_unit [] h = absurd (none≢some h)
behind_unit (b ∷ bs) h =
    let d = bind_some (guard (eqb b (leaf_letter unit_leaf))) (λ _. some bs) h in
    ap₂ ◌∷◌ (eqb_eq b (leaf_letter unit_leaf) (guard_true (eqb b (leaf_letter unit_leaf)) d.1)) (some_inj d.2)

-- a list of values that the test of their type finds
list_value : (a : Ty) → ((bs cs : List ℕ) → behind a bs ≡ some cs → (v : Val) × Of v a × (bs ≡ letters v ++ cs)) → (n : ℕ) (bs cs : List ℕ)
    → behind_list (behind a) n bs ≡ some cs → (v : Val) × Of v (tlist a) × (bs ≡ letters v ++ cs)
list_value a found zero bs cs h = absurd (none≢some h)
list_value a found (suc n) [] cs h = absurd (none≢some h)
list_value a found (suc n) (b ∷ bs) cs h = go (eqb b (leaf_letter empty_leaf)) refl (λ ds k. list_value a found n ds cs k) h
  where
    go : (p : Bool) → eqb b (leaf_letter empty_leaf) ≡ p
        → ((ds : List ℕ) → behind_list (behind a) n ds ≡ some cs → (v : Val) × Of v (tlist a) × (ds ≡ letters v ++ cs))
        → cond p (some bs) (guard (eqb b (node_letter element_node)) >>= λ _. behind a bs >>= λ ds. behind_list (behind a) n ds) ≡ some cs
        → (v : Val) × Of v (tlist a) × (b ∷ bs ≡ letters v ++ cs)
    go true e again k = (vleaf empty_leaf, Of.nil, ap₂ ◌∷◌ (eqb_eq b (leaf_letter empty_leaf) e) (some_inj k))
    go false e again k =
        let g = bind_some (guard (eqb b (node_letter element_node))) (λ _. behind a bs >>= λ ds. behind_list (behind a) n ds) k in
        let d = bind_some (behind a bs) (λ ds. behind_list (behind a) n ds) g.2 in
        let l = found bs d.0 d.1 in
        let r = again d.0 d.2 in (
          vnode element_node l.0 r.0,
          Of.cons l.1 r.1,
          ap₂ ◌∷◌ (eqb_eq b (node_letter element_node) (guard_true (eqb b (node_letter element_node)) g.1))
              (l.2 ∙ ap (λ y. letters l.0 ++ y) r.2 ∙ sym (append_assoc (letters l.0) (letters r.0) cs)),
        )

-- letters that pass the test of a type are those of a value of that type, before what is behind it
pub behind_value : (a : Ty) (bs : List ℕ) {cs : List ℕ} → behind a bs ≡ some cs → (v : Val) × Of v a × (bs ≡ letters v ++ cs)
behind_value tunit bs h = (vleaf unit_leaf, Of.unit, behind_unit bs h)
behind_value (tlist a) bs {cs} h = list_value a (λ ds es k. behind_value a ds k) (length bs) bs cs h
behind_value (tsum a b) [] h = absurd (none≢some h)
behind_value (tsum a b) (x ∷ bs) {cs} h = go (eqb x (letter_of left)) (eqb x (letter_of right)) refl refl (λ k. behind_value a bs k) (λ k. behind_value b bs k) h
  where
    go : (p q : Bool) → eqb x (letter_of left) ≡ p → eqb x (letter_of right) ≡ q
        → (behind a bs ≡ some cs → (v : Val) × Of v a × (bs ≡ letters v ++ cs))
        → (behind b bs ≡ some cs → (v : Val) × Of v b × (bs ≡ letters v ++ cs))
        → cond p (behind a bs) (cond q (behind b bs) none) ≡ some cs
        → (v : Val) × Of v (tsum a b) × (x ∷ bs ≡ letters v ++ cs)
    go true q i j l r k = let c = l k in (vinj left c.0, Of.inj c.1, ap₂ ◌∷◌ (eqb_eq x (letter_of left) i) c.2)
    go false true i j l r k = let c = r k in (vinj right c.0, Of.inj c.1, ap₂ ◌∷◌ (eqb_eq x (letter_of right) j) c.2)
    go false false i j l r k = absurd (none≢some k)
behind_value (tprod a b) [] h = absurd (none≢some h)
behind_value (tprod a b) (x ∷ bs) {cs} h =
    let g = bind_some (guard (eqb x (node_letter pair_node))) (λ _. behind a bs >>= λ ds. behind b ds) h in
    let d = bind_some (behind a bs) (λ ds. behind b ds) g.2 in
    let l = behind_value a bs d.1 in
    let r = behind_value b d.0 d.2 in (
      vnode pair_node l.0 r.0,
      Of.pair l.1 r.1,
      ap₂ ◌∷◌ (eqb_eq x (node_letter pair_node) (guard_true (eqb x (node_letter pair_node)) g.1))
          (l.2 ∙ ap (λ y. letters l.0 ++ y) r.2 ∙ sym (append_assoc (letters l.0) (letters r.0) cs)),
    )

-- what is behind it is shorter
pub behind_shorter : (a : Ty) (bs : List ℕ) {cs : List ℕ} → behind a bs ≡ some cs → length cs < length bs
behind_shorter a bs {cs} h =
    let (v, t, e) = behind_value a bs h in omega (arith, letters_some v, length-append (letters v) cs, ap length e)

-- the letters of a list of values whose letters pass the test of their type
list_behind : (a : Ty) → ((v : Val) → Of v a → (cs : List ℕ) → behind a (letters v ++ cs) ≡ some cs) → {w : Val} → Of w (tlist a)
    → (n : ℕ) → length (letters w) ≤ n → (cs : List ℕ) → behind_list (behind a) n (letters w ++ cs) ≡ some cs
list_behind a passes Of.nil zero l cs = absurd (omega arith)
list_behind a passes Of.nil (suc n) l cs = refl
list_behind a passes (Of.cons h k) zero l cs = absurd (omega arith)
list_behind a passes (Of.cons {v} {w} h k) (suc n) l cs =
    ap (λ l. behind a l >>= λ ds. behind_list (behind a) n ds) (append_assoc (letters v) (letters w) cs)
    ∙ some_bind (λ ds. behind_list (behind a) n ds) (passes v h (letters w ++ cs))
    ∙ list_behind a passes k n (omega (arith, length-append (letters v) (letters w))) cs

-- and the letters of a value of that type pass it
pub value_behind : {v : Val} (a : Ty) → Of v a → (cs : List ℕ) → behind a (letters v ++ cs) ≡ some cs
value_behind tunit Of.unit cs = refl
value_behind {v} (tlist a) h cs =
    list_behind a (λ u k ds. value_behind a k ds) h (length (letters v ++ cs)) (omega (arith, length-append (letters v) cs)) cs
value_behind (tsum a b) (Of.inj {t = left} h) cs = value_behind a h cs
value_behind (tsum a b) (Of.inj {t = right} h) cs = value_behind b h cs
value_behind (tprod a b) (Of.pair {v} {w} h k) cs =
    ap (λ l. behind a l >>= λ ds. behind b ds) (append_assoc (letters v) (letters w) cs)
    ∙ some_bind (λ ds. behind b ds) (value_behind a h (letters w ++ cs))
    ∙ value_behind b k cs

-- ---- letters that are a value of a type

-- letters that pass the test are one
pub value_some : (a : Ty) (bs : List ℕ) → behind a bs ≡ some [] → (v : Val) × (value_in bs a ≡ some v) × (bs ≡ letters v) × Of v a
value_some a bs h =
    let d = behind_value a bs h in
    let v = d.0 in
    let e : bs ≡ letters v = d.2 ∙ append-nil (letters v) in (
      v,
      some_bind (λ u. guard (inhabits u a) >>= λ _. some u) (ap value_of e ∙ value_letters v)
          ∙ some_bind (λ _. some v) (true_guard (of_inhabits d.1)),
      e,
      d.1,
    )

-- and where they do not, there is none
pub value_none : (a : Ty) (bs : List ℕ) → (behind a bs ≡ some [] → ⊥) → value_in bs a ≡ none
value_none a bs h =
    not_some (value_in bs a)
    (λ u k.
    let d = bind_some (value_of bs) (λ v. guard (inhabits v a) >>= λ _. some v) k in
    let v = d.0 in
    let g = bind_some (guard (inhabits v a)) (λ _. some v) d.2 in
    h (ap (behind a) (letters_value bs v d.1 ∙ sym (append-nil (letters v)))
    ∙ value_behind a (inhabits_of v a (guard_true (inhabits v a) g.1)) []))
