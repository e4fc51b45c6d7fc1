-- An area of rows follows the rows of the definition, up to 1,025 of them; from there on it says that there are more than 1,024.
use Prim.Native.Nat.{ℕ, zero, suc, ◌+◌, ◌*◌, ◌%◌, ◌≤◌, ◌<◌}
use native.Mathlib.Nat.{lt_irrefl, le_of_lt, le_of_eq, mod-eq_of_lt}
use native.Mathlib.Omega.{arith}
use mathlib.Core.Path.{◌≡◌, refl, sym, ap, ap₂, ◌∙◌, subst}
use mathlib.Core.Logic.{◌⊎◌, inl, inr}
use mathlib.Core.Bool.{true, false, cond}
use mathlib.Core.List.{List, [], ◌∷◌, ◌++◌}
use lib.Dec.{ltb, leb}
use lib.ListN.{length, get_or, set, length-set}
use lib.Seq.{get_or-set_same, get_or-set_other}
use Rattle.limits.specs.Limits.{row_width}
use Rattle.calculus.specs.Refusals.{Kind}
use Rattle.format.specs.Lines.{Row}
use Rattle.law_pairlists.specs.PairLists.{find, enter}
use Rattle.calculus.proofs.Basic.{bool_cases, leb_le, leb_false, ltb_lt, ltb_false, lt_ltb, index_below}
use Rattle.law_pairlists.proofs.Rows.{Finding, there, fresh, finding, length_snoc, enter_grows}
use Rattle.table_trees.specs.Unfolding.{cell_of}
use Rattle.list_entries.specs.Entries.{row_of, entry_at, entries_at, store_entry, Tracks, Room, Follows, Entering}

-- ---- a row stored

-- numbers of other rows stay
cell_stays : (s : List ℕ) (to x y z row j : ℕ) → (row ≡ to → ⊥) → j < row_width → cell_of (store_entry s to x y z) row j ≡ cell_of s row j
unfolding store_entry
cell_stays s to x y z row j h l =
    ap (λ n. cond (ltb row 4096) (cond (ltb j row_width) n 0) 0)
    (get_or-set_other (set (set s (to * row_width + 1) (x % 65536)) (to * row_width + 2) (y % 65536)) (to * row_width + 3) (row * row_width + j) (z % 65536) 0 (λ e. h (omega arith))
    ∙ get_or-set_other (set s (to * row_width + 1) (x % 65536)) (to * row_width + 2) (row * row_width + j) (y % 65536) 0 (λ e. h (omega arith))
    ∙ get_or-set_other s (to * row_width + 1) (row * row_width + j) (x % 65536) 0 (λ e. h (omega arith)))

pub row_eq : (k : Kind) {x x' y y' z z' : ℕ} → x ≡ x' → y ≡ y' → z ≡ z' → row_of k x y z ≡ row_of k x' y' z'
row_eq k p q r = λ i. row_of k (p i) (q i) (r i)

entry_stays : (k : Kind) (s : List ℕ) (to x y z row : ℕ) → (row ≡ to → ⊥) → entry_at k (store_entry s to x y z) row ≡ entry_at k s row
entry_stays k s to x y z row h =
    row_eq k (cell_stays s to x y z row 1 h (omega arith)) (cell_stays s to x y z row 2 h (omega arith)) (cell_stays s to x y z row 3 h (omega arith))

entries_stay : (k : Kind) (s : List ℕ) (to x y z from n : ℕ) → from + n ≤ to → entries_at k (store_entry s to x y z) from n ≡ entries_at k s from n
entries_stay k s to x y z from zero h = refl
entries_stay k s to x y z from (suc n) h =
    ap₂ ◌∷◌ (entry_stays k s to x y z from (λ e. lt_irrefl to (omega arith))) (entries_stay k s to x y z (suc from) n (omega arith))

-- its numbers are there
entry_stored : (k : Kind) (s : List ℕ) (to x y z : ℕ) → x < 65536 → y < 65536 → z < 65536 → to < 4096 → to * row_width + 3 < length s
    → entry_at k (store_entry s to x y z) to ≡ row_of k x y z
unfolding store_entry
entry_stored k s to x y z hx hy hz t l =
    let a : List ℕ = set s (to * row_width + 1) (x % 65536) in
    let b : List ℕ = set a (to * row_width + 2) (y % 65536) in
    let d : List ℕ = set b (to * row_width + 3) (z % 65536) in
    let la : length a ≡ length s = length-set s (to * row_width + 1) (x % 65536) in
    let lb : length b ≡ length a = length-set a (to * row_width + 2) (y % 65536) in
    let cell : (j : ℕ) → j < row_width → cell_of d to j ≡ get_or d (to * row_width + j) 0 = λ j h. ap₂ (λ p q. cond p (cond q (get_or d (to * row_width + j) 0) 0) 0) (lt_ltb t) (lt_ltb h) in
    row_eq k
    (cell 1 (omega arith)
    ∙ get_or-set_other b (to * row_width + 3) (to * row_width + 1) (z % 65536) 0 (λ e. lt_irrefl to (omega arith))
    ∙ get_or-set_other a (to * row_width + 2) (to * row_width + 1) (y % 65536) 0 (λ e. lt_irrefl to (omega arith))
    ∙ get_or-set_same s (to * row_width + 1) (x % 65536) 0 (omega arith) ∙ mod-eq_of_lt hx)
    (cell 2 (omega arith)
    ∙ get_or-set_other b (to * row_width + 3) (to * row_width + 2) (z % 65536) 0 (λ e. lt_irrefl to (omega arith))
    ∙ get_or-set_same a (to * row_width + 2) (y % 65536) 0 (omega arith) ∙ mod-eq_of_lt hy)
    (cell 3 (omega arith) ∙ get_or-set_same b (to * row_width + 3) (z % 65536) 0 (omega arith) ∙ mod-eq_of_lt hz)

pub store_length : (s : List ℕ) (row x y z : ℕ) → length (store_entry s row x y z) ≡ length s
unfolding store_entry
store_length s row x y z =
    length-set (set (set s (row * row_width + 1) (x % 65536)) (row * row_width + 2) (y % 65536)) (row * row_width + 3) (z % 65536)
    ∙ length-set (set s (row * row_width + 1) (x % 65536)) (row * row_width + 2) (y % 65536)
    ∙ length-set s (row * row_width + 1) (x % 65536)

pub entries_length : (k : Kind) (s : List ℕ) (from n : ℕ) → length (entries_at k s from n) ≡ n
entries_length k s from zero = refl
entries_length k s from (suc n) = ap suc (entries_length k s (suc from) n)

pub entries_snoc : (k : Kind) (s : List ℕ) (from n : ℕ) → entries_at k s from (suc n) ≡ entries_at k s from n ++ (entry_at k s (from + n) ∷ [])
entries_snoc k s from zero = let e : from ≡ from + 0 = omega arith in ap (λ r. entry_at k s r ∷ []) e
entries_snoc k s from (suc n) =
    let e : suc from + n ≡ from + suc n = omega arith in
    ap (λ rs. entry_at k s from ∷ rs) (entries_snoc k s (suc from) n ∙ ap (λ r. entries_at k s (suc from) n ++ (entry_at k s r ∷ [])) e)

-- a row stored behind n others
pub entries_stored : (k : Kind) (s : List ℕ) (n x y z : ℕ) → x < 65536 → y < 65536 → z < 65536 → n < 4096 → n * row_width + 3 < length s
    → entries_at k (store_entry s n x y z) 0 (n + 1) ≡ entries_at k s 0 n ++ (row_of k x y z ∷ [])
entries_stored k s n x y z hx hy hz h l =
    let e : n + 1 ≡ suc n = omega arith in
    let f : 0 + n ≡ n = omega arith in
    ap (entries_at k (store_entry s n x y z) 0) e
    ∙ entries_snoc k (store_entry s n x y z) 0 n
    ∙ ap₂ (λ p q. p ++ (q ∷ [])) (entries_stay k s n x y z 0 n (omega arith)) (ap (entry_at k (store_entry s n x y z)) f ∙ entry_stored k s n x y z hx hy hz h l)

-- ---- a row entered

-- an area of rows with one row entered
record EnteredAs (s s' : List ℕ) (to x y z n e : ℕ) : Type 0 where
  numbered : (k : Kind) → n ≡ find (row_of k x y z) (entries_at k s 0 to)
  there : n < to → (s' ≡ s) × (e ≡ to)
  full : to ≤ n → 1025 ≤ to → (s' ≡ s) × (e ≡ to)
  new : to ≤ n → to < 1025 → (s' ≡ store_entry s to x y z) × (e ≡ to + 1)

find_le : (r : Row) (rs : List Row) → find r rs ≤ length rs
find_le r rs = go (finding r rs)
  where
    go : Finding r rs → find r rs ≤ length rs
    go (there g f) = le_of_lt (index_below rs (find r rs) g)
    go (fresh g m f) = le_of_eq m

entering : (k : Kind) (s s' : List ℕ) (to x y z n e : ℕ) (rs : List Row) → EnteredAs s s' to x y z n e → x < 65536 → y < 65536 → z < 65536 → Room s
    → Tracks k s to rs → Follows k s s' n e (enter (row_of k x y z) rs) (find (row_of k x y z) rs)
entering k s s' to x y z n e rs a hx hy hz room h = go (bool_cases (leb (length rs) 1025))
  where
    r : Row
    r = row_of k x y z

    ht : to < 4096
    ht = omega (arith, h.few)

    bound : n ≤ 1025
    bound =
        let p = find_le r (entries_at k s 0 to) in
        let q = entries_length k s 0 to in
        let o = a.numbered k in
        omega (arith, h.few)

    long : length s' ≡ length s
    long = same (bool_cases (ltb n to)) (bool_cases (ltb to 1025))
      where
        same : (ltb n to ≡ true) ⊎ (ltb n to ≡ false) → (ltb to 1025 ≡ true) ⊎ (ltb to 1025 ≡ false) → length s' ≡ length s
        same (inl c) d = ap length (a.there (ltb_lt n to c)).0
        same (inr c) (inl d) = ap length (a.new (ltb_false n to c) (ltb_lt to 1025 d)).0 ∙ store_length s to x y z
        same (inr c) (inr d) = ap length (a.full (ltb_false n to c) (ltb_false to 1025 d)).0

    number : length (enter r rs) ≤ 1025 → n ≡ find r rs
    number l = a.numbered k ∙ ap (find r) (h.exact (omega (arith, enter_grows r rs)))

    -- nothing stored
    kept : s' ≡ s → e ≡ to → (length (enter r rs) ≤ 1025 → entries_at k s 0 to ≡ enter r rs) → (1025 < length (enter r rs) → to ≡ 1025)
        → Tracks k s' e (enter r rs)
    kept p q f g =
        subst (λ w. Tracks k w e (enter r rs)) (sym p)
        (subst (λ w. Tracks k s w (enter r rs)) (sym q) (record { few = h.few; exact = f; full = g }))

    small : length rs ≤ 1025 → Finding r rs → Tracks k s' e (enter r rs)
    small l (there g f) =
        let x = h.exact l in
        let m : length rs ≡ to = ap length (sym x) ∙ entries_length k s 0 to in
        let i = index_below rs (find r rs) g in
        let j : n ≡ find r rs = a.numbered k ∙ ap (find r) x in
        let b = a.there (omega arith) in
        kept b.0 b.1 (λ o. x ∙ sym f) (λ o. let z = ap length f in absurd (lt_irrefl 1025 (omega arith)))
    small l (fresh g m f) = last (bool_cases (ltb to 1025))
      where
        held : entries_at k s 0 to ≡ rs
        held = h.exact l

        many : length rs ≡ to
        many = ap length (sym held) ∙ entries_length k s 0 to

        beyond : to ≤ n
        beyond = let j : n ≡ find r rs = a.numbered k ∙ ap (find r) held in omega (arith, many)

        last : (ltb to 1025 ≡ true) ⊎ (ltb to 1025 ≡ false) → Tracks k s' e (enter r rs)
        last (inl c) =
            let u = ltb_lt to 1025 c in
            let b = a.new beyond u in
            subst (λ w. Tracks k w e (enter r rs)) (sym b.0)
            (subst (λ w. Tracks k (store_entry s to x y z) w (enter r rs)) (sym b.1)
            (record {
              few = omega arith;
              exact = λ v.
                  entries_stored k s to x y z hx hy hz ht (omega (arith, room.words))
                  ∙ ap (λ qs. qs ++ (r ∷ [])) held
                  ∙ sym f;
              full = λ v. let w = ap length f ∙ length_snoc rs r in absurd (lt_irrefl 1025 (omega (arith, many)));
            }))
        last (inr c) =
            let u = ltb_false to 1025 c in
            let b = a.full beyond u in
            let w = ap length f ∙ length_snoc rs r in
            kept b.0 b.1 (λ v. absurd (lt_irrefl 1025 (omega (arith, many)))) (λ v. omega (arith, h.few))

    large : 1025 < length rs → Tracks k s' e (enter r rs)
    large l =
        let u = h.full l in
        let g = enter_grows r rs in
        stuck (bool_cases (ltb n to))
      where
        stuck : (ltb n to ≡ true) ⊎ (ltb n to ≡ false) → Tracks k s' e (enter r rs)
        stuck (inl c) =
            let b = a.there (ltb_lt n to c) in
            kept b.0 b.1 (λ v. absurd (lt_irrefl 1025 (omega (arith, enter_grows r rs)))) (λ v. h.full l)
        stuck (inr c) =
            let b = a.full (ltb_false n to c) (omega (arith, h.full l)) in
            kept b.0 b.1 (λ v. absurd (lt_irrefl 1025 (omega (arith, enter_grows r rs)))) (λ v. h.full l)

    go : (leb (length rs) 1025 ≡ true) ⊎ (leb (length rs) 1025 ≡ false) → Follows k s s' n e (enter r rs) (find r rs)
    go (inl c) = record { tracks = small (leb_le (length rs) 1025 c) (finding r rs); number = number; bound = bound; long = long }
    go (inr c) = record { tracks = large (leb_false (length rs) 1025 c); number = number; bound = bound; long = long }

module _ (s : List ℕ) (to x y z n : ℕ) (f : (k : Kind) → n ≡ find (row_of k x y z) (entries_at k s 0 to)) where
  pub enters_there : n < to → (k : Kind) (rs : List Row) → Entering k s s to x y z n to rs
  enters_there h k rs =
      record { does = entering k s s to x y z n to rs (record { numbered = f; there = λ l. (refl, refl); full = λ l m. (refl, refl); new = λ l m. absurd (lt_irrefl n (omega arith)) }) }

  pub enters_full : 1025 ≤ to → (k : Kind) (rs : List Row) → Entering k s s to x y z n to rs
  enters_full h k rs =
      record { does = entering k s s to x y z n to rs (record { numbered = f; there = λ l. (refl, refl); full = λ l m. (refl, refl); new = λ l m. absurd (lt_irrefl to (omega arith)) }) }

  pub enters_new : {s' : List ℕ} → to ≤ n → to < 1025 → s' ≡ store_entry s to x y z → (k : Kind) (rs : List Row) → Entering k s s' to x y z n (to + 1) rs
  enters_new {s'} h l e k rs =
      record {
        does = entering k s s' to x y z n (to + 1) rs (record {
          numbered = f;
          there = λ m. absurd (lt_irrefl n (omega arith));
          full = λ m o. absurd (lt_irrefl to (omega arith));
          new =
              λ m o. (e, refl);
        });
      }
