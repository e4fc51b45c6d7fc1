-- Rows searched from the first: what the loop knows.
use Prim.Native.Nat.{ℕ, suc, ◌+◌, ◌-◌, ◌*◌, ◌%◌, ◌≤◌, ◌<◌}
use native.Mathlib.Omega.{arith}
use mathlib.Core.Path.{◌≡◌, refl, sym, ap, ◌∙◌}
use mathlib.Core.Bool.{Bool, true, false, cond, ◌&&◌}
use mathlib.Core.List.{List, ◌∷◌}
use lib.ListN.{set}
use Rattle.limits.specs.Limits.{row_width}
use Rattle.calculus.specs.Refusals.{Kind}
use Rattle.format.specs.Lines.{Row, letter}
use Rattle.law_pairlists.specs.PairLists.{same_row, find}
use Rattle.calculus.proofs.Basic.{eq_eqb}
use Rattle.list_entries.specs.Entries.{row_of, entry_at, entries_at, same_entry, store_entry}

-- ---- the rows

-- the rows before row i are others
pub record Searched (s : List ℕ) (to x y z i : ℕ) : Type 0 where
  pub high : i ≤ to
  pub left : (k : Kind) → find (row_of k x y z) (entries_at k s 0 to) ≡ i + find (row_of k x y z) (entries_at k s i (to - i))

one_row : (k : Kind) (s : List ℕ) (i to : ℕ) → i < to → entries_at k s i (to - i) ≡ entry_at k s i ∷ entries_at k s (suc i) (to - suc i)
one_row k s i to h = let e : to - i ≡ suc (to - suc i) = omega arith in ap (entries_at k s i) e

same_letter : (k : Kind) (s : List ℕ) (i x y z : ℕ) → same_row (row_of k x y z) (entry_at k s i) ≡ same_entry s i x y z
unfolding same_entry
same_letter k s i x y z = ap (λ b. b && same_entry s i x y z) (eq_eqb {m = letter k} refl)

pub searched_start : (s : List ℕ) (to x y z : ℕ) → Searched s to x y z 0
searched_start s to x y z =
    record {
      high = omega arith;
      left = λ k. let e : to - 0 ≡ to =
          omega arith in sym (zero_plus (find (row_of k x y z) (entries_at k s 0 (to - 0))) ∙ ap (λ n. find (row_of k x y z) (entries_at k s 0 n)) e);
    }
  where
    zero_plus : (n : ℕ) → 0 + n ≡ n
    zero_plus n = omega arith

pub searched_step : {s : List ℕ} {to x y z i : ℕ} → Searched s to x y z i → i < to → {b : Bool} → b ≡ same_entry s i x y z → b ≡ false → Searched s to x y z (i + 1)
searched_step {s} {to} {x} {y} {z} {i} h l {b} e f =
    record { high = omega arith; left = next }
  where
    next : (k : Kind) → find (row_of k x y z) (entries_at k s 0 to) ≡ i + 1 + find (row_of k x y z) (entries_at k s (i + 1) (to - (i + 1)))
    next k =
        let r : Row = row_of k x y z in
        let p = h.left k in
        let q : find r (entries_at k s i (to - i)) ≡ suc (find r (entries_at k s (suc i) (to - suc i))) =
        ap (find r) (one_row k s i to l) ∙ ap (λ c. cond c 0 (suc (find r (entries_at k s (suc i) (to - suc i))))) (same_letter k s i x y z ∙ sym e ∙ f) in
        let w : i + 1 ≡ suc i = omega arith in
        let v = ap (λ n. find r (entries_at k s n (to - n))) w in
        omega arith

pub searched_hit : {s : List ℕ} {to x y z i : ℕ} → Searched s to x y z i → i < to → {b : Bool} → b ≡ same_entry s i x y z → b ≡ true
    → (k : Kind) → i ≡ find (row_of k x y z) (entries_at k s 0 to)
searched_hit {s} {to} {x} {y} {z} {i} h l e f k =
    let r : Row = row_of k x y z in
    let p = h.left k in
    let q : find r (entries_at k s i (to - i)) ≡ 0 =
    ap (find r) (one_row k s i to l) ∙ ap (λ c. cond c 0 (suc (find r (entries_at k s (suc i) (to - suc i))))) (same_letter k s i x y z ∙ sym e ∙ f) in
    omega arith

pub searched_end : {s : List ℕ} {to x y z i : ℕ} → Searched s to x y z i → to ≤ i → (k : Kind) → to ≡ find (row_of k x y z) (entries_at k s 0 to)
searched_end {s} {to} {x} {y} {z} {i} h l k =
    let r : Row = row_of k x y z in
    let p = h.left k in
    let n : to - i ≡ 0 = omega arith in
    let q : find r (entries_at k s i (to - i)) ≡ 0 = ap (λ m. find r (entries_at k s i m)) n in
    omega (arith, h.high)

-- ---- a row stored

pub stored : (s : List ℕ) (row x y z : ℕ) {a b d : List ℕ} {p q r : ℕ} → p ≡ x % 65536 → a ≡ set s (row * row_width + 1) p → q ≡ y % 65536 → b ≡ set a (row * row_width + 2) q
    → r ≡ z % 65536 → d ≡ set b (row * row_width + 3) r → d ≡ store_entry s row x y z
unfolding store_entry
stored s row x y z p a q b r d = cc
