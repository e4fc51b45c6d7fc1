-- Which rows are looked at.
use Prim.Native.Nat.{ℕ, zero, suc, ◌+◌, ◌-◌, ◌<◌, ◌≤◌}
use native.Mathlib.Omega.{arith}
use mathlib.Core.Path.{◌≡◌, refl, sym, ap, ap₂, ◌∙◌}
use mathlib.Core.Bool.{Bool, true, false, cond, ◌&&◌, ◌||◌}
use mathlib.Core.List.{List}
use lib.Dec.{leb, eqb}
use lib.ListN.{get_or}
use Rattle.calculus.proofs.Basic.{le_leb, not_leb, eq_eqb, not_eqb}
use Rattle.table_trees.specs.Unfolding.{cell_of}
use Rattle.check_known.specs.Known.{large_row, any_large, head_at, LargeLeft}

one_more : (n to : ℕ) → n < to → to - n ≡ suc (to - suc n)
one_more n to h = omega arith

pub row_small : (t g : List ℕ) (n : ℕ) {x : ℕ} → x ≡ cell_of t n 4 → x < 16 → false ≡ large_row t g n
row_small t g n e h = sym (ap (λ b. b && eqb (get_or g n 0) 0) (ap (leb 16) (sym e) ∙ not_leb h))

pub row_large : (t g : List ℕ) (n : ℕ) {x m : ℕ} → x ≡ cell_of t n 4 → 16 ≤ x → m ≡ get_or g n 0 → eqb m 0 ≡ large_row t g n
row_large t g n e h f = sym (ap₂ (λ b m. b && eqb m 0) (ap (leb 16) (sym e) ∙ le_leb h) (sym f))

pub large_found : {t g : List ℕ} {from to n : ℕ} {b : Bool} → LargeLeft t g from to n → n < to → b ≡ large_row t g n → b ≡ true → true ≡ any_large t g from (to - from)
large_found {t} {g} {to = to} {n = n} l h e y =
    sym (l.same ∙ ap (any_large t g n) (one_more n to h) ∙ ap (λ b. b || any_large t g (suc n) (to - suc n)) (sym e ∙ y))

pub large_step : {t g : List ℕ} {from to n : ℕ} {b : Bool} → LargeLeft t g from to n → n < to → b ≡ large_row t g n → b ≡ false → LargeLeft t g from to (n + 1)
large_step {t} {g} {to = to} {n = n} l h e y =
    record {
      same =
          l.same ∙ ap (any_large t g n) (one_more n to h) ∙ ap (λ b. b || any_large t g (suc n) (to - suc n)) (sym e ∙ y)
          ∙ ap (λ k. any_large t g k (to - k)) (omega arith);
    }

pub large_none : {t g : List ℕ} {from to n : ℕ} → LargeLeft t g from to n → to ≤ n → false ≡ any_large t g from (to - from)
large_none {t} {g} {to = to} {n = n} l h = sym (l.same ∙ ap (any_large t g n) (the_end n to h))
  where
    the_end : (n to : ℕ) → to ≤ n → to - n ≡ 0
    the_end n to h = omega arith

pub head_own : (t : List ℕ) (n head : ℕ) {x : ℕ} → x ≡ cell_of t n 0 → x ≡ 73 → n ≡ head_at t n head
head_own t n head e h = sym (ap (λ b. cond b n head) (eq_eqb (sym e ∙ h)))

pub head_above : (t : List ℕ) (n head : ℕ) {x : ℕ} → x ≡ cell_of t n 0 → (x ≡ 73 → ⊥) → head ≡ head_at t n head
head_above t n head e h = sym (ap (λ b. cond b n head) (not_eqb (λ f. h (e ∙ f))))
