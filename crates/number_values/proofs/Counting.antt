-- How many values a type has, told up to a cap, by the type's node.
use Prim.Native.Nat.{ℕ, ◌+◌, ◌*◌, ◌≤◌, min}
use native.Mathlib.Nat.{min-eq_left}
use native.Mathlib.Omega.{arith}
use mathlib.Core.Path.{◌≡◌, sym, ap₂, ◌∙◌, subst}
use Rattle.limits.specs.Limits.{max_values}
use Rattle.calculus.specs.Trees.{Ty, tsum, tprod}
use Rattle.law_ranking.specs.Numbering.{count}
use Rattle.law_ranking.proofs.Numbering.{count_positive}
use Rattle.number_values.specs.Numbers.{Counts}

-- below the cap a count is told
pub counted : (a : Ty) {n : ℕ} → Counts a n → count a ≤ max_values → n ≡ count a
counted a e h = e ∙ min-eq_left (omega arith)

-- it is never 0, and at most the cap
pub counted_some : (a : Ty) {n : ℕ} → Counts a n → 1 ≤ n
counted_some a e = omega (arith, count_positive a)

-- ---- by the type's node

pub counts_sum : (x y : Ty) {a b r : ℕ} → Counts x a → Counts y b → ((m n : ℕ) → a ≡ min m 4294967296 → b ≡ min n 4294967296 → r ≡ min (m + n) 4294967296) → Counts (tsum x y) r
counts_sum x y e f g = g (count x) (count y) e f

pub counts_product : (x y : Ty) {a b r : ℕ} → Counts x a → Counts y b
    → ((m n : ℕ) → 1 ≤ m → 1 ≤ n → a ≡ min m 4294967296 → b ≡ min n 4294967296 → r ≡ min (m * n) 4294967296) → Counts (tprod x y) r
counts_product x y e f g = g (count x) (count y) (count_positive x) (count_positive y) e f

-- the tree being told
pub counts_as : {x y : Ty} (n : ℕ) → x ≡ y → Counts y n → Counts x n
counts_as n e c = subst (λ z. Counts z n) (sym e) c

-- ---- numbers of at most 32 bits

-- a times b plus c
pub times_plus_is : (a b c : ℕ) {r : ℕ} → a ≤ max_values → b ≤ max_values → c ≤ max_values → r ≡ min a max_values * min b max_values + min c max_values
    → r ≡ a * b + c
times_plus_is a b c h l k e = e ∙ ap₂ ◌+◌ (ap₂ ◌*◌ (min-eq_left h) (min-eq_left l)) (min-eq_left k)
