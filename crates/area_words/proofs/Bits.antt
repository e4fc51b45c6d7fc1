-- Numbers of 16 bits.
use Prim.Native.Nat.{ℕ, ◌%◌, ◌<◌}
use native.Mathlib.Omega.{arith}
use mathlib.Core.Path.{◌≡◌}
use Rattle.limits.specs.Limits.{word_bound}

-- a number of at most 16 bits is its 16 low bits
pub narrow_same : {n r : ℕ} → r ≡ n % word_bound → n < word_bound → r ≡ n
narrow_same e h = omega arith
