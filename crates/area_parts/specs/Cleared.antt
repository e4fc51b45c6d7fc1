-- What clearing a front part leaves.
use Rattle.std.specs.Prelude.{ℕ, min, List, ◌++◌, length, drop, replicate}

-- the first n elements are x, all of them where there are fewer; the others are as they were
abbrev pub filled : {A : Type 0} → A → ℕ → List A → List A
filled x n l = replicate (min n (length l)) x ++ drop n l

-- the same with 0
abbrev pub cleared : ℕ → List ℕ → List ℕ
cleared n l = filled 0 n l
