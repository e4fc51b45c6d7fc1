-- Bytes copied to the front of an area.
use Prim.Native.Nat.{ℕ, suc, ◌+◌, ◌≤◌, ◌<◌}
use native.Mathlib.Nat.{zero-add}
use native.Mathlib.Omega.{arith}
use mathlib.Core.Path.{◌≡◌, refl, sym, ap, ap₂, ◌∙◌}
use mathlib.Core.Bool.{cond}
use mathlib.Core.List.{List, ◌++◌}
use lib.Dec.{ltb}
use lib.ListN.{length, get_or, set, take, drop, length-set}
use lib.Seq.{paste, paste-zero, paste-suc, take-length}
use Rattle.limits.specs.Limits.{max_letters}
use Rattle.calculus.specs.Trees.{Val}
use Rattle.calculus.specs.Letters.{letters}
use Rattle.calculus.proofs.Basic.{lt_ltb, not_ltb}
use Rattle.run_values.specs.Texts.{At}

-- what the copying loop has come to after i bytes
pub record Copied (from : List ℕ) (n : ℕ) (to₀ to : List ℕ) (i : ℕ) : Type 0 where
  pub within : i ≤ n
  pub wide : length to ≡ length to₀
  pub holds : n ≤ length from → n ≤ length to₀ → to ≡ paste to₀ 0 from i

pub copied_start : (from : List ℕ) (n : ℕ) (to : List ℕ) → Copied from n to to 0
copied_start from n to = record { within = omega arith; wide = refl; holds = λ h k. paste-zero to 0 from }

pub copied_next : {from to₀ to to' : List ℕ} {n i b : ℕ} → Copied from n to₀ to i → i < n → to' ≡ set to i b → b ≡ get_or from i 0 → Copied from n to₀ to' (i + 1)
copied_next {from} {to₀} {to} {to'} {n} {i} {b} c h e f =
    record {
      within = omega arith;
      wide = ap length e ∙ length-set to i b ∙ c.wide;
      holds = λ k m.
          let z : 0 + i ≡ i = zero-add i in
          let up : suc i ≡ i + 1 = omega arith in
          e ∙ ap₂ (λ l v. set l i v) (c.holds k m) f ∙ ap (λ j. set (paste to₀ 0 from i) j (get_or from i 0)) (sym z)
          ∙ paste-suc to₀ 0 from i 0 (omega (arith, z)) (omega arith) ∙ ap (paste to₀ 0 from) up;
    }

pub copied_end : {from to₀ to : List ℕ} {n i : ℕ} → Copied from n to₀ to i → n ≤ i → n ≤ length from → n ≤ length to₀ → to ≡ paste to₀ 0 from n
copied_end {from} {to₀} {to} {n} {i} c h k m =
    let w = c.within in let same : i ≡ n = omega (arith, w) in c.holds k m ∙ ap (paste to₀ 0 from) same

-- a front of n bytes
pub paste_front : (to from : List ℕ) (n : ℕ) → paste to 0 from n ≡ take n from ++ drop n to
paste_front to from n = ap (λ k. take n from ++ drop k to) (zero-add n)

-- a whole value at the front
pub value_front : {to' : List ℕ} (to bs : List ℕ) (v : Val) → bs ≡ letters v → to' ≡ paste to 0 bs (length bs) → At to' 0 v
value_front to bs v e p =
    record { rest = drop (length bs) to; spells = p ∙ paste_front to bs (length bs) ∙ ap (λ l. l ++ drop (length bs) to) (take-length bs ∙ e) }

-- none of a value that is too large, else all of it
pub copied_none : (n : ℕ) → max_letters < n → 0 ≡ cond (ltb max_letters n) 0 n
copied_none n h = sym (ap (λ b. cond b 0 n) (lt_ltb h))

pub copied_all : (n : ℕ) → n ≤ max_letters → n ≡ cond (ltb max_letters n) 0 n
copied_all n h = sym (ap (λ b. cond b 0 n) (not_ltb h))
