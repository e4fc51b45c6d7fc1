-- A value with nothing behind it.
use Prim.Native.Nat.{ℕ, zero, suc, ◌≤◌, ◌<◌}
use native.Mathlib.Omega.{arith}
use mathlib.Core.Path.{◌≡◌, refl, sym, ap, ◌∙◌}
use mathlib.Core.Bool.{Bool, true, false, true≢false}
use mathlib.Core.Logic.{◌⊎◌, inl, inr}
use mathlib.Core.Option.{Option, none, some}
use mathlib.Core.List.{List, [], ◌∷◌}
use lib.Dec.{leb}
use lib.ListN.{length, drop, drop_of_length-le}
use Rattle.calculus.specs.Trees.{Ty}
use Rattle.calculus.proofs.Basic.{bool_cases, leb_le, leb_false}
use Rattle.std.specs.Prelude.{MatchOption, Option as Maybe, Some, None}
use Rattle.run_values.specs.Texts.{as_upto, behind, alone}

drop_some : (s : List ℕ) (n : ℕ) → n < length s → alone (some (drop n s)) ≡ false
drop_some [] n h = absurd (omega arith)
drop_some (b ∷ s) zero h = refl
drop_some (b ∷ s) (suc n) h = drop_some s n (omega arith)

-- whether a value ends, and at the area's end
pub alone_end : (a : Ty) (s : List ℕ) (r : Maybe ℕ) {b : Bool} → as_upto s r ≡ behind a (drop 0 s) → MatchOption r (b ≡ false) (λ n. b ≡ leb (length s) n) → b ≡ alone (behind a s)
alone_end a s None says e = e ∙ ap alone says
alone_end a s (Some n) says e = e ∙ go (bool_cases (leb (length s) n)) ∙ ap alone says
  where
    go : (leb (length s) n ≡ true) ⊎ (leb (length s) n ≡ false) → leb (length s) n ≡ alone (some (drop n s))
    go (inl t) =
        let h : length s ≤ n = leb_le (length s) n t in t ∙ sym (ap (λ l. alone (some l)) (drop_of_length-le s h))
    go (inr f) =
        let h : n < length s = leb_false (length s) n f in f ∙ sym (drop_some s n h)

pub alone_true : (x : Option (List ℕ)) → alone x ≡ true → x ≡ some []
alone_true none e = absurd (true≢false (sym e))
alone_true (some []) e = refl
alone_true (some (b ∷ bs)) e = absurd (true≢false (sym e))

pub alone_false : (x : Option (List ℕ)) → alone x ≡ false → x ≡ some [] → ⊥
alone_false x e h = true≢false (sym (ap alone h) ∙ e)
