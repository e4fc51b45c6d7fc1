-- The tests of the units, and then of the script.
use Rattle.std.specs.Prelude.{Option as CodeOption}
use Prim.Native.Nat.{ℕ}
use mathlib.Core.Path.{◌≡◌, sym, ap, ◌∙◌}
use mathlib.Core.Bool.{Bool, true, false}
use mathlib.Core.Option.{Option}
use mathlib.Core.List.{List}
use lib.ListN.{replicate}
use Rattle.calculus.specs.Tools.{is_some, or_else}
use Rattle.calculus.specs.Refusals.{Refusal}
use Rattle.calculus.proofs.Basic.{is_some_true}
use Rattle.format.specs.Lines.{Row}
use Rattle.format.specs.Unfold.{isos_of}
use Rattle.format.specs.Code.{refusal_view}
use Rattle.format.specs.declared.Refusal as F
use Rattle.run_lists.specs.Marks.{AllMarked}
use Rattle.run_lists.proofs.Marking.{marks_of}
use Rattle.runner.specs.RunSays.{Prepared}
use Rattle.unit_script.specs.Views.{ScriptTold}
use Rattle.unit_plays.specs.Playing.{script_fault}
use Rattle.checker.proofs.Checks.{flag_none}

module _ {x y : Option Refusal} (f : x ≡ y) {b : Bool} (g : b ≡ is_some x) (z : Option Refusal) where
  pub first_fault : b ≡ true → x ≡ or_else y z
  first_fault k = let s = is_some_true x (sym g ∙ k) in s.1 ∙ sym (ap (λ u. or_else u z) (sym f ∙ s.1))

  pub second_fault : b ≡ false → {v : Option Refusal} → v ≡ z → v ≡ or_else y z
  second_fault k e = e ∙ sym (ap (λ u. or_else u z) (sym f ∙ flag_none b x g k))

-- the isos that have to do with lists are marked, and the script's lines are tested by the marks
pub script_told : (t index marks q : List ℕ) (types isos units : ℕ) (rs : List Row) (r : CodeOption F.Refusal) → Prepared t types index isos rs → AllMarked t index isos (replicate 32 0) marks
    → ScriptTold units isos marks q r → refusal_view r ≡ script_fault units (isos_of rs) q
script_told t index marks q types isos units rs r p m told =
    told (isos_of rs) p.count (λ i h. marks_of t index types isos rs p.good.passes p.indexed p.count marks m i)
