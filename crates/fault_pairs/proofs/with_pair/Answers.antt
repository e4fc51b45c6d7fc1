use Prim.Native.Nat.{ℕ, ◌-◌}
use native.Mathlib.Omega.{arith}
use mathlib.Core.Path.{◌≡◌, sym, ap₂, ◌∙◌}
use mathlib.Core.List.{List}
use lib.ListN.{take, replicate, length-replicate}
use Rattle.law_witnesses.specs.Showing.{sooner}
use Rattle.fault_pairs.proofs.Adding.{adds_clash, tried, adds_first, adds_old, adds_new}
use Rattle.fault_pairs.proofs.with_pair.Goals as goal

same_parts : (m n : ℕ) (x y : List ℕ) → sooner (take (m - 0) x) (take (n - 0) y) ≡ sooner (take m x) (take n y)
same_parts m n x y = let e : m - 0 ≡ m = omega arith in let f : n - 0 ≡ n = omega arith in ap₂ (λ i j. sooner (take i x) (take j y)) e f

pub returns-then-c : goal.returns-then-c
returns-then-c c = (c.requires.2, adds_clash c.args.out.now c.args.best (sym c.compare-c.ensures.0 ∙ c.if-c.true))

pub returns-then-best-eq0 : goal.returns-then-best-eq0
returns-then-best-eq0 c = (
  c.if-n-gt-RESULT_LENGTH.false,
  adds_first (tried {blank = replicate 128 0} (sym c.compare-c.ensures.0 ∙ c.if-c.false)
      (length-replicate {A = ℕ} 128 0) c.write_common-n.ensures) c.if-n-gt-RESULT_LENGTH.false c.if-best-eq0.true c.copy_front.ensures.0,
)

pub returns-then-is_sooner : goal.returns-then-is_sooner
returns-then-is_sooner c = (
  c.requires.2,
  adds_old (tried {blank = replicate 128 0} (sym c.compare-c.ensures.0 ∙ c.if-c.false)
      (length-replicate {A = ℕ} 128 0) c.write_common-n.ensures) c.if-n-gt-RESULT_LENGTH.false
      c.if-best-eq0.false
      (sym c.if-is_sooner.true ∙ c.is_sooner.ensures ∙ same_parts c.args.best c.write_common-n.result c.args.out.now c.write_common-n.new.out),
)

pub returns : goal.returns
returns c = (
  c.if-n-gt-RESULT_LENGTH.false,
  adds_new (tried {blank = replicate 128 0} (sym c.compare-c.ensures.0 ∙ c.if-c.false)
      (length-replicate {A = ℕ} 128 0) c.write_common-n.ensures) c.if-n-gt-RESULT_LENGTH.false
      c.if-best-eq0.false
      (sym c.if-is_sooner.false ∙ c.is_sooner.ensures ∙ same_parts c.args.best c.write_common-n.result c.args.out.now c.write_common-n.new.out)
      c.copy_front-2.ensures.0,
)
