use mathlib.Core.Path.{refl}
use Rattle.check_isos.proofs.Collecting.{head_small, starts_few}
use native.Mathlib.Omega.{arith}
use Rattle.check_isos.proofs.isos_fault.Goals as goal

pub returns-then-types-gt-MAX_LINES : goal.returns-then-types-gt-MAX_LINES
returns-then-types-gt-MAX_LINES c = ((λ rs f. absurd (omega (arith, head_small f))), (λ e. c.none.ensures.1))

pub returns-then-patterns-gt-MAX_LINES : goal.returns-then-patterns-gt-MAX_LINES
returns-then-patterns-gt-MAX_LINES c = ((λ rs f. absurd (omega (arith, head_small f))), (λ e. c.none-then-patterns-gt-MAX_LINES.ensures.1))

pub returns-then-count-gt-MAX_ISOS : goal.returns-then-count-gt-MAX_ISOS
returns-then-count-gt-MAX_ISOS c = ((λ rs f. absurd (omega (arith, starts_few f (c.iso_rows-s.ensures rs _ _ f refl)))), (λ e. c.none-then-count-gt-MAX_ISOS.ensures.1))
