use mathlib.Core.Path.{refl}
use Rattle.check_idle.proofs.Marking.{walked_root, walked_marked, walked_idle}
use Rattle.check_idle.proofs.with_row.Goals as goal
use Rattle.check_idle.proofs.with_row.Goals.{then-is_root-via-then-is_root, then-is_root-via-else-is_root+then-item_at-eq1}

pub returns-then-is_root : goal.returns-then-is_root
returns-then-is_root c = λ rs patterns lines f h w.
    elim c.then-is_root.branch [
      | then-is_root-via-then-is_root v ↦ walked_root f h w c.cell-letter.ensures.0 c.is_root.ensures v.if-is_root.true (c.name_row.ensures rs patterns lines f)
      | then-is_root-via-else-is_root+then-item_at-eq1 v ↦ walked_marked f h w v.item_at.ensures v.if-item_at-eq1.true (c.name_row.ensures rs patterns lines f)
    ]

pub returns : goal.returns
returns c =
    λ rs patterns lines f h w. walked_idle f h w c.cell-letter.ensures.0 c.is_root.ensures c.if-is_root.false c.item_at.ensures c.if-item_at-eq1.false c.idle.ensures refl
