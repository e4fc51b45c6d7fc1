use mathlib.Core.Path.{refl}
use Rattle.list_targets.proofs.Sending.{setting_ran}
use Rattle.list_targets.proofs.run_setting.Goals as goal

pub returns : goal.returns
returns c =
    λ rs o run low long short room.
    setting_ran run low c.args.budget c.iso_cell.result c.unrank_at-n.result _ _ _ c.iso_cell.ensures c.unrank_at-n.ensures refl c.front.ensures
    (c.run_checked.ensures rs run.prepared long short room).0
