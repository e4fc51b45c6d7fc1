use native.Mathlib.Omega.{arith}
use Rattle.list_targets.proofs.Sending.{to_spent, to_stored}
use Rattle.list_targets.proofs.find_to.Goals as goal

pub returns-then-is_refused : goal.returns-then-is_refused
returns-then-is_refused c =
    λ rs o run low long short.
    to_spent run low c.args.budget c.run_setting-r.result (c.run_setting-r.ensures rs o run low long short (omega arith)) c.is_refused.ensures c.if-is_refused.true c.args.tos.now

pub returns : goal.returns
returns c =
    λ rs o run low long short.
    to_stored run low c.args.budget c.run_setting-r.result (c.run_setting-r.ensures rs o run low long short (omega arith)) c.is_refused.ensures c.if-is_refused.false
    c.iso_cell.result c.rank_at-x.result.number c.rank_at-x.result.end c.iso_cell.ensures c.rank_at-x.ensures c.narrow.ensures c.store.ensures
