use native.Mathlib.Omega.{arith}
use Rattle.unit_plays.proofs.Testing.{script_told}
use Rattle.unit_plays.proofs.script_tested.Goals as goal

pub returns : goal.returns
returns c =
    λ s a. script_told c.args.table.now _ c.mark_lists.new.marks c.args.script.now c.args.c.types c.args.c.isos c.args.units a.file c.script_fault.result
    (c.prepare.ensures s a (omega arith)) c.mark_lists.ensures c.script_fault.ensures
