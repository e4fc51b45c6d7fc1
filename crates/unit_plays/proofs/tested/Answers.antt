use lib.ListN.{length}
use Rattle.format.specs.Unfold.{isos_of}
use Rattle.unit_plays.specs.Playing.{script_fault}
use Rattle.unit_plays.proofs.Testing.{first_fault, second_fault}
use Rattle.unit_plays.proofs.tested.Goals as goal

pub returns-then-is_refused : goal.returns-then-is_refused
returns-then-is_refused c =
    λ s a e. first_fault (c.units_fault-f.ensures _ _ _ a.table e) c.is_refused.ensures (script_fault (length c.args.lines.now) (isos_of a.file) c.args.script.now) c.if-is_refused.true

pub returns : goal.returns
returns c =
    λ s a e. second_fault (c.units_fault-f.ensures _ _ _ a.table e) c.is_refused.ensures (script_fault (length c.args.lines.now) (isos_of a.file) c.args.script.now) c.if-is_refused.false
    (c.script_tested.ensures s a)
