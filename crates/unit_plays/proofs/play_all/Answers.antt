use native.Mathlib.Omega.{arith}
use Rattle.runner.proofs.Answering.{front_length}
use Rattle.unit_plays.proofs.Whole.{part_played}
use Rattle.unit_plays.proofs.play_all.Goals as goal

pub returns : goal.returns
returns c =
    let n = front_length c.args.room c.args.work.now c.requires.1 in
    λ s₁ a ps r enough most.
    part_played a.file c.args.budget c.args.script.now c.args.lines.now c.args.settings.now ps r c.args.room c.args.work.now c.play_lines.new.work c.requires.1
    c.play_lines.auto.work enough
    (c.play_lines.ensures a.file (record { prepared = c.prepare.ensures s₁ a (omega arith); patterns = c.args.c.patterns; lines = c.args.c.lines; table = a.table }) ps r
    (omega (arith, n, enough)) (omega (arith, n, most)))
