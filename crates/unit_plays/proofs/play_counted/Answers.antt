use mathlib.Core.Path.{refl}
use native.Mathlib.Omega.{arith}
use Rattle.unit_plays.proofs.Whole.{into_refused, read, into_played}
use Rattle.unit_plays.proofs.play_counted.Goals as goal

pub returns-then-is_refused : goal.returns-then-is_refused
returns-then-is_refused c =
    λ s a e few z. into_refused a c.args.script.now c.args.budget c.args.lines.now c.args.settings.now e few c.args.work.now (c.tested-f.ensures s a e) c.is_refused.ensures c.if-is_refused.true

pub returns : goal.returns
returns c =
    λ s a e few z.
    let y = c.tested-f.ensures s a e in
    let d = read a c.args.script.now c.args.budget c.args.lines.now c.args.settings.now e few c.tested-f.result y c.is_refused.ensures c.if-is_refused.false in
    into_played a c.args.script.now c.args.budget c.args.lines.now c.args.settings.now e few c.tested-f.result y c.is_refused.ensures c.if-is_refused.false c.args.work.now c.play_all.new.work
    refl (omega (arith, c.requires, c.play_all.auto.work)) z
    (c.play_all.ensures s a d.0 d.1 (omega arith) (omega arith)) c.clear.ensures
