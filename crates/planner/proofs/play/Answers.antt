use Rattle.planner.proofs.Playing.{play_says}
use Rattle.planner.proofs.play.Goals as goal

pub returns : goal.returns
returns c =
    play_says c.args.file.now c.args.table.now c.args.work.now c.args.lines.now c.args.settings.now c.args.script.now c.args.budget c.args.tally.now c.play_marked-p.result
    c.play_marked-p.ensures c.count_visits.ensures
