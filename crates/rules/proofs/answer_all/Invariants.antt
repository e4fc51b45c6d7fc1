use Rattle.rules.specs.Running.{Ready}
use Rattle.rules.proofs.Going.{Lengths}
use Rattle.rules.proofs.answer_all.Given as goal

abbrev pub invariant-loop-turn : goal.invariant-loop-turn
invariant-loop-turn l =
    Lengths l.initial.file l.initial.line l.initial.table l.initial.work l.initial.index l.initial.out l.file l.line l.table l.work l.index l.out
    × Ready l.desk l.file l.line l.table l.work l.index l.out
