use lib.ListN.{length}
use Prim.Native.Nat.{◌-◌}
use borrow.Rule.Slice.PartMut.{same_len_mid}
use Rattle.runner.proofs.Parting.{coded_behind}
use native.Mathlib.Omega.{arith}
use mathlib.Core.Path.{refl}
use mathlib.Core.Logic.{inl, inr}
use Rattle.runner.proofs.Running.{prepared, unprepared, isos_within}
use Rattle.runner.proofs.run.prepare.Goals as goal

pub returns-then-types-gt-MAX_LINES : goal.returns-then-types-gt-MAX_LINES
returns-then-types-gt-MAX_LINES c = λ s a h. unprepared a (inl c.if-types-gt-MAX_LINES.true)

pub returns-then-patterns-gt-MAX_LINES : goal.returns-then-patterns-gt-MAX_LINES
returns-then-patterns-gt-MAX_LINES c = λ s a h. unprepared a (inr c.if-patterns-gt-MAX_LINES.true)

pub returns : goal.returns
returns c =
    λ s a h. let k = same_len_mid 4162 (length c.args.index.now - 4162) c.args.index.now c.code_patterns.new.code c.code_patterns.auto.code in prepared a
    (c.index_isos.ensures.isos_indexed a.file _ _ a.table refl a.isos (omega (arith, k, h)))
    (coded_behind c.args.table.now c.args.c.types c.args.index.now c.code_patterns.new.code c.index_isos.new.index c.code_patterns.ensures h
    (c.index_isos.ensures.index_unchanged (isos_within a)))
