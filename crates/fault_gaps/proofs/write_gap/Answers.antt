use Rattle.fault_gaps.proofs.Writing.{writing_next, never_out, never_written}
use Rattle.table_walks.specs.InTable.{patterns_at}
use Rattle.fault_gaps.specs.Gaps.{Picks}
use Rattle.table_trees.specs.Unfolding.{type_of}
use lib.ListN.{get_or, set, take}
use mathlib.Core.Path.{◌≡◌, subst}
use native.Mathlib.Omega.{arith}
use Prim.Native.Nat.{◌+◌, ◌-◌}
use borrow.Author.Rules.{rules}
use Rattle.fault_gaps.proofs.write_gap.Goals as goal

pub returns-then-top-gt-MAX_NODES : goal.returns-then-top-gt-MAX_NODES
returns-then-top-gt-MAX_NODES c = never_written c.args.out.now c.loop-m.out (never_out c.loop-m.invariant (search rules) c.requires.1 (search rules))

pub loop-m-preserved : goal.loop-m-preserved
loop-m-preserved c =
    let e : c.loop-m.m + 1 - 0 ≡ c.loop-m.m + 1 = omega arith in
    writing_next c.loop-m.invariant (search rules) c.requires.1 c.first_letter.ensures (search rules) c.requires.0 (search rules) c.step_types-top.ensures
    (subst (λ z. Picks (type_of c.args.t.now c.args.i) (patterns_at c.args.t.now c.args.base c.args.f c.args.rows.now)
    (take z (set c.loop-m.out c.loop-m.m c.first_letter.result))
    (type_of c.args.t.now (get_or c.loop-m.ts c.loop-m.top 0)) (c.args.n - c.loop-m.m - 1) c.letter-c.result) e c.letter-c.ensures)
