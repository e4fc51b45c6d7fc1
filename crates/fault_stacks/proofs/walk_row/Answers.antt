use Rattle.fault_stacks.proofs.Walking.{types_on, row_on, row_none, walked_dead}
use borrow.Author.Rules.{rules}
use Rattle.fault_stacks.proofs.walk_row.Goals as goal

pub loop-c-init : goal.loop-c-init
loop-c-init c =
    record {
      types = types_on c.args.t.now c.args.w.now c.args.ts.now c.args.i (search rules);
      row =
          row_on c.args.t.now c.args.base c.args.w.now c.args.ps.now c.args.p (search rules);
    }

pub returns-then-top-gt-MAX_NODES : goal.returns-then-top-gt-MAX_NODES
returns-then-top-gt-MAX_NODES c =
    let l = c.loop-c in walked_dead c.args.t.now c.args.base c.args.w.now l.ps l.ts c.args.p c.args.i (row_none l.invariant.row (search rules) (search rules))
