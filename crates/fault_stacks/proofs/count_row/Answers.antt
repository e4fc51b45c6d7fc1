use native.Mathlib.Omega.{arith}
use Rattle.fault_stacks.proofs.Counting.{row_start, row_step}
use borrow.Author.Rules.{rules}
use Rattle.fault_stacks.proofs.count_row.Goals as goal

pub loop-c-init : goal.loop-c-init
loop-c-init c =
    record {
      lower = search rules;
      upper = omega arith;
      long = search rules;
      holds =
          row_start c.args.t.now c.args.base c.args.ps.now c.args.ts.now c.args.m (search rules) (search rules) c.no_more.ensures;
    }

pub loop-c-preserved : goal.loop-c-preserved
loop-c-preserved c =
    record {
      lower = omega (arith, c.loop-c.invariant.upper);
      upper = omega (arith, c.loop-c.invariant.upper);
      long = search rules;
      holds = row_step c.args.t.now c.args.base c.args.ps.now c.args.ts.now c.loop-c.c (omega arith) (search rules)
          (search rules) c.loop-c.invariant.holds c.count_pattern.ensures;
    }
