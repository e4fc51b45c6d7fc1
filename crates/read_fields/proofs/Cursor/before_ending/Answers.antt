use native.Mathlib.Omega.{arith}
use Rattle.read_fields.proofs.Bytes.{no_feed, both_last, feed_last}
use Rattle.read_fields.proofs.Cursor.before_ending.Goals as goal

pub returns-in_default-2 : goal.returns-in_default-2
returns-in_default-2 c = no_feed c.args.s.now (λ z. omega arith) (λ e. omega arith)

pub returns-in-13 : goal.returns-in-13
returns-in-13 c = both_last c.args.s.now c.in-10.len_at_least (omega arith) c.in-13.len_at_least (omega arith)

pub returns-in_default-line-2 : goal.returns-in_default-line-2
returns-in_default-line-2 c = feed_last c.args.s.now c.in-10.len_at_least (omega arith) c.in_default-line.len_at_least (λ e. omega arith)
