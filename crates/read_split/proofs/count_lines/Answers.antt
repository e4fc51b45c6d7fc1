use native.Mathlib.Omega.{arith}
use Rattle.read_split.proofs.Splitting.{counted_closed, counted_open}
use Rattle.read_split.proofs.count_lines.Goals as goal

pub overflow_add-result : goal.overflow_add-result
overflow_add-result c =
    let l = (counted_open c.args.s.now (λ z. omega arith) c.count_feeds-feeds.ensures (λ e. omega arith)).1 in
    omega arith

pub returns-in_default : goal.returns-in_default
returns-in_default c = (counted_open c.args.s.now (λ z. omega arith) c.count_feeds-feeds.ensures (λ e. omega arith)).0

pub returns-in-empty-2 : goal.returns-in-empty-2
returns-in-empty-2 c = counted_closed c.args.s.now (λ z. omega arith) c.count_feeds-feeds.ensures (omega arith)
