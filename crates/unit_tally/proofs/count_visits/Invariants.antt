use Rattle.std.proofs.Common.{◌≡◌, ◌-◌, ◌≤◌}
use Rattle.unit_tally.specs.Count.{emptied, tallied, begun_of}
use Rattle.unit_tally.proofs.count_visits.Given as goal

-- The marks taken so far, and those that are left, are the marks of the call.
abbrev pub invariant-loop-i : goal.invariant-loop-i
invariant-loop-i l =
    record {
      within : l.i ≤ l.n;
      left : emptied (l.n - l.i) l.i l.work ≡ emptied l.n 0 l.fn.work;
      counted : tallied (l.n - l.i) l.i l.work l.tally ≡ tallied l.n 0 l.fn.work (begun_of l.fn.tally l.played);
    }
