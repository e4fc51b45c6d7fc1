use Prim.Native.Nat.{◌+◌, ◌*◌}
use Rattle.check_known.proofs.+fit_apart_fit_deep.Given as goal

abbrev pub decreases-fit_apart : goal.decreases-fit_apart
decreases-fit_apart l = 2 * l.depth

abbrev pub decreases-fit_deep : goal.decreases-fit_deep
decreases-fit_deep l = 2 * l.depth + 1
