use Prim.Native.Nat.{◌≤◌, ◌<◌}
use mathlib.Core.Path.{◌≡◌}
use lib.ListN.{drop}
use Rattle.run_index.specs.Index.{index_length}
use Rattle.run_index.proofs.Indexing.{Indexing}
use Rattle.run_index.proofs.index_isos.Given as goal

abbrev pub invariant-loop-n : goal.invariant-loop-n
invariant-loop-n l = Indexing l.t l.above l.lines l.isos l.initial.index l.n l.index l.l.first l.l.isos ×
    (l.isos < index_length → (drop index_length l.index ≡ drop index_length l.initial.index) × (l.l.first < index_length) × (l.l.isos ≤ index_length))
