-- A refusal and its line, or none; and the refusal of a clause in a table.
use Rattle.std.specs.Prelude.{ℕ, ◌<◌, ◌≡◌, List, get_or}
use Rattle.limits.specs.Limits.{max_lines}
use Rattle.std.proofs.Math.Option.{Option}
use Rattle.calculus.specs.Refusals.{Refusal}
use Rattle.calculus.specs.Clauses.{at, clause_fault}
use Rattle.format.specs.Code.{refusal_view}
use Rattle.format.specs.declared.Answer as A
use Rattle.table_trees.specs.Unfolding.{cell_of, type_of}
use Rattle.table_walks.specs.InTable.{clause_in, sigs_in}
use Rattle.check_typing.specs.Rules.{Slotted}

abbrev pub as_fault : A.Answer → Option (Refusal × ℕ)
as_fault a = at a.place (refusal_view a.refusal)

-- the refusal o of the clause in row n, its L lines before row `below`, in the iso whose I line is at place `own` of `starts`
pub record OwnFault (t : List ℕ) (base : ℕ) (starts : List ℕ) (own n below : ℕ) (o : Option Refusal) : Type 0 where
  pub same : n < max_lines → Slotted (clause_in t base n below)
      → o
      ≡ clause_fault (sigs_in t starts) (type_of t (cell_of t (get_or starts own 0) 1)) (type_of t (cell_of t (get_or starts own 0) 2)) (clause_in t base n below)
