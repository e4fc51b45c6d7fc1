-- What a query's reading means: the fields, and the letters by their places in the line.
use Rattle.std.specs.Prelude.{ℕ, ◌≤◌, List, [], ◌∷◌, eqb, length, get_or}
use Rattle.std.specs.Prelude as P
use Rattle.std.specs.Prelude.{Some, None}
use Rattle.std.proofs.Math.Option.{Option, none, some}
use Rattle.std.proofs.Math.Seq.{slice}
use Rattle.limits.specs.Limits.{field_bound, budget_bound, comma}
use Rattle.calculus.specs.Tools.{◌>>=◌}
use Rattle.format.specs.Lines.{skip, fields}
use Rattle.model.specs.Desk.{Query}
use Rattle.query_lines.specs.declared.Query as Q

-- the query that a struct stands for, of this line
abbrev pub query_view : List ℕ → Q.Query → Query
query_view s q = record { iso = q.iso; back = q.back; budget = q.budget; letters = slice q.from q.to s }

-- the query in a line, or nothing
abbrev pub as_query : List ℕ → P.Option Q.Query → Option Query
as_query s (Some q) = some (query_view s q)
as_query s None = none

-- the letters end within some bytes
abbrev pub Within : List ℕ → P.Option Q.Query → Type 0
Within s (Some q) = q.to ≤ length s
Within s None = Unit {0}

-- the query of three numbers and of the bytes behind its fourth comma
abbrev pub with_letters : ℕ → ℕ → ℕ → List ℕ → Option Query
with_letters iso direction budget ls = some (record { iso = iso; back = eqb direction 1; budget = budget; letters = ls })

-- the query of the bytes behind its letter
abbrev pub behind_letter : List ℕ → Option Query
behind_letter bs =
    fields (field_bound ∷ 2 ∷ budget_bound ∷ []) bs >>= λ r.
    skip comma r.1 >>= λ cs.
    with_letters (get_or r.0 0 0) (get_or r.0 1 0) (get_or r.0 2 0) cs
