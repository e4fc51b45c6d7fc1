-- What the answer about a line means, and the parts of it behind the letter. Rows are read where they stand among the bytes of a file: the row, and the bytes
-- behind its line.
use Rattle.std.specs.Prelude.{ℕ, List, [], ◌∷◌, drop}
use Rattle.std.specs.Prelude as P
use Rattle.std.specs.Prelude.{Some, None}
use Rattle.std.proofs.Math.Option.{Option, none, some}
use Rattle.calculus.specs.Tools.{◌>>=◌}
use Rattle.calculus.specs.Refusals.{Kind}
use Rattle.format.specs.Lines.{Row, kind_of, fields, field_bounds, to_row}
use Rattle.format.specs.Code.{row_view}
use Rattle.format.specs.declared.Row as R
use Rattle.read_fields.specs.declared.Cursor as C
use Rattle.read_fields.specs.Views.{past_ending}

abbrev pub as_line : List ℕ → P.Option (R.Row × C.Cursor) → Option (Row × List ℕ)
as_line s (Some (r, c)) = some (row_view r, drop c.at s)
as_line s None = none

-- the row of a kind and three fields, where the line's ending stands here
abbrev pub closed : Kind → ℕ → ℕ → ℕ → List ℕ → Option (Row × List ℕ)
closed k x y z bs = past_ending bs >>= λ rest. some (record { kind = k; x = x; y = y; z = z }, rest)

-- the row of a kind and of the bytes behind its letter
abbrev pub behind_letter : Kind → List ℕ → Option (Row × List ℕ)
behind_letter k bs = fields (field_bounds k) bs >>= λ r. past_ending r.1 >>= λ rest. some (to_row k r.0, rest)

-- the row of the first line of some bytes, and the bytes behind that line
abbrev pub row_from : List ℕ → Option (Row × List ℕ)
row_from [] = none
row_from (b ∷ bs) = kind_of b >>= λ k. behind_letter k bs
