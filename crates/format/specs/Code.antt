-- What the cases of the shared types of src/ mean: the line's kind, the row, the refusal, and document 01's number for each refusal.
use Rattle.std.specs.Prelude.{ℕ, Option as CodeOption, None, Some}
use Rattle.std.proofs.Math.Option.{Option, none, some}
use Rattle.format.specs.declared.Kind as CodeKind
use Rattle.format.specs.declared.Kind.TheVariants as kinds
use Rattle.format.specs.declared.Side as CodeSide
use Rattle.format.specs.declared.Side.TheVariants as sides
use Rattle.format.specs.declared.Refusal as CodeRefusal
use Rattle.format.specs.declared.Refusal.TheVariants as refusals
use Rattle.format.specs.declared.Row as CodeRow
use Rattle.format.specs.declared.Answer as CodeAnswer
use Rattle.calculus.specs.Trees.{Tag, left, right}
use Rattle.calculus.specs.Refusals.{Kind, type_line, pattern_line, iso_line, clause_line, let_line, Refusal, short_area, too_long, bad_line, misplaced, bad_field}
use Rattle.calculus.specs.Refusals.{bad_name, ceiling, variable, let_shape, bad_type, overlap, gap, no_iso, no_value, spent, too_many, too_high, bad_list, idle}
use Rattle.calculus.specs.Refusals.{bad_script, recursion, too_large, number}
use Rattle.format.specs.Lines.{Row}

abbrev pub kind_view : CodeKind.Kind → Kind
kind_view kinds.Type = type_line
kind_view kinds.Pattern = pattern_line
kind_view kinds.Iso = iso_line
kind_view kinds.Clause = clause_line
kind_view kinds.Let = let_line

abbrev pub row_view : CodeRow.Row → Row
row_view r = record { kind = kind_view r.kind; x = r.x; y = r.y; z = r.z }

abbrev pub side_view : CodeSide.Side → Tag
side_view sides.Left = left
side_view sides.Right = right

-- the refusal that a case stands for
abbrev pub fault_view : CodeRefusal.Refusal → Refusal
fault_view refusals.ShortArea = short_area
fault_view refusals.TooLong = too_long
fault_view refusals.BadLine = bad_line
fault_view (refusals.Misplaced k) = misplaced (kind_view k)
fault_view (refusals.BadField k) = bad_field (kind_view k)
fault_view (refusals.BadName k) = bad_name (kind_view k)
fault_view (refusals.Ceiling k) = ceiling (kind_view k)
fault_view (refusals.Variable k) = variable (kind_view k)
fault_view (refusals.LetShape k) = let_shape (kind_view k)
fault_view (refusals.BadType k) = bad_type (kind_view k)
fault_view (refusals.Overlap k s) = overlap (kind_view k) (side_view s)
fault_view (refusals.Gap k s) = gap (kind_view k) (side_view s)
fault_view refusals.NoIso = no_iso
fault_view refusals.NoValue = no_value
fault_view refusals.Spent = spent
fault_view refusals.TooMany = too_many
fault_view refusals.TooHigh = too_high
fault_view refusals.BadList = bad_list
fault_view (refusals.Idle k) = idle (kind_view k)
fault_view refusals.BadScript = bad_script
fault_view (refusals.Recursion k) = recursion (kind_view k)
fault_view refusals.TooLarge = too_large

-- and that of an answer, none where nothing is refused
abbrev pub refusal_view : CodeOption CodeRefusal.Refusal → Option Refusal
refusal_view None = none
refusal_view (Some f) = some (fault_view f)

-- document 01's number, 0 where nothing is refused
abbrev pub numbered : Option Refusal → ℕ
numbered none = 0
numbered (some f) = number f

abbrev pub number_of : CodeOption CodeRefusal.Refusal → ℕ
number_of r = numbered (refusal_view r)
