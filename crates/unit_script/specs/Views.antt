-- What the readings of a script's line mean.
use Rattle.std.specs.Prelude.{Option as CodeOption, ℕ, ◌<◌, ◌≡◌, List, [], ◌∷◌, eqb, length, get_or}
use Rattle.std.specs.Prelude as O
use Rattle.std.specs.Prelude.{Some, None}
use Rattle.std.proofs.Math.Option.{Option, none, some}
use Rattle.limits.specs.Limits.{field_bound}
use Rattle.calculus.specs.Tools.{◌>>=◌}
use Rattle.calculus.specs.Trees.{Iso}
use Rattle.calculus.specs.Lists.{is_free}
use Rattle.format.specs.Lines.{lines, fields, ended}
use Rattle.format.specs.Code.{refusal_view}
use Rattle.format.specs.declared.Refusal as F
use Rattle.model.specs.Services.{refusal_of}
use Rattle.law_units.specs.Units.{Planned, line_on, script_of}
use Rattle.unit_script.specs.declared.Planned as P

-- the visit that a struct stands for
abbrev pub planned_view : P.Planned → Planned
planned_view p = record { unit = p.unit; iso = p.iso; back = p.back }

abbrev pub as_planned : O.Option P.Planned → Option Planned
as_planned (Some p) = some (planned_view p)
as_planned None = none

-- the visit of the bytes behind its letter
abbrev pub behind_letter : List ℕ → Option Planned
behind_letter bs =
    fields (field_bound ∷ field_bound ∷ 2 ∷ []) bs >>= λ r.
    ended r.1 >>= λ _.
    some (record { unit = get_or r.0 0 0; iso = get_or r.0 1 0; back = eqb (get_or r.0 2 0) 1 })

-- the marks of isos that have to do with lists: each other has 0
abbrev pub Marked : List Iso → List ℕ → Type 0
Marked os ms = (i : ℕ) → i < length os → eqb (get_or ms i 0) 0 ≡ is_free os i

-- the refusal of a line …
abbrev pub LineTold : ℕ → ℕ → List ℕ → List ℕ → CodeOption F.Refusal → Type 0
LineTold units isos ms l r = (os : List Iso) → isos ≡ length os → Marked os ms → refusal_view r ≡ refusal_of (line_on units os l)

-- … and of a script
abbrev pub ScriptTold : ℕ → ℕ → List ℕ → List ℕ → CodeOption F.Refusal → Type 0
ScriptTold units isos ms s r = (os : List Iso) → isos ≡ length os → Marked os ms → refusal_view r ≡ refusal_of (script_of units os (lines s))
