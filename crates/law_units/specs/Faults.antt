-- The refusals of a play, each a judgement in the request's words, in their order: 1, 2, Check's own, then "the units in order and then the script".
use Rattle.std.specs.Prelude.{ℕ, ◌≤◌, ◌<◌, ◌≡◌, ◌⊎◌, cond, List, [], ◌∷◌, ◌++◌, length, get_or}
use Rattle.limits.specs.Limits.{field_bound, table_length, work_length, max_lines, max_units, line_feed, carriage_return, letter_s}
use Rattle.calculus.specs.Trees.{Ty, Iso}
use Rattle.calculus.specs.Refusals.{Refusal, number, too_many, too_high, bad_script}
use Rattle.calculus.specs.Paper.{FileOk}
use Rattle.calculus.specs.Lists.{ListFree}
use Rattle.format.specs.Lines.{Row, lines, print_field}
use Rattle.format.specs.Unfold.{isos_of}
use Rattle.model.specs.Services.{check}
use Rattle.model.specs.Answers.{InForm}
use Rattle.law_ranking.specs.Numbering.{count}
use Rattle.law_ranking.specs.Answers.{LineFault, LineOf}
use Rattle.law_units.specs.Units.{Planned, Units, Holds}

-- ---- the script

-- `S,unit,iso,direction`, its numbers written as the file's are, the direction 0 or 1
abbrev pub visit_text : Planned → List ℕ
visit_text p = letter_s ∷ (print_field p.unit ++ (print_field p.iso ++ print_field (cond p.back 1 0)))

-- a line of that form, with either ending
pub record VisitLine (l : List ℕ) (p : Planned) : Type 0 where
  pub unit : p.unit < field_bound
  pub iso : p.iso < field_bound
  pub ended : (l ≡ visit_text p ++ (line_feed ∷ [])) ⊎ (l ≡ visit_text p ++ (carriage_return ∷ line_feed ∷ []))

-- "22 "bad script", a line of another form or naming an absent unit or iso"
pub data BadLine (units isos : ℕ) (l : List ℕ) : Type 0 where
  form : ((p : Planned) → VisitLine l p → ⊥) → BadLine units isos l
  unit : (p : Planned) → VisitLine l p → units ≤ p.unit → BadLine units isos l
  iso : (p : Planned) → VisitLine l p → isos ≤ p.iso → BadLine units isos l

-- a line that is none of these: a visit to a unit and by an iso that are there
pub record Names (units isos : ℕ) (l : List ℕ) (p : Planned) : Type 0 where
  pub line : VisitLine l p
  pub unit : p.unit < units
  pub iso : p.iso < isos

-- "refuse 18 where … a type of the iso or of one it calls, holds a list; a script is tested line by line, on each 22 before 18" (request 14)
pub data ScriptLine (units : ℕ) (os : List Iso) (l : List ℕ) : Refusal → Type 0 where
  bad : BadLine units (length os) l → ScriptLine units os l bad_script
  lists : (p : Planned) → Names units (length os) l p → (ListFree os p.iso → ⊥) → ScriptLine units os l too_many

-- a line that passes
pub record Passing (units : ℕ) (os : List Iso) (l : List ℕ) : Type 0 where
  pub planned : Planned
  pub names : Names units (length os) l planned
  pub free : ListFree os planned.iso

-- the first line at fault, all before it passing
pub data FirstLine (units : ℕ) (os : List Iso) : List (List ℕ) → Refusal → Type 0 where
  here : {l : List ℕ} {ls : List (List ℕ)} {f : Refusal} → ScriptLine units os l f → FirstLine units os (l ∷ ls) f
  later : {l : List ℕ} {ls : List (List ℕ)} {f : Refusal} → Passing units os l → FirstLine units os ls f → FirstLine units os (l ∷ ls) f

-- ---- the units

-- "A starting unit with an absent T line is 15, a type too big to number 18, a number too high 19"
pub data UnitFault (rs : List Row) (i n : ℕ) : Refusal → Type 0 where
  line : (f : Refusal) → LineFault rs i f → UnitFault rs i n f
  high : (a : Ty) → LineOf rs i a → count a ≤ n → UnitFault rs i n too_high

-- "the units in order": the first unit at fault, all before it passing
pub data FirstUnit (rs : List Row) : List ℕ → List ℕ → Refusal → Type 0 where
  here : {i n : ℕ} {is ns : List ℕ} {f : Refusal} → UnitFault rs i n f → FirstUnit rs (i ∷ is) (n ∷ ns) f
  later : {i n : ℕ} {is ns : List ℕ} {f : Refusal} → Holds rs i n → FirstUnit rs is ns f → FirstUnit rs (i ∷ is) (n ∷ ns) f

-- ---- the call

-- areas of the stated lengths, those of the units equally long
pub record Room (t w : List ℕ) (us : Units) : Type 0 where
  pub table : table_length ≤ length t
  pub work : work_length ≤ length w
  pub equal : length us.types ≡ length us.settings

-- neither over 1,000 units nor over 4,096 lines
pub record Few (us : Units) (script : List ℕ) : Type 0 where
  pub units : length us.types ≤ max_units
  pub visits : length (lines script) ≤ max_lines

-- number and line of a refusal: each where no earlier one is
pub data PlayFault (file t w : List ℕ) (us : Units) (script : List ℕ) : ℕ → ℕ → Type 0 where
  area : (Room t w us → ⊥) → PlayFault file t w us script 1 0
  long : Room t w us → (max_units < length us.types) ⊎ (max_lines < length (lines script)) → PlayFault file t w us script 2 0
  file : (n m : ℕ) → Room t w us → Few us script → 0 < n → (check file t w).answer ≡ record { number = n; line = m } → PlayFault file t w us script n m
  unit : (rs : List Row) (f : Refusal) → Room t w us → Few us script → InForm file rs → FileOk (isos_of rs) → FirstUnit rs us.types us.settings f
      → PlayFault file t w us script (number f) 0
  script : (rs : List Row) (f : Refusal) → Room t w us → Few us script → InForm file rs → FileOk (isos_of rs)
      → ((k : ℕ) → k < length us.types → Holds rs (get_or us.types k 0) (get_or us.settings k 0))
      → FirstLine (length us.types) (isos_of rs) (lines script) f → PlayFault file t w us script (number f) 0
