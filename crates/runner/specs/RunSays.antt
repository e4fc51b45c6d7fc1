-- Run's contracts: on a checked table, and as a service.
use Rattle.std.specs.Prelude.{ℕ, ◌≤◌, ◌≡◌, Bool, List, length, drop}
use Rattle.limits.specs.Limits.{run_room, work_length, result_length}
use Rattle.format.specs.Lines.{Row}
use Rattle.format.specs.Unfold.{isos_of}
use Rattle.model.specs.Services.{RunAnswer, answer_of_run, toward, run_rows, written, run_service}
use Rattle.format.specs.Code.{refusal_view, number_of}
use Rattle.model.specs.Answers.{GoodRows}
use Rattle.checker.specs.CheckSays.{Accepted}
use Rattle.checker.specs.declared.Checked as C
use Rattle.run_coding.specs.Coded.{Coded}
use Rattle.run_index.specs.Index.{index_length, isos_at}
use Rattle.runner.specs.declared.run.Ran as R

-- what a run on a checked table assumes of it: it holds an accepted file's rows, the index says where its isos and clauses begin, and behind it
-- stand flat patterns
pub record Prepared (t : List ℕ) (base : ℕ) (index : List ℕ) (isos : ℕ) (rs : List Row) : Type 0 where
  pub good : GoodRows rs
  pub indexed : isos_of rs ≡ isos_at t base index 0 isos
  pub count : isos ≡ length (isos_of rs)
  pub coded : Coded t base (drop index_length index)

-- the model's answer for the file's rows
abbrev pub answer_for : List Row → ℕ → Bool → ℕ → List ℕ → RunAnswer
answer_for rs i back budget value = answer_of_run (run_rows (toward back rs) i budget value)

-- what it gives: refusal, number, count, length and every byte of the result area
pub record RanAs (a : RunAnswer) (o o' : List ℕ) (r : R.Ran) : Type 0 where
  pub refusal : refusal_view r.refusal ≡ a.refusal
  pub number : number_of r.refusal ≡ a.number
  pub count : r.count ≡ a.count
  pub bytes : r.length ≡ length a.letters
  pub result : o' ≡ written a.letters o

-- ---- contracts on a checked table

-- what holds where n bytes are the room of a run: a frame for each of 40 calls nested, and no more than the lent work area has
abbrev pub InRoom : ℕ → Type 0 → Type 0
InRoom n P = run_room ≤ n → n ≤ work_length → P

-- what holds of the rows of whatever file the table is prepared for, where the work area is the room of a run
abbrev pub OnChecked : List ℕ → ℕ → List ℕ → ℕ → List ℕ → (List Row → Type 0) → Type 0
OnChecked t base index isos work P = (rs : List Row) → Prepared t base index isos rs → InRoom (length work) (P rs)

-- the same of an accepted file's rows, as its check left them in the table, in a work area's first n bytes
abbrev pub OnAccepted : List ℕ → C.Checked → ℕ → (List Row → Type 0) → Type 0
OnAccepted t c n P = (s : List ℕ) (a : Accepted s t c) → InRoom n (P a.file)

-- the table of an accepted file is prepared by its index
abbrev pub Prepares : List ℕ → C.Checked → List ℕ → List ℕ → Type 0
Prepares t c index index' =
    (s : List ℕ) (a : Accepted s t c) → index_length ≤ length index → Prepared t c.types index' c.isos a.file

-- a result area with room for a value gets this answer
abbrev pub RanInto : RunAnswer → List ℕ → List ℕ → R.Ran → Type 0
RanInto a o o' r = result_length ≤ length o → RanAs a o o' r

-- and all of the work area behind the frames is as it was
abbrev pub RanWithin : RunAnswer → List ℕ → List ℕ → List ℕ → List ℕ → R.Ran → Type 0
RanWithin a work work' o o' r = result_length ≤ length o → RanAs a o o' r × (drop run_room work' ≡ drop run_room work)

-- the service; t, w and o are the areas at entry, t', w' and o' at exit
pub record RunSays (file t w : List ℕ) (i : ℕ) (back : Bool) (budget : ℕ) (value o t' w' o' : List ℕ) (r : R.Ran) : Type 0 where
  pub refusal : refusal_view r.refusal ≡ (run_service file t w i back budget value o).refusal
  pub number : number_of r.refusal ≡ (run_service file t w i back budget value o).number
  pub count : r.count ≡ (run_service file t w i back budget value o).count
  pub bytes : r.length ≡ (run_service file t w i back budget value o).length
  pub table : t' ≡ (run_service file t w i back budget value o).table
  pub work : w' ≡ (run_service file t w i back budget value o).work
  pub result : o' ≡ (run_service file t w i back budget value o).result
