-- The contract of a whole sheet: refusal, number, line, how many queries, and every lent area are what the model's sheet gives.
use Rattle.std.specs.Prelude.{ℕ, ◌≡◌, List}
use Rattle.model.specs.Sheet.{sheet}
use Rattle.format.specs.Code.{refusal_view, number_of}
use Rattle.sheets.specs.declared.Answered as S

-- t, w, n and o are the areas at entry, t', w', n' and o' at exit
pub record SheetSays (file t w queries n o t' w' n' o' : List ℕ) (r : S.Answered) : Type 0 where
  pub refusal : refusal_view r.answer.refusal ≡ (sheet file t w queries n o).refusal
  pub number : number_of r.answer.refusal ≡ (sheet file t w queries n o).answer.number
  pub line : r.answer.place ≡ (sheet file t w queries n o).answer.line
  pub answered : r.queries ≡ (sheet file t w queries n o).queries
  pub table : t' ≡ (sheet file t w queries n o).table
  pub work : w' ≡ (sheet file t w queries n o).work
  pub numbers : n' ≡ (sheet file t w queries n o).numbers
  pub letters : o' ≡ (sheet file t w queries n o).letters
