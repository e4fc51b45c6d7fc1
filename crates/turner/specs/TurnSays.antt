-- Turn's contract: number, line, length, table, work area and output area are what the model's Turn gives.
use Rattle.std.specs.Prelude.{ℕ, ◌≡◌, List}
use Rattle.model.specs.Services.{turn}
use Rattle.format.specs.Code.{refusal_view, number_of}
use Rattle.turner.specs.declared.Turned as T

-- t, w and o are the areas at entry, t', w' and o' at exit
pub record TurnSays (file t w o t' w' o' : List ℕ) (r : T.Turned) : Type 0 where
  pub refusal : refusal_view r.answer.refusal ≡ (turn file t w o).refusal
  pub number : number_of r.answer.refusal ≡ (turn file t w o).answer.number
  pub line : r.answer.place ≡ (turn file t w o).answer.line
  pub bytes : r.length ≡ (turn file t w o).length
  pub table : t' ≡ (turn file t w o).table
  pub work : w' ≡ (turn file t w o).work
  pub output : o' ≡ (turn file t w o).output
