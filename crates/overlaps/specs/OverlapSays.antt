-- The contracts of the overlap of two P lines: on a checked table, and as a service.
use Rattle.std.specs.Prelude.{ℕ, ◌≡◌, List}
use Rattle.format.specs.Code.{refusal_view, number_of}
use Rattle.model.specs.Services.{Outcome, refusal_of}
use Rattle.check_overlap.specs.Comparison.{Compared}
use Rattle.check_overlap.specs.Overlap.{clash_of, pairs_of, overlap_service}
use Rattle.overlaps.specs.declared.Overlapped as O

-- all that is answered, as an outcome says, at no line
pub record OverlapAs (x : Outcome Compared) (r : O.Overlapped) : Type 0 where
  pub refusal : refusal_view r.answer.refusal ≡ refusal_of x
  pub line : r.answer.place ≡ 0
  pub clash : r.clash ≡ clash_of x
  pub pairs : r.pairs ≡ pairs_of x

-- the service; t and w are the areas at entry, t' and w' at exit
pub record OverlapSays (file t w : List ℕ) (i j : ℕ) (t' w' : List ℕ) (r : O.Overlapped) : Type 0 where
  pub refusal : refusal_view r.answer.refusal ≡ (overlap_service file t w i j).refusal
  pub number : number_of r.answer.refusal ≡ (overlap_service file t w i j).number
  pub line : r.answer.place ≡ (overlap_service file t w i j).line
  pub clash : r.clash ≡ (overlap_service file t w i j).clash
  pub pairs : r.pairs ≡ (overlap_service file t w i j).pairs
  pub table : t' ≡ (overlap_service file t w i j).table
  pub work : w' ≡ (overlap_service file t w i j).work
