-- The contracts of the bounds: on a checked table, and as a service.
use Rattle.std.specs.Prelude.{ℕ, ◌≡◌, List}
use Rattle.format.specs.Code.{refusal_view, number_of}
use Rattle.model.specs.Services.{Outcome, refusal_of}
use Rattle.law_costs.specs.Bounds.{Bounds, bounds_from, bounds_service}
use Rattle.bounds.specs.declared.Bounded as B

pub record Told (b : Bounds) (r : B.Bounded) : Type 0 where
  pub number : number_of r.refusal ≡ b.number
  pub least : r.least ≡ b.least
  pub greatest : r.greatest ≡ b.greatest
  pub least_over : r.least_over ≡ b.least_over
  pub greatest_over : r.greatest_over ≡ b.greatest_over

-- refusal and bounds as an outcome says
pub record ToldOf (x : Outcome (ℕ × ℕ)) (r : B.Bounded) : Type 0 where
  pub refusal : refusal_view r.refusal ≡ refusal_of x
  pub told : Told (bounds_from x) r

-- the service; t and w are the areas at entry, t' and w' at exit
pub record BoundsSays (file t w : List ℕ) (i : ℕ) (t' w' : List ℕ) (r : B.Bounded) : Type 0 where
  pub refusal : refusal_view r.refusal ≡ (bounds_service file t w i).refusal
  pub told : Told (bounds_service file t w i).bounds r
  pub table : t' ≡ (bounds_service file t w i).table
  pub work : w' ≡ (bounds_service file t w i).work
