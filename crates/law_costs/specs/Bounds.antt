-- Request 05: what the service answers for any bytes, areas and iso number, and what every lent area then holds.
use Rattle.std.specs.Prelude.{ℕ, min, Bool, false, cond, List, ltb, get_or}
use Rattle.std.proofs.Math.Option.{Option, none, some}
use Rattle.std.proofs.Math.ListN.{get_elem?}
use Rattle.limits.specs.Limits.{max_count}
use Rattle.calculus.specs.Trees.{Iso}
use Rattle.calculus.specs.Refusals.{Refusal, number, no_iso, too_many}
use Rattle.calculus.specs.Lists.{free_isos, is_free}
use Rattle.format.specs.Lines.{Row}
use Rattle.format.specs.Unfold.{isos_of}
use Rattle.model.specs.Services.{Verdict, verdict, short, Outcome, gives, fails, go_on, refusal_of, Served, serve}
use Rattle.law_costs.specs.Costs.{least_costs, greatest_costs}

-- "Both stop at 4,294,967,295"
abbrev pub stopped : ℕ → ℕ
stopped n = min n max_count

-- "and a flag for each says when the number so reckoned is above that"
abbrev pub over : ℕ → Bool
over n = ltb max_count n

pub record Bounds : Type 0 where
  pub number : ℕ
  pub least : ℕ
  pub greatest : ℕ
  pub least_over : Bool
  pub greatest_over : Bool

-- "a refusal gives 0 for both, unflagged"
abbrev pub no_bounds : Refusal → Bounds
no_bounds f = record { number = number f; least = 0; greatest = 0; least_over = false; greatest_over = false }

-- the answer where l and g are the numbers reckoned
abbrev pub told : ℕ → ℕ → Bounds
told l g = record { number = 0; least = stopped l; greatest = stopped g; least_over = over l; greatest_over = over g }

abbrev pub bounds_from : Outcome (ℕ × ℕ) → Bounds
bounds_from (gives r) = told r.0 r.1
bounds_from (fails f) = no_bounds f

-- "for a given iso (15 if absent)"; 18 where a type of it, or of one that it reaches, holds a list (request 14)
abbrev pub on_iso : List Iso → ℕ → Option Iso → Outcome (ℕ × ℕ)
on_iso os i none = fails no_iso
on_iso os i (some o) = cond (is_free os i) (gives (get_or (least_costs os) i 0, get_or (greatest_costs os) i 0)) (fails too_many)

abbrev pub bounds_rows : ℕ → List Row → Outcome (ℕ × ℕ)
bounds_rows i rs = on_iso (isos_of rs) i (get_elem? (isos_of rs) i)

abbrev pub bounds_of : Verdict → ℕ → Bounds
bounds_of v i = bounds_from (go_on v (bounds_rows i))

unfoldable pub bounds : List ℕ → ℕ → Bounds
unfolding verdict isos_of least_costs greatest_costs free_isos
bounds file i = bounds_of (verdict file) i

-- the service
pub record BoundsResult : Type 0 where
  pub refusal : Option Refusal
  pub bounds : Bounds
  pub table : List ℕ
  pub work : List ℕ

abbrev pub bounds_by : Served (ℕ × ℕ) → BoundsResult
bounds_by s = record { refusal = refusal_of s.outcome; bounds = bounds_from s.outcome; table = s.table; work = s.work }

abbrev pub bounds_served : List ℕ → List ℕ → List ℕ → ℕ → Served (ℕ × ℕ)
bounds_served file table work i = serve (short table work) (verdict file) (bounds_rows i) table work

unfoldable pub bounds_service : List ℕ → List ℕ → List ℕ → ℕ → BoundsResult
unfolding bounds
bounds_service file table work i = bounds_by (bounds_served file table work i)
