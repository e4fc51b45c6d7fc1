-- The contract of the service: refusal, number, line, length and every lent area are what its definition gives.
use Rattle.std.specs.Prelude.{ℕ, ◌≤◌, ◌<◌, ◌≡◌, List, length}
use Rattle.std.proofs.Math.Option.{some}
use Rattle.limits.specs.Limits.{max_bytes, work_length}
use Rattle.calculus.specs.Refusals.{too_large}
use Rattle.format.specs.Code.{refusal_view, number_of}
use Rattle.format.specs.declared.Answer as A
use Rattle.area_parts.specs.Cleared.{cleared}
use Rattle.law_witnesses.specs.Showing.{show_service}
use Rattle.witness.specs.declared.Witnessed as W

-- t, w and out are the areas at entry, t', w' and out' at exit
pub record WitnessSays (file t w out t' w' out' : List ℕ) (r : W.Witnessed) : Type 0 where
  pub refusal : refusal_view r.answer.refusal ≡ (show_service file t w out).refusal
  pub number : number_of r.answer.refusal ≡ (show_service file t w out).answer.number
  pub line : r.answer.place ≡ (show_service file t w out).answer.line
  pub length : r.length ≡ (show_service file t w out).length
  pub table : t' ≡ (show_service file t w out).table
  pub work : w' ≡ (show_service file t w out).work
  pub result : out' ≡ (show_service file t w out).result

-- 24 where the number is one of 11 to 14 and there are no letters; the answer and the letters otherwise
pub record Measures (a : A.Answer) (m n : ℕ) (r : W.Witnessed) : Type 0 where
  pub large : n ≡ 0 → 10 < m → m < 15 → (refusal_view r.answer.refusal ≡ some too_large) × (r.answer.place ≡ 0) × (r.length ≡ 0)
  pub low : m ≤ 10 → (r.answer ≡ a) × (r.length ≡ n)
  pub high : 15 ≤ m → (r.answer ≡ a) × (r.length ≡ n)
  pub given : 0 < n → (r.answer ≡ a) × (r.length ≡ n)

-- a file that is not too long, and two areas that are long enough: whatever work area is cleared beside them, the service says this
pub record Searched (s t out t' out' : List ℕ) (r : W.Witnessed) : Type 0 where
  pub says : (w w' : List ℕ) → work_length ≤ length w → length s ≤ max_bytes → w' ≡ cleared work_length w → WitnessSays s t w out t' w' out' r
