-- Services that go on from an accepted file: outcomes, and what every such service answers and leaves.
use Prim.Native.Nat.{ℕ, ◌<◌}
use native.Mathlib.Omega.{arith}
use mathlib.Core.Path.{◌≡◌, refl, sym, ap}
use mathlib.Core.Bool.{Bool, true, false, ◌||◌, false≢true}
use mathlib.Core.List.{List}
use lib.Dec.{ltb}
use lib.ListN.{length}
use Rattle.calculus.specs.Refusals.{Refusal}
use Rattle.format.specs.Lines.{Row, print_rows}
use Rattle.format.specs.Unfold.{turn_rows}
use Rattle.model.specs.Services.{Verdict, accepted, refused, verdict, unless, short, table_after, work_after, answer_of, Answer, check_by, Outcome, gives}
use Rattle.model.specs.Services.{fails, go_on, refusal_number, line_of, Served, serve, answer_from, turn}
use Rattle.model.proofs.Files.{number_positive}

-- ---- outcomes

pub fails≢gives : {A : Type 0} {f : Refusal} {y : A} → ◌≡◌ {A = Outcome A} (fails f) (gives y) → ⊥
fails≢gives e = false≢true cc

pub gives_inj : {A : Type 0} {x y : A} → ◌≡◌ {A = Outcome A} (gives x) (gives y) → x ≡ y
gives_inj e = cc

-- without a refusal something is given
pub given : {A : Type 0} (x : Outcome A) → refusal_number x ≡ 0 → (y : A) × (x ≡ gives y)
given (gives y) e = (y, refl)
given (fails f) e = absurd (omega (arith, e, number_positive f))

-- nothing is given under refusal 1
pub past_short : {A : Type 0} (b : Bool) (v : Verdict) (asked : List Row → Outcome A) {y : A} → go_on (unless b v) asked ≡ gives y → go_on v asked ≡ gives y
past_short true v asked e = absurd (fails≢gives e)
past_short false v asked e = e

-- something is given only of an accepted file
pub given_accepted : {A : Type 0} (v : Verdict) (asked : List Row → Outcome A) {y : A} → go_on v asked ≡ gives y → (rs : List Row) × (v ≡ accepted rs) × (asked rs ≡ gives y)
given_accepted (accepted rs) asked e = (rs, refl, e)
given_accepted (refused f n) asked e = absurd (fails≢gives e)

-- ---- the services

-- Check's refusals come first: a refused file fails with its own refusal, at its own line
pub refused_first : {A : Type 0} (v : Verdict) (asked : List Row → Outcome A) → 0 < (answer_of v).number
    → (refusal_number (go_on v asked) ≡ (answer_of v).number) × (line_of v ≡ (answer_of v).line)
refused_first (accepted rs) asked h = absurd (omega arith)
refused_first (refused f n) asked h = (refl, refl)

-- a service that refuses no accepted file answers as Check does
pub same_answer : {A : Type 0} (f : List Row → A) (b : Bool) (file : Verdict) (table work : List ℕ)
    → answer_from (serve b file (λ rs. gives (f rs)) table work) ≡ answer_of (unless b file)
same_answer f b file table work = go (unless b file)
  where
    go : (v : Verdict) → ◌≡◌ {A = Answer} (record { number = refusal_number (go_on v (λ rs. gives (f rs))); line = line_of v }) (answer_of v)
    go (accepted rs) = refl
    go (refused r n) = refl

-- Check is the service that gives nothing
pub check_served : (file : Verdict) (table work : List ℕ)
    → let s : Served (Unit {0}) = serve (short table work) file (λ _. gives tt) table work in
    check_by file table work ≡ record { answer = answer_from s; table = s.table; work = s.work }
check_served file table work =
    let v : Verdict = unless (short table work) file in
    ap (λ a. record { answer = a; table = table_after v table; work = work_after v work }) (sym (same_answer (λ _. tt) (short table work) file table work))

-- Turn answers as Check does, its output area counted among those that may be short
pub turn_answer : (file table work output : List ℕ)
    → (turn file table work output).answer ≡ answer_of (unless (short table work || ltb (length output) (length file)) (verdict file))
unfolding turn
turn_answer file table work output =
    same_answer (λ rs. print_rows (turn_rows rs)) (short table work || ltb (length output) (length file)) (verdict file) table work
