-- What answers a line.
use Prim.Native.Nat.{ℕ, ◌-◌}
use mathlib.Core.Path.{◌≡◌, sym, ap, ◌∙◌, subst}
use mathlib.Core.Option.{some}
use mathlib.Core.List.{List}
use lib.ListN.{length, take, drop}
use lib.Seq.{slice}
use Rattle.calculus.specs.Refusals.{bad_line}
use Rattle.format.specs.Lines.{Row}
use Rattle.model.specs.Services.{accepted, answer_of_run}
use Rattle.model.specs.Desk.{query_of, answer_to}
use Rattle.format.specs.Code.{refusal_view}
use Rattle.query_lines.specs.Views.{as_query}
use Rattle.query_lines.specs.declared.Query as Q
use Rattle.std.specs.Prelude as P
use Rattle.std.specs.Prelude.{Some, None}
use Rattle.runner.specs.RunSays.{answer_for, RanAs}
use Rattle.runner.specs.declared.run.Ran as R
use Rattle.runner.proofs.Running.{ran_refused}

-- the letters of a query
pub query_letters : (s : List ℕ) {f v : List ℕ} (from to : ℕ) → f ≡ take to s → v ≡ drop from f → v ≡ slice from to s
query_letters s from to e k = k ∙ ap (drop from) e

-- a run on them
pub ran_on : (rs : List Row) (q : Q.Query) (l : List ℕ) {v o o' : List ℕ} {r : R.Ran} → v ≡ slice q.from q.to l
    → RanAs (answer_for rs q.iso q.back q.budget v) o o' r → RanAs (answer_for rs q.iso q.back q.budget (slice q.from q.to l)) o o' r
ran_on rs q l {o = o} {o' = o'} {r = r} e a = subst (λ v. RanAs (answer_for rs q.iso q.back q.budget v) o o' r) e a

-- a query is answered by its run
pub line_query : (rs : List Row) (l : List ℕ) {a : P.Option Q.Query} (q : Q.Query) {o o' : List ℕ} {r : R.Ran} → a ≡ Some q → as_query l a ≡ query_of l
    → RanAs (answer_for rs q.iso q.back q.budget (slice q.from q.to l)) o o' r
    → RanAs (answer_of_run (answer_to (accepted rs) (query_of l))) o o' r
line_query rs l q {o} {o'} {r} e k ran =
    subst (λ x. RanAs (answer_of_run (answer_to (accepted rs) x)) o o' r) (sym (ap (as_query l) e) ∙ k) ran

-- what is no query is refused 3
pub line_bad : (rs : List Row) (l : List ℕ) {a : P.Option Q.Query} (o : List ℕ) (r : R.Ran) → a ≡ None → as_query l a ≡ query_of l
    → refusal_view r.refusal ≡ some bad_line → r.count ≡ 0 → r.length ≡ 0 → RanAs (answer_of_run (answer_to (accepted rs) (query_of l))) o o r
line_bad rs l o r e k n = ran_refused (answer_of_run (answer_to (accepted rs) (query_of l))) o r bad_line (ap (λ x. answer_of_run (answer_to (accepted rs) x)) (sym k ∙ ap (as_query l) e)) n
