-- The lines that answer a file and a query fit, and are those of the model.
use Prim.Native.Nat.{ℕ, ◌+◌, ◌-◌, ◌≤◌, ◌<◌}
use native.Mathlib.Nat.{add-zero, sub-zero}
use native.Mathlib.Omega.{arith}
use mathlib.Core.Path.{◌≡◌, refl, sym, ap, ap₂, ◌∙◌, subst}
use mathlib.Core.Bool.{◌||◌}
use mathlib.Core.Option.{none}
use mathlib.Core.List.{List, []}
use lib.ListN.{length, take, drop}
use lib.Seq.{take-append_seam, length-take-le}
use borrow.Author.Tests.{le-ltb}
use Rattle.limits.specs.Limits.{table_length, work_length, numeral_bound}
use Rattle.calculus.specs.Refusals.{Refusal, number}
use Rattle.model.specs.Services.{Verdict, accepted, refused, verdict, unless, answer_of, check, RunAnswer}
use Rattle.model.specs.Desk.{query_line, file_line}
use Rattle.format.specs.Code.{refusal_view, number_of, numbered}
use Rattle.model.proofs.Files.{number_positive}
use Rattle.model.proofs.Sheets.{written_fits}
use Rattle.area_cells.specs.Areas.{Prints}
use Rattle.area_cells.proofs.Writing.{prints_as}
use Rattle.checker.specs.CheckSays.{CheckSays, Accepted}
use Rattle.checker.specs.declared.Checked as C
use Rattle.query_lines.specs.Stream.{begun, stopped}
use Rattle.query_lines.specs.declared.Query as Q
use Rattle.runner.specs.RunSays.{RanAs}
use Rattle.runner.specs.declared.run.Ran as R
use Rattle.desk.specs.DeskSays.{answer_room, Printed, JudgedAs, ran_line}
use Rattle.desk.proofs.Placing.{verdict_line, file_line_short, query_line_short}

-- ---- printing

-- what has room is printed whole
pub printed : {out out' : List ℕ} {at end : ℕ} {ps : List ℕ} → Prints out out' at end ps → length ps ≤ answer_room → at + answer_room ≤ length out
    → Printed out out' at end ps
printed {out} {out'} {at} {end} {ps} w h room =
    let fits : at + length ps ≤ length out = omega (arith, h, room) in
    let place = w.place in
    let behind : end ≡ at + length ps = omega (arith, place, fits) in
    record { area = w.area; place = behind; fits = omega (arith, behind, fits) }

-- nothing
pub printed_none : {out : List ℕ} {at : ℕ} → at + answer_room ≤ length out → Printed out out at at []
printed_none {out} {at} h = record { area = refl; place = sym (add-zero at); fits = omega (arith, h) }

-- the same bytes by another name
pub printed_as : {out out' : List ℕ} {at end : ℕ} {ps qs : List ℕ} → ps ≡ qs → Printed out out' at end ps → Printed out out' at end qs
printed_as {out} {out'} {at} {end} e p = subst (Printed out out' at end) e p

-- ---- a file

-- Check's answer is that of the verdict, the areas being long enough
checked_answer : (s t w : List ℕ) → table_length ≤ length t → work_length ≤ length w → (check s t w).answer ≡ answer_of (verdict s)
unfolding check
checked_answer s t w ht hw = ap (λ b. answer_of (unless b (verdict s))) (ap₂ ◌||◌ (le-ltb (length t) table_length ht) (le-ltb (length w) work_length hw))

-- so a verdict with a refusal's number is one
stops_at : (v : Verdict) (f : Refusal) → number f ≡ (answer_of v).number → begun v ≡ stopped
stops_at (accepted rs) f e = absurd (omega (arith, e, number_positive f))
stops_at (refused g n) f e = refl

-- a verdict by its number, which the code computes
pub checked_writes : {out out' : List ℕ} {at n end : ℕ} (c : C.Checked) → n ≡ number_of c.answer.refusal
    → (c.answer.place < numeral_bound → Prints out out' at end (file_line (record { number = n; line = c.answer.place })))
    → c.answer.place < numeral_bound → Prints out out' at end (file_line (record { number = number_of c.answer.refusal; line = c.answer.place }))
checked_writes {out} {out'} {at} {end = end} c e writes h =
    subst (Prints out out' at end) (ap (λ k. file_line (record { number = k; line = c.answer.place })) e) (writes h)

-- a file checked and answered, as far as the answer fits
pub judged_prints : (s t w : List ℕ) {t' w' out out' : List ℕ} {at end : ℕ} (c : C.Checked) → CheckSays s t w t' w' c.answer
    → (c.answer.place < numeral_bound → Prints out out' at end (file_line (record { number = number_of c.answer.refusal; line = c.answer.place })))
    → table_length ≤ length t → work_length ≤ length w → Prints out out' at end (file_line (answer_of (verdict s)))
judged_prints s t w c says prints ht hw =
    let a = checked_answer s t w ht hw in
    let number : number_of c.answer.refusal ≡ (answer_of (verdict s)).number = says.number ∙ ap (λ x. x.number) a in
    let line : c.answer.place ≡ (answer_of (verdict s)).line = says.line ∙ ap (λ x. x.line) a in
    let below : c.answer.place < numeral_bound = subst (λ k. k < numeral_bound) (sym line) (verdict_line s) in
    prints_as (ap₂ (λ k l. file_line (record { number = k; line = l })) number line) (prints below)

-- and whole, where it has room
pub judged_file : (s t w : List ℕ) {t' w' out out' : List ℕ} {at end : ℕ} (c : C.Checked)
    → CheckSays s t w t' w' c.answer → (refusal_view c.answer.refusal ≡ none → Accepted s t' c)
    → (c.answer.place < numeral_bound → Prints out out' at end (file_line (record { number = number_of c.answer.refusal; line = c.answer.place })))
    → table_length ≤ length t → work_length ≤ length w → at + answer_room ≤ length out
    → JudgedAs s t' out out' at end c
judged_file s t w c says accepts prints ht hw room =
    let number : number_of c.answer.refusal ≡ (answer_of (verdict s)).number = says.number ∙ ap (λ x. x.number) (checked_answer s t w ht hw) in
    record {
      printed = printed (judged_prints s t w c says prints ht hw) (file_line_short (answer_of (verdict s))) room;
      accepts = accepts;
      refuses = λ f v. stops_at (verdict s) f (sym (ap numbered v) ∙ number);
    }

-- ---- a query

-- the first `room` bytes of a work area are so many
pub room_there : (room : ℕ) (work : List ℕ) → room ≤ length work → length (take (room - 0) work) ≡ room
room_there room work h = ap (λ k. length (take k work)) (sub-zero room) ∙ length-take-le room work h

-- the letters of a run fit its result area
letters_fit : (a : RunAnswer) {o o' : List ℕ} {r : R.Ran} → RanAs a o o' r → length o ≡ 127 → length o' ≡ length o → length a.letters ≤ 127
letters_fit a {o} {o'} ran e k = omega (arith, e, written_fits a.letters o (ap length (sym ran.result) ∙ k))

-- and are its first bytes
letters_there : (a : RunAnswer) {o o' : List ℕ} {r : R.Ran} → RanAs a o o' r → take r.length o' ≡ a.letters
letters_there a {o} {o'} ran = ap₂ take ran.bytes ran.result ∙ take-append_seam a.letters (drop (length a.letters) o)

-- an answer's line by its parts
answer_parts : (a : RunAnswer) {n k : ℕ} {ls : List ℕ} → n ≡ a.number → k ≡ a.count → ls ≡ a.letters
    → query_line (record { refusal = none; number = n; count = k; letters = ls }) ≡ query_line a
answer_parts a {n} {k} {ls} p q e =
    ap₂ (λ x y. query_line (record { refusal = none; number = x; count = y; letters = ls })) p q
    ∙ ap (λ x. query_line (record { refusal = none; number = a.number; count = a.count; letters = x })) e

-- a run's number and letters, from its result area
pub ran_writes : (result : List ℕ) {out out' ls : List ℕ} {at n end : ℕ} (r : R.Ran) → n ≡ number_of r.refusal → ls ≡ take r.length result
    → Prints out out' at end (query_line (record { refusal = none; number = n; count = r.count; letters = ls }))
    → Prints out out' at end (ran_line r result)
ran_writes result {out} {out'} {at = at} {end = end} r p q writes =
    subst (Prints out out' at end) (ap₂ (λ k l. query_line (record { refusal = none; number = k; count = r.count; letters = l })) p q) writes

-- a run, printed as far as its line fits, and it is no longer than an answer
pub ran_query : (a : RunAnswer) {o o' out out' : List ℕ} {at end : ℕ} (r : R.Ran) → RanAs a o o' r → length o ≡ 127 → length o' ≡ length o
    → Prints out out' at end (ran_line r o')
    → Prints out out' at end (query_line a) × (length (query_line a) ≤ answer_room)
ran_query a r ran e k prints =
    (prints_as (answer_parts a ran.number ran.count (letters_there a ran)) prints, query_line_short a (letters_fit a ran e k))
