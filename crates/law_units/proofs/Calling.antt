-- Each visit of a play is what the three calls of `Calls` give one after the other.
use Prim.Native.Nat.{ℕ}
use mathlib.Core.Path.{◌≡◌, sym, ap, ap₂, ◌∙◌, subst}
use mathlib.Core.Bool.{false, cond, ◌||◌}
use mathlib.Core.Option.{some}
use mathlib.Core.List.{List, [], ◌∷◌}
use lib.Dec.{ltb}
use lib.ListN.{length, take, drop, get_elem?}
use lib.Seq.{take-append_seam}
use Rattle.limits.specs.Limits.{result_length}
use Rattle.calculus.specs.Trees.{Iso}
use Rattle.format.specs.Lines.{Row, lines}
use Rattle.format.specs.Unfold.{isos_of}
use Rattle.model.specs.Services.{accepted, verdict, short, Outcome, gives, served, serve, RunResult, ran_by, run_service, toward, run_on}
use Rattle.model.specs.Answers.{GoodRows}
use Rattle.calculus.proofs.Basic.{some_inj, not_ltb}
use Rattle.model.proofs.Outcomes.{gives_inj}
use Rattle.model.proofs.Sheets.{long_enough}
use Rattle.law_ranking.specs.Numbering.{number_rows, setting_rows, Numbered, numbered_by, number_service, Lettered, lettered_by, setting_service}
use Rattle.law_units.specs.Units.{Planned, script_of, Units, Visited, done, end_of, other_end, visit_to, moved, units_after, outcomes, Tally, nothing_yet, with_visit, counted, play_service}
use Rattle.law_units.specs.Calls.{Lent, setting_call, run_call, number_call, VisitServed, PlayServed}
use Rattle.law_units.proofs.Ends.{end_row}
use Rattle.law_units.proofs.Playing.{VisitIs, AllHold, by_iso, unit_is, visit_keeps, moved_length, script_first}
use Rattle.law_units.proofs.Services.{file_rows, accepts, visits_of, visits_read, play_gives, holds, good_rows}
use Rattle.law_units.proofs.Faulting.{line_shape}

-- ---- one call, in areas of the stated lengths, on an accepted file

module _ (file : List ℕ) (rs : List Row) (acc : verdict file ≡ accepted rs) where
  enough : (a : Lent) → (short a.table a.work || ltb (length a.result) result_length) ≡ false
  enough a = ap₂ ◌||◌ (long_enough a.table a.work a.long a.wide) (not_ltb a.room)

  setting_served : (a : Lent) (i n : ℕ) {x : Outcome (List ℕ)} → setting_rows i n rs ≡ x → setting_call file a i n ≡ lettered_by a.result (served (accepted rs) x a.table a.work)
  unfolding setting_service
  setting_served a i n e =
      ap₂ (λ b v. lettered_by a.result (serve b v (setting_rows i n) a.table a.work)) (enough a) acc
      ∙ ap (λ x. lettered_by a.result (served (accepted rs) x a.table a.work)) e

  -- number to letters gives ls
  module _ (a : Lent) (i n : ℕ) {ls : List ℕ} (e : setting_rows i n rs ≡ gives ls) where
    setting_number : (setting_call file a i n).number ≡ 0
    setting_number = ap (λ (s : Lettered). s.number) (setting_served a i n e)

    setting_letters : take (setting_call file a i n).length (setting_call file a i n).result ≡ ls
    setting_letters = ap (λ (s : Lettered). take s.length s.result) (setting_served a i n e) ∙ take-append_seam ls (drop (length ls) a.result)

  run_served : (b : Lent) (p : Planned) (budget : ℕ) (s : Lettered) {ls : List ℕ} → take s.length s.result ≡ ls → {x : Outcome (ℕ × List ℕ)}
      → run_on p.iso p.back budget ls rs ≡ x → run_call file b p budget s ≡ ran_by b.result (served (accepted rs) x b.table b.work)
  unfolding run_service
  run_served b p budget s {ls} q e =
      ap (λ l. run_service file b.table b.work p.iso p.back budget l b.result) q
      ∙ ap₂ (λ c v. ran_by b.result (serve c v (run_on p.iso p.back budget ls) b.table b.work)) (enough b) acc
      ∙ ap (λ x. ran_by b.result (served (accepted rs) x b.table b.work)) e

  number_served : (c : Lent) (j : ℕ) (r : RunResult) {ls : List ℕ} → take r.length r.result ≡ ls → {x : Outcome ℕ} → number_rows j ls rs ≡ x
      → number_call file c j r ≡ numbered_by (served (accepted rs) x c.table c.work)
  unfolding number_service
  number_served c j r {ls} q e =
      ap (λ l. number_service file c.table c.work j l) q
      ∙ ap₂ (λ b v. numbered_by (serve b v (number_rows j ls) c.table c.work)) (long_enough c.table c.work c.long c.wide) acc
      ∙ ap (λ x. numbered_by (served (accepted rs) x c.table c.work)) e

  -- ---- a visit

  pub visit_served : (budget : ℕ) (p : Planned) {i n : ℕ} {o : Iso} {v : Visited} (g : GoodRows rs) → get_elem? (isos_of (toward p.back rs)) p.iso ≡ some o
      → VisitIs rs budget p i n o v → VisitServed file rs budget p i n o v
  visit_served budget p g at (VisitIs.skips h d) = VisitServed.skips (λ e. d (some_inj (sym h.line.there ∙ e)))
  visit_served budget p {i} {n} g at (VisitIs.spends h ls s x y) =
      VisitServed.spends (h.line.there ∙ ap some s)
      (record {
        setting = λ a. setting_number a i n x;
        run = λ a b. ap (λ (r : RunResult). r.number) (run_served b p budget (setting_call file a i n) (setting_letters a i n x) y);
      })
  visit_served budget p {i} {n} {o} g at (VisitIs.does h ls us k m s x y z new t) =
      let (r, here) = end_row rs g.passes p.back p.iso at in
      let j : ℕ = cond p.back r.x r.y in
      let same : other_end rs p.back (some o) ≡ j = ap (end_of p.back) here in
      let z₂ : number_rows j us rs ≡ gives m = subst (λ q. number_rows q us rs ≡ gives m) same z in
      let ran : (a b : Lent) → run_call file b p budget (setting_call file a i n) ≡ ran_by b.result (served (accepted rs) (gives (k, us)) b.table b.work) =
      λ a b. run_served b p budget (setting_call file a i n) (setting_letters a i n x) y in
      let letters : (a b : Lent) → take (run_call file b p budget (setting_call file a i n)).length (run_call file b p budget (setting_call file a i n)).result ≡ us =
      λ a b. ap (λ (q : RunResult). take q.length q.result) (ran a b) ∙ take-append_seam us (drop (length us) b.result) in
      let numbered : (a b c : Lent) → number_call file c j (run_call file b p budget (setting_call file a i n)) ≡ numbered_by (served (accepted rs) (gives m) c.table c.work) =
      λ a b c. number_served c j (run_call file b p budget (setting_call file a i n)) (letters a b) z₂ in
      subst (λ q. VisitServed file rs budget p i n o (done q m)) (sym same)
      (VisitServed.does r m (h.line.there ∙ ap some s) here
      (record {
        setting = λ a. setting_number a i n x;
        run = λ a b. ap (λ (q : RunResult). q.number) (ran a b);
        number = λ a b c. ap (λ (q : Numbered). q.number) (numbered a b c);
        gives = λ a b c. ap (λ (q : Numbered). q.setting) (numbered a b c);
      }))

  -- ---- a script

  script_served : (g : GoodRows rs) (budget : ℕ) (ls : List (List ℕ)) (ps : List Planned) (us : Units) (t : Tally) → AllHold rs us
      → script_of (length us.types) (isos_of rs) ls ≡ gives ps → PlayServed file rs budget ls us t (units_after rs budget ps us) (counted (outcomes rs budget ps us) t)
  script_served g budget [] ps us t a e = PlayServed.ends (ap (λ qs. units_after rs budget qs us) (gives_inj e)) (ap (λ qs. counted (outcomes rs budget qs us) t) (gives_inj e))
  script_served g budget (l ∷ ls) ps us t a e =
      let (p, qs, same, reads, here, low, rest, free) = script_first (length us.types) (isos_of rs) l ls ps e in
      let v : Visited = visit_to rs budget us p in
      let next : Units = moved v p.unit us in
      let by = by_iso rs us a g budget p here low free in
      subst (λ xs. PlayServed file rs budget (l ∷ ls) us t (units_after rs budget xs us) (counted (outcomes rs budget xs us) t)) (sym same)
      (PlayServed.visits p by.0 v (line_shape l reads) here by.1 (visit_served budget p g by.1 (unit_is rs us a g budget p here low free))
      (script_served g budget ls qs next (with_visit v t) (visit_keeps rs us a g budget p here low free)
      (ap (λ k. script_of k (isos_of rs) ls) (moved_length v p.unit us) ∙ rest)))

-- ---- the service

-- "counted from 0 in each play"
pub play_served : (file t w : List ℕ) (us : Units) (script : List ℕ) (budget : ℕ) (tl : Tally) (ok : (play_service file t w us script budget tl).answer.number ≡ 0)
    → PlayServed file (file_rows file t w us script budget tl ok) budget (lines script) us nothing_yet (play_service file t w us script budget tl).units
    (play_service file t w us script budget tl).tally
play_served file t w us script budget tl ok =
    let rs : List Row = file_rows file t w us script budget tl ok in
    let g = play_gives file t w us script budget tl ok in
    subst (λ x. PlayServed file rs budget (lines script) us nothing_yet x (play_service file t w us script budget tl).tally) (sym g.0)
    (subst (λ x. PlayServed file rs budget (lines script) us nothing_yet (units_after rs budget (visits_of file t w us script budget tl ok) us) x) (sym g.1)
    (script_served file rs (accepts file t w us script budget tl ok) (good_rows file t w us script budget tl ok) budget (lines script) (visits_of file t w us script budget tl ok) us nothing_yet
    (holds file t w us script budget tl ok) (visits_read file t w us script budget tl ok)))
