-- Request 12, said of the service: what a play that is not refused comes to, what a refusal leaves, the counts, and the way back.
use Prim.Native.Nat.{ℕ, suc, ◌+◌, ◌≤◌, ◌<◌}
use native.Mathlib.Nat.{zero-add}
use native.Mathlib.Omega.{arith}
use mathlib.Core.Path.{◌≡◌, refl, sym, ap, ap₂, ◌∙◌, subst}
use mathlib.Core.Bool.{Bool, true, false, cond, not, ◌||◌, or-false}
use mathlib.Core.Option.{Option, none, some}
use mathlib.Core.List.Memᴰ
use mathlib.Core.List.{List, [], ◌∷◌, map, reverse, Memᴰ}
use lib.Dec.{ltb, eqb}
use lib.ListN.{length, get_or, drop, length-map, length-reverse}
use Rattle.limits.specs.Limits.{table_length, work_length, max_lines, max_units}
use Rattle.calculus.specs.Tools.{◌>>=◌, guard}
use Rattle.calculus.specs.Trees.{Iso}
use Rattle.calculus.specs.Refusals.{Refusal, too_long, too_many}
use Rattle.calculus.specs.Lists.{is_free}
use Rattle.format.specs.Lines.{Row, lines}
use Rattle.format.specs.Unfold.{isos_of}
use Rattle.model.specs.Services.{accepted, refused, verdict, short, unless, check, table_after, work_after, Outcome, gives, fails, go_on, refusal_number, served, serve}
use Rattle.model.specs.Answers.{GoodRows}
use Rattle.calculus.proofs.Basic.{neither, ltb_false, not_ltb, lt_ltb, true_and, eqb_eq, eq_eqb, not_both, map_reverse, mem_reverse, each_map}
use Rattle.model.proofs.Outcomes.{fails≢gives, gives_inj, given, past_short, given_accepted}
use Rattle.model.proofs.Runs.{accepted_good}
use Rattle.model.proofs.Sheets.{long_enough}
use Rattle.law_units.specs.Units.{Planned, planned_of, names, planned_for, and_then, on_line, line_on, script_of, Units, units_fault, visit_to, moved, units_after}
use Rattle.law_units.specs.Units.{outcomes, Tally, nothing_yet, counted, Played, played, on_script, on_units, play_rows, unequal, play_verdict, units_from}
use Rattle.law_units.specs.Units.{tally_from, Play, play_by, play_service}
use Rattle.law_units.specs.Backward.{opposite, backward, Backward, Alike}
use Rattle.law_units.proofs.Playing.{AllHold, all_hold, hold_all, visit_keeps, moved_length, script_first}
use Rattle.law_units.proofs.Counts.{script_length, outcomes_length, after_length, total, counted_total, all_done, done_counts}
use Rattle.law_units.proofs.Restoring.{Named, restores}

pub nil≢cons : {A : Type 0} {x : A} {xs : List A} → ◌≡◌ {A = List A} [] (x ∷ xs) → ⊥
nil≢cons e = zero≢suc (ap length e)
  where
    zero≢suc : {n : ℕ} → 0 ≡ suc n → ⊥
    zero≢suc q = absurd (omega (arith, q))

cons_head : {A : Type 0} {x y : A} {xs ys : List A} → ◌≡◌ {A = List A} (x ∷ xs) (y ∷ ys) → x ≡ y
cons_head {x = x} e = ap (λ l. get_or l 0 x) e

cons_tail : {A : Type 0} {x y : A} {xs ys : List A} → ◌≡◌ {A = List A} (x ∷ xs) (y ∷ ys) → xs ≡ ys
cons_tail e = ap (drop 1) e

refused≢accepted : {f : Refusal} {n : ℕ} {rs : List Row} → refused f n ≡ accepted rs → ⊥
refused≢accepted e = fails≢gives {A = ℕ} {y = 0} (ap (λ v. go_on {A = ℕ} v (λ _. gives 0)) e)

-- ---- a play that is not refused

pub record PlayedOf (rs : List Row) (us : Units) (script : List ℕ) (budget : ℕ) (x : Played) : Type 0 where
  pub visits : List Planned
  pub units : units_fault rs us.types us.settings ≡ none
  pub reads : script_of (length us.types) (isos_of rs) (lines script) ≡ gives visits
  pub gives_it : x ≡ played rs budget us visits

played_of : (rs : List Row) (us : Units) (script : List ℕ) (budget : ℕ) {x : Played} → play_rows us script budget rs ≡ gives x → PlayedOf rs us script budget x
unfolding play_rows
played_of rs us script budget {x} e = on (units_fault rs us.types us.settings) refl e
  where
    next : units_fault rs us.types us.settings ≡ none → (y : Outcome (List Planned)) → script_of (length us.types) (isos_of rs) (lines script) ≡ y
        → on_script rs budget us y ≡ gives x → PlayedOf rs us script budget x
    next u (fails z) s f = absurd (fails≢gives f)
    next u (gives ps) s f = record { visits = ps; units = u; reads = s; gives_it = sym (gives_inj f) }

    on : (y : Option Refusal) → units_fault rs us.types us.settings ≡ y → on_units rs budget us (lines script) y ≡ gives x → PlayedOf rs us script budget x
    on none u f = next u (script_of (length us.types) (isos_of rs) (lines script)) refl f
    on (some z) u f = absurd (fails≢gives f)

-- the other way round
pub plays : (rs : List Row) (us : Units) (script : List ℕ) (budget : ℕ) (ps : List Planned) → units_fault rs us.types us.settings ≡ none
    → script_of (length us.types) (isos_of rs) (lines script) ≡ gives ps → play_rows us script budget rs ≡ gives (played rs budget us ps)
unfolding play_rows
plays rs us script budget ps u s = ap (on_units rs budget us (lines script)) u ∙ ap (on_script rs budget us) s

-- ---- the script's names

script_named : (rs : List Row) (units : ℕ) (ls : List (List ℕ)) (ps : List Planned) → (file : List ℕ) (acc : verdict file ≡ accepted rs) (budget : ℕ)
    → script_of units (isos_of rs) ls ≡ gives ps → Named file rs acc budget units ps
script_named rs units [] ps file acc budget e = subst (Named file rs acc budget units) (gives_inj e) tt
script_named rs units (l ∷ ls) ps file acc budget e =
    let f = script_first units (isos_of rs) l ls ps e in
    subst (Named file rs acc budget units) (sym f.2) (f.4, f.5, f.7, script_named rs units ls f.1 file acc budget f.6)

-- ---- the service

module _ (file t w : List ℕ) (us : Units) (script : List ℕ) (budget : ℕ) (tl : Tally) where
  abbrev answered : Play
  answered = play_service file t w us script budget tl

  abbrev outcome_of : Bool → Outcome Played
  outcome_of b = go_on (unless b (play_verdict us script (verdict file))) (play_rows us script budget)

  -- "a refusal leaves units and record unchanged"
  pub play_refused : 0 < answered.answer.number → (answered.units ≡ us) × (answered.tally ≡ tl)
  unfolding play_service
  play_refused h = go (outcome_of (short t w || unequal us)) h
    where
      go : (x : Outcome Played) → 0 < refusal_number x → (units_from x us ≡ us) × (tally_from x tl ≡ tl)
      go (gives y) k = absurd (omega arith)
      go (fails f) k = (refl, refl)

  -- table and work area are as after Check, whatever is answered, where the units' areas are equal and neither they nor the script too long
  pub play_areas : unequal us ≡ false → length us.types ≤ max_units → length (lines script) ≤ max_lines
      → (answered.table ≡ (check file t w).table) × (answered.work ≡ (check file t w).work)
  unfolding check play_service
  play_areas e few short_enough =
      let b : (short t w || unequal us) ≡ short t w = ap (λ c. short t w || c) e ∙ or-false (short t w) in
      let v : play_verdict us script (verdict file) ≡ verdict file =
      ap₂ (λ c d. cond (c || d) (refused too_long 0) (verdict file)) (not_ltb few) (not_ltb short_enough) in
      (ap₂ (λ c z. table_after (unless c z) t) b v, ap₂ (λ c z. work_after (unless c z) w) b v)

  module _ (ok : answered.answer.number ≡ 0) where
    pub found : (x : Played) × (outcome_of (short t w || unequal us) ≡ gives x)
    unfolding play_service
    found = given (outcome_of (short t w || unequal us)) ok

    past : go_on (play_verdict us script (verdict file)) (play_rows us script budget) ≡ gives found.0
    past = past_short (short t w || unequal us) (play_verdict us script (verdict file)) (play_rows us script budget) found.1

    not_short : (short t w || unequal us) ≡ false
    not_short = go (short t w || unequal us) found.1
      where
        go : (b : Bool) → outcome_of b ≡ gives found.0 → b ≡ false
        go true e = absurd (fails≢gives e)
        go false e = refl

    -- the areas of the units are equally long
    pub equal_areas : length us.types ≡ length us.settings
    equal_areas = go (eqb (length us.types) (length us.settings)) refl (neither (short t w) (unequal us) not_short).1
      where
        go : (b : Bool) → eqb (length us.types) (length us.settings) ≡ b → not b ≡ false → length us.types ≡ length us.settings
        go true e f = eqb_eq (length us.types) (length us.settings) e
        go false e f = absurd (not_both refl f)

    -- and neither they nor the script are too long
    not_over : (ltb max_units (length us.types) || ltb max_lines (length (lines script))) ≡ false
    not_over = go (ltb max_units (length us.types) || ltb max_lines (length (lines script))) past
      where
        go : (b : Bool) → go_on (cond b (refused too_long 0) (verdict file)) (play_rows us script budget) ≡ gives found.0 → b ≡ false
        go true e = absurd (fails≢gives e)
        go false e = refl

    -- an accepted file
    pub rows : (rs : List Row) × (verdict file ≡ accepted rs) × (play_rows us script budget rs ≡ gives found.0)
    rows =
        let (rs, e, f) = given_accepted (play_verdict us script (verdict file)) (play_rows us script budget) past in
        (rs, go (ltb max_units (length us.types) || ltb max_lines (length (lines script))) e, f)
      where
        go : {rs : List Row} (b : Bool) → cond b (refused too_long 0) (verdict file) ≡ accepted rs → verdict file ≡ accepted rs
        go true e = absurd (refused≢accepted e)
        go false e = e

    abbrev pub file_rows : List Row
    file_rows = rows.0

    pub accepts : verdict file ≡ accepted file_rows
    accepts = rows.1

    pub play_of : PlayedOf file_rows us script budget found.0
    play_of = played_of file_rows us script budget rows.2

    -- the visits of the script's lines
    abbrev pub visits_of : List Planned
    visits_of = play_of.visits

    pub visits_read : script_of (length us.types) (isos_of file_rows) (lines script) ≡ gives visits_of
    visits_read = play_of.reads

    -- the units are those after all visits, and the record counts what came of each
    pub play_gives : (answered.units ≡ units_after file_rows budget visits_of us) × (answered.tally ≡ counted (outcomes file_rows budget visits_of us) nothing_yet)
    unfolding play_service
    play_gives =
        let e : outcome_of (short t w || unequal us) ≡ gives (played file_rows budget us visits_of) = found.1 ∙ ap gives play_of.gives_it in
        (ap (λ x. units_from x us) e, ap (λ x. tally_from x tl) e)

    -- the three counts are as many as the script's lines
    pub play_counts : total answered.tally ≡ length (lines script)
    play_counts =
        let c = counted_total (outcomes file_rows budget visits_of us) nothing_yet in
        let l = outcomes_length file_rows budget visits_of us in
        let s = script_length (length us.types) (isos_of file_rows) (lines script) visits_of visits_read in
        ap total play_gives.1 ∙ c ∙ zero-add (length (outcomes file_rows budget visits_of us)) ∙ l ∙ s

    pub holds : AllHold file_rows us
    holds = all_hold file_rows us equal_areas play_of.units

    named : Named file file_rows accepts budget (length us.types) visits_of
    named = script_named file_rows (length us.types) (lines script) visits_of file accepts budget visits_read

    pub good_rows : GoodRows file_rows
    good_rows = accepted_good file file_rows accepts

    -- every unit stays good
    after_holds : (ps : List Planned) (vs : Units) → AllHold file_rows vs → Named file file_rows accepts budget (length vs.types) ps → AllHold file_rows (units_after file_rows budget ps vs)
    after_holds [] vs a n = a
    after_holds (p ∷ ps) vs a n =
        after_holds ps (moved (visit_to file_rows budget vs p) p.unit vs) (visit_keeps file_rows vs a good_rows budget p n.0 n.1 n.2)
        (subst (λ k. Named file file_rows accepts budget k ps) (sym (moved_length (visit_to file_rows budget vs p) p.unit vs)) n.3)

    -- "the unit then holds …": at the end there are as many units, and every one passes the tests that precede a play
    pub play_many : length answered.units.types ≡ length us.types
    play_many = ap (λ (z : Units). length z.types) play_gives.0 ∙ after_length file_rows budget visits_of us

    pub play_holds : AllHold file_rows answered.units
    play_holds = subst (AllHold file_rows) (sym play_gives.0) (after_holds visits_of us holds named)

    pub play_good : units_fault file_rows answered.units.types answered.units.settings ≡ none
    play_good = hold_all file_rows answered.units play_holds

-- ---- the way back

-- a visit that names a unit and an iso that has nothing to do with lists
abbrev Passing : ℕ → List Iso → Planned → Type 0
Passing units os p = (names units (length os) p ≡ true) × (is_free os p.iso ≡ true)

-- lines that read as such visits are a script
reads_script : (units : ℕ) (os : List Iso) (ls : List (List ℕ)) (ps : List Planned) → map planned_of ls ≡ map some ps → ((p : Planned) → Memᴰ p ps → Passing units os p)
    → script_of units os ls ≡ gives ps
reads_script units os [] [] e n = refl
reads_script units os [] (p ∷ ps) e n = absurd (nil≢cons e)
reads_script units os (l ∷ ls) [] e n = absurd (nil≢cons (sym e))
reads_script units os (l ∷ ls) (p ∷ ps) e n =
    let here = n p (Memᴰ.head refl) in
    let one : planned_for units (length os) l ≡ some p =
    ap (λ x. x >>= λ q. guard (names units (length os) q) >>= λ _. some q) (cons_head e) ∙ ap (λ b. guard b >>= λ _. some p) here.0 in
    let line : line_on units os l ≡ gives p = ap (on_line os) one ∙ ap (λ b. cond b (gives p) (fails too_many)) here.1 in
    ap (λ x. and_then x (λ q. and_then (script_of units os ls) (λ qs. gives (q ∷ qs)))) line
    ∙ ap (λ x. and_then x (λ qs. gives (p ∷ qs))) (reads_script units os ls ps (cons_tail e) (λ q m. n q (Memᴰ.tail m)))

-- what a script's lines read as
planned_all : (units : ℕ) (os : List Iso) (ls : List (List ℕ)) (ps : List Planned) → script_of units os ls ≡ gives ps
    → map (λ l. planned_of l >>= λ p. some (opposite p)) ls ≡ map some (map opposite ps)
planned_all units os [] ps e = ap (λ qs. map some (map opposite qs)) (gives_inj e)
planned_all units os (l ∷ ls) ps e =
    let f = script_first units os l ls ps e in
    ap₂ ◌∷◌ (ap (λ x. x >>= λ p. some (opposite p)) f.3) (planned_all units os ls f.1 f.6) ∙ ap (λ qs. map some (map opposite qs)) (sym f.2)

module _ (file : List ℕ) (rs : List Row) (acc : verdict file ≡ accepted rs) (budget units : ℕ) where
  named_each : (ps : List Planned) → Named file rs acc budget units ps → (p : Planned) → Memᴰ p ps → Passing units (isos_of rs) p
  named_each [] n p m = absurd (Memᴰ.not-nil m)
  named_each (q ∷ ps) n p (Memᴰ.head e) = (
    ap (names units (length (isos_of rs))) e ∙ true_and (lt_ltb n.0) (lt_ltb n.1),
    ap (λ (x : Planned). is_free (isos_of rs) x.iso) e ∙ n.2,
  )
  named_each (q ∷ ps) n p (Memᴰ.tail m) = named_each ps n.3 p m

  -- such a script, backward
  backward_script : (script other : List ℕ) (ps : List Planned) → script_of units (isos_of rs) (lines script) ≡ gives ps → Named file rs acc budget units ps → Backward script other
      → script_of units (isos_of rs) (lines other) ≡ gives (backward ps)
  backward_script script other ps e n b =
      reads_script units (isos_of rs) (lines other) (backward ps)
      (b.reads ∙ ap reverse (planned_all units (isos_of rs) (lines script) ps e) ∙ sym (map_reverse some (map opposite ps)))
      (λ q m. each_map (Passing units (isos_of rs)) opposite ps (λ x k. named_each ps n x k) q (mem_reverse (map opposite ps) m))

-- an accepted file, areas of the stated lengths, units that pass and a script: the play
goes : (file t w : List ℕ) (us : Units) (script : List ℕ) (budget : ℕ) (tl : Tally) (rs : List Row) → verdict file ≡ accepted rs → table_length ≤ length t → work_length ≤ length w
    → AllHold rs us → length us.types ≤ max_units → length (lines script) ≤ max_lines → (ps : List Planned) → script_of (length us.types) (isos_of rs) (lines script) ≡ gives ps
    → play_service file t w us script budget tl ≡ play_by us tl (served (accepted rs) (gives (played rs budget us ps)) t w)
unfolding play_service
goes file t w us script budget tl rs acc long wide a few short_enough ps e =
    let b : (short t w || unequal us) ≡ false = ap₂ ◌||◌ (long_enough t w long wide) (ap not (eq_eqb a.long)) in
    let v : play_verdict us script (verdict file) ≡ accepted rs =
    ap₂ (λ c d. cond (c || d) (refused too_long 0) (verdict file)) (not_ltb few) (not_ltb short_enough) ∙ acc in
    ap₂ (λ c z. play_by us tl (serve c z (play_rows us script budget) t w)) b v
    ∙ ap (λ x. play_by us tl (served (accepted rs) x t w)) (plays rs us script budget ps (hold_all rs us a) e)

-- "If none was skipped or spent, playing the script last line first with directions exchanged, under the same budget, restores each type tree and number"
module _ (file t w : List ℕ) (us : Units) (script : List ℕ) (budget : ℕ) (tl : Tally) (ok : (play_service file t w us script budget tl).answer.number ≡ 0)
    (none_skipped : (play_service file t w us script budget tl).tally.skipped ≡ 0) (none_spent : (play_service file t w us script budget tl).tally.spent ≡ 0)
    (other : List ℕ) (b : Backward script other) (t₂ w₂ : List ℕ) (tl₂ : Tally) (long : table_length ≤ length t₂) (wide : work_length ≤ length w₂) where
  abbrev first : Play
  first = play_service file t w us script budget tl

  abbrev second : Play
  second = play_service file t₂ w₂ first.units other budget tl₂

  abbrev rs : List Row
  rs = file_rows file t w us script budget tl ok

  abbrev ps : List Planned
  ps = visits_of file t w us script budget tl ok

  us₁ : Units
  us₁ = units_after rs budget ps us

  pub play_restores : (second.answer ≡ record { number = 0; line = 0 }) × Alike rs us second.units
      × (second.tally ≡ record { done = length (lines script); skipped = 0; spent = 0 })
  unfolding us₁
  play_restores =
      let acc = accepts file t w us script budget tl ok in
      let g = play_gives file t w us script budget tl ok in
      let reads = visits_read file t w us script budget tl ok in
      let n = named file t w us script budget tl ok in
      let hold = after_holds file t w us script budget tl ok ps us (holds file t w us script budget tl ok) n in
      let over = neither (ltb max_units (length us.types)) (ltb max_lines (length (lines script))) (not_over file t w us script budget tl ok) in
      let few = ltb_false max_units (length us.types) over.0 in
      let short_enough = ltb_false max_lines (length (lines script)) over.1 in
      let size = after_length rs budget ps us in
      let dones = all_done (outcomes rs budget ps us) nothing_yet (ap (λ (z : Tally). z.skipped) (sym g.1) ∙ none_skipped) (ap (λ (z : Tally). z.spent) (sym g.1) ∙ none_spent) in
      let r = restores file rs acc budget ps us (holds file t w us script budget tl ok) n dones us₁ (record { trees = refl; settings = refl }) in
      let script₂ : script_of (length us₁.types) (isos_of rs) (lines other) ≡ gives (backward ps) =
      ap (λ k. script_of k (isos_of rs) (lines other)) size ∙ backward_script file rs acc budget (length us.types) script other ps reads n b in
      let l₂ = script_length (length us₁.types) (isos_of rs) (lines other) (backward ps) script₂ in
      let l₁ = script_length (length us.types) (isos_of rs) (lines script) ps reads in
      let lr : length (backward ps) ≡ length ps = length-reverse (map opposite ps) ∙ length-map ps opposite in
      let play : second ≡ play_by us₁ tl₂ (served (accepted rs) (gives (played rs budget us₁ (backward ps))) t₂ w₂) =
      ap (λ z. play_service file t₂ w₂ z other budget tl₂) g.0
      ∙ goes file t₂ w₂ us₁ other budget tl₂ rs acc long wide hold (omega (arith, size, few)) (omega (arith, l₂, l₁, lr, short_enough)) (backward ps) script₂ in
      let ol = outcomes_length rs budget (backward ps) us₁ in
      let number : 0 + length (outcomes rs budget (backward ps) us₁) ≡ length (lines script) = omega (arith, ol, lr, l₁) in (
        ap (λ (z : Play). z.answer) play,
        subst (Alike rs us) (sym (ap (λ (z : Play). z.units) play)) r.0,
        ap (λ (z : Play). z.tally) play ∙ done_counts (outcomes rs budget (backward ps) us₁) nothing_yet r.1 ∙ ap (λ k. record { done = k; skipped = 0; spent = 0 }) number,
      )
