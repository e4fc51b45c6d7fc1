-- Each refusal of a play exactly where the request has it: what `Faults` judges is what the service answers.
use Prim.Native.Nat.{ℕ, zero, suc, ◌<◌}
use native.Mathlib.Omega.{arith}
use mathlib.Core.Path.{◌≡◌, refl, sym, ap, ap₂, ◌∙◌, subst}
use mathlib.Core.Logic.{◌⊎◌, inl, inr, ◌↔◌}
use mathlib.Core.Bool.{Bool, true, false, cond, not, ◌&&◌, ◌||◌}
use mathlib.Core.Option.{Option, none, some}
use mathlib.Core.List.Memᴰ
use mathlib.Core.List.{List, [], ◌∷◌, ◌++◌, append-nil}
use lib.Dec.{ltb, eqb}
use lib.ListN.{length, get_or}
use Rattle.limits.specs.Limits.{field_bound, table_length, work_length, max_lines, max_units, line_feed, carriage_return, letter_s}
use Rattle.calculus.specs.Tools.{◌>>=◌, guard, or_else}
use Rattle.calculus.specs.Trees.{Iso}
use Rattle.calculus.specs.Refusals.{Refusal, number, type_line, too_long, too_many, bad_script}
use Rattle.calculus.specs.Lists.{is_free, ListFree}
use Rattle.format.specs.Lines.{Row, lines, text, skip, fields, ended, print_field}
use Rattle.format.specs.Unfold.{isos_of}
use Rattle.model.specs.Services.{Verdict, accepted, refused, verdict, short, unless, answer_of, Answer, check, Outcome, gives, fails, refusal_of, refusal_number, serve, answer_from}
use Rattle.calculus.proofs.Basic.{bind_some, some_bind, some_inj, none≢some, not_some, neither, or_true, ltb_lt, ltb_false, lt_ltb, not_ltb, eqb_eq, eq_eqb}
use Rattle.calculus.proofs.Basic.{not_both, or_else_cases, each_cons, true_or_left, true_or_right, and_true, true_and, guard_true, bool_cases, is_false}
use Rattle.calculus.proofs.Lists.{EarlierOrOwn, free_iff}
use Rattle.format.proofs.Endings.{Ended, by_feed, by_both, NoReturn, Returnless, text_ended, ended_text}
use Rattle.format.proofs.Printing.{print_fields, Bounds, FieldsBelow, fields_print, skip_some, read_fields, ended_some, returnless_body}
use Rattle.model.proofs.Files.{accepted_iff, number_positive}
use Rattle.model.proofs.Outcomes.{fails≢gives}
use Rattle.model.proofs.Runs.{good, accepted_good}
use Rattle.model.proofs.Sheets.{long_enough}
use Rattle.model.proofs.Sizes.{near_of}
use Rattle.law_ranking.specs.Answers.{SettingIs}
use Rattle.law_ranking.proofs.Outcomes.{setting_in, setting_case}
use Rattle.law_units.specs.Units.{Planned, planned_in, planned_of, names, planned_for, and_then, on_line, line_on, script_of, Units, unit_fault, units_fault}
use Rattle.law_units.specs.Units.{Tally, on_script, on_units, play_rows, unequal, play_verdict, play_service}
use Rattle.law_units.specs.Faults.{visit_text, VisitLine, BadLine, Names, ScriptLine, Passing, FirstLine, UnitFault, FirstUnit, Room, Few, PlayFault}
use Rattle.law_units.proofs.Visits.{no_fault, holds_fault}
use Rattle.law_units.proofs.Playing.{within, all_hold, hold_all}
use Rattle.law_units.proofs.Services.{plays}

-- ---- the form of a line

abbrev bounds : List ℕ
bounds = field_bound ∷ field_bound ∷ 2 ∷ []

bounded : Bounds bounds
bounded = omega arith

direction : (n : ℕ) → n < 2 → n ≡ cond (eqb n 1) 1 0
direction zero h = refl
direction (suc zero) h = refl
direction (suc (suc n)) h = absurd (omega (arith, h))

-- the numbers of a line that reads
three : (ns : List ℕ) → FieldsBelow bounds ns
    → let p : Planned = record { unit = get_or ns 0 0; iso = get_or ns 1 0; back = eqb (get_or ns 2 0) 1 } in
    (p.unit < field_bound) × (p.iso < field_bound) × (letter_s ∷ print_fields ns ≡ visit_text p)
three [] h = absurd h
three (a ∷ []) h = absurd h.1
three (a ∷ b ∷ []) h = absurd h.1.1
three (a ∷ b ∷ c ∷ []) h = (
  h.0,
  h.1.0,
  ap (λ x. letter_s ∷ (print_field a ++ (print_field b ++ x))) (append-nil (print_field c) ∙ ap print_field (direction c h.1.1.0)),
)
three (a ∷ b ∷ c ∷ d ∷ ns) h = absurd h.1.1.1

-- what reads as a visit is its text …
text_shape : (t : List ℕ) {p : Planned} → planned_in t ≡ some p → (p.unit < field_bound) × (p.iso < field_bound) × (t ≡ visit_text p)
text_shape t {p} e =
    let (bs, after, e₁) = bind_some (skip letter_s t) (λ bs. fields bounds bs >>= on_end) e in
    let (r, numbers, e₂) = bind_some (fields bounds bs) on_end e₁ in
    let (u, end, e₃) = bind_some (ended r.1) (λ _. some (planned r.0)) e₂ in
    let (shape, below) = read_fields bounds bs bounded numbers in
    let (a, b, c) = three r.0 below in
    subst (λ q. (q.unit < field_bound) × (q.iso < field_bound) × (t ≡ visit_text q)) (some_inj e₃) (
      a,
      b,
      skip_some letter_s t after ∙ ap (λ x. letter_s ∷ x) (shape ∙ ap (λ x. print_fields r.0 ++ x) (ended_some r.1 end) ∙ append-nil (print_fields r.0)) ∙ c,
    )
  where
    planned : List ℕ → Planned
    planned ns = record { unit = get_or ns 0 0; iso = get_or ns 1 0; back = eqb (get_or ns 2 0) 1 }

    on_end : List ℕ × List ℕ → Option Planned
    on_end r = ended r.1 >>= λ _. some (planned r.0)

either_ending : {l t : List ℕ} → Ended l t → (l ≡ t ++ (line_feed ∷ [])) ⊎ (l ≡ t ++ (carriage_return ∷ line_feed ∷ []))
either_ending (by_feed e) = inl e
either_ending (by_both e) = inr e

ending_either : {l t : List ℕ} → (l ≡ t ++ (line_feed ∷ [])) ⊎ (l ≡ t ++ (carriage_return ∷ line_feed ∷ [])) → Ended l t
ending_either (inl e) = by_feed e
ending_either (inr e) = by_both e

pub line_shape : (l : List ℕ) {p : Planned} → planned_of l ≡ some p → VisitLine l p
unfolding planned_of
line_shape l {p} e =
    let (t, l_t, e₁) = bind_some (text l) planned_in e in
    let (a, b, c) = text_shape t e₁ in
    record { unit = a; iso = b; ended = either_ending (subst (Ended l) c (text_ended l l_t)) }

-- … and its text reads as it
abbrev fields_of : Planned → List ℕ
fields_of p = p.unit ∷ p.iso ∷ cond p.back 1 0 ∷ []

text_fields : (p : Planned) → visit_text p ≡ letter_s ∷ print_fields (fields_of p)
text_fields p = ap (λ x. letter_s ∷ (print_field p.unit ++ (print_field p.iso ++ x))) (sym (append-nil (print_field (cond p.back 1 0))))

below_two : (b : Bool) → cond b 1 0 < 2
below_two true = omega arith
below_two false = omega arith

one_or_none : (b : Bool) → eqb (cond b 1 0) 1 ≡ b
one_or_none true = refl
one_or_none false = refl

returnless : (p : Planned) → Returnless (letter_s ∷ print_fields (fields_of p))
returnless p =
    each_cons NoReturn refl
    (λ b m. returnless_body (record { kind = type_line; x = p.unit; y = p.iso; z = cond p.back 1 0 }) b (Memᴰ.tail m))

pub shape_line : {l : List ℕ} {p : Planned} → VisitLine l p → planned_of l ≡ some p
unfolding planned_of
shape_line {l} {p} v =
    let t : List ℕ = letter_s ∷ print_fields (fields_of p) in
    let read : text l ≡ some t = ended_text (ending_either (subst (λ x. (l ≡ x ++ (line_feed ∷ [])) ⊎ (l ≡ x ++ (carriage_return ∷ line_feed ∷ []))) (text_fields p) v.ended)) (returnless p) in
    let numbers : fields bounds (print_fields (fields_of p)) ≡ some (fields_of p, []) =
    ap (fields bounds) (sym (append-nil (print_fields (fields_of p)))) ∙ fields_print bounds (fields_of p) [] bounded (v.unit, (v.iso, (below_two p.back, tt))) tt in
    some_bind planned_in read
    ∙ some_bind
    (λ r. ended r.1 >>= λ _. some (record { unit = get_or r.0 0 0; iso = get_or r.0 1 0; back = eqb (get_or r.0 2 0) 1 }))
    numbers
    ∙ ap {B = Option Planned} (λ b. some (record { unit = p.unit; iso = p.iso; back = b })) (one_or_none p.back)

-- ---- the script

module _ (units isos : ℕ) where
  -- a line that is no visit of so many units and isos
  line_bad : (l : List ℕ) → planned_for units isos l ≡ none → BadLine units isos l
  line_bad l = go (planned_of l) refl
    where
      tested : (p : Planned) → VisitLine l p → (b c : Bool) → ltb p.unit units ≡ b → ltb p.iso isos ≡ c → (guard (b && c) >>= λ _. some p) ≡ none → BadLine units isos l
      tested p v true true e f h = absurd (none≢some (sym h))
      tested p v true false e f h = BadLine.iso p v (ltb_false p.iso isos f)
      tested p v false c e f h = BadLine.unit p v (ltb_false p.unit units e)

      go : (x : Option Planned) → planned_of l ≡ x → (x >>= λ p. guard (names units isos p) >>= λ _. some p) ≡ none → BadLine units isos l
      go none e h = BadLine.form (λ p v. none≢some (sym e ∙ shape_line v))
      go (some p) e h = tested p (line_shape l e) (ltb p.unit units) (ltb p.iso isos) refl refl h

  -- and one that is
  pub line_named : (l : List ℕ) {p : Planned} → planned_for units isos l ≡ some p → Names units isos l p
  line_named l {p} e =
      let c = bind_some (planned_of l) (λ q. guard (names units isos q) >>= λ _. some q) e in
      let d = bind_some (guard (names units isos c.0)) (λ _. some c.0) c.2 in
      let t = and_true (ltb c.0.unit units) (ltb c.0.iso isos) (guard_true (names units isos c.0) d.1) in
      subst (Names units isos l) (some_inj d.2)
      (record { line = line_shape l c.1; unit = ltb_lt c.0.unit units t.0; iso = ltb_lt c.0.iso isos t.1 })

  named_line : {l : List ℕ} {p : Planned} → Names units isos l p → planned_for units isos l ≡ some p
  named_line {l} {p} n =
      some_bind (λ q. guard (names units isos q) >>= λ _. some q) (shape_line n.line)
      ∙ ap (λ b. guard b >>= λ _. some p) (true_and (lt_ltb n.unit) (lt_ltb n.iso))

  bad_line : {l : List ℕ} → BadLine units isos l → planned_for units isos l ≡ none
  bad_line {l} bad = not_some (planned_for units isos l) (λ p e. not_named bad (line_named l e))
    where
      not_named : BadLine units isos l → {p : Planned} → Names units isos l p → ⊥
      not_named (BadLine.form h) {p} n = h p n.line
      not_named (BadLine.unit q v h) n =
          let same = ap (λ (x : Planned). x.unit) (some_inj (sym (shape_line n.line) ∙ shape_line v)) in
          absurd (omega (arith, n.unit, h, same))
      not_named (BadLine.iso q v h) n =
          let same = ap (λ (x : Planned). x.iso) (some_inj (sym (shape_line n.line) ∙ shape_line v)) in
          absurd (omega (arith, n.iso, h, same))

pub fails_inj : {A : Type 0} {f g : Refusal} → ◌≡◌ {A = Outcome A} (fails f) (fails g) → f ≡ g
fails_inj e = some_inj (ap refusal_of e)

-- isos of which a test tells whether they have to do with lists
module _ (units : ℕ) (os : List Iso) (near : EarlierOrOwn os) where
  at_iso : (i : ℕ) → i < length os → (is_free os i ≡ true) ↔ ListFree os i
  at_iso i h = let (o, e) = within os i h in free_iff os near i o e

  -- a line by what it plans
  line_told : (l : List ℕ) (x : Option Planned) → planned_for units (length os) l ≡ x
      → Passing units os l ⊎ ((f : Refusal) × ScriptLine units os l f)
  line_told l none e = inr (bad_script, ScriptLine.bad (line_bad units (length os) l e))
  line_told l (some p) e = go (bool_cases (is_free os p.iso))
    where
      n : Names units (length os) l p
      n = line_named units (length os) l e

      go : (is_free os p.iso ≡ true) ⊎ (is_free os p.iso ≡ false) → Passing units os l ⊎ ((f : Refusal) × ScriptLine units os l f)
      go (inl y) = inl (record { planned = p; names = n; free = (at_iso p.iso n.iso).0 y })
      go (inr y) = inr (too_many, ScriptLine.lists p n (λ free. not_both ((at_iso p.iso n.iso).1 free) y))

  line_passes : {l : List ℕ} (h : Passing units os l) → line_on units os l ≡ gives h.planned
  line_passes h =
      ap (on_line os) (named_line units (length os) h.names)
      ∙ ap (λ b. cond b (gives h.planned) (fails too_many)) ((at_iso h.planned.iso h.names.iso).1 h.free)

  line_fails : {l : List ℕ} {f : Refusal} → ScriptLine units os l f → line_on units os l ≡ fails f
  line_fails (ScriptLine.bad b) = ap (on_line os) (bad_line units (length os) b)
  line_fails (ScriptLine.lists p n h) =
      ap (on_line os) (named_line units (length os) n)
      ∙ ap (λ b. cond b (gives p) (fails too_many)) (is_false (is_free os p.iso) (λ e. h ((at_iso p.iso n.iso).0 e)))

  -- "tested line by line": the refusal of a script is that of the first line that has one
  pub fails_script : {ls : List (List ℕ)} {f : Refusal} → FirstLine units os ls f → script_of units os ls ≡ fails f
  fails_script (FirstLine.here {ls = ls} s) =
      ap (λ x. and_then x (λ p. and_then (script_of units os ls) (λ ps. gives (p ∷ ps)))) (line_fails s)
  fails_script (FirstLine.later {ls = ls} h s) =
      ap (λ x. and_then x (λ p. and_then (script_of units os ls) (λ ps. gives (p ∷ ps)))) (line_passes h)
      ∙ ap (λ x. and_then x (λ ps. gives (h.planned ∷ ps))) (fails_script s)

  pub script_fails : (ls : List (List ℕ)) {f : Refusal} → script_of units os ls ≡ fails f → FirstLine units os ls f
  script_fails [] e = absurd (fails≢gives (sym e))
  script_fails (l ∷ ls) {f} e = go (line_told l (planned_for units (length os) l) refl) (script_fails ls)
    where
      rest : (p : Planned) (x : Outcome (List Planned)) → and_then x (λ ps. gives (p ∷ ps)) ≡ fails f → x ≡ fails f
      rest p (gives ps) h = absurd (fails≢gives (sym h))
      rest p (fails g) h = ap fails (fails_inj h)

      go : Passing units os l ⊎ ((g : Refusal) × ScriptLine units os l g) → (script_of units os ls ≡ fails f → FirstLine units os ls f) → FirstLine units os (l ∷ ls) f
      go (inl h) ih =
          let next = sym (ap (λ x. and_then x (λ p. and_then (script_of units os ls) (λ ps. gives (p ∷ ps)))) (line_passes h)) ∙ e in
          FirstLine.later h (ih (rest h.planned (script_of units os ls) next))
      go (inr (g, s)) ih =
          let same = fails_inj (sym (ap (λ x. and_then x (λ p. and_then (script_of units os ls) (λ ps. gives (p ∷ ps)))) (line_fails s)) ∙ e) in
          FirstLine.here (subst (ScriptLine units os l) same s)

-- ---- the units

module _ (rs : List Row) where
  unit_told : {i n : ℕ} {x : Outcome (List ℕ)} {f : Refusal} → SettingIs rs i n x → refusal_of x ≡ some f → UnitFault rs i n f
  unit_told {i} {n} (SettingIs.faulty g l) e = subst (UnitFault rs i n) (some_inj e) (UnitFault.line g l)
  unit_told {i} {n} (SettingIs.high a l k) e = subst (UnitFault rs i n) (some_inj e) (UnitFault.high a l k)
  unit_told (SettingIs.setting a v l h q) e = absurd (none≢some e)

  fault_unit : (i n : ℕ) {f : Refusal} → unit_fault rs i n ≡ some f → UnitFault rs i n f
  fault_unit i n e = let c = setting_case rs i n in unit_told c.1 (sym (ap refusal_of (setting_in rs i n c.1)) ∙ e)

  unit_fault_lem : {i n : ℕ} {f : Refusal} → UnitFault rs i n f → unit_fault rs i n ≡ some f
  unit_fault_lem {i} {n} (UnitFault.line f l) = ap refusal_of (setting_in rs i n (SettingIs.faulty f l))
  unit_fault_lem {i} {n} (UnitFault.high a l k) = ap refusal_of (setting_in rs i n (SettingIs.high a l k))

  pub fault_first : (is ns : List ℕ) {f : Refusal} → units_fault rs is ns ≡ some f → FirstUnit rs is ns f
  fault_first [] ns e = absurd (none≢some e)
  fault_first (i ∷ is) [] e = absurd (none≢some e)
  fault_first (i ∷ is) (n ∷ ns) {f} e = go (or_else_cases (unit_fault rs i n) (units_fault rs is ns) f e) (λ q. fault_first is ns q)
    where
      go : (unit_fault rs i n ≡ some f) ⊎ ((unit_fault rs i n ≡ none) × (units_fault rs is ns ≡ some f)) → (units_fault rs is ns ≡ some f → FirstUnit rs is ns f)
          → FirstUnit rs (i ∷ is) (n ∷ ns) f
      go (inl q) ih = FirstUnit.here (fault_unit i n q)
      go (inr q) ih = FirstUnit.later (no_fault q.0) (ih q.1)

  pub first_fault : {is ns : List ℕ} {f : Refusal} → FirstUnit rs is ns f → units_fault rs is ns ≡ some f
  first_fault (FirstUnit.here {is = is} {ns = ns} u) = ap (λ x. or_else x (units_fault rs is ns)) (unit_fault_lem u)
  first_fault (FirstUnit.later {is = is} {ns = ns} h u) = ap (λ x. or_else x (units_fault rs is ns)) (holds_fault h) ∙ first_fault u

-- ---- the service

module _ (file t w : List ℕ) (us : Units) (script : List ℕ) (budget : ℕ) (tl : Tally) where
  abbrev narrow : Bool
  narrow = short t w || unequal us

  abbrev over : Bool
  over = ltb max_units (length us.types) || ltb max_lines (length (lines script))

  abbrev answered : Answer
  answered = (play_service file t w us script budget tl).answer

  -- the answer by the tests
  by_tests : (b c : Bool) → narrow ≡ b → over ≡ c → (v : Verdict) → verdict file ≡ v
      → answered ≡ answer_from (serve b (cond c (refused too_long 0) v) (play_rows us script budget) t w)
  unfolding play_service
  by_tests b c e f v g =
      ap (λ x. answer_from (serve x (play_verdict us script (verdict file)) (play_rows us script budget) t w)) e
      ∙ ap₂ (λ x y. answer_from (serve b (cond x (refused too_long 0) y) (play_rows us script budget) t w)) f g

  wide : Room t w us → narrow ≡ false
  wide r = ap₂ ◌||◌ (long_enough t w r.table r.work) (ap not (eq_eqb r.equal))

  room : narrow ≡ false → Room t w us
  room e =
      let (a, b) = neither (short t w) (unequal us) e in
      let (c, d) = neither (ltb (length t) table_length) (ltb (length w) work_length) a in
      record {
        table = ltb_false (length t) table_length c;
        work = ltb_false (length w) work_length d;
        equal = go (eqb (length us.types) (length us.settings)) refl b;
      }
    where
      go : (x : Bool) → eqb (length us.types) (length us.settings) ≡ x → not x ≡ false → length us.types ≡ length us.settings
      go true q h = eqb_eq (length us.types) (length us.settings) q
      go false q h = absurd (not_both refl h)

  fit : Few us script → over ≡ false
  fit f = ap₂ ◌||◌ (not_ltb f.units) (not_ltb f.visits)

  few : over ≡ false → Few us script
  few e =
      let (a, b) = neither (ltb max_units (length us.types)) (ltb max_lines (length (lines script))) e in
      record { units = ltb_false max_units (length us.types) a; visits = ltb_false max_lines (length (lines script)) b }

  too_long_lem : (max_units < length us.types) ⊎ (max_lines < length (lines script)) → over ≡ true
  too_long_lem (inl h) = true_or_left (ltb max_lines (length (lines script))) (lt_ltb h)
  too_long_lem (inr h) = true_or_right (ltb max_units (length us.types)) (lt_ltb h)

  check_answers : Room t w us → (check file t w).answer ≡ answer_of (verdict file)
  unfolding check
  check_answers r = ap (λ b. answer_of (unless b (verdict file))) (long_enough t w r.table r.work)

  -- a refused file
  by_file : (v : Verdict) → 0 < (answer_of v).number → answer_from (serve false v (play_rows us script budget) t w) ≡ answer_of v
  by_file (accepted rs) h = absurd (omega arith)
  by_file (refused f n) h = refl

  -- rows of an accepted file
  by_units : (rs : List Row) {f : Refusal} → FirstUnit rs us.types us.settings f → play_rows us script budget rs ≡ fails f
  unfolding play_rows
  by_units rs u = ap (on_units rs budget us (lines script)) (first_fault rs u)

  by_script : (rs : List Row) {f : Refusal} → units_fault rs us.types us.settings ≡ none → script_of (length us.types) (isos_of rs) (lines script) ≡ fails f
      → play_rows us script budget rs ≡ fails f
  unfolding play_rows
  by_script rs u s = ap (on_units rs budget us (lines script)) u ∙ ap (on_script rs budget us) s

  refuses : (rs : List Row) (f : Refusal) → Room t w us → Few us script → verdict file ≡ accepted rs → play_rows us script budget rs ≡ fails f → answered ≡ record { number = number f; line = 0 }
  refuses rs f r s acc e =
      by_tests false false (wide r) (fit s) (accepted rs) acc ∙ ap (λ x. record { number = refusal_number x; line = 0 }) e

  -- a let step of an accepted file names an earlier iso, or its own
  near : (rs : List Row) → verdict file ≡ accepted rs → EarlierOrOwn (isos_of rs)
  near rs acc = near_of (good rs (accepted_good file rs acc))

  -- what is judged is answered
  pub fault_answered : {n m : ℕ} → PlayFault file t w us script n m → answered ≡ record { number = n; line = m }
  fault_answered (PlayFault.area h) = by_tests true over (go narrow refl) refl (verdict file) refl
    where
      go : (b : Bool) → narrow ≡ b → narrow ≡ true
      go true e = e
      go false e = absurd (h (room e))
  fault_answered (PlayFault.long r h) = by_tests false true (wide r) (too_long_lem h) (verdict file) refl
  fault_answered (PlayFault.file n m r s h e) =
      let same = sym (check_answers r) ∙ e in
      let positive : 0 < (answer_of (verdict file)).number = subst (λ (a : Answer). 0 < a.number) (sym same) h in
      by_tests false false (wide r) (fit s) (verdict file) refl ∙ by_file (verdict file) positive ∙ same
  fault_answered (PlayFault.unit rs f r s form ok u) = refuses rs f r s ((accepted_iff file rs).1 (form, ok)) (by_units rs u)
  fault_answered (PlayFault.script rs f r s form ok holds first) =
      let acc = (accepted_iff file rs).1 (form, ok) in
      refuses rs f r s acc (by_script rs (hold_all rs us (record { long = r.equal; each = holds })) (fails_script (length us.types) (isos_of rs) (near rs acc) first))

  -- and there is a judgement for each answer that is not 0
  pub fault_or_none : (answered.number ≡ 0) ⊎ ((n : ℕ) × (m : ℕ) × PlayFault file t w us script n m)
  fault_or_none = tests narrow over refl refl
    where
      on_script_lem : (rs : List Row) → Room t w us → Few us script → verdict file ≡ accepted rs → units_fault rs us.types us.settings ≡ none → (x : Outcome (List Planned))
          → script_of (length us.types) (isos_of rs) (lines script) ≡ x → (answered.number ≡ 0) ⊎ ((n : ℕ) × (m : ℕ) × PlayFault file t w us script n m)
      on_script_lem rs r s acc u (fails f) e =
          let (form, ok) = (accepted_iff file rs).0 acc in
          inr (number f, 0, PlayFault.script rs f r s form ok (all_hold rs us r.equal u).each (script_fails (length us.types) (isos_of rs) (near rs acc) (lines script) e))
      on_script_lem rs r s acc u (gives ps) e =
          inl (ap (λ (a : Answer). a.number) (by_tests false false (wide r) (fit s) (accepted rs) acc) ∙ ap refusal_number (plays rs us script budget ps u e))

      on_units_lem : (rs : List Row) → Room t w us → Few us script → verdict file ≡ accepted rs → (x : Option Refusal) → units_fault rs us.types us.settings ≡ x
          → (answered.number ≡ 0) ⊎ ((n : ℕ) × (m : ℕ) × PlayFault file t w us script n m)
      on_units_lem rs r s acc none u = on_script_lem rs r s acc u (script_of (length us.types) (isos_of rs) (lines script)) refl
      on_units_lem rs r s acc (some f) u =
          let (form, ok) = (accepted_iff file rs).0 acc in inr (number f, 0, PlayFault.unit rs f r s form ok (fault_first rs us.types us.settings u))

      on_file : Room t w us → Few us script → (v : Verdict) → verdict file ≡ v → (answered.number ≡ 0) ⊎ ((n : ℕ) × (m : ℕ) × PlayFault file t w us script n m)
      on_file r s (accepted rs) e = on_units_lem rs r s e (units_fault rs us.types us.settings) refl
      on_file r s (refused f n) e = inr (number f, n, PlayFault.file (number f) n r s (number_positive f) (check_answers r ∙ ap answer_of e))

      tests : (b c : Bool) → narrow ≡ b → over ≡ c → (answered.number ≡ 0) ⊎ ((n : ℕ) × (m : ℕ) × PlayFault file t w us script n m)
      tests true c e f = inr (1, 0, PlayFault.area (λ r. not_both e (wide r)))
      tests false true e f = inr (2, 0, PlayFault.long (room e) (long_by (or_true (ltb max_units (length us.types)) (ltb max_lines (length (lines script))) f)))
        where
          long_by : (ltb max_units (length us.types) ≡ true) ⊎ (ltb max_lines (length (lines script)) ≡ true) → (max_units < length us.types) ⊎ (max_lines < length (lines script))
          long_by (inl h) = inl (ltb_lt max_units (length us.types) h)
          long_by (inr h) = inr (ltb_lt max_lines (length (lines script)) h)
      tests false false e f = on_file (room e) (few f) (verdict file) refl

  -- each refusal exactly where it is judged
  pub play_faults : (n m : ℕ) → 0 < n → (answered ≡ record { number = n; line = m }) ↔ PlayFault file t w us script n m
  play_faults n m h = ((λ e. go e fault_or_none), fault_answered)
    where
      go : answered ≡ record { number = n; line = m } → (answered.number ≡ 0) ⊎ ((n : ℕ) × (m : ℕ) × PlayFault file t w us script n m) → PlayFault file t w us script n m
      go e (inl z) = let q = ap (λ (a : Answer). a.number) e in absurd (omega (arith, h, z, q))
      go e (inr (k, l, f)) =
          let same = sym (fault_answered f) ∙ e in
          subst (λ x. PlayFault file t w us script x m) (ap (λ (a : Answer). a.number) same)
          (subst (λ x. PlayFault file t w us script k x) (ap (λ (a : Answer). a.line) same) f)
