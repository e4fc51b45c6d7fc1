-- The units from visit to visit: each stays one that passes the tests, and what a visit comes to, as the services tell it.
use Prim.Native.Nat.{ℕ, zero, suc, ◌<◌}
use native.Mathlib.Nat.{not-suc-le-zero, le_of_suc-le-suc}
use native.Mathlib.Omega.{arith}
use mathlib.Core.Path.{◌≡◌, refl, sym, ap, ap₂, ◌∙◌, subst}
use mathlib.Core.Logic.{◌⊎◌, inl, inr}
use mathlib.Core.Bool.{Bool, true, false, cond}
use mathlib.Core.Option.{Option, none, some}
use mathlib.Core.List.{List, [], ◌∷◌}
use lib.Dec.{leb, eqb, ltb}
use lib.ListN.{length, get_or, get_elem?, set, length-set}
use lib.Seq.{get_or-set_same, get_or-set_other}
use Rattle.calculus.specs.Tools.{◌>>=◌, guard, or_else}
use Rattle.calculus.specs.Trees.{Iso, same_type}
use Rattle.calculus.specs.Refusals.{spent as over_budget, too_many}
use Rattle.calculus.specs.Lists.{is_free}
use Rattle.format.specs.Lines.{Row}
use Rattle.format.specs.Judge.{start}
use Rattle.format.specs.Unfold.{isos_of}
use Rattle.calculus.specs.Letters.{letters}
use Rattle.model.specs.Services.{Outcome, gives, fails, toward, run_on}
use Rattle.model.specs.Answers.{GoodRows}
use Rattle.calculus.proofs.Basic.{bind_some, some_inj, guard_true, and_true, ltb_lt, or_else_none, bool_cases, eqb_eq, eqb_false, same_type_eq, same_type_refl, not_both}
use Rattle.format.proofs.Passing.{Passes}
use Rattle.model.proofs.Outcomes.{fails≢gives, gives_inj}
use Rattle.model.proofs.Runs.{toward_length}
use Rattle.law_ranking.specs.Numbering.{rank, number_rows, setting_rows}
use Rattle.law_units.specs.Units.{Planned, planned_of, names, planned_for, and_then, on_line, line_on, script_of, Units, unit_fault, Holds, units_fault, Visited}
use Rattle.law_units.specs.Units.{done, skipped, spent, other_end, visit, visit_to, moved}
use Rattle.law_units.proofs.Visits.{no_fault, holds_fault, value_of, spelled, end, visit_skips, reduced, ran, numbered, visit_sends, end_holds}

-- ---- isos of either direction

pub within : {A : Type 0} (xs : List A) (i : ℕ) → i < length xs → (x : A) × (get_elem? xs i ≡ some x)
within [] i h = absurd (not-suc-le-zero h)
within (x ∷ xs) zero h = (x, refl)
within (x ∷ xs) (suc i) h = within xs i (le_of_suc-le-suc h)

pub iso_there : (rs : List Row) → Passes start rs → (back : Bool) (i : ℕ) → i < length (isos_of rs) → (o : Iso) × (get_elem? (isos_of (toward back rs)) i ≡ some o)
iso_there rs ps back i h = let n = toward_length back rs ps in within (isos_of (toward back rs)) i (omega (arith, n))

-- ---- what a visit comes to

-- a unit that holds number n of T line i, visited by iso o
pub data VisitIs (rs : List Row) (budget : ℕ) (p : Planned) (i n : ℕ) (o : Iso) : Visited → Type 0 where
  skips : (h : Holds rs i n) → (h.type ≡ o.from → ⊥) → VisitIs rs budget p i n o skipped
  spends : (h : Holds rs i n) (ls : List ℕ) → h.type ≡ o.from → setting_rows i n rs ≡ gives ls → run_on p.iso p.back budget ls rs ≡ fails over_budget
      → VisitIs rs budget p i n o spent
  does : (h : Holds rs i n) (ls us : List ℕ) (k m : ℕ) → h.type ≡ o.from → setting_rows i n rs ≡ gives ls → run_on p.iso p.back budget ls rs ≡ gives (k, us)
      → number_rows (other_end rs p.back (some o)) us rs ≡ gives m → (e : Holds rs (other_end rs p.back (some o)) m) → e.type ≡ o.to
      → VisitIs rs budget p i n o (done (other_end rs p.back (some o)) m)

pub visit_is : (rs : List Row) → GoodRows rs → (budget : ℕ) (p : Planned) {i n : ℕ} → Holds rs i n → {o : Iso} → get_elem? (isos_of (toward p.back rs)) p.iso ≡ some o
    → is_free (isos_of rs) p.iso ≡ true → VisitIs rs budget p i n o (visit rs budget p i n)
visit_is rs g budget p {i} {n} h {o} e free = go (bool_cases (same_type h.type o.from))
  where
    on : (same : h.type ≡ o.from) (b : Bool) → leb (reduced rs g budget p h e free same).1 budget ≡ b → visit rs budget p i n ≡ cond b
        (done (end rs g budget p h e free) (rank (reduced rs g budget p h e free same).0 o.to)) spent
        → VisitIs rs budget p i n o (visit rs budget p i n)
    on same true d v =
        subst (VisitIs rs budget p i n o) (sym v)
        (does h (letters (value_of h)) (letters (reduced rs g budget p h e free same).0) (reduced rs g budget p h e free same).1 (rank (reduced rs g budget p h e free same).0 o.to) same
        (spelled h)
        (ran rs g budget p h e free same ∙ ap (λ c. cond c (gives ((reduced rs g budget p h e free same).1, letters (reduced rs g budget p h e free same).0)) (fails over_budget)) d)
        (numbered rs g budget p h e free same) (end_holds rs g budget p h e free same) refl)
    on same false d v =
        subst (VisitIs rs budget p i n o) (sym v)
        (spends h (letters (value_of h)) same (spelled h)
        (ran rs g budget p h e free same ∙ ap (λ c. cond c (gives ((reduced rs g budget p h e free same).1, letters (reduced rs g budget p h e free same).0)) (fails over_budget)) d))

    go : (same_type h.type o.from ≡ true) ⊎ (same_type h.type o.from ≡ false) → VisitIs rs budget p i n o (visit rs budget p i n)
    go (inl y) =
        let same = same_type_eq h.type o.from y in
        on same (leb (reduced rs g budget p h e free same).1 budget) refl (visit_sends rs g budget p h e free same)
    go (inr y) =
        subst (VisitIs rs budget p i n o) (sym (visit_skips rs g budget p h e free y))
        (skips h (λ q. not_both (ap (λ a. same_type a o.from) q ∙ same_type_refl o.from) y))

-- ---- all units

-- every unit passes the tests
pub record AllHold (rs : List Row) (us : Units) : Type 0 where
  pub long : length us.types ≡ length us.settings
  pub each : (k : ℕ) → k < length us.types → Holds rs (get_or us.types k 0) (get_or us.settings k 0)

each_holds : (rs : List Row) (is ns : List ℕ) → length is ≡ length ns → units_fault rs is ns ≡ none → (k : ℕ) → k < length is → Holds rs (get_or is k 0) (get_or ns k 0)
each_holds rs [] ns e f k h = absurd (not-suc-le-zero h)
each_holds rs (i ∷ is) [] e f k h = absurd (not-suc-le-zero (subst (λ m. k < m) e h))
each_holds rs (i ∷ is) (n ∷ ns) e f zero h = no_fault (or_else_none (unit_fault rs i n) (units_fault rs is ns) f).0
each_holds rs (i ∷ is) (n ∷ ns) e f (suc k) h =
    each_holds rs is ns (omega arith) (or_else_none (unit_fault rs i n) (units_fault rs is ns) f).1 k (le_of_suc-le-suc h)

pub all_hold : (rs : List Row) (us : Units) → length us.types ≡ length us.settings → units_fault rs us.types us.settings ≡ none → AllHold rs us
all_hold rs us e f = record { long = e; each = each_holds rs us.types us.settings e f }

none_faulty : (rs : List Row) (is ns : List ℕ) → ((k : ℕ) → k < length is → Holds rs (get_or is k 0) (get_or ns k 0)) → units_fault rs is ns ≡ none
none_faulty rs [] ns f = refl
none_faulty rs (i ∷ is) [] f = refl
none_faulty rs (i ∷ is) (n ∷ ns) f =
    ap₂ or_else (holds_fault (f zero (omega arith))) (none_faulty rs is ns (λ k h. f (suc k) (omega arith)))

-- and then no unit is refused
pub hold_all : (rs : List Row) (us : Units) → AllHold rs us → units_fault rs us.types us.settings ≡ none
hold_all rs us a = none_faulty rs us.types us.settings a.each

module _ (rs : List Row) (us : Units) (a : AllHold rs us) where
  stored : (u j m : ℕ) → u < length us.types → Holds rs j m → AllHold rs (record { types = set us.types u j; settings = set us.settings u m })
  stored u j m h new =
      record {
        long = length-set us.types u j ∙ a.long ∙ sym (length-set us.settings u m);
        each = λ k l. go k (bool_cases (eqb k u)) (subst (λ z. k < z) (length-set us.types u j) l);
      }
    where
      go : (k : ℕ) → (eqb k u ≡ true) ⊎ (eqb k u ≡ false) → k < length us.types → Holds rs (get_or (set us.types u j) k 0) (get_or (set us.settings u m) k 0)
      go k (inl y) l =
          let e = eqb_eq k u y in
          let d = a.long in
          subst (λ z. Holds rs z (get_or (set us.settings u m) k 0)) (sym (ap (λ q. get_or (set us.types u j) q 0) e ∙ get_or-set_same us.types u j 0 h))
          (subst (Holds rs j) (sym (ap (λ q. get_or (set us.settings u m) q 0) e ∙ get_or-set_same us.settings u m 0 (omega (arith, d)))) new)
      go k (inr y) l =
          let ne = eqb_false y in
          subst (λ z. Holds rs z (get_or (set us.settings u m) k 0)) (sym (get_or-set_other us.types u k j 0 ne))
          (subst (Holds rs (get_or us.types k 0)) (sym (get_or-set_other us.settings u k m 0 ne)) (a.each k l))

  module _ (g : GoodRows rs) (budget : ℕ) (p : Planned) (here : p.unit < length us.types) (low : p.iso < length (isos_of rs))
      (free : is_free (isos_of rs) p.iso ≡ true) where
    -- the iso of a visit, and what comes of it
    pub by_iso : (o : Iso) × (get_elem? (isos_of (toward p.back rs)) p.iso ≡ some o)
    by_iso = iso_there rs g.passes p.back p.iso low

    pub unit_is : VisitIs rs budget p (get_or us.types p.unit 0) (get_or us.settings p.unit 0) by_iso.0 (visit_to rs budget us p)
    unit_is = visit_is rs g budget p (a.each p.unit here) by_iso.1 free

    moved_holds : {v : Visited} → VisitIs rs budget p (get_or us.types p.unit 0) (get_or us.settings p.unit 0) by_iso.0 v → AllHold rs (moved v p.unit us)
    moved_holds (skips h d) = a
    moved_holds (spends h ls s x y) = a
    moved_holds (does h ls ks k m s x y z new t) = stored p.unit (other_end rs p.back (some by_iso.0)) m here new

    -- "the unit then holds …": every unit stays one that passes
    pub visit_keeps : AllHold rs (moved (visit_to rs budget us p) p.unit us)
    visit_keeps = moved_holds unit_is

-- there are as many units as before
pub moved_length : (v : Visited) (u : ℕ) (us : Units) → length (moved v u us).types ≡ length us.types
moved_length (done j m) u us = length-set us.types u j
moved_length skipped u us = refl
moved_length spent u us = refl

-- ---- the script

pub gives_then : {A B : Type 0} (x : Outcome A) (f : A → Outcome B) {b : B} → and_then x f ≡ gives b → (a : A) × (x ≡ gives a) × (f a ≡ gives b)
gives_then (gives a) f e = (a, refl, e)
gives_then (fails r) f e = absurd (fails≢gives e)

-- the first line of a script, and the others
pub script_first : (units : ℕ) (os : List Iso) (l : List ℕ) (ls : List (List ℕ)) (ps : List Planned) → script_of units os (l ∷ ls) ≡ gives ps
    → (p : Planned) × (qs : List Planned) × (ps ≡ p ∷ qs) × (planned_of l ≡ some p) × (p.unit < units) × (p.iso < length os) × (script_of units os ls ≡ gives qs)
    × (is_free os p.iso ≡ true)
script_first units os l ls ps e =
    let a = gives_then (line_on units os l) (λ p. and_then (script_of units os ls) (λ qs. gives (p ∷ qs))) e in
    let b = gives_then (script_of units os ls) (λ qs. gives (a.0 ∷ qs)) a.2 in
    let k = line_given (planned_for units (length os) l) a.1 in
    let c = bind_some (planned_of l) (λ p. guard (names units (length os) p) >>= λ _. some p) k.0 in
    let d = bind_some (guard (names units (length os) c.0)) (λ _. some c.0) c.2 in
    let same : c.0 ≡ a.0 = some_inj d.2 in
    let t = and_true (ltb c.0.unit units) (ltb c.0.iso (length os)) (guard_true (names units (length os) c.0) d.1) in
    let u = ltb_lt c.0.unit units t.0 in
    let w = ltb_lt c.0.iso (length os) t.1 in (
      a.0,
      b.0,
      sym (gives_inj b.2),
      c.1 ∙ ap some same,
      subst (λ (q : Planned). q.unit < units) same u,
      subst (λ (q : Planned). q.iso < length os) same w,
      b.1,
      k.1,
    )
  where
    free_given : (p : Planned) (b : Bool) → is_free os p.iso ≡ b → {q : Planned} → cond b (gives p) (fails too_many) ≡ gives q → (p ≡ q) × (is_free os q.iso ≡ true)
    free_given p true f h = (gives_inj h, subst (λ (q : Planned). is_free os q.iso ≡ true) (gives_inj h) f)
    free_given p false f h = absurd (fails≢gives h)

    line_given : (x : Option Planned) {q : Planned} → on_line os x ≡ gives q → (x ≡ some q) × (is_free os q.iso ≡ true)
    line_given none h = absurd (fails≢gives h)
    line_given (some p) h = let r = free_given p (is_free os p.iso) refl h in (ap some r.0, r.1)
