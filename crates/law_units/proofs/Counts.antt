-- How many visits a script has, and what the record counts.
use Prim.Native.Nat.{ℕ, suc, ◌+◌, ◌≤◌}
use native.Mathlib.Omega.{arith}
use mathlib.Core.Path.{◌≡◌, refl, sym, ap, ◌∙◌}
use mathlib.Core.List.{List, [], ◌∷◌, ◌++◌}
use lib.ListN.{length}
use Rattle.calculus.specs.Trees.{Iso}
use Rattle.format.specs.Lines.{Row}
use Rattle.model.specs.Services.{gives}
use Rattle.model.proofs.Outcomes.{gives_inj}
use Rattle.law_units.specs.Units.{Planned, script_of, Units, Visited, done, skipped, spent, visit_to, moved, units_after, outcomes, Tally, with_visit, counted}
use Rattle.law_units.proofs.Playing.{moved_length, script_first}

-- a visit a line
pub script_length : (units : ℕ) (os : List Iso) (ls : List (List ℕ)) (ps : List Planned) → script_of units os ls ≡ gives ps → length ps ≡ length ls
script_length units os [] ps e = ap length (sym (gives_inj e))
script_length units os (l ∷ ls) ps e =
    let f = script_first units os l ls ps e in ap length f.2 ∙ ap suc (script_length units os ls f.1 f.6)

-- and something comes of each
pub outcomes_length : (rs : List Row) (budget : ℕ) (ps : List Planned) (us : Units) → length (outcomes rs budget ps us) ≡ length ps
outcomes_length rs budget [] us = refl
outcomes_length rs budget (p ∷ ps) us = ap suc (outcomes_length rs budget ps (moved (visit_to rs budget us p) p.unit us))

-- there are as many units as before
pub after_length : (rs : List Row) (budget : ℕ) (ps : List Planned) (us : Units) → length (units_after rs budget ps us).types ≡ length us.types
after_length rs budget [] us = refl
after_length rs budget (p ∷ ps) us =
    let v : Visited = visit_to rs budget us p in after_length rs budget ps (moved v p.unit us) ∙ moved_length v p.unit us

-- the visits of two scripts, one behind the other
pub after_append : (rs : List Row) (budget : ℕ) (ps qs : List Planned) (us : Units) → units_after rs budget (ps ++ qs) us ≡ units_after rs budget qs (units_after rs budget ps us)
after_append rs budget [] qs us = refl
after_append rs budget (p ∷ ps) qs us = after_append rs budget ps qs (moved (visit_to rs budget us p) p.unit us)

pub outcomes_append : (rs : List Row) (budget : ℕ) (ps qs : List Planned) (us : Units) → outcomes rs budget (ps ++ qs) us ≡ outcomes rs budget ps us ++ outcomes rs budget qs
    (units_after rs budget ps us)
outcomes_append rs budget [] qs us = refl
outcomes_append rs budget (p ∷ ps) qs us =
    ap (λ vs. visit_to rs budget us p ∷ vs) (outcomes_append rs budget ps qs (moved (visit_to rs budget us p) p.unit us))

-- ---- the record

abbrev pub total : Tally → ℕ
total t = t.done + t.skipped + t.spent

with_total : (v : Visited) (t : Tally) → total (with_visit v t) ≡ suc (total t)
with_total (done j m) t = omega arith
with_total skipped t = omega arith
with_total spent t = omega arith

-- the three counts are as many as the visits
pub counted_total : (vs : List Visited) (t : Tally) → total (counted vs t) ≡ total t + length vs
counted_total [] t = omega arith
counted_total (v ∷ vs) t = let e = counted_total vs (with_visit v t) in let w = with_total v t in omega (arith, e, w)

-- each visit is done
abbrev pub AllDone : List Visited → Type 0
AllDone [] = Unit {0}
AllDone (done j m ∷ vs) = AllDone vs
AllDone (skipped ∷ vs) = ⊥
AllDone (spent ∷ vs) = ⊥

-- no count falls
counted_more : (vs : List Visited) (t : Tally) → (t.skipped ≤ (counted vs t).skipped) × (t.spent ≤ (counted vs t).spent)
counted_more [] t = (omega arith, omega arith)
counted_more (done j m ∷ vs) t = let h = counted_more vs (with_visit (done j m) t) in (omega (arith, h.0), omega (arith, h.1))
counted_more (skipped ∷ vs) t = let h = counted_more vs (with_visit skipped t) in (omega (arith, h.0), omega (arith, h.1))
counted_more (spent ∷ vs) t = let h = counted_more vs (with_visit spent t) in (omega (arith, h.0), omega (arith, h.1))

-- "If none was skipped or spent"
pub all_done : (vs : List Visited) (t : Tally) → (counted vs t).skipped ≡ 0 → (counted vs t).spent ≡ 0 → AllDone vs
all_done [] t e f = tt
all_done (done j m ∷ vs) t e f = all_done vs (with_visit (done j m) t) e f
all_done (skipped ∷ vs) t e f = let h = (counted_more vs (with_visit skipped t)).0 in absurd (omega (arith, h, e))
all_done (spent ∷ vs) t e f = let h = (counted_more vs (with_visit spent t)).1 in absurd (omega (arith, h, f))

pub done_counts : (vs : List Visited) (t : Tally) → AllDone vs → counted vs t ≡ record { done = t.done + length vs; skipped = t.skipped; spent = t.spent }
done_counts [] t a = ap (λ n. record { done = n; skipped = t.skipped; spent = t.spent }) (omega arith)
done_counts (done j m ∷ vs) t a =
    done_counts vs (with_visit (done j m) t) a ∙ ap (λ n. record { done = n; skipped = t.skipped; spent = t.spent }) (omega arith)
done_counts (skipped ∷ vs) t a = elim a [ ]
done_counts (spent ∷ vs) t a = elim a [ ]

pub done_append : (vs ws : List Visited) → AllDone vs → AllDone ws → AllDone (vs ++ ws)
done_append [] ws a b = b
done_append (done j m ∷ vs) ws a b = done_append vs ws a b
done_append (skipped ∷ vs) ws a b = elim a [ ]
done_append (spent ∷ vs) ws a b = elim a [ ]
