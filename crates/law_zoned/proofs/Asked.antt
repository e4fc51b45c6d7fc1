-- What is asked of the rows of a file without lists and self-calls: every test that request 14 adds lets it pass, so each comes to what it came to before.
use Prim.Native.Nat.{ℕ, suc, ◌+◌}
use native.Mathlib.Omega.{arith}
use mathlib.Core.Path.{◌≡◌, refl, sym, ap, ap₂, ◌∙◌, subst}
use mathlib.Core.Bool.{Bool, true, not, cond, ◌||◌}
use mathlib.Core.Option.{Option, none, some}
use mathlib.Core.List.{List, [], ◌∷◌}
use lib.Dec.{ltb}
use lib.ListN.{length, get_or, get_elem?}
use Rattle.limits.specs.Limits.{max_pairs}
use Rattle.calculus.specs.Tools.{first_of, or_else}
use Rattle.calculus.specs.Trees.{Val, Iso}
use Rattle.calculus.specs.Refusals.{Refusal, too_many}
use Rattle.calculus.specs.Paper.{Of, NeverCalls, NoneCalls}
use Rattle.calculus.specs.Lists.{Finite, ListFree, is_free}
use Rattle.calculus.specs.Clauses.{Sigs, at, clause_fault, side_fault, iso_fault, sigs_of, fault_from, fault}
use Rattle.calculus.specs.Reduction.{Counted, reduce_to, reduce}
use Rattle.calculus.proofs.Basic.{index_below, counted}
use Rattle.calculus.proofs.Steps.{forward}
use Rattle.calculus.proofs.Lists.{never_stops}
use Rattle.calculus.proofs.Letters.{inhabits_of}
use Rattle.calculus.proofs.Inverse.{free_unfold}
use Rattle.calculus.proofs.Stopping.{progress}
use Rattle.format.specs.Lines.{Row, lines}
use Rattle.format.specs.Unfold.{isos_of}
use Rattle.model.specs.Services.{fails, gives, Outcome, within, argument, from, on_iso, run_rows}
use Rattle.model.specs.Answers.{GoodRows}
use Rattle.model.proofs.Runs.{good, sound, reduces_one, value_in_lem}
use Rattle.model.proofs.Sizes.{free_gives}
use Rattle.law_costs.specs.Costs.{least_costs, greatest_costs}
use Rattle.law_costs.specs.Bounds.{bounds_rows, on_iso as bounds_on}
use Rattle.law_witnesses.specs.Showing.{shown_or, shown_first}
use Rattle.law_ranking.specs.Numbering.{count}
use Rattle.law_pairlists.specs.PairLists.{export_rows, on_exported, on_pairs, upwards, to_from}
use Rattle.law_units.specs.Units.{Planned, planned_for, and_then, on_line, script_of, Units, units_fault, on_script, on_units, play_rows}
use Rattle.law_zoned.specs.Before.{iso_before, fault_before, shown_before, reduce_before, from_before, on_iso_before, run_before, bounds_on_iso, bounds_before, export_on_iso}
use Rattle.law_zoned.specs.Before.{export_before, planned_before, script_before, play_on_units, play_before}
use Rattle.law_zoned.proofs.Listless.{no_recursion}

-- ---- 8 to 14

-- an iso that does not call itself is judged as before
pub same_iso : (sigs : Sigs) (i : ℕ) (o : Iso) → NeverCalls i o → iso_fault sigs i o ≡ iso_before sigs o
unfolding iso_fault iso_before
same_iso sigs i o h =
    ap (λ r. or_else (first_of (λ c. at c.line (clause_fault sigs o.from o.to c)) o.clauses) (or_else r (at o.line (side_fault o)))) (no_recursion i o h)

-- isos from number i on that do not
abbrev QuietFrom : ℕ → List Iso → Type 0
QuietFrom i os = (j : ℕ) (o : Iso) → get_elem? os j ≡ some o → NeverCalls (i + j) o

first_quiet : (i : ℕ) (o : Iso) (os : List Iso) → QuietFrom i (o ∷ os) → NeverCalls i o
first_quiet i o os q = let e : i + 0 ≡ i = omega arith in subst (λ k. NeverCalls k o) e (q 0 o refl)

rest_quiet : (i : ℕ) (o : Iso) (os : List Iso) → QuietFrom i (o ∷ os) → QuietFrom (suc i) os
rest_quiet i o os q j p e = let f : i + suc j ≡ suc i + j = omega arith in subst (λ k. NeverCalls k p) f (q (suc j) p e)

same_from : (sigs : Sigs) (i : ℕ) (os : List Iso) → QuietFrom i os → fault_from sigs i os ≡ fault_before sigs os
same_from sigs i [] q = refl
same_from sigs i (o ∷ os) q = ap₂ or_else (same_iso sigs i o (first_quiet i o os q)) (same_from sigs (suc i) os (rest_quiet i o os q))

same_shown : (sigs : Sigs) (i : ℕ) (os : List Iso) → QuietFrom i os → shown_first sigs i os ≡ shown_before sigs os
same_shown sigs i [] q = refl
same_shown sigs i (o ∷ os) q = ap₂ (shown_or o) (same_iso sigs i o (first_quiet i o os q)) (same_shown sigs (suc i) os (rest_quiet i o os q))

all_quiet : (os : List Iso) → NoneCalls os → QuietFrom 0 os
all_quiet os q j o e = let f : j ≡ 0 + j = omega arith in subst (λ k. NeverCalls k o) f (q j o e)

pub same_fault : (os : List Iso) → NoneCalls os → fault os ≡ fault_before (sigs_of os) os
unfolding fault
same_fault os q = same_from (sigs_of os) 0 os (all_quiet os q)

pub same_first : (os : List Iso) → NoneCalls os → shown_first (sigs_of os) 0 os ≡ shown_before (sigs_of os) os
same_first os q = same_shown (sigs_of os) 0 os (all_quiet os q)

-- ---- runs

module _ (rs : List Row) (g : GoodRows rs) (free : (i : ℕ) → ListFree (isos_of rs) i) where
  -- the reduction without ceilings ends below so many calls as there are isos, in the same value with the same count
  same_reduction : (i : ℕ) (o : Iso) → get_elem? (isos_of rs) i ≡ some o → (v : Val) → Of v o.from → reduce (isos_of rs) i v ≡ reduce_before (isos_of rs) i v
  same_reduction i o e v t =
      let (w, k, r) = free_gives rs g i (free i) o e v t in
      r ∙ sym (ap (λ f. f i v) (free_unfold (length os) os) ∙ go w k r (reduce_to (λ v. true) (length os) os i v) refl)
    where
      os : List Iso
      os = isos_of rs

      few : (j : ℕ) (p : Iso) → get_elem? os j ≡ some p → (u : Val)
          → (Finite p.from → Of u p.from → ◌≡◌ {A = Bool} true true) × (Finite p.to → Of u p.to → ◌≡◌ {A = Bool} true true)
      few j p f u = (λ n h. refl, λ n h. refl)

      go : (w : Val) (k : ℕ) → reduce os i v ≡ (some w, k) → (x : Counted Val) → reduce_to (λ v. true) (length os) os i v ≡ x
          → reduce_to (λ v. true) (length os) os i v ≡ (some w, k)
      go w k r (none, m) q =
          absurd (never_stops (sound os (good rs g)) (good rs g).ok (λ v. true) few (progress (sound os (good rs g)) (λ v. true) (length os) i o e v t m q)
          (index_below os i e) (free i) o e t)
      go w k r (some u, m) q =
          let h = reduces_one os (good rs g) i v w u k m r (forward os (λ v. true) (length os) i v u m q) in
          q ∙ sym (counted (ap some h.0) h.1)

  pub same_run : (i budget : ℕ) (value : List ℕ) → run_rows rs i budget value ≡ run_before rs i budget value
  unfolding run_rows
  same_run i budget value = on (get_elem? (isos_of rs) i) refl
    where
      from_value : (o : Iso) → get_elem? (isos_of rs) i ≡ some o → (x : Option Val) → argument o value ≡ x
          → from (isos_of rs) i budget x ≡ from_before (isos_of rs) i budget x
      from_value o e none q = refl
      from_value o e (some v) q = ap (within budget) (same_reduction i o e v (inhabits_of v o.from (value_in_lem value o.from v q).1))

      on : (x : Option Iso) → get_elem? (isos_of rs) i ≡ x → on_iso (isos_of rs) i budget value x ≡ on_iso_before (isos_of rs) i budget value x
      on none e = refl
      on (some o) e = from_value o e (argument o value) refl

-- ---- 18

module _ (rs : List Row) (free : (i : ℕ) → is_free (isos_of rs) i ≡ true) where
  pub same_bounds : (i : ℕ) → bounds_rows i rs ≡ bounds_before i rs
  same_bounds i = on (get_elem? (isos_of rs) i)
    where
      on : (x : Option Iso) → bounds_on (isos_of rs) i x ≡ bounds_on_iso (isos_of rs) i x
      on none = refl
      on (some o) =
          ap (λ b. cond b (gives (get_or (least_costs (isos_of rs)) i 0, get_or (greatest_costs (isos_of rs)) i 0)) (fails too_many)) (free i)

  pub same_export : (i budget : ℕ) → export_rows rs i budget ≡ export_before rs i budget
  unfolding export_rows
  same_export i budget = on (get_elem? (isos_of rs) i)
    where
      on : (x : Option Iso) → on_exported (isos_of rs) i budget x ≡ export_on_iso (isos_of rs) i budget x
      on none = refl
      on (some o) =
          ap (λ b. cond (not b || ltb max_pairs (count o.from)) (fails too_many) (on_pairs (upwards (to_from (isos_of rs) i o budget) 0 (count o.from)))) (free i)

  same_line : (units : ℕ) (x : Option Planned) → on_line (isos_of rs) x ≡ planned_before x
  same_line units none = refl
  same_line units (some p) = ap (λ b. cond b (gives p) (fails too_many)) (free p.iso)

  same_script : (units : ℕ) (ls : List (List ℕ)) → script_of units (isos_of rs) ls ≡ script_before units (length (isos_of rs)) ls
  same_script units [] = refl
  same_script units (l ∷ ls) =
      ap₂ (λ (x : Outcome Planned) (y : Outcome (List Planned)). and_then x (λ p. and_then y (λ ps. gives (p ∷ ps))))
      (same_line units (planned_for units (length (isos_of rs)) l)) (same_script units ls)

  pub same_play : (us : Units) (script : List ℕ) (budget : ℕ) → play_rows us script budget rs ≡ play_before us script budget rs
  unfolding play_rows
  same_play us script budget = on (units_fault rs us.types us.settings)
    where
      on : (x : Option Refusal) → on_units rs budget us (lines script) x ≡ play_on_units rs budget us (lines script) x
      on (some f) = refl
      on none = ap (on_script rs budget us) (same_script (length us.types) (lines script))
