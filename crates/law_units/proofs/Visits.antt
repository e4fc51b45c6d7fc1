-- One visit to a unit that passes the tests: skipped where the types differ, else what the reduction gives, within the budget or not.
use Prim.Native.Nat.{ℕ, ◌<◌}
use native.Mathlib.Omega.{arith}
use mathlib.Core.Path.{◌≡◌, refl, sym, ap, ◌∙◌, subst}
use mathlib.Core.Bool.{Bool, true, false, cond}
use mathlib.Core.Option.{none, some}
use mathlib.Core.List.{List}
use lib.Dec.{leb}
use lib.ListN.{get_elem?}
use Rattle.calculus.specs.Tools.{◌>>=◌, guard}
use Rattle.calculus.specs.Trees.{Val, Iso, same_type}
use Rattle.calculus.specs.Refusals.{spent as over_budget}
use Rattle.format.specs.Lines.{Row}
use Rattle.format.specs.Unfold.{isos_of}
use Rattle.calculus.specs.Reduction.{reduce}
use Rattle.calculus.specs.Letters.{letters, inhabits}
use Rattle.calculus.specs.Paper.{Of}
use Rattle.calculus.specs.Lists.{is_free}
use Rattle.model.specs.Services.{Outcome, gives, fails, refusal_of, within, argument, from, on_iso, run_rows, toward, run_on}
use Rattle.model.specs.Answers.{GoodRows}
use Rattle.calculus.proofs.Basic.{some_bind, none≢some, same_type_refl}
use Rattle.calculus.proofs.Letters.{value_letters, of_inhabits, inhabits_of}
use Rattle.model.proofs.Runs.{good_toward}
use Rattle.model.proofs.Sizes.{free_ends, free_toward}
use Rattle.law_ranking.specs.Numbering.{count, rank, unrank, number_rows, setting_rows}
use Rattle.law_ranking.specs.Answers.{LineOf, NumberIs, SettingIs}
use Rattle.law_ranking.proofs.Numbering.{few_finite, rank_below, unrank_inhabits, rank_unrank}
use Rattle.law_ranking.proofs.Outcomes.{number_in_lem, setting_in, setting_case}
use Rattle.law_pairlists.proofs.Exports.{counts_back}
use Rattle.law_units.specs.Units.{Planned, unit_fault, Holds, done, skipped, spent, matches, other_end, and_then, sent, came_to, visit_by, visit}
use Rattle.law_units.proofs.Ends.{end_type}

-- ---- a unit that passes the tests

module _ {rs : List Row} {i n : ℕ} where
  setting_holds : {x : Outcome (List ℕ)} → SettingIs rs i n x → refusal_of x ≡ none → Holds rs i n
  setting_holds (SettingIs.faulty f l) e = absurd (none≢some (sym e))
  setting_holds (SettingIs.high a l k) e = absurd (none≢some (sym e))
  setting_holds (SettingIs.setting a v l h e) z = record { type = a; line = l; below = subst (λ m. m < count a) e (rank_below v a (of_inhabits h)) }

  pub no_fault : unit_fault rs i n ≡ none → Holds rs i n
  no_fault e = let c = setting_case rs i n in setting_holds c.1 (sym (ap refusal_of (setting_in rs i n c.1)) ∙ e)

  module _ (h : Holds rs i n) where
    abbrev pub value_of : Val
    value_of = unrank h.type n

    pub typed : Of value_of h.type
    typed = inhabits_of value_of h.type (unrank_inhabits h.type n h.below)

    -- number to letters gives the letters of its value
    pub spelled : setting_rows i n rs ≡ gives (letters value_of)
    spelled = setting_in rs i n (SettingIs.setting h.type value_of h.line typed (rank_unrank h.type (few_finite h.type h.line.few) n h.below))

    pub holds_fault : unit_fault rs i n ≡ none
    holds_fault = ap refusal_of spelled

-- ---- a visit

module _ (rs : List Row) (g : GoodRows rs) (budget : ℕ) (p : Planned) {i n : ℕ} (h : Holds rs i n) {o : Iso} (e : get_elem? (isos_of (toward p.back rs)) p.iso ≡ some o)
    (free : is_free (isos_of rs) p.iso ≡ true) where
  abbrev os : List Iso
  os = isos_of (toward p.back rs)

  -- the T line at the other end
  abbrev pub end : ℕ
  end = other_end rs p.back (some o)

  pub visit_by_lem : (b : Bool) → same_type h.type o.from ≡ b → visit rs budget p i n ≡ cond b (came_to end (sent rs budget p i n end)) skipped
  unfolding visit
  visit_by_lem b d =
      ap (visit_by rs budget p i n) e ∙ ap (λ x. cond (matches x (some o)) (came_to end (sent rs budget p i n end)) skipped) h.line.there
      ∙ ap (λ c. cond c (came_to end (sent rs budget p i n end)) skipped) d

  -- "A visit whose type does not match the unit is skipped"
  pub visit_skips : same_type h.type o.from ≡ false → visit rs budget p i n ≡ skipped
  visit_skips = visit_by_lem false

  module _ (same : h.type ≡ o.from) where
    start_typed : Of (value_of h) o.from
    start_typed = subst (Of (value_of h)) same (typed h)

    -- what the reduction gives, and with how many applications
    pub reduced : (w : Val) × (k : ℕ) × (reduce os p.iso (value_of h) ≡ (some w, k)) × Of w o.to
    reduced = free_ends p.back rs g p.iso o e free (value_of h) start_typed

    -- an iso is a bijection: the type at the other end has no more values, so its values are numbered too
    pub end_line : LineOf rs end o.to
    end_line =
        let c = counts_back (toward p.back rs) (good_toward p.back rs g) p.iso o e (free_toward p.back rs g p.iso ∙ free) in
        let f = h.line.few in
        let q : count h.type ≡ count o.from = ap count same in
        record { there = end_type rs g.passes p.back p.iso e; few = omega (arith, c, f, q) }

    argued : argument o (letters (value_of h)) ≡ some (value_of h)
    argued =
        some_bind (λ u. guard (inhabits u o.from) >>= λ _. some u) (value_letters (value_of h))
        ∙ some_bind (λ _. some (value_of h)) (ap guard (of_inhabits start_typed))

    pub ran : run_on p.iso p.back budget (letters (value_of h)) rs ≡ cond (leb reduced.1 budget) (gives (reduced.1, letters reduced.0)) (fails over_budget)
    unfolding run_rows
    ran =
        ap (on_iso os p.iso budget (letters (value_of h))) e ∙ ap (from os p.iso budget) argued ∙ ap (within budget) reduced.2

    -- letters to number gives the number of what came out
    pub numbered : number_rows end (letters reduced.0) rs ≡ gives (rank reduced.0 o.to)
    numbered = number_in_lem rs end (letters reduced.0) (NumberIs.number o.to reduced.0 end_line refl reduced.3)

    pub sends : (b : Bool) → leb reduced.1 budget ≡ b → sent rs budget p i n end ≡ cond b (gives (rank reduced.0 o.to)) (fails over_budget)
    sends b d =
        ap (λ x. and_then x (λ ls. and_then (run_on p.iso p.back budget ls rs) (λ r. number_rows end r.1 rs))) (spelled h)
        ∙ ap (λ x. and_then x (λ r. number_rows end r.1 rs)) (ran ∙ ap (λ c. cond c (gives (reduced.1, letters reduced.0)) (fails over_budget)) d)
        ∙ go b
      where
        go : (c : Bool) → and_then {A = ℕ × List ℕ} (cond c (gives (reduced.1, letters reduced.0)) (fails over_budget)) (λ r. number_rows end r.1 rs)
            ≡ cond c (gives (rank reduced.0 o.to)) (fails over_budget)
        go true = numbered
        go false = refl

    -- the visit is done exactly where the count keeps the budget, else spent
    pub visit_sends : visit rs budget p i n ≡ cond (leb reduced.1 budget) (done end (rank reduced.0 o.to)) spent
    visit_sends =
        visit_by_lem true (ap (λ a. same_type a o.from) same ∙ same_type_refl o.from) ∙ ap (came_to end) (sends (leb reduced.1 budget) refl)
        ∙ go (leb reduced.1 budget)
      where
        go : (c : Bool) → came_to end (cond c (gives (rank reduced.0 o.to)) (fails over_budget)) ≡ cond c (done end (rank reduced.0 o.to)) spent
        go true = refl
        go false = refl

    -- what the unit then holds passes the tests
    abbrev pub end_holds : Holds rs end (rank reduced.0 o.to)
    end_holds = record { type = o.to; line = end_line; below = rank_below reduced.0 o.to (of_inhabits reduced.3) }
