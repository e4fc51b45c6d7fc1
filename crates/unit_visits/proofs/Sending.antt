-- A setting sent through an iso: its letters are written where the run takes them, and the number is read where it leaves its result, against the
-- definition by number to letters, run, and letters to number. Nothing but the budget can be refused on the way.
use Prim.Native.Nat.{ℕ, ◌+◌, ◌*◌, ◌%◌, ◌≤◌, ◌<◌}
use native.Mathlib.Nat.{zero-add}
use native.Mathlib.Omega.{arith}
use mathlib.Core.Path.{◌≡◌, refl, sym, ap, ap₂, ◌∙◌, subst, subst₂}
use mathlib.Core.Bool.{Bool, true, false, cond}
use mathlib.Core.Option.{Option, none, some}
use mathlib.Core.List.{List, ◌++◌}
use lib.Dec.{leb}
use lib.ListN.{length, get_elem?, drop}
use lib.Seq.{sets-eq, drop_at}
use Rattle.limits.specs.Limits.{max_depth, run_room, work_length, frame}
use Rattle.calculus.specs.Trees.{Val, Iso}
use Rattle.calculus.specs.Refusals.{spent as over_budget}
use Rattle.calculus.specs.Letters.{letters}
use Rattle.calculus.specs.Lists.{is_free, Finite}
use Rattle.calculus.specs.Paper.{Of}
use Rattle.format.specs.Lines.{Row}
use Rattle.format.specs.Unfold.{isos_of}
use Rattle.model.specs.Services.{gives, fails, toward}
use Rattle.model.specs.Answers.{GoodRows}
use Rattle.calculus.proofs.Basic.{none≢some, some_inj, le_leb, not_leb}
use Rattle.calculus.proofs.Letters.{of_inhabits}
use Rattle.model.proofs.Runs.{good_toward}
use Rattle.law_ranking.specs.Numbering.{rank}
use Rattle.law_ranking.proofs.Numbering.{few_finite, rank_below}
use Rattle.law_units.specs.Units.{Planned, Holds, done, spent, other_end, sent, came_to}
use Rattle.law_units.proofs.Visits.{value_of, typed, reduced, end_line, sends}
use Rattle.table_trees.specs.Unfolding.{type_of}
use Rattle.run_values.specs.Texts.{At}
use Rattle.run_values.specs.Traces.{Runs}
use Rattle.run_values.proofs.Tracing.{Traced, traced, finite_fits}
use Rattle.std.specs.Prelude.{Err}
use Rattle.run_reduction.specs.declared.Stop as S
use Rattle.run_reduction.specs.declared.Stop.TheVariants as halt
use Rattle.run_reduction.specs.Frames.{Giving, given_at, Spares, Answers, Applied, ApplySays}
use Rattle.run_reduction.proofs.Laying.{laid}
use Rattle.run_reduction.proofs.Framing.{range_begin, ok≢spent, ok≢large, spent≢large, spares_more}
use Rattle.number_values.specs.Numbers.{Ranks, Unranks}
use Rattle.unit_script.specs.declared.Planned as P
use Rattle.unit_script.specs.Views.{planned_view}
use Rattle.unit_visits.specs.Visiting.{Playable, Spared}
use Rattle.unit_visits.proofs.Visiting.{line_type}

module _ {t : List ℕ} {types : ℕ} {index : List ℕ} {isos : ℕ} {rs : List Row} (a : Playable t types index isos rs) (budget : ℕ) (p : P.Planned) (there : p.iso < isos)
    (free : is_free (isos_of rs) p.iso ≡ true) {i n : ℕ} (h : Holds rs i n) {o : Iso} (e : get_elem? (isos_of (toward p.back rs)) p.iso ≡ some o) (same : h.type ≡ o.from) where
  abbrev g : GoodRows rs
  g = a.prepared.good

  abbrev q : Planned
  q = planned_view p

  abbrev os : List Iso
  os = isos_of (toward p.back rs)

  -- the unit's letters
  abbrev ls : List ℕ
  ls = letters (value_of h)

  -- the value that the run gives, and its applications
  abbrev w : Val
  w = (reduced rs g budget q h e free same).0

  abbrev m : ℕ
  m = (reduced rs g budget q h e free same).1

  start_typed : Of (value_of h) o.from
  start_typed = subst (Of (value_of h)) same (typed h)

  trace : Traced (toward p.back rs) p.iso (value_of h)
  trace = traced (toward p.back rs) (good_toward p.back rs g) p.iso o e (value_of h) start_typed

  runs : Runs max_depth os p.iso (value_of h) (some w) m
  runs =
      let both = sym trace.reduces ∙ (reduced rs g budget q h e free same).2 in
      subst (λ k. Runs max_depth os p.iso (value_of h) (some w) k) (ap (λ (x : Option Val × ℕ). x.1) both)
      (subst (λ u. Runs max_depth os p.iso (value_of h) u trace.count) (ap (λ (x : Option Val × ℕ). x.0) both) trace.runs)

  small : length ls ≤ 127
  small = finite_fits (toward p.back rs) (good_toward p.back rs g) p.iso o e (value_of h) (subst Finite same (few_finite h.type h.line.few)) start_typed

  module _ (work : List ℕ) {work₁ : List ℕ} {size : ℕ} (says : Unranks (type_of t i) n work work₁ 0 size) (kept : length work₁ ≡ length work) (long : run_room ≤ length work)
      (most : length work ≤ work_length) where
    -- they are written to the front of the work area
    told : (work₁ ≡ ls ++ drop (0 + length ls) work) × (size ≡ 0 + length ls)
    told =
        let s = small in
        let z = zero-add (length ls) in
        let fits : 0 + length ls ≤ length work = omega (arith, z, s, long) in
        let u : Unranks h.type n work work₁ 0 size = subst (λ b. Unranks b n work work₁ 0 size) (line_type a i h.line.there) says in
        let x = u h.line.few h.below fits in
        (x.0 ∙ sets-eq ls work 0 fits, x.1)

    module _ {work₂ : List ℕ} {z : Giving} (runs_there : ApplySays t types index p.back p.iso max_depth work₁ work₂ 0 size 0 size budget z) where
      applied : Applied work₁ work₂ 0 max_depth budget (some w) m z
      applied =
          let s = small in
          let k = told.1 in
          let y = zero-add (length ls) in
          runs_there os (value_of h) (some w) m (laid t types index isos rs g.passes a.prepared.indexed p.back) runs
          (record {
            large = λ over. absurd (omega (arith, s, over));
            fits = λ f.
                record {
                  stands = record { rest = drop (0 + length ls) work; spells = told.0 };
                  ends = k;
                  low = omega arith;
                  over = omega arith;
                  near = omega (arith, k, y, s);
                };
          })
          (omega (arith, long, kept)) (omega (arith, kept, most))

      first : Spares work work₁ 0 (length ls)
      first =
          record {
            before = refl;
            behind = ap (drop (length ls)) told.0 ∙ drop_at ls (drop (0 + length ls) work) (length ls) refl ∙ ap (λ k. drop k work) (zero-add (length ls));
          }

      pub send_spared : Spared work work₂
      send_spared =
          let s = small in
          record {
            behind = (spares_more 0 (0 + max_depth * frame) 0 run_room applied.spares (omega arith) (omega arith)).behind
                ∙ (spares_more 0 (length ls) 0 run_room first (omega arith) (omega (arith, s))).behind;
          }

      module _ {j : ℕ} (at : j ≡ other_end rs p.back (some o)) where
        by_end : (b : Bool) → leb m budget ≡ b → sent rs budget q i n j ≡ cond b (gives (rank w o.to)) (fails over_budget)
        by_end b d = ap (sent rs budget q i n) at ∙ sends rs g budget q h e free same b d

        -- the budget is passed
        send_spent : z ≡ Err halt.Spent → spent ≡ came_to j (sent rs budget q i n j)
        send_spent ez = go applied.answers
          where
            go : Answers work₂ 0 budget (some w) m z → spent ≡ came_to j (sent rs budget q i n j)
            go (Answers.spent k y) = sym (ap (came_to j) (by_end false (not_leb k)))
            go (Answers.large k y x) = absurd (spent≢large (sym ez ∙ x))
            go (Answers.gives u k y x) = absurd (ok≢spent (sym x.gives ∙ ez))

        -- nothing is too large
        send_large : z ≡ Err halt.Large → spent ≡ came_to j (sent rs budget q i n j)
        send_large ez = go applied.answers
          where
            go : Answers work₂ 0 budget (some w) m z → spent ≡ came_to j (sent rs budget q i n j)
            go (Answers.spent k y) = absurd (spent≢large (sym y ∙ ez))
            go (Answers.large k y x) = absurd (none≢some (sym y))
            go (Answers.gives u k y x) = absurd (ok≢large (sym x.gives ∙ ez))

        -- whatever stops it
        pub send_stops : (s : S.Stop) → z ≡ Err s → spent ≡ came_to j (sent rs budget q i n j)
        send_stops halt.Spent = send_spent
        send_stops halt.Large = send_large

        -- it is not
        pub send_done : {b x left : ℕ} → z ≡ given_at b x left → {number end : ℕ} → Ranks (type_of t j) work₂ b number end → j < 65536
            → {c d : ℕ} → c ≡ j % 4294967296 → d ≡ number % 4294967296 → done c d ≡ came_to j (sent rs budget q i n j)
        send_done {b} ez {number} {end} ranks low {c} {d} ec ed = go applied.answers
          where
            go : Answers work₂ 0 budget (some w) m z → done c d ≡ came_to j (sent rs budget q i n j)
            go (Answers.spent k y) = absurd (ok≢spent (sym ez ∙ y))
            go (Answers.large k y x) = absurd (none≢some (sym y))
            go (Answers.gives u k y x) =
                let begins : b ≡ x.begin = range_begin (sym ez ∙ x.gives) in
                let stands : At work₂ b w = subst₂ (λ y u. At work₂ y u) (sym begins) (sym (some_inj y)) x.stands in
                let line = end_line rs g budget q h e free same in
                let type : type_of t j ≡ o.to = ap (type_of t) at ∙ line_type a (other_end rs p.back (some o)) line.there in
                let inside = of_inhabits (reduced rs g budget q h e free same).3 in
                let l = line.few in
                let r = (subst (λ y. Ranks y work₂ b number end) type ranks w stands inside l).0 in
                let below = rank_below w o.to inside in
                let same_line : c ≡ j = omega (arith, ec, low) in
                let same_number : d ≡ rank w o.to = omega (arith, ed, r, below, l) in
                ap₂ done same_line same_number ∙ sym (ap (came_to j) (by_end true (le_leb k)))
