-- The run of one setting on a checked table, and its to, against the definition.
use Prim.Native.Nat.{ℕ, ◌+◌, ◌%◌, ◌≤◌, ◌<◌}
use native.Mathlib.Nat.{zero-add}
use native.Mathlib.Omega.{arith}
use mathlib.Core.Path.{◌≡◌, refl, sym, ap, ◌∙◌, subst}
use mathlib.Core.Bool.{Bool, true, false, cond}
use mathlib.Core.Option.{none, some}
use mathlib.Core.List.{List}
use lib.Dec.{leb}
use lib.ListN.{length, get_elem?, take, drop, set}
use lib.Seq.{sets-eq, take_at}
use Rattle.limits.specs.Limits.{max_pairs}
use Rattle.calculus.specs.Tools.{◌>>=◌, guard, is_some}
use Rattle.calculus.specs.Trees.{Val, Iso}
use Rattle.calculus.specs.Refusals.{number, spent}
use Rattle.format.specs.Lines.{Row}
use Rattle.format.specs.Unfold.{isos_of}
use Rattle.calculus.specs.Reduction.{reduce}
use Rattle.calculus.specs.Letters.{letters, inhabits}
use Rattle.calculus.specs.Paper.{Of}
use Rattle.model.specs.Services.{Ran, gives, fails, within, argument, from, on_iso, run_rows, answer_of_run, written}
use Rattle.format.specs.Code.{refusal_view, numbered}
use Rattle.calculus.proofs.Basic.{some_bind, is_some_true}
use Rattle.calculus.proofs.Letters.{value_letters, of_inhabits, inhabits_of}
use Rattle.model.proofs.Files.{number_positive}
use Rattle.model.proofs.Sizes.{free_ends}
use Rattle.law_ranking.specs.Numbering.{count, rank, unrank}
use Rattle.law_ranking.proofs.Numbering.{few_finite, rank_below, unrank_inhabits}
use Rattle.law_pairlists.specs.PairLists.{to_if, to_from}
use Rattle.law_pairlists.proofs.Exports.{counts_back}
use Rattle.table_trees.specs.Unfolding.{cell_of, type_of}
use Rattle.run_index.specs.Index.{place_at, iso_at}
use Rattle.checker.proofs.Checks.{flag_none}
use Rattle.run_values.specs.Texts.{At}
use Rattle.run_values.proofs.Tracing.{finite_fits}
use Rattle.number_values.specs.Numbers.{Ranks, Unranks}
use Rattle.run_reduction.proofs.Laying.{laid}
use Rattle.runner.specs.RunSays.{answer_for, RanAs, Prepared}
use Rattle.runner.specs.declared.run.Ran as R
use Rattle.list_targets.specs.Targets.{Runnable, with_to, Stores}

-- ---- the iso's types, by the index

module _ {t : List ℕ} {base : ℕ} {index : List ℕ} {isos : ℕ} {rs : List Row} (p : Prepared t base index isos rs) (i : ℕ) {o : Iso} (e : get_elem? (isos_of rs) i ≡ some o) where
  placed : o ≡ iso_at t base index i
  placed = (laid t base index isos rs p.good.passes p.indexed false).isos i o e

  pub from_type : type_of t (cell_of t (place_at index (place_at index i)) 1) ≡ o.from
  from_type = sym (ap (λ y. y.from) placed)

  pub to_type : type_of t (cell_of t (place_at index (place_at index i)) 2) ≡ o.to
  to_type = sym (ap (λ y. y.to) placed)

module _ {t : List ℕ} {base : ℕ} {index : List ℕ} {isos : ℕ} {rs : List Row} {i : ℕ} {o : Iso} (run : Runnable t base index isos rs i o) where
  pub to_few : count o.to ≤ max_pairs
  to_few =
      let g = run.prepared.good in
      let b = counts_back rs g i o run.there run.free in
      let f = run.few in
      omega (arith, b, f)

  module _ {k : ℕ} (low : k < count o.from) where
    abbrev v : Val
    v = unrank o.from k

    typed : Of v o.from
    typed = inhabits_of v o.from (unrank_inhabits o.from k low)

    pub small : length (letters v) ≤ 127
    small =
        let f = run.few in
        finite_fits rs run.prepared.good i o run.there v (few_finite o.from (omega (arith, f))) typed

    -- ---- the run of setting k

    spelled : (j n : ℕ) (s l l' : List ℕ) → j ≡ cell_of t (place_at index (place_at index i)) 1 → Unranks (type_of t j) k l l' 0 n → length l ≡ 127 → s ≡ take n l'
        → s ≡ letters v
    spelled j n s l l' e u long c =
        let a : type_of t j ≡ o.from = ap (type_of t) e ∙ from_type run.prepared i run.there in
        let f = run.few in
        let z = zero-add (length (letters v)) in
        let fits : 0 + length (letters v) ≤ length l = omega (arith, z, small, long) in
        let w : Unranks o.from k l l' 0 n = subst (λ b. Unranks b k l l' 0 n) a u in
        let x = w (omega (arith, f)) low fits in
        c ∙ ap (take n) (x.0 ∙ sets-eq (letters v) l 0 fits) ∙ take_at (letters v) (drop (0 + length (letters v)) l) n (sym (x.1 ∙ z))

    pub setting_ran : (budget j n : ℕ) (s l l' : List ℕ) {x x' : List ℕ} {r : R.Ran} → j ≡ cell_of t (place_at index (place_at index i)) 1 → Unranks (type_of t j) k l l' 0 n → length l ≡ 127
        → s ≡ take n l' → RanAs (answer_for rs i false budget s) x x' r → RanAs (answer_for rs i false budget (letters v)) x x' r
    setting_ran budget j n s l l' {x} {x'} {r} e u long c a =
        subst (λ b. RanAs (answer_for rs i false budget b) x x' r) (spelled j n s l l' e u long c) a

    -- ---- its to

    sent : (w : Val) × (m : ℕ) × (reduce (isos_of rs) i v ≡ (some w, m)) × Of w o.to
    sent = let g = run.prepared.good in free_ends false rs g i o run.there run.free v typed

    argued : argument o (letters v) ≡ some v
    argued = some_bind (λ u. guard (inhabits u o.from) >>= λ _. some u) (value_letters v)
        ∙ some_bind (λ _. some v) (ap guard (unrank_inhabits o.from k low))

    answered : (budget : ℕ) → run_rows rs i budget (letters v) ≡ within budget (some sent.0, sent.1)
    unfolding run_rows
    answered budget =
        ap (on_iso (isos_of rs) i budget (letters v)) run.there ∙ ap (from (isos_of rs) i budget) argued ∙ ap (within budget) sent.2

    to_by : (budget : ℕ) (b : Bool) → leb sent.1 budget ≡ b → to_from (isos_of rs) i o budget k ≡ cond b (some (rank sent.0 o.to)) none
    to_by budget true e = ap (to_if budget o) sent.2 ∙ ap (λ c. guard c >>= λ _. some (rank sent.0 o.to)) e
    to_by budget false e = ap (to_if budget o) sent.2 ∙ ap (λ c. guard c >>= λ _. some (rank sent.0 o.to)) e

    answer_by : (budget : ℕ) (b : Bool) → leb sent.1 budget ≡ b
        → answer_for rs i false budget (letters v) ≡ answer_of_run (cond b (gives (sent.1, letters sent.0)) (fails spent))
    answer_by budget b e =
        ap answer_of_run (answered budget ∙ ap (λ c. cond c (gives (sent.1, letters sent.0)) (fails spent)) e)

    module _ (budget : ℕ) {x x' : List ℕ} (r : R.Ran) (ran : RanAs (answer_for rs i false budget (letters v)) x x' r) {b : Bool} (f : b ≡ is_some (refusal_view r.refusal)) where
      -- the budget is passed
      pub to_spent : b ≡ true → (l : List ℕ) → Stores (to_from (isos_of rs) i o budget k) k l l false
      to_spent y l = go (leb sent.1 budget) refl
        where
          go : (c : Bool) → leb sent.1 budget ≡ c → Stores (to_from (isos_of rs) i o budget k) k l l false
          go true e =
              let s = is_some_true (refusal_view r.refusal) (sym f ∙ y) in
              let n : number s.0 ≡ 0 = sym (ap numbered s.1) ∙ ran.number ∙ ap (λ a. a.number) (answer_by budget true e) in
              let p = number_positive s.0 in
              absurd (omega (arith, n, p))
          go false e = record { given = sym (ap is_some (to_by budget false e)); numbers = sym (ap (λ q. with_to q k l) (to_by budget false e)) }

      -- it is not, and the result's number is stored
      pub to_stored : b ≡ false → (j n end : ℕ) {w : ℕ} {l l' : List ℕ} → j ≡ cell_of t (place_at index (place_at index i)) 2 → Ranks (type_of t j) x' 0 n end → w ≡ n % 65536 → l' ≡ set l k w
          → Stores (to_from (isos_of rs) i o budget k) k l l' true
      to_stored y j n end {w} {l} {l'} e u h q = go (leb sent.1 budget) refl
        where
          go : (c : Bool) → leb sent.1 budget ≡ c → Stores (to_from (isos_of rs) i o budget k) k l l' true
          go false d =
              let z : 0 ≡ number spent = sym (ap numbered (flag_none b (refusal_view r.refusal) f y)) ∙ ran.number ∙ ap (λ a. a.number) (answer_by budget false d) in
              absurd (omega (arith, z))
          go true d =
              let a : type_of t j ≡ o.to = ap (type_of t) e ∙ to_type run.prepared i run.there in
              let bs : List ℕ = letters sent.0 in
              let stands : At x' 0 sent.0 =
              record {
                rest = drop (length bs) x;
                spells = ran.result ∙ ap (λ z. written z.letters x) (answer_by budget true d);
              } in
              let inside = of_inhabits sent.3 in
              let few = to_few in
              let ranks : Ranks o.to x' 0 n end = subst (λ z. Ranks z x' 0 n end) a u in
              let s = (ranks sent.0 stands inside (omega (arith, few))).0 in
              let below = rank_below sent.0 o.to inside in
              let same : w ≡ rank sent.0 o.to = omega (arith, h, s, below, few) in
              record { given = sym (ap is_some (to_by budget true d)); numbers = q ∙ ap (set l k) same ∙ sym (ap (λ z. with_to z k l) (to_by budget true d)) }
