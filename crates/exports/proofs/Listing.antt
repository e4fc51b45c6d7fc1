-- A list on a checked table, case by case, against the model's outcome for the file's rows.
use Prim.Native.Nat.{ℕ, ◌+◌, ◌≤◌, ◌<◌, min}
use native.Mathlib.Nat.{zero-add}
use native.Mathlib.Omega.{arith}
use mathlib.Core.Path.{◌≡◌, sym, ap, ap₂, ◌∙◌}
use mathlib.Core.Bool.{Bool, true, false, cond, not, ◌||◌}
use mathlib.Core.Option.{Option, none, some}
use mathlib.Core.List.{List, ◌++◌}
use lib.Dec.{ltb}
use lib.ListN.{length, get_elem?, take, drop}
use lib.Seq.{sets-eq}
use Rattle.limits.specs.Limits.{max_pairs, export_length, numeral_bound}
use Rattle.calculus.specs.Trees.{Iso}
use Rattle.calculus.specs.Refusals.{Refusal, no_iso, spent, too_many}
use Rattle.calculus.specs.Lists.{is_free}
use Rattle.format.specs.Lines.{Row}
use Rattle.format.specs.Unfold.{isos_of}
use Rattle.model.specs.Services.{written, Outcome, fails, refusal_of, bytes_from}
use Rattle.format.specs.Code.{refusal_view}
use Rattle.calculus.proofs.Basic.{lt_ltb, not_ltb}
use Rattle.law_ranking.specs.Numbering.{count}
use Rattle.law_pairlists.specs.PairLists.{pair_lines, to_from, upwards, on_pairs, on_exported, export_rows}
use Rattle.law_pairlists.proofs.List.{pairs_room}
use Rattle.law_pairlists.proofs.Exports.{tos_taken}
use Rattle.area_cells.specs.Areas.{Writes}
use Rattle.table_trees.specs.Unfolding.{cell_of, type_of}
use Rattle.table_walks.proofs.Rows.{past_row}
use Rattle.run_index.specs.Index.{place_at}
use Rattle.run_lists.specs.Marks.{FreeTold}
use Rattle.run_lists.proofs.Marking.{free_of}
use Rattle.number_values.specs.Numbers.{Counts}
use Rattle.run_reduction.proofs.Laying.{inside}
use Rattle.runner.specs.RunSays.{Prepared}
use Rattle.list_targets.specs.Targets.{Runnable, Found}
use Rattle.list_targets.proofs.Sending.{from_type}
use Rattle.exports.specs.ExportSays.{ListedAs}
use Rattle.exports.specs.declared.Listed as L

-- ---- the model's outcome, by its cases

on_none : (rs : List Row) (i budget : ℕ) → get_elem? (isos_of rs) i ≡ none → export_rows rs i budget ≡ fails no_iso
unfolding export_rows
on_none rs i budget e = ap (on_exported (isos_of rs) i budget) e

on_some : (rs : List Row) (i budget : ℕ) {o : Iso} → get_elem? (isos_of rs) i ≡ some o → is_free (isos_of rs) i ≡ true → (b : Bool) → ltb max_pairs (count o.from) ≡ b
    → export_rows rs i budget ≡ cond b (fails too_many) (on_pairs (upwards (to_from (isos_of rs) i o budget) 0 (count o.from)))
unfolding export_rows
on_some rs i budget {o} e free b h =
    ap (on_exported (isos_of rs) i budget) e
    ∙ ap₂ (λ f c. cond (not f || c) (fails too_many) (on_pairs (upwards (to_from (isos_of rs) i o budget) 0 (count o.from)))) free h

on_lists : (rs : List Row) (i budget : ℕ) {o : Iso} → get_elem? (isos_of rs) i ≡ some o → is_free (isos_of rs) i ≡ false → export_rows rs i budget ≡ fails too_many
unfolding export_rows
on_lists rs i budget {o} e lists =
    ap (on_exported (isos_of rs) i budget) e
    ∙ ap (λ f. cond (not f || ltb max_pairs (count o.from)) (fails too_many) (on_pairs (upwards (to_from (isos_of rs) i o budget) 0 (count o.from)))) lists

-- ---- refusals

listed_refused : {x : Outcome (List ℕ)} (o : List ℕ) (r : L.Listed) {z : Refusal} → x ≡ fails z → refusal_view r.refusal ≡ some z → r.length ≡ 0
    → ListedAs x o o r
listed_refused o r e n k =
    record {
      refusal = n ∙ sym (ap refusal_of e);
      bytes = k ∙ sym (ap (λ y. length (bytes_from y)) e);
      output = sym (ap (λ y. written (bytes_from y) o) e);
    }

module _ {t : List ℕ} {base : ℕ} {index : List ℕ} {isos : ℕ} {rs : List Row} (p : Prepared t base index isos rs) (i budget : ℕ) (x : List ℕ) (r : L.Listed) where
  -- 15
  pub no_iso_lem : isos ≤ i → refusal_view r.refusal ≡ some no_iso → r.length ≡ 0 → ListedAs (export_rows rs i budget) x x r
  no_iso_lem h n k =
      let all = p.count in listed_refused x r (on_none rs i budget (past_row (isos_of rs) i (omega (arith, all)))) n k

  -- whether the iso has nothing to do with lists, as `is_free` tells it
  free_as : {f : Bool} → FreeTold t index isos i f → is_free (isos_of rs) i ≡ f
  free_as tells = sym (free_of t index base isos rs p.good.passes p.indexed p.count i tells)

  -- 18 for one that has
  pub has_lists : i < isos → {f : Bool} → FreeTold t index isos i f → f ≡ false → refusal_view r.refusal ≡ some too_many → r.length ≡ 0
      → ListedAs (export_rows rs i budget) x x r
  has_lists less tells off n k =
      let all = p.count in
      let o = inside (isos_of rs) i (omega (arith, all)) in
      listed_refused x r (on_lists rs i budget o.1 (free_as tells ∙ off)) n k

  module _ (less : i < isos) {f : Bool} (tells : FreeTold t index isos i f) (on : f ≡ true) {j n : ℕ} (e : j ≡ cell_of t (place_at index (place_at index i)) 1) (c : Counts (type_of t j) n) where
    there : (o : Iso) × (get_elem? (isos_of rs) i ≡ some o)
    there = let all = p.count in inside (isos_of rs) i (omega (arith, all))

    free : is_free (isos_of rs) i ≡ true
    free = free_as tells ∙ on

    -- how many values its from-type has
    counted : n ≡ min (count there.0.from) 4294967296
    counted = c ∙ ap (λ a. min (count a) 4294967296) (ap (type_of t) e ∙ from_type p i there.1)

    -- 18
    pub too_many_lem : 4096 < n → refusal_view r.refusal ≡ some too_many → r.length ≡ 0 → ListedAs (export_rows rs i budget) x x r
    too_many_lem h m k =
        let n = counted in
        let over : max_pairs < count there.0.from = omega (arith, n) in
        listed_refused x r (on_some rs i budget there.1 free true (lt_ltb over)) m k

    module _ (h : n ≤ 4096) where
      few : count there.0.from ≤ max_pairs
      few = let m = counted in omega (arith, m)

      same : n ≡ count there.0.from
      same = let m = counted in let f = few in omega (arith, m, f)

      outcome : (ts : Option (List ℕ)) → upwards (to_from (isos_of rs) i there.0 budget) 0 n ≡ ts → export_rows rs i budget ≡ on_pairs ts
      outcome ts u =
          on_some rs i budget there.1 free false (not_ltb few)
          ∙ ap on_pairs (ap (upwards (to_from (isos_of rs) i there.0 budget) 0) (sym same) ∙ u)

      module _ {b : Bool} {l : List ℕ}
          (says : (o : Iso) → Runnable t base index isos rs i o → n ≤ count o.from → Found rs i o budget n l b) where
        found : upwards (to_from (isos_of rs) i there.0 budget) 0 n ≡ cond b (some (take n l)) none
        found = let m = same in (says there.0 (record { prepared = p; there = there.1; free = free; few = few }) (omega (arith, m))).tos

        -- 17
        pub some_spent : b ≡ false → refusal_view r.refusal ≡ some spent → r.length ≡ 0 → ListedAs (export_rows rs i budget) x x r
        some_spent y g k = listed_refused x r (outcome none (found ∙ ap (λ z. cond z (some (take n l)) none) y)) g k

        -- the lines
        pub list_given : b ≡ true → n ≤ length l → export_length ≤ length x → {x' : List ℕ} {end : ℕ}
            → (n ≤ length l → n < numeral_bound → Writes x x' 0 end (pair_lines 0 (take n l)))
            → refusal_view r.refusal ≡ none → r.length ≡ end → ListedAs (export_rows rs i budget) x x' r
        list_given y wide room {x'} {end} w g k =
            let ts : List ℕ = take n l in
            let u : upwards (to_from (isos_of rs) i there.0 budget) 0 n ≡ some ts = found ∙ ap (λ z. cond z (some ts) none) y in
            let s = outcome (some ts) u in
            let taken = tos_taken rs p.good i there.0 there.1 free budget ts
            (ap (upwards (to_from (isos_of rs) i there.0 budget) 0) (sym same) ∙ u) in
            let a = taken.froms in
            let d = taken.tos in
            let m = same in
            let q = pairs_room 0 ts (omega arith) (λ v z. let b = taken.below v z in omega arith) in
            let zero = zero-add (length (pair_lines 0 ts)) in
            let fits : 0 + length (pair_lines 0 ts) ≤ length x = omega arith in
            let out = w wide (omega arith) in
            record {
              refusal = g ∙ sym (ap refusal_of s);
              bytes = k ∙ out.place fits ∙ zero ∙ sym (ap (λ z. length (bytes_from z)) s);
              output = out.area fits ∙ sets-eq (pair_lines 0 ts) x 0 fits ∙ ap (λ z. pair_lines 0 ts ++ drop z x) zero
                  ∙ sym (ap (λ z. written (bytes_from z) x) s);
            }
