-- The two T lines of an import: what 15 and 18 say of them.
use Rattle.std.specs.Prelude.{Option as CodeOption}
use Prim.Native.Nat.{ℕ, ◌≤◌, ◌<◌}
use native.Mathlib.Omega.{arith}
use mathlib.Core.Path.{◌≡◌, refl, sym, ap, ap₂, ◌∙◌, subst}
use mathlib.Core.Bool.{Bool, true, false, cond, ◌||◌}
use mathlib.Core.Option.{Option, none, some}
use mathlib.Core.List.{List}
use lib.Dec.{leb, ltb}
use lib.ListN.{length, get_elem?}
use Rattle.limits.specs.Limits.{max_pairs, import_length}
use Rattle.calculus.specs.Tools.{is_some}
use Rattle.calculus.specs.Trees.{Ty}
use Rattle.calculus.specs.Refusals.{Refusal, no_iso, too_many}
use Rattle.format.specs.Lines.{Row, lines}
use Rattle.model.specs.Services.{written, Outcome, fails, refusal_of, bytes_from}
use Rattle.format.specs.Code.{refusal_view}
use Rattle.format.specs.declared.Refusal as F
use Rattle.calculus.proofs.Basic.{is_some_true, none≢some, some_inj, leb_le, leb_false, le_leb, not_leb, ltb_false, lt_ltb, not_ltb}
use Rattle.checker.proofs.Checks.{flag_none}
use Rattle.law_ranking.specs.Numbering.{count, types_of}
use Rattle.law_pairlists.specs.PairLists.{on_types, on_lines, import_rows}
use Rattle.table_trees.specs.Unfolding.{type_of}
use Rattle.table_walks.specs.Walk.{FileIn}
use Rattle.number_values.specs.Numbers.{Counts}
use Rattle.number_values.proofs.TypeLines.{absent, there, line_small}
use Rattle.list_file.specs.Filing.{FiledAs}
use Rattle.list_file.specs.declared.Filed as D
use Rattle.imports.specs.ImportSays.{types_fault, ListFiled}

-- a refusal: nothing is written
pub filed_refused : {x : Outcome (List ℕ)} (o : List ℕ) (r : D.Filed) {z : Refusal} → x ≡ fails z → refusal_view r.refusal ≡ some z → r.length ≡ 0 → FiledAs x o o r
filed_refused o r e n k =
    record {
      refusal = n ∙ sym (ap refusal_of e);
      bytes = k ∙ sym (ap (λ y. length (bytes_from y)) e);
      output = sym (ap (λ y. written (bytes_from y) o) e);
    }

-- ---- the tests

abbrev fault_by : Bool → Bool → Bool → Bool → Option Refusal
fault_by p q r s = cond p (some no_iso) (cond q (some no_iso) (cond r (some too_many) (cond s (some too_many) none)))

module _ (types i j : ℕ) (a b : Ty) where
  abbrev by : Bool → Bool → Option Refusal
  by p q = fault_by p q (ltb max_pairs (count a)) (ltb max_pairs (count b))

  pub first_absent : types ≤ i → some no_iso ≡ types_fault types i j a b
  first_absent h = sym (ap (λ p. by p (leb types j)) (le_leb h))

  module _ (h : i < types) where
    pub second_absent : types ≤ j → some no_iso ≡ types_fault types i j a b
    second_absent k = sym (ap₂ by (not_leb h) (le_leb k))

    module _ (k : j < types) {m : ℕ} (c : Counts a m) where
      both_there : types_fault types i j a b ≡ by false false
      both_there = ap₂ by (not_leb h) (not_leb k)

      pub first_many : 4096 < m → some too_many ≡ types_fault types i j a b
      first_many l =
          let z : max_pairs < count a = omega arith in
          sym (both_there ∙ ap (λ r. fault_by false false r (ltb max_pairs (count b))) (lt_ltb z))

      module _ (l : m ≤ 4096) {n : ℕ} (d : Counts b n) where
        first_few : types_fault types i j a b ≡ fault_by false false false (ltb max_pairs (count b))
        first_few =
            let z : count a ≤ max_pairs = omega arith in
            both_there ∙ ap (λ r. fault_by false false r (ltb max_pairs (count b))) (not_ltb z)

        pub second_many : 4096 < n → some too_many ≡ types_fault types i j a b
        second_many o =
            let z : max_pairs < count b = omega arith in
            sym (first_few ∙ ap (fault_by false false false) (lt_ltb z))

        pub none_faulty : n ≤ 4096 → none ≡ types_fault types i j a b
        none_faulty o =
            let z : count b ≤ max_pairs = omega arith in
            sym (first_few ∙ ap (fault_by false false false) (not_ltb z))

-- ---- a file in the table

module _ {t : List ℕ} {types patterns lns : ℕ} {rs : List Row} (f : FileIn t types patterns lns rs) (i j : ℕ) (list : List ℕ) where
  abbrev outcome : Option Ty → Option Ty → Outcome (List ℕ)
  outcome x y = on_types x y (lines list)

  rows : import_rows rs i j list ≡ outcome (get_elem? (types_of rs) i) (get_elem? (types_of rs) j)
  unfolding import_rows
  rows = refl

  both : i < types → j < types → import_rows rs i j list
      ≡ cond (ltb max_pairs (count (type_of t i)) || ltb max_pairs (count (type_of t j))) (fails too_many) (on_lines (type_of t i) (type_of t j) (lines list))
  both h k = rows ∙ ap₂ outcome (there f i h) (there f j k)

  second : (x y : Option Ty) → y ≡ none → outcome x y ≡ fails no_iso
  second none y e = refl
  second (some a) none e = refl
  second (some a) (some b) e = absurd (none≢some (sym e))

  -- what the tests refuse
  refused_by : (z : Refusal) (p q r s : Bool) → leb types i ≡ p → leb types j ≡ q → ltb max_pairs (count (type_of t i)) ≡ r → ltb max_pairs (count (type_of t j)) ≡ s
      → fault_by p q r s ≡ some z → import_rows rs i j list ≡ fails z
  refused_by z true q r s hp hq hr hs e =
      rows ∙ ap (λ x. outcome x (get_elem? (types_of rs) j)) (absent f i (leb_le types i hp)) ∙ ap fails (some_inj e)
  refused_by z false true r s hp hq hr hs e = rows ∙ second (get_elem? (types_of rs) i) (get_elem? (types_of rs) j) (absent f j (leb_le types j hq)) ∙ ap fails (some_inj e)
  refused_by z false false true s hp hq hr hs e =
      both (leb_false types i hp) (leb_false types j hq) ∙ ap (λ c. cond (c || ltb max_pairs (count (type_of t j))) (fails too_many) (on_lines (type_of t i) (type_of t j) (lines list))) hr
      ∙ ap fails (some_inj e)
  refused_by z false false false true hp hq hr hs e =
      both (leb_false types i hp) (leb_false types j hq) ∙ ap₂ (λ c d. cond (c || d) (fails too_many) (on_lines (type_of t i) (type_of t j) (lines list))) hr hs ∙ ap fails (some_inj e)
  refused_by z false false false false hp hq hr hs e = absurd (none≢some e)

  -- what passes them
  record Passed : Type 0 where
    first : i < types
    last : j < types
    few : count (type_of t i) ≤ max_pairs
    fewer : count (type_of t j) ≤ max_pairs

  passed_by : (p q r s : Bool) → leb types i ≡ p → leb types j ≡ q → ltb max_pairs (count (type_of t i)) ≡ r → ltb max_pairs (count (type_of t j)) ≡ s
      → fault_by p q r s ≡ none → Passed
  passed_by true q r s hp hq hr hs e = absurd (none≢some (sym e))
  passed_by false true r s hp hq hr hs e = absurd (none≢some (sym e))
  passed_by false false true s hp hq hr hs e = absurd (none≢some (sym e))
  passed_by false false false true hp hq hr hs e = absurd (none≢some (sym e))
  passed_by false false false false hp hq hr hs e =
      record {
        first = leb_false types i hp;
        last = leb_false types j hq;
        few = ltb_false max_pairs (count (type_of t i)) hr;
        fewer = ltb_false max_pairs (count (type_of t j)) hs;
      }

  module _ (x : CodeOption F.Refusal) {b : Bool} (e : refusal_view x ≡ types_fault types i j (type_of t i) (type_of t j)) (h : b ≡ is_some (refusal_view x)) (o : List ℕ) where
    -- 15 and 18
    pub types_refused : b ≡ true → (r : D.Filed) → r.refusal ≡ x → r.length ≡ 0 → FiledAs (import_rows rs i j list) o o r
    types_refused y r n k =
        let s = is_some_true (refusal_view x) (sym h ∙ y) in
        filed_refused o r
        (refused_by s.0 (leb types i) (leb types j) (ltb max_pairs (count (type_of t i))) (ltb max_pairs (count (type_of t j))) refl refl refl refl (sym e ∙ s.1))
        (ap refusal_view n ∙ s.1) k

    -- the list
    pub types_passed : b ≡ false → {o' : List ℕ} {r : D.Filed} → ListFiled (type_of t i) (type_of t j) list o o' r → import_length ≤ length o → FiledAs (import_rows rs i j list) o o' r
    types_passed y {o'} {r} w room =
        let p = passed_by (leb types i) (leb types j) (ltb max_pairs (count (type_of t i))) (ltb max_pairs (count (type_of t j))) refl refl refl refl (sym e ∙ flag_none b (refusal_view x) h y) in
        subst (λ z. FiledAs z o o' r)
        (sym (both p.first p.last ∙ ap₂ (λ c d. cond (c || d) (fails too_many) (on_lines (type_of t i) (type_of t j) (lines list))) (not_ltb p.few) (not_ltb p.fewer)))
        (w.does (line_small f i p.first) (line_small f j p.last) p.few p.fewer room)
