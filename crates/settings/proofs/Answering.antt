-- A setting's number and a number's letters on a checked table, case by case, against the model's outcome for the file's rows.
use Rattle.std.specs.Prelude.{Option as CodeOption}
use Prim.Native.Nat.{ℕ, ◌+◌, ◌≤◌, ◌<◌}
use native.Mathlib.Nat.{zero-add}
use native.Mathlib.Omega.{arith}
use mathlib.Core.Path.{◌≡◌, sym, ap, ◌∙◌}
use mathlib.Core.Bool.{Bool, true, false}
use mathlib.Core.Option.{none, some}
use mathlib.Core.List.{List, [], ◌++◌, append-nil}
use lib.ListN.{length, drop}
use lib.Seq.{sets-eq}
use Rattle.limits.specs.Limits.{max_values}
use Rattle.calculus.specs.Tools.{is_some}
use Rattle.calculus.specs.Trees.{Val}
use Rattle.calculus.specs.Refusals.{Refusal, no_value, too_high}
use Rattle.format.specs.Lines.{Row}
use Rattle.calculus.specs.Letters.{letters}
use Rattle.model.specs.Services.{accepted, written, Outcome, gives, fails, refusal_of, bytes_from}
use Rattle.calculus.specs.Paper.{Of}
use Rattle.law_ranking.specs.Numbering.{count, rank, unrank, number_on, setting_on, number_from}
use Rattle.law_ranking.specs.Answers.{NumberIs, SettingIs}
use Rattle.format.specs.Code.{refusal_view}
use Rattle.format.specs.declared.Refusal as F
use Rattle.calculus.proofs.Basic.{is_some_true, none≢some, some_inj}
use Rattle.calculus.proofs.Letters.{of_inhabits, inhabits_of}
use Rattle.law_ranking.proofs.Numbering.{few_finite, rank_below, letters_bound, unrank_inhabits, rank_unrank}
use Rattle.law_ranking.proofs.Outcomes.{number_in_lem, setting_in}
use Rattle.table_trees.specs.Unfolding.{type_of}
use Rattle.table_walks.specs.Walk.{FileIn}
use Rattle.run_values.specs.Texts.{behind, alone}
use Rattle.run_values.proofs.Alone.{alone_true, alone_false}
use Rattle.run_values.proofs.Agreeing.{value_some, value_behind}
use Rattle.number_values.specs.Numbers.{Counts, Ranks, Unranks}
use Rattle.number_values.proofs.Counting.{counted}
use Rattle.number_values.proofs.TypeLines.{line_small}
use Rattle.checker.proofs.Checks.{flag_none}
use Rattle.settings.specs.SettingSays.{type_fault, FaultOf, NumberedAs, LetteredAs}
use Rattle.settings.specs.declared.Numbered as N
use Rattle.settings.specs.declared.Lettered as L
use Rattle.settings.proofs.Lines.{fault_passed, line_good, line_faulty}

-- ---- refusals

numbered_refused : {x : Outcome ℕ} (r : N.Numbered) {z : Refusal} → x ≡ fails z → refusal_view r.refusal ≡ some z → r.setting ≡ 0 → NumberedAs x r
numbered_refused r e n k = record { refusal = n ∙ sym (ap refusal_of e); setting = k ∙ sym (ap number_from e) }

lettered_refused : {x : Outcome (List ℕ)} (o : List ℕ) (r : L.Lettered) {z : Refusal} → x ≡ fails z → refusal_view r.refusal ≡ some z → r.length ≡ 0
    → LetteredAs x o o r
lettered_refused o r e n k =
    record {
      refusal = n ∙ sym (ap refusal_of e);
      bytes = k ∙ sym (ap (λ y. length (bytes_from y)) e);
      result = sym (ap (λ y. written (bytes_from y) o) e);
    }

fails_by : (x : Outcome (List ℕ)) {z : Refusal} → refusal_of x ≡ some z → x ≡ fails z
fails_by (gives ls) e = absurd (none≢some e)
fails_by (fails f) e = ap fails (some_inj e)

-- the letters of the value with a number that is low enough
spelled : {t : List ℕ} {types patterns lines : ℕ} {rs : List Row} (f : FileIn t types patterns lines rs) {i : ℕ} (n : ℕ) → i < types → count (type_of t i) ≤ max_values
    → n < count (type_of t i) → setting_on (accepted rs) i n ≡ gives (letters (unrank (type_of t i) n))
spelled {t} {rs = rs} f {i} n l few low =
    let v : Val = unrank (type_of t i) n in
    setting_in rs i n
    (SettingIs.setting (type_of t i) v (line_good f i l few) (inhabits_of v (type_of t i) (unrank_inhabits (type_of t i) n low)) (rank_unrank (type_of t i) (few_finite (type_of t i) few) n low))

-- x is the refusal that the tests of T line i give
module _ (t : List ℕ) (types i : ℕ) (x : CodeOption F.Refusal) {b : Bool} (e : refusal_view x ≡ type_fault types i (type_of t i)) (h : b ≡ is_some (refusal_view x)) where
  -- 15 and 18
  module _ (y : b ≡ true) where
    pub number_fault : (value : List ℕ) (r : N.Numbered) → r.refusal ≡ x → r.setting ≡ 0
        → (patterns lines : ℕ) (rs : List Row) → FileIn t types patterns lines rs → NumberedAs (number_on (accepted rs) i value) r
    number_fault value r same k patterns lines rs f =
        let z = line_faulty f i e h y in numbered_refused r (number_in_lem rs i value (NumberIs.faulty z.0 z.2)) (ap refusal_view same ∙ z.1) k

    pub fault_faulty : (n : ℕ) → FaultOf t types i n x
    fault_faulty n =
        record {
          refusal = λ patterns lines rs f.
              let z = line_faulty f i e h y in z.1 ∙ sym (ap refusal_of (setting_in rs i n (SettingIs.faulty z.0 z.2)));
          passed = λ q. absurd (none≢some (sym q ∙ (is_some_true (refusal_view x) (sym h ∙ y)).1));
        }

  module _ (y : b ≡ false) where
    -- the line is there and its values are numbered
    passed : (i < types) × (count (type_of t i) ≤ max_values)
    passed = fault_passed types i (type_of t i) e h y

    -- ---- letters to number

    module _ (value : List ℕ) {d : Bool} (w : d ≡ alone (behind (type_of t i) value)) where
      -- 16
      pub number_strange : d ≡ false → (r : N.Numbered) → refusal_view r.refusal ≡ some no_value → r.setting ≡ 0
          → (patterns lines : ℕ) (rs : List Row) → FileIn t types patterns lines rs → NumberedAs (number_on (accepted rs) i value) r
      number_strange q r n k patterns lines rs f =
          let none_is : (v : Val) → value ≡ letters v → Of v (type_of t i) → ⊥ =
          λ v p h. alone_false (behind (type_of t i) value) (sym w ∙ q) (ap (behind (type_of t i)) (p ∙ sym (append-nil (letters v))) ∙ value_behind (type_of t i) h []) in
          numbered_refused r (number_in_lem rs i value (NumberIs.strange (type_of t i) (line_good f i passed.0 passed.1) none_is)) n k

      module _ (q : d ≡ true) {number end : ℕ} (says : Ranks (type_of t i) value 0 number end) where
        -- the value, and its number
        told : (v : Val) × (value ≡ letters v) × Of v (type_of t i) × (number ≡ rank v (type_of t i))
        told =
            let a = value_some (type_of t i) value (alone_true (behind (type_of t i) value) (sym w ∙ q)) in
            let s = says a.0 (record { rest = []; spells = a.2 ∙ sym (append-nil (letters a.0)) }) (of_inhabits a.3) passed.1 in
            (a.0, a.2, a.3, s.0)

        -- it fits 32 bits
        pub number_fits : number ≤ 4294967295
        number_fits = omega (arith, told.3, rank_below told.0 (type_of t i) (of_inhabits told.2), passed.1)

        pub number_given : (r : N.Numbered) → refusal_view r.refusal ≡ none → r.setting ≡ number
            → (patterns lines : ℕ) (rs : List Row) → FileIn t types patterns lines rs → NumberedAs (number_on (accepted rs) i value) r
        number_given r n k patterns lines rs f =
            let x = number_in_lem rs i value (NumberIs.number (type_of t i) told.0 (line_good f i passed.0 passed.1) told.1 told.2) in
            record { refusal = n ∙ sym (ap refusal_of x); setting = k ∙ told.3 ∙ sym (ap number_from x) }

    -- ---- a number

    module _ (n : ℕ) {m : ℕ} (c : Counts (type_of t i) m) (r : CodeOption F.Refusal) where
      -- 19
      pub fault_high : m ≤ n → refusal_view r ≡ some too_high → FaultOf t types i n r
      fault_high l j =
          record {
            refusal = λ patterns lines rs f.
                let high : count (type_of t i) ≤ n = omega (arith, counted (type_of t i) c passed.1) in
                j ∙ sym (ap refusal_of (setting_in rs i n (SettingIs.high (type_of t i) (line_good f i passed.0 passed.1) high)));
            passed = λ q. absurd (none≢some (sym q ∙ j));
          }

      pub fault_neither : n < m → refusal_view r ≡ none → FaultOf t types i n r
      fault_neither l j =
          let low : n < count (type_of t i) = omega (arith, counted (type_of t i) c passed.1) in
          record {
            refusal = λ patterns lines rs f. j ∙ sym (ap refusal_of (spelled f n passed.0 passed.1 low));
            passed = λ q. (passed.0, passed.1, low);
          }

-- ---- number to letters

module _ {t : List ℕ} {types i n : ℕ} {x : CodeOption F.Refusal} (w : FaultOf t types i n x) {b : Bool} (h : b ≡ is_some (refusal_view x)) (o : List ℕ) where
  -- 15, 18 and 19
  pub setting_refused : b ≡ true → (r : L.Lettered) → r.refusal ≡ x → r.length ≡ 0
      → (patterns lines : ℕ) (rs : List Row) → FileIn t types patterns lines rs → 127 ≤ length o → LetteredAs (setting_on (accepted rs) i n) o o r
  setting_refused y r same k patterns lines rs f room =
      let s = is_some_true (refusal_view x) (sym h ∙ y) in
      lettered_refused o r (fails_by (setting_on (accepted rs) i n) (sym (w.refusal patterns lines rs f) ∙ s.1)) (ap refusal_view same ∙ s.1) k

  pub setting_given : b ≡ false → {o' : List ℕ} {end : ℕ} → Unranks (type_of t i) n o o' 0 end → (r : L.Lettered) → refusal_view r.refusal ≡ none → r.length ≡ end
      → (patterns lines : ℕ) (rs : List Row) → FileIn t types patterns lines rs → 127 ≤ length o → LetteredAs (setting_on (accepted rs) i n) o o' r
  setting_given y {o'} {end} says r j k patterns lines rs f room =
      let p = w.passed (flag_none b (refusal_view x) h y) in
      let v : Val = unrank (type_of t i) n in
      let ls : List ℕ = letters v in
      let short : length ls ≤ 127 = omega (arith, letters_bound v (type_of t i) (few_finite (type_of t i) p.1) (unrank_inhabits (type_of t i) n p.2), line_small f i p.0) in
      let z = zero-add (length ls) in
      let fits : 0 + length ls ≤ length o = omega (arith, z) in
      let s = says p.1 p.2 fits in
      let e = spelled f n p.0 p.1 p.2 in
      record {
        refusal = j ∙ sym (ap refusal_of e);
        bytes = k ∙ s.1 ∙ z ∙ sym (ap (λ y. length (bytes_from y)) e);
        result = s.0 ∙ sets-eq ls o 0 fits ∙ ap (λ q. ls ++ drop q o) z ∙ sym (ap (λ y. written (bytes_from y) o) e);
      }
