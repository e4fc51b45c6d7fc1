-- The rule over the C rows of an iso, and the refusal.
use Prim.Native.Nat.{ℕ, suc, ◌+◌, ◌-◌, ◌<◌, ◌≤◌}
use native.Mathlib.Nat.{zero-add}
use native.Mathlib.Omega.{arith}
use native.Mathlib.Numerals.{add-one}
use mathlib.Core.Path.{◌≡◌, refl, sym, ap, ap₂, ◌∙◌, subst}
use mathlib.Core.Logic.{◌⊎◌, inl, inr}
use mathlib.Core.Bool.{Bool, true, false, cond, not, ◌&&◌, ◌||◌, true≢false}
use mathlib.Core.Option.{Option, none, some}
use mathlib.Core.List.{List, [], ◌∷◌, map}
use lib.Dec.{eqb}
use lib.ListN.{length, get_or, drop, drop_of_length-le}
use lib.Seq.{drop-cons}
use Rattle.calculus.specs.Tools.{all, first_of, or_else}
use Rattle.calculus.specs.Trees.{Clause, Iso, invert_clause}
use Rattle.calculus.specs.Refusals.{Refusal, iso_line, clause_line, recursion}
use Rattle.calculus.specs.Clauses.{no_calls, zoned, clause_rule, structural, recursion_rule, at_breach, breach, recursion_fault}
use Rattle.calculus.proofs.Basic.{eq_eqb, not_eqb, eqb_eq, eqb_false, bool_cases}
use Rattle.table_trees.specs.Unfolding.{cell_of, type_of}
use Rattle.table_walks.specs.InTable.{lets_in, clause_in, next_row, clauses_in, iso_in}
use Rattle.check_recursion.specs.Turned.{clause_toward, kept_of}

-- ---- the next row

pub next_in : (rows : List ℕ) (k last : ℕ) {j v : ℕ} → j ≡ k + 1 → j < length rows → v ≡ get_or rows j 0 → v ≡ next_row (drop (suc k) rows) last
next_in rows k last {j} e l h = h ∙ ap (λ r. next_row r last) (sym (drop-cons rows j 0 l)) ∙ ap (λ n. next_row (drop n rows) last) (e ∙ add-one k)

pub next_out : (rows : List ℕ) (k last : ℕ) {j : ℕ} → j ≡ k + 1 → length rows ≤ j → last ≡ next_row (drop (suc k) rows) last
next_out rows k last {j} e l = sym (ap (λ r. next_row r last) (drop_of_length-le rows {i = j} l)) ∙ ap (λ n. next_row (drop n rows) last) (e ∙ add-one k)

-- the clause at place k, and those behind it
open_at : (t : List ℕ) (base : ℕ) (rows : List ℕ) (k last : ℕ) {x end : ℕ} → k < length rows → x ≡ get_or rows k 0 → end ≡ next_row (drop (suc k) rows) last
    → clauses_in t base (drop k rows) last ≡ clause_in t base x end ∷ clauses_in t base (drop (suc k) rows) last
open_at t base rows k last l e f =
    ap (λ r. clauses_in t base r last) (drop-cons rows k 0 l)
    ∙ ap₂ (λ y z. clause_in t base y z ∷ clauses_in t base (drop (suc k) rows) last) (sym e) (sym f)

none_at : (t : List ℕ) (base : ℕ) (rows : List ℕ) (k last : ℕ) → length rows ≤ k → clauses_in t base (drop k rows) last ≡ []
none_at t base rows k last l = ap (λ r. clauses_in t base r last) (drop_of_length-le rows {i = k} l)

-- ---- no calls

abbrev Silent : ℕ → List Clause → Bool
Silent i cs = all (λ c. no_calls i c.lets) cs

pub record QuietLeft (t : List ℕ) (base i : ℕ) (rows : List ℕ) (last k : ℕ) : Type 0 where
  pub same : Silent i (clauses_in t base (drop k rows) last) ≡ Silent i (clauses_in t base rows last)

module _ {t : List ℕ} {base i : ℕ} {rows : List ℕ} {last k : ℕ} (h : QuietLeft t base i rows last k) where
  module _ (l : k < length rows) {x end : ℕ} {b : Bool} (e : x ≡ get_or rows k 0) (f : end ≡ next_row (drop (suc k) rows) last)
      (q : b ≡ no_calls i (lets_in t base (x + 1) (end - (x + 1)))) where
    quiet_open : (b && Silent i (clauses_in t base (drop (suc k) rows) last)) ≡ Silent i (clauses_in t base rows last)
    quiet_open =
        ap (λ y. y && Silent i (clauses_in t base (drop (suc k) rows) last)) (q ∙ ap (λ n. no_calls i (lets_in t base n (end - n))) (add-one x))
        ∙ sym (ap (Silent i) (open_at t base rows k last l e f))
        ∙ h.same

    pub quiet_step : b ≡ true → QuietLeft t base i rows last (k + 1)
    quiet_step z =
        record { same = ap (λ n. Silent i (clauses_in t base (drop n rows) last)) (add-one k) ∙ sym (ap (λ y. y && Silent i (clauses_in t base (drop (suc k) rows) last)) z) ∙ quiet_open }

    pub quiet_stop : b ≡ false → false ≡ Silent i (clauses_in t base rows last)
    quiet_stop z = sym (ap (λ y. y && Silent i (clauses_in t base (drop (suc k) rows) last)) z) ∙ quiet_open

  pub quiet_end : length rows ≤ k → true ≡ Silent i (clauses_in t base rows last)
  quiet_end l = sym (ap (Silent i) (none_at t base rows k last l)) ∙ h.same

-- ---- the rule

abbrev Test : ℕ → Bool → Clause → Bool
Test i back c = clause_rule i (clause_toward back c)

pub record KeptLeft (t : List ℕ) (base i : ℕ) (back : Bool) (rows : List ℕ) (last k : ℕ) : Type 0 where
  pub same : k + kept_of (Test i back) (clauses_in t base (drop k rows) last) ≡ kept_of (Test i back) (clauses_in t base rows last)

pub kept_start : (t : List ℕ) (base i : ℕ) (back : Bool) (rows : List ℕ) (last : ℕ) → KeptLeft t base i back rows last 0
kept_start t base i back rows last = record { same = zero-add (kept_of (Test i back) (clauses_in t base rows last)) }

module _ {t : List ℕ} {base i : ℕ} {back : Bool} {rows : List ℕ} {last k : ℕ} (h : KeptLeft t base i back rows last k) where
  module _ (l : k < length rows) {x end : ℕ} {b : Bool} (e : x ≡ get_or rows k 0) (f : end ≡ next_row (drop (suc k) rows) last)
      (q : b ≡ clause_rule i (clause_toward back (clause_in t base x end))) where
    kept_open : k + cond b (suc (kept_of (Test i back) (clauses_in t base (drop (suc k) rows) last))) 0 ≡ kept_of (Test i back) (clauses_in t base rows last)
    kept_open =
        ap (λ y. k + cond y (suc (kept_of (Test i back) (clauses_in t base (drop (suc k) rows) last))) 0) q
        ∙ sym (ap (λ cs. k + kept_of (Test i back) cs) (open_at t base rows k last l e f))
        ∙ h.same

    pub kept_step : b ≡ true → KeptLeft t base i back rows last (k + 1)
    kept_step z =
        let whole : ℕ = kept_of (Test i back) (clauses_in t base rows last) in
        let left : ℕ = kept_of (Test i back) (clauses_in t base (drop (suc k) rows) last) in
        let y : k + suc left ≡ whole = sym (ap (λ c. k + cond c (suc left) 0) z) ∙ kept_open in
        let w : k + 1 + left ≡ whole = omega (arith, y) in
        record { same = ap (λ n. k + 1 + kept_of (Test i back) (clauses_in t base (drop n rows) last)) (add-one k) ∙ w }

    pub kept_stop : b ≡ false → k ≡ kept_of (Test i back) (clauses_in t base rows last)
    kept_stop z =
        let left : ℕ = kept_of (Test i back) (clauses_in t base (drop (suc k) rows) last) in
        let y : k + 0 ≡ kept_of (Test i back) (clauses_in t base rows last) = sym (ap (λ c. k + cond c (suc left) 0) z) ∙ kept_open in
        omega (arith, y)

  pub kept_end : length rows ≤ k → k ≡ kept_of (Test i back) (clauses_in t base rows last)
  kept_end l =
      let y : k + 0 ≡ kept_of (Test i back) (clauses_in t base rows last) = sym (ap (λ cs. k + kept_of (Test i back) cs) (none_at t base rows k last l)) ∙ h.same in
      omega (arith, y)

-- all keep it exactly when all are counted
kept_few : (f : Clause → Bool) (cs : List Clause) → kept_of f cs ≤ length cs
kept_few f [] = omega arith
kept_few f (c ∷ cs) = go (f c) (kept_few f cs)
  where
    go : (b : Bool) → kept_of f cs ≤ length cs → cond b (suc (kept_of f cs)) 0 ≤ suc (length cs)
    go true h = omega (arith, h)
    go false h = omega arith

eqb_suc : (m n : ℕ) → eqb (suc m) (suc n) ≡ eqb m n
eqb_suc m n = go (bool_cases (eqb m n))
  where
    go : (eqb m n ≡ true) ⊎ (eqb m n ≡ false) → eqb (suc m) (suc n) ≡ eqb m n
    go (inl e) = eq_eqb (ap suc (eqb_eq m n e)) ∙ sym e
    go (inr e) = not_eqb (λ h. eqb_false e (later h)) ∙ sym e
      where
        later : suc m ≡ suc n → m ≡ n
        later h = omega (arith, h)

kept_all : (f : Clause → Bool) (cs : List Clause) → eqb (kept_of f cs) (length cs) ≡ all f cs
kept_all f [] = eq_eqb {m = 0} {n = 0} refl
kept_all f (c ∷ cs) = go (f c) (kept_all f cs)
  where
    go : (b : Bool) → eqb (kept_of f cs) (length cs) ≡ all f cs → eqb (cond b (suc (kept_of f cs)) 0) (suc (length cs)) ≡ (b && all f cs)
    go true h = eqb_suc (kept_of f cs) (length cs) ∙ h
    go false h = not_eqb {m = 0} {n = suc (length cs)} (λ e. omega (arith, e))

clauses_length : (t : List ℕ) (base : ℕ) (rows : List ℕ) (last : ℕ) → length (clauses_in t base rows last) ≡ length rows
clauses_length t base [] last = refl
clauses_length t base (c ∷ cs) last = ap suc (clauses_length t base cs last)

module _ (t : List ℕ) (base i : ℕ) (back : Bool) (a : ℕ) (rows : List ℕ) (last : ℕ) where
  pub structural_told : {z : Bool} {n : ℕ} → z ≡ zoned (type_of t a) → z ≡ true → n ≡ kept_of (Test i back) (clauses_in t base rows last)
      → eqb n (length rows) ≡ (zoned (type_of t a) && all (Test i back) (clauses_in t base rows last))
  structural_told e y h =
      ap₂ eqb h (sym (clauses_length t base rows last))
      ∙ kept_all (Test i back) (clauses_in t base rows last)
      ∙ sym (ap (λ b. b && all (Test i back) (clauses_in t base rows last)) (sym e ∙ y))

  pub structural_not : {z : Bool} → z ≡ zoned (type_of t a) → z ≡ false → false ≡ (zoned (type_of t a) && all (Test i back) (clauses_in t base rows last))
  structural_not e y = sym (ap (λ b. b && all (Test i back) (clauses_in t base rows last)) (sym e ∙ y))

-- ---- the refusal

all_turned : (i : ℕ) (cs : List Clause) → all (Test i true) cs ≡ all (clause_rule i) (map invert_clause cs)
all_turned i [] = refl
all_turned i (c ∷ cs) = ap (λ b. clause_rule i (invert_clause c) && b) (all_turned i cs)

all_written : (i : ℕ) (cs : List Clause) → all (Test i false) cs ≡ all (clause_rule i) cs
all_written i [] = refl
all_written i (c ∷ cs) = ap (λ b. clause_rule i c && b) (all_written i cs)

first_at : (t : List ℕ) (base i : ℕ) (rows : List ℕ) (last : ℕ) → kept_of (Test i false) (clauses_in t base rows last) < length rows
    → first_of (at_breach i) (clauses_in t base rows last) ≡ some (recursion clause_line, suc (get_or rows (kept_of (Test i false) (clauses_in t base rows last)) 0))
first_at t base i [] last h = absurd (omega (arith, h))
first_at t base i (c ∷ cs) last h = go (clause_rule i (clause_in t base c (next_row cs last))) (first_at t base i cs last) h
  where
    go : (b : Bool) → (kept_of (Test i false) (clauses_in t base cs last) < length cs
        → first_of (at_breach i) (clauses_in t base cs last) ≡ some (recursion clause_line, suc (get_or cs (kept_of (Test i false) (clauses_in t base cs last)) 0)))
        → cond b (suc (kept_of (Test i false) (clauses_in t base cs last))) 0 < suc (length cs)
        → or_else (cond b none (some (recursion clause_line, suc c))) (first_of (at_breach i) (clauses_in t base cs last))
        ≡ some (recursion clause_line, suc (get_or (c ∷ cs) (cond b (suc (kept_of (Test i false) (clauses_in t base cs last))) 0) 0))
    go true f l = f (omega (arith, l))
    go false f l = refl

module _ (t : List ℕ) (base i row : ℕ) (rows : List ℕ) (last : ℕ) where
  abbrev cs : List Clause
  cs = clauses_in t base rows last

  abbrev iso : Iso
  iso = iso_in t base row rows last

  -- the four tests
  abbrev verdict_of : Bool → Bool → Bool → Option (Refusal × ℕ)
  verdict_of q f g = cond (not (not q) || (f || g)) none (breach i iso)

  opened_fault : verdict_of (Silent i cs) (zoned (type_of t (cell_of t row 1)) && all (clause_rule i) cs) (zoned (type_of t (cell_of t row 2)) && all (clause_rule i) (map invert_clause cs)) ≡
      recursion_fault i iso
  unfolding recursion_fault recursion_rule structural
  opened_fault = refl

  module _ {q : Bool} (eq : q ≡ Silent i cs) where
    pub fault_quiet : q ≡ true → none ≡ recursion_fault i iso
    fault_quiet z = sym (ap (λ b. verdict_of b (zoned (type_of t (cell_of t row 1)) && all (clause_rule i) cs) (zoned (type_of t (cell_of t row 2)) && all (clause_rule i) (map invert_clause cs)))
        (sym eq ∙ z)) ∙ opened_fault

    module _ (z : q ≡ false) {a : ℕ} (ea : a ≡ cell_of t row 1) {f : Bool} (ef : f ≡ (zoned (type_of t a) && all (Test i false) cs)) where
      forth : (zoned (type_of t (cell_of t row 1)) && all (clause_rule i) cs) ≡ f
      forth = sym (ef ∙ ap₂ (λ x b. zoned (type_of t x) && b) ea (all_written i cs))

      pub fault_written : f ≡ true → none ≡ recursion_fault i iso
      fault_written y =
          sym (ap₂ (λ b c. verdict_of b c (zoned (type_of t (cell_of t row 2)) && all (clause_rule i) (map invert_clause cs))) (sym eq ∙ z) (forth ∙ y)) ∙ opened_fault

      module _ (y : f ≡ false) {b : ℕ} (eb : b ≡ cell_of t row 2) {g : Bool} (eg : g ≡ (zoned (type_of t b) && all (Test i true) cs)) where
        turned : (zoned (type_of t (cell_of t row 2)) && all (clause_rule i) (map invert_clause cs)) ≡ g
        turned = sym (eg ∙ ap₂ (λ x b. zoned (type_of t x) && b) eb (all_turned i cs))

        settled : {v : Bool} → g ≡ v → verdict_of false false v ≡ recursion_fault i iso
        settled {v} w =
            sym (ap₂ (λ q c. verdict_of q c v) (sym eq ∙ z) (forth ∙ y)) ∙ sym (ap (verdict_of (Silent i cs) (zoned (type_of t (cell_of t row 1)) && all (clause_rule i) cs)) (turned ∙ w))
            ∙ opened_fault

        pub fault_turned : g ≡ true → none ≡ recursion_fault i iso
        fault_turned w = settled w

        module _ (w : g ≡ false) {d : ℕ} (ed : d ≡ cell_of t row 1) {s : Bool} (es : s ≡ zoned (type_of t d)) where
          pub fault_iso : {p : ℕ} → s ≡ false → p ≡ row + 1 → some (recursion iso_line, p) ≡ recursion_fault i iso
          fault_iso x e =
              ap (λ n. some (recursion iso_line, n)) (e ∙ add-one row)
              ∙ sym (ap (λ c. cond c (first_of (at_breach i) cs) (some (recursion iso_line, suc row))) (ap (λ m. zoned (type_of t m)) (sym ed) ∙ sym es ∙ x))
              ∙ settled w

          module _ (x : s ≡ true) {n : ℕ} (en : n ≡ kept_of (Test i false) cs) where
            pub fault_clause : {v p : ℕ} → n < length rows → v ≡ get_or rows n 0 → p ≡ v + 1 → some (recursion clause_line, p) ≡ recursion_fault i iso
            fault_clause {v} l e k =
                ap (λ m. some (recursion clause_line, m)) (k ∙ add-one v ∙ ap suc (e ∙ ap (λ m. get_or rows m 0) en))
                ∙ sym (first_at t base i rows last (subst (λ m. m < length rows) en l))
                ∙ sym (ap (λ c. cond c (first_of (at_breach i) cs) (some (recursion iso_line, suc row))) (ap (λ m. zoned (type_of t m)) (sym ed) ∙ sym es ∙ x))
                ∙ settled w

            -- the rule is broken, so one clause breaks it
            pub fault_never : length rows ≤ n → none ≡ recursion_fault i iso
            fault_never l =
                let few = kept_few (Test i false) cs in
                let same = clauses_length t base rows last in
                let full : kept_of (Test i false) cs ≡ length cs = omega (arith, l, en, few, same) in
                let every : all (Test i false) cs ≡ true = sym (kept_all (Test i false) cs) ∙ eq_eqb full in
                let zone : zoned (type_of t a) ≡ true = ap (λ m. zoned (type_of t m)) (ea ∙ sym ed) ∙ sym es ∙ x in
                absurd (true≢false (sym (ap₂ ◌&&◌ zone every) ∙ sym ef ∙ y))
