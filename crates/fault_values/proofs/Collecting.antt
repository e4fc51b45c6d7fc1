-- The rows of an iso's clauses: where they begin, and what each row makes of them.
use Prim.Native.Nat.{ℕ, suc, ◌-◌, ◌≤◌, ◌<◌}
use native.Mathlib.Omega.{arith}
use mathlib.Core.Path.{◌≡◌, refl, sym, ap, ap₂, ◌∙◌, subst}
use mathlib.Core.Option.{some}
use mathlib.Core.List.{List, [], ◌∷◌, map}
use lib.ListN.{length, get_elem?, drop, set, length-set, length-drop, length-map, drop_of_length-le}
use Rattle.limits.specs.Limits.{max_clauses}
use Rattle.calculus.specs.Trees.{Ty, Pat}
use Rattle.calculus.specs.Refusals.{Kind, type_line, pattern_line, iso_line, clause_line, let_line}
use Rattle.format.specs.Lines.{Row, letter}
use Rattle.format.specs.Judge.{start, after_all}
use Rattle.format.specs.Unfold.{Tail, place}
use Rattle.table_trees.specs.Unfolding.{cell_of, pattern_of}
use Rattle.table_walks.specs.InTable.{patterns_at}
use Rattle.table_walks.specs.Walk.{FileIn, tail_at}
use Rattle.table_walks.proofs.Tails.{clauses_few}
use Rattle.table_walks.proofs.Walking.{row_of, lines_few, letter_iso, letter_clause, clause_left, clause_right, tail_kind, tail_end}
use Rattle.fault_values.specs.Faults.{Collected}
use Rattle.fault_values.specs.declared.Clauses as C
use Rattle.calculus.proofs.Basic.{drop_set_same}

-- a row that is neither a C nor an I line leaves the clauses as they are
kept : (ts : List Ty) (ps : List Pat) (k : Kind) (n : ℕ) (r : Row) (o : Tail) → (letter k ≡ 67 → ⊥) → (letter k ≡ 73 → ⊥) → (place ts ps k n r o).clauses ≡ o.clauses
kept ts ps type_line n r o c i = refl
kept ts ps pattern_line n r o c i = refl
kept ts ps iso_line n r o c i = absurd (i refl)
kept ts ps clause_line n r o c i = absurd (c refl)
kept ts ps let_line n r o c i = refl

-- no clauses
empty : (l : List ℕ) → length l ≡ max_clauses → [] ≡ drop max_clauses l
empty l h = sym (drop_of_length-le l {i = max_clauses} (omega arith))

module _ {t : List ℕ} {base patterns lines : ℕ} {rs : List Row} (f : FileIn t base patterns lines rs) where
  pub collected_start : (l : List ℕ) → length l ≡ max_clauses → Collected t base rs lines (record { rows = l; first = max_clauses })
  collected_start l h = record {
    places = h;
    within = omega arith;
    lefts = ap (λ o. map (λ k. k.lhs) o.clauses) (tail_end f) ∙ ap (patterns_at t base 1) (empty l h);
    rights = ap (λ o. map (λ k. k.rhs) o.clauses) (tail_end f) ∙ ap (patterns_at t base 2) (empty l h);
  }

  module _ {n : ℕ} (h : n < lines) {c : C.Clauses} (s : Collected t base rs (suc n) c) where
    row : (r : Row) × (get_elem? rs n ≡ some r)
    row = row_of f n h

    -- an I row
    pub collected_iso : cell_of t n 0 ≡ 73 → Collected t base rs n (record { rows = c.rows; first = max_clauses })
    collected_iso e =
        let here = tail_kind f n row.1 (letter_iso f n row.1 e) in
        record {
          places = s.places;
          within = omega arith;
          lefts = ap (λ o. map (λ k. k.lhs) o.clauses) here ∙ ap (patterns_at t base 1) (empty c.rows s.places);
          rights = ap (λ o. map (λ k. k.rhs) o.clauses) here ∙ ap (patterns_at t base 2) (empty c.rows s.places);
        }

    -- a C row
    module _ (e : cell_of t n 0 ≡ 67) where
      here : tail_at rs n ≡ place (after_all start rs).types (after_all start rs).patterns clause_line (suc n) row.0 (tail_at rs (suc n))
      here = tail_kind f n row.1 (letter_clause f n row.1 e)

      pub room : 0 < c.first
      room =
          let l : length (tail_at rs (suc n)).clauses ≡ length (drop c.first c.rows) =
          sym (length-map (tail_at rs (suc n)).clauses (λ k. k.lhs)) ∙ ap length s.lefts ∙ length-map (drop c.first c.rows) (λ q. pattern_of t base (cell_of t q 1)) in
          let m : length (tail_at rs n).clauses ≡ suc (length (tail_at rs (suc n)).clauses) = ap (λ (q : Tail). length q.clauses) here in
          omega (arith, clauses_few f.passes n, length-drop c.first c.rows, s.places, s.within)

      pub collected_clause : (r : C.Clauses) → (0 < c.first → c.first ≤ max_clauses → n < 65536 → (r.rows ≡ set c.rows (c.first - 1) n) × (r.first ≡ c.first - 1))
          → Collected t base rs n r
      collected_clause r w =
          let k = w room s.within (omega (arith, lines_few f)) in
          let front : suc (c.first - 1) ≡ c.first = omega (arith, room) in
          let rows : n ∷ drop c.first c.rows ≡ drop r.first r.rows =
          sym (ap₂ drop k.1 k.0
          ∙ drop_set_same c.rows (c.first - 1) n (omega (arith, room, s.places, s.within))
          ∙ ap (λ i. n ∷ drop i c.rows) front) in
          record {
            places = ap length k.0 ∙ length-set c.rows (c.first - 1) n ∙ s.places;
            within = omega (arith, k.1, s.within);
            lefts = ap (λ o. map (λ k. k.lhs) o.clauses) here
                ∙ ap₂ ◌∷◌ (clause_left f n row.1 (letter_clause f n row.1 e)) s.lefts
                ∙ ap (patterns_at t base 1) rows;
            rights = ap (λ o. map (λ k. k.rhs) o.clauses) here
                ∙ ap₂ ◌∷◌ (clause_right f n row.1 (letter_clause f n row.1 e)) s.rights
                ∙ ap (patterns_at t base 2) rows;
          }

    -- any other row
    pub collected_other : {l : ℕ} → l ≡ cell_of t n 0 → (l ≡ 67 → ⊥) → (l ≡ 73 → ⊥) → Collected t base rs n c
    collected_other e not_c not_i =
        let told : cell_of t n 0 ≡ letter row.0.kind = f.letters n row.0 row.1 in
        let same : (tail_at rs n).clauses ≡ (tail_at rs (suc n)).clauses =
        ap (λ o. o.clauses) (tail_kind f n row.1 refl)
        ∙ kept (after_all start rs).types (after_all start rs).patterns row.0.kind (suc n) row.0 (tail_at rs (suc n)) (λ q. not_c (e ∙ told ∙ q)) (λ q. not_i (e ∙ told ∙ q)) in
        record {
          places = s.places;
          within = s.within;
          lefts = ap (map (λ k. k.lhs)) same ∙ s.lefts;
          rights = ap (map (λ k. k.rhs)) same ∙ s.rights;
        }

-- what the loop knows at row n, whatever file the table holds
pub record Walking (t : List ℕ) (from lines n : ℕ) (c : C.Clauses) : Type 0 where
  pub holds : (rs : List Row) (types patterns : ℕ) → FileIn t types patterns lines rs → from ≤ lines → (from ≤ n) × (n ≤ lines) × Collected t types rs n c

pub walking_start : (t : List ℕ) (from lines : ℕ) (l : List ℕ) → length l ≡ max_clauses → Walking t from lines lines (record { rows = l; first = max_clauses })
walking_start t from lines l h = record { holds = λ rs types patterns f k. (k, omega arith, collected_start f l h) }

pub walking_step : {t : List ℕ} {from lines n : ℕ} {c r : C.Clauses} → Walking t from lines n c → from < n
    → ((rs : List Row) (types patterns lines : ℕ) → FileIn t types patterns lines rs → n - 1 < lines → Collected t types rs (suc (n - 1)) c → Collected t types rs (n - 1) r)
    → Walking t from lines (n - 1) r
walking_step {t} {from} {lines} {n} {c} {r} s h more = record {
  holds = λ rs types patterns f k.
      let now = s.holds rs types patterns f k in
      let here : n ≡ suc (n - 1) = omega arith in (
        omega arith,
        omega (arith, now.1),
        more rs types patterns lines f (omega (arith, now.1)) (subst (λ m. Collected t types rs m c) here now.2),
      );
}

pub walking_end : {t : List ℕ} {from lines n : ℕ} {c : C.Clauses} → Walking t from lines n c → n ≤ from
    → (rs : List Row) (types patterns : ℕ) → FileIn t types patterns lines rs → from ≤ lines → Collected t types rs from c
walking_end {t} {from} {lines} {n} {c} s h rs types patterns f k =
    let now = s.holds rs types patterns f k in
    let here : n ≡ from = omega (arith, now.0) in
    subst (λ m. Collected t types rs m c) here now.2
