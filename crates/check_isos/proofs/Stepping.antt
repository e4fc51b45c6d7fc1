-- The walk over the rows as the code holds it: where it starts, what each row makes of it, and where it ends.
use Rattle.std.specs.Prelude.{Option as CodeOption}
use Prim.Native.Nat.{ℕ, suc, ◌+◌, ◌-◌, ◌%◌, ◌≤◌, ◌<◌}
use native.Mathlib.Numerals.{add-one}
use native.Mathlib.Omega.{arith}
use mathlib.Core.Path.{◌≡◌, sym, ap, ap₂, ◌∙◌, subst, subst₂, subst₃}
use mathlib.Core.Option.{Option, none, some}
use mathlib.Core.List.{List, [], ◌∷◌}
use lib.ListN.{length, get_or, get_elem?, take, drop, set, length-set, length-drop, drop_of_length-le}
use lib.Seq.{take_all}
use Rattle.limits.specs.Limits.{max_lines, max_clauses}
use Rattle.format.specs.Lines.{Row, letter}
use Rattle.calculus.specs.Refusals.{Refusal, iso_line, clause_line}
use Rattle.calculus.specs.Tools.{or_else}
use Rattle.format.specs.Code.{refusal_view}
use Rattle.format.specs.Unfold.{isos_of}
use Rattle.calculus.specs.Clauses.{at, clause_fault, fault}
use Rattle.format.specs.declared.Answer as A
use Rattle.format.specs.declared.Refusal as R
use Rattle.table_trees.specs.Unfolding.{cell_of, type_of}
use Rattle.table_walks.specs.InTable.{clause_in, sigs_in, whole_fault}
use Rattle.table_walks.specs.Walk.{FileIn, iso_rows, WalkAt}
use Rattle.table_walks.proofs.Rows.{get_row}
use Rattle.table_walks.proofs.Walking.{row_of, lines_few, head_few, letter_iso, letter_clause, other_let, walk_start, walk_let, walk_clause, walk_iso, walk_end}
use Rattle.table_walks.proofs.Walking.{own_row, clause_slots, clause_room, iso_above, iso_within}
use Rattle.check_typing.specs.Rules.{Slotted}
use Rattle.check_isos.specs.declared.Walk as W
use Rattle.check_isos.specs.Answers.{as_fault, OwnFault}
use Rattle.check_isos.specs.Walked.{Walked}
use Rattle.area_words.proofs.Bits.{narrow_same}
use Rattle.calculus.proofs.Basic.{drop_set_same}

-- the refusal of a clause, by the types of its iso's I line
pub own_fault : (t : List ℕ) (base : ℕ) (starts : List ℕ) (own n below : ℕ) {v head a b : ℕ} {o : Option Refusal} → v ≡ get_or starts own 0 → head ≡ v
    → a ≡ cell_of t head 1 → b ≡ cell_of t head 2
    → (n < max_lines → Slotted (clause_in t base n below) → o ≡ clause_fault (sigs_in t starts) (type_of t a) (type_of t b) (clause_in t base n below))
    → OwnFault t base starts own n below o
own_fault t base starts own n below ev eh ea eb eo =
    let from = ea ∙ ap (λ x. cell_of t x 1) (eh ∙ ev) in
    let to = eb ∙ ap (λ x. cell_of t x 2) (eh ∙ ev) in
    record { same = λ h k. eo h k ∙ ap₂ (λ x y. clause_fault (sigs_in t starts) (type_of t x) (type_of t y) (clause_in t base n below)) from to }

-- what the code tests before a C row, and before an I row
pub record ClauseInside (w : W.Walk) (n : ℕ) : Type 0 where
  pub owned : 0 < w.iso
  pub room : 0 < w.first
  pub places : w.first ≤ max_clauses
  pub early : n < max_lines

pub record IsoInside (w : W.Walk) (n : ℕ) : Type 0 where
  pub above : 0 < w.iso
  pub places : w.first ≤ max_clauses
  pub early : n < max_lines

module _ {t : List ℕ} {base patterns lines : ℕ} {rs : List Row} (f : FileIn t base patterns lines rs) {n : ℕ} (h : n < lines) {w : W.Walk}
    (s : Walked t base rs (suc n) w) where
  -- an L row
  pub walked_let : base + patterns ≤ n → {l : ℕ} → l ≡ cell_of t n 0 → (l ≡ letter clause_line → ⊥) → (l ≡ letter iso_line → ⊥) → Walked t base rs n w
  walked_let late e c i =
      let r = row_of f n h in
      record {
        places = s.places;
        within = s.within;
        holds = walk_let f n r.1 (other_let f n r.1 late (λ q. c (e ∙ q)) (λ q. i (e ∙ q))) s.holds;
      }

  pub clause_inside : cell_of t n 0 ≡ letter clause_line → ClauseInside w n
  clause_inside c =
      let r = row_of f n h in
      let k = letter_clause f n r.1 c in
      let own = own_row f n r.1 k s.holds in
      record {
        owned = omega (arith, own.2);
        room = omega (arith, clause_room f n r.1 k s.holds, length-drop w.first w.clauses, s.places);
        places = s.within;
        early = omega (arith, lines_few f);
      }

  -- a C row
  pub walked_clause : (starts : List ℕ) → starts ≡ iso_rows 0 rs → cell_of t n 0 ≡ letter clause_line → (g : CodeOption R.Refusal) → OwnFault t base starts (w.iso - 1) n w.below (refusal_view g)
      → {m : ℕ} → m ≡ n % 65536 → (p : A.Answer) → as_fault p ≡ or_else (at (n + 1) (refusal_view g)) (as_fault w.pending)
      → Walked t base rs n
      (record { clauses = set w.clauses (w.first - 1) m; first = w.first - 1; below = n; last = w.last; iso = w.iso; pending = p; found = w.found })
  walked_clause starts e c g eg {m} em p ep =
      record {
        places = length-set w.clauses (w.first - 1) m ∙ s.places;
        within = omega (arith, s.within);
        holds = subst₂ (λ cs o. WalkAt t base rs n cs n w.last w.iso o (as_fault w.found)) rows refusal next;
      }
    where
      r : (r : Row) × (get_elem? rs n ≡ some r)
      r = row_of f n h

      k : r.0.kind ≡ clause_line
      k = letter_clause f n r.1 c

      inside : ClauseInside w n
      inside = clause_inside c

      top : ℕ
      top = get_or (iso_rows 0 rs) (w.iso - 1) 0

      next : WalkAt t base rs n (n ∷ drop w.first w.clauses) n w.last w.iso
          (or_else (at (suc n) (clause_fault (sigs_in t (iso_rows 0 rs)) (type_of t (cell_of t top 1)) (type_of t (cell_of t top 2)) (clause_in t base n w.below))) (as_fault w.pending))
          (as_fault w.found)
      next =
          walk_clause f n r.1 k s.holds (w.iso - 1) top (omega (arith, inside.owned))
          (get_row (iso_rows 0 rs) (w.iso - 1) 0 (omega (arith, inside.owned, iso_within f s.holds)))

      rows : n ∷ drop w.first w.clauses ≡ drop (w.first - 1) (set w.clauses (w.first - 1) m)
      rows =
          let front : suc (w.first - 1) ≡ w.first = omega (arith, inside.room) in
          sym
          (drop_set_same w.clauses (w.first - 1) m (omega (arith, inside.room, s.places, s.within))
          ∙ ap₂ (λ x i. x ∷ drop i w.clauses) (narrow_same em (omega (arith, inside.early))) front)

      judged : refusal_view g ≡ clause_fault (sigs_in t (iso_rows 0 rs)) (type_of t (cell_of t top 1)) (type_of t (cell_of t top 2)) (clause_in t base n w.below)
      judged =
          eg.same inside.early (clause_slots f n r.1 k s.holds)
          ∙ ap (λ l. clause_fault (sigs_in t l) (type_of t (cell_of t (get_or l (w.iso - 1) 0) 1)) (type_of t (cell_of t (get_or l (w.iso - 1) 0) 2)) (clause_in t base n w.below)) e

      refusal : or_else (at (suc n) (clause_fault (sigs_in t (iso_rows 0 rs)) (type_of t (cell_of t top 1)) (type_of t (cell_of t top 2)) (clause_in t base n w.below))) (as_fault w.pending)
          ≡ as_fault p
      refusal = sym (ep ∙ ap₂ (λ k o. or_else (at k o) (as_fault w.pending)) (add-one n) judged)

  pub iso_inside : cell_of t n 0 ≡ letter iso_line → IsoInside w n
  iso_inside c =
      let r = row_of f n h in
      let k = letter_iso f n r.1 c in
      record {
        above = omega (arith, iso_above f n r.1 k s.holds);
        places = s.within;
        early = omega (arith, lines_few f);
      }

  -- an I row
  pub walked_iso : cell_of t n 0 ≡ letter iso_line → (p q : A.Answer) → as_fault p ≡ none
      → as_fault q
      ≡ or_else
      (or_else (as_fault w.pending) (whole_fault t base (w.iso - 1) n (take (max_clauses - w.first) (drop w.first w.clauses)) w.last))
      (as_fault w.found)
      → Walked t base rs n (record { clauses = w.clauses; first = max_clauses; below = n; last = n; iso = w.iso - 1; pending = p; found = q })
  walked_iso c p q ep eq =
      record {
        places = s.places;
        within = omega arith;
        holds = subst₃ (λ cs o u. WalkAt t base rs n cs n n (w.iso - 1) o u) rows (sym ep) refusal next;
      }
    where
      r : (r : Row) × (get_elem? rs n ≡ some r)
      r = row_of f n h

      kept : List ℕ
      kept = drop w.first w.clauses

      next : WalkAt t base rs n [] n n (w.iso - 1) none
          (or_else (or_else (as_fault w.pending) (whole_fault t base (w.iso - 1) n kept w.last)) (as_fault w.found))
      next = walk_iso f n r.1 (letter_iso f n r.1 c) s.holds (w.iso - 1) (omega (arith, (iso_inside c).above))

      rows : [] ≡ drop max_clauses w.clauses
      rows = sym (drop_of_length-le w.clauses {i = max_clauses} (omega (arith, s.places)))

      whole : take (max_clauses - w.first) kept ≡ kept
      whole = take_all (max_clauses - w.first) kept (omega (arith, length-drop w.first w.clauses, s.places))

      refusal : or_else (or_else (as_fault w.pending) (whole_fault t base (w.iso - 1) n kept w.last)) (as_fault w.found) ≡ as_fault q
      refusal =
          sym
          (eq
          ∙ ap (λ l. or_else (or_else (as_fault w.pending) (whole_fault t base (w.iso - 1) n l w.last)) (as_fault w.found)) whole)

-- what the loop knows at row n, whatever file the table holds
pub record Walking (t : List ℕ) (base : ℕ) (starts : List ℕ) (stop lines isos n : ℕ) (w : W.Walk) : Type 0 where
  pub holds : (rs : List Row) (patterns : ℕ) → FileIn t base patterns lines rs → starts ≡ iso_rows 0 rs → isos ≡ length (iso_rows 0 rs) → stop ≡ base + patterns
      → (stop ≤ n) × (n ≤ lines) × Walked t base rs n w

pub walking_start : (t : List ℕ) (base : ℕ) (starts : List ℕ) (stop lines isos : ℕ) (l : List ℕ) (clear : A.Answer) → length l ≡ max_clauses → as_fault clear ≡ none
    → Walking t base starts stop lines isos lines (record { clauses = l; first = max_clauses; below = lines; last = lines; iso = isos; pending = clear; found = clear })
walking_start t base starts stop lines isos l clear places e =
    record {
      holds = λ rs patterns f es ei eb. (
        omega (arith, head_few f),
        omega arith,
        record {
          places = places;
          within = omega arith;
          holds =
              subst₃ (λ cs i o. WalkAt t base rs lines cs lines lines i o o) (sym (drop_of_length-le l {i = max_clauses} (omega arith))) (sym ei) (sym e) (walk_start f);
        },
      );
    }

pub walking_step : {t : List ℕ} {base : ℕ} {starts : List ℕ} {stop lines isos n : ℕ} {w r : W.Walk} → Walking t base starts stop lines isos n w → stop < n
    → ((rs : List Row) (patterns lines : ℕ) → FileIn t base patterns lines rs → starts ≡ iso_rows 0 rs → n - 1 < lines → base + patterns ≤ n - 1
    → Walked t base rs (suc (n - 1)) w → Walked t base rs (n - 1) r)
    → Walking t base starts stop lines isos (n - 1) r
walking_step {t} {base} {starts} {stop} {lines} {isos} {n} {w} {r} s h more =
    record {
      holds = λ rs patterns f es ei eb.
          let now = s.holds rs patterns f es ei eb in
          let here : n ≡ suc (n - 1) = omega arith in (
            omega arith,
            omega (arith, now.1),
            more rs patterns lines f es (omega (arith, now.1)) (omega arith) (subst (λ m. Walked t base rs m w) here now.2),
          );
    }

pub walking_end : {t : List ℕ} {base : ℕ} {starts : List ℕ} {stop lines isos n : ℕ} {w : W.Walk} → Walking t base starts stop lines isos n w → n ≤ stop
    → (rs : List Row) (patterns : ℕ) → FileIn t base patterns lines rs → starts ≡ iso_rows 0 rs → isos ≡ length (iso_rows 0 rs) → stop ≡ base + patterns
    → as_fault w.found ≡ fault (isos_of rs)
walking_end {t} {base} {starts} {stop} {lines} {isos} {n} {w} s h rs patterns f es ei eb =
    let now = s.holds rs patterns f es ei eb in
    let here : n ≡ base + patterns = omega (arith, now.0) in
    walk_end f (subst (λ m. Walked t base rs m w) here now.2).holds
