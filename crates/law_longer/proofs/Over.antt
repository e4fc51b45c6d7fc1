-- Request 13: a file that only the new ceiling admits is refused 7 at the first C line that is the 33rd of its iso.
use Prim.Native.Nat.{ℕ, suc, ◌≤◌, ◌<◌}
use native.Mathlib.Omega.{arith}
use mathlib.Core.Path.{◌≡◌, refl, sym, ap, ◌∙◌, subst}
use mathlib.Core.Logic.{◌⊎◌, inl, inr, ◌↔◌}
use mathlib.Core.Bool.{Bool, true, false, cond, ◌&&◌}
use mathlib.Core.Option.{Option, none, some}
use mathlib.Core.List.{List, [], ◌∷◌}
use lib.Dec.{ltb}
use Rattle.calculus.specs.Refusals.{Kind, type_line, pattern_line, iso_line, clause_line, let_line, Refusal, ceiling, too_long}
use Rattle.calculus.proofs.Basic.{none≢some, some_inj, not_both, and_true, true_and, eqb_eq, eqb_false, lt_ltb, not_ltb, le_or_lt}
use Rattle.format.specs.Lines.{Row, lines, row_of}
use Rattle.format.specs.Judge.{Seen, start, judge, after_kind, after, rows, faulty, with_row, on_row, on_judged, read_from}
use Rattle.format.proofs.Printing.{rows_inj, rows≢faulty}
use Rattle.model.specs.Services.{accepted, refused, after_reading, over, verdict}
use Rattle.model.proofs.Files.{accepted_form, passes_read}
use Rattle.law_witnesses.specs.Showing.{shown_of}
use Rattle.law_longer.specs.Former.{former_clauses, former_judge, former_read, former, former_showing, FewClauses}
use Rattle.law_longer.specs.Over.{is_over, clauses_after, over_from, first_over}
use Rattle.law_longer.proofs.Former.{JudgeCases, judge_cases, kind_few, few_rows, few_clauses, former_few, few_former, with_row_rows}

-- ---- a row

clauses_after_lem : (k : Kind) (s : Seen) (r : Row) → (after_kind k s r).clauses ≡ clauses_after k s.clauses
clauses_after_lem type_line s r = refl
clauses_after_lem pattern_line s r = refl
clauses_after_lem iso_line s r = refl
clauses_after_lem clause_line s r = refl
clauses_after_lem let_line s r = refl

-- one that is not the 33rd keeps the old ceiling, and so do those below it
few_kind : (k : Kind) (s : Seen) → s.clauses ≤ former_clauses → is_over k s.clauses ≡ false → (kind_few k s ≡ true) × (clauses_after k s.clauses ≤ former_clauses)
few_kind type_line s h e = (refl, h)
few_kind pattern_line s h e = (refl, h)
few_kind iso_line s h e = (refl, omega arith)
few_kind clause_line s h e = go (le_or_lt former_clauses s.clauses)
  where
    go : (former_clauses ≤ s.clauses) ⊎ (s.clauses < former_clauses) → (ltb s.clauses former_clauses ≡ true) × (suc s.clauses ≤ former_clauses)
    go (inl l) = absurd (eqb_false {m = s.clauses} {n = former_clauses} e (omega arith))
    go (inr l) = (lt_ltb l, l)
few_kind let_line s h e = (refl, h)

over_kind : (k : Kind) (s : Seen) → is_over k s.clauses ≡ true → kind_few k s ≡ false
over_kind type_line s e = sym e
over_kind pattern_line s e = sym e
over_kind iso_line s e = sym e
over_kind clause_line s e = let q = eqb_eq s.clauses former_clauses e in not_ltb {m = s.clauses} {n = former_clauses} (omega arith)
over_kind let_line s e = sym e

-- the 33rd is refused 7 where today's judge passes it
over_judge : (s : Seen) (r : Row) → judge s r ≡ none → is_over r.kind s.clauses ≡ true → former_judge s r ≡ some (ceiling clause_line)
over_judge s r j e = go (judge_cases s r)
  where
    go : JudgeCases s r → former_judge s r ≡ some (ceiling clause_line)
    go (JudgeCases.alike a) = absurd (not_both (former_few s r (a ∙ j)) (over_kind r.kind s e))
    go (JudgeCases.newly a b c d) = b

-- ---- the lines

record Step (s : Seen) (n : ℕ) (l : List ℕ) (ls : List (List ℕ)) (rs : List Row) : Type 0 where
  row : Row
  below : List Row
  form : row_of l ≡ some row
  passes : judge s row ≡ none
  reads : read_from (after s row) (suc n) ls ≡ rows below
  all : rs ≡ row ∷ below

step_of : (s : Seen) (n : ℕ) (l : List ℕ) (ls : List (List ℕ)) (rs : List Row) → read_from s n (l ∷ ls) ≡ rows rs → Step s n l ls rs
step_of s n l ls rs e = go (row_of l) refl e
  where
    on : (r : Row) → row_of l ≡ some r → (x : Option Refusal) → judge s r ≡ x → on_judged n x (λ _. with_row r (read_from (after s r) (suc n) ls)) ≡ rows rs → Step s n l ls rs
    on r q (some f) j e = absurd (rows≢faulty (sym e))
    on r q none j e = let w = with_row_rows r (read_from (after s r) (suc n) ls) rs e in record { row = r; below = w.0; form = q; passes = j; reads = w.1; all = w.2 }

    go : (o : Option Row) → row_of l ≡ o → on_row n o (λ r. on_judged n (judge s r) (λ _. with_row r (read_from (after s r) (suc n) ls))) ≡ rows rs → Step s n l ls rs
    go none q e = absurd (rows≢faulty (sym e))
    go (some r) q e = on r q (judge s r) refl e

over_read : (s : Seen) (n : ℕ) (ls : List (List ℕ)) (rs : List Row) (m : ℕ) → s.clauses ≤ former_clauses → read_from s n ls ≡ rows rs
    → over_from s.clauses n rs ≡ some m → former_read s n ls ≡ faulty (ceiling clause_line) m
over_read s n [] rs m h e o = absurd (none≢some (ap (over_from s.clauses n) (rows_inj e) ∙ o))
over_read s n (l ∷ ls) rs m h e o = go (step_of s n l ls rs e) (λ r. over_read (after s r) (suc n) ls)
  where
    go : Step s n l ls rs
        → ((r : Row) (qs : List Row) (m : ℕ) → (after s r).clauses ≤ former_clauses → read_from (after s r) (suc n) ls ≡ rows qs
        → over_from (after s r).clauses (suc n) qs ≡ some m → former_read (after s r) (suc n) ls ≡ faulty (ceiling clause_line) m)
        → former_read s n (l ∷ ls) ≡ faulty (ceiling clause_line) m
    go t rest = on (is_over t.row.kind s.clauses) refl (ap (over_from s.clauses n) (sym t.all) ∙ o)
      where
        r : Row
        r = t.row

        left : former_read s n (l ∷ ls) ≡ on_judged n (former_judge s r) (λ _. with_row r (former_read (after s r) (suc n) ls))
        left = ap (λ o. on_row n o (λ r. on_judged n (former_judge s r) (λ _. with_row r (former_read (after s r) (suc n) ls)))) t.form

        on : (b : Bool) → is_over r.kind s.clauses ≡ b → cond b (some n) (over_from (clauses_after r.kind s.clauses) (suc n) t.below) ≡ some m
            → former_read s n (l ∷ ls) ≡ faulty (ceiling clause_line) m
        on true e o =
            left ∙ ap (λ z. on_judged n z (λ _. with_row r (former_read (after s r) (suc n) ls))) (over_judge s r t.passes e) ∙ ap (faulty (ceiling clause_line)) (some_inj o)
        on false e o =
            let k = few_kind r.kind s h e in
            let c = clauses_after_lem r.kind s r in
            left
            ∙ ap (λ z. on_judged n z (λ _. with_row r (former_read (after s r) (suc n) ls))) (few_former s r t.passes k.0)
            ∙ ap (with_row r)
            (rest r t.below m (subst (λ z. z ≤ former_clauses) (sym c) k.1) t.reads (ap (λ z. over_from z (suc n) t.below) c ∙ o))

-- ---- the file

-- no line is one exactly where no iso has over 32 clauses
over_few : (s : Seen) (n : ℕ) (rs : List Row) → s.clauses ≤ former_clauses → over_from s.clauses n rs ≡ none → few_rows s rs ≡ true
over_few s n [] h e = refl
over_few s n (r ∷ rs) h e = go (is_over r.kind s.clauses) refl e (over_few (after s r) (suc n) rs)
  where
    go : (b : Bool) → is_over r.kind s.clauses ≡ b → cond b (some n) (over_from (clauses_after r.kind s.clauses) (suc n) rs) ≡ none
        → ((after s r).clauses ≤ former_clauses → over_from (after s r).clauses (suc n) rs ≡ none → few_rows (after s r) rs ≡ true)
        → (kind_few r.kind s && few_rows (after s r) rs) ≡ true
    go true q e rest = absurd (none≢some (sym e))
    go false q e rest =
        let k = few_kind r.kind s h q in
        let c = clauses_after_lem r.kind s r in
        true_and k.0 (rest (subst (λ z. z ≤ former_clauses) (sym c) k.1) (ap (λ z. over_from z (suc n) rs) c ∙ e))

few_over : (s : Seen) (n : ℕ) (rs : List Row) → few_rows s rs ≡ true → over_from s.clauses n rs ≡ none
few_over s n [] h = refl
few_over s n (r ∷ rs) h =
    let k = and_true (kind_few r.kind s) (few_rows (after s r) rs) h in
    let c = clauses_after_lem r.kind s r in
    ap (λ b. cond b (some n) (over_from (clauses_after r.kind s.clauses) (suc n) rs)) (not_over (is_over r.kind s.clauses) refl k.0)
    ∙ ap (λ z. over_from z (suc n) rs) (sym c)
    ∙ few_over (after s r) (suc n) rs k.1
  where
    not_over : (b : Bool) → is_over r.kind s.clauses ≡ b → kind_few r.kind s ≡ true → is_over r.kind s.clauses ≡ false
    not_over true e k = absurd (not_both k (over_kind r.kind s e))
    not_over false e k = e

pub none_over : (bs : List ℕ) (rs : List Row) → read_from start 1 (lines bs) ≡ rows rs → (first_over rs ≡ none) ↔ FewClauses rs
unfolding start
none_over bs rs e =
    let f = few_clauses rs (passes_read bs rs e) in
    ((λ h. f.1 (over_few start 1 rs (omega arith) h)), (λ h. few_over start 1 rs (f.0 h)))

-- of lines that pass 3 to 7 today
module _ (bs : List ℕ) (rs : List Row) (fits : over bs ≡ false) (reads : read_from start 1 (lines bs) ≡ rows rs) (n : ℕ) (first : first_over rs ≡ some n) where
  over_reading : former_read start 1 (lines bs) ≡ faulty (ceiling clause_line) n
  unfolding start
  over_reading = over_read start 1 (lines bs) rs n (omega arith) reads first

  pub over_refused : former bs ≡ refused (ceiling clause_line) n
  unfolding former
  over_refused = ap (λ b. cond b (refused too_long 0) (after_reading (former_read start 1 (lines bs)))) fits ∙ ap after_reading over_reading

  -- no setting is shown
  pub over_showing : former_showing bs ≡ []
  unfolding former_showing
  over_showing = ap (λ b. cond b [] (shown_of (former_read start 1 (lines bs)))) fits ∙ ap shown_of over_reading

-- "meets a file that only the new ceiling admits with 7": there is such a line, and 7 is at the first
pub newly_admitted : (bs : List ℕ) (rs : List Row) → verdict bs ≡ accepted rs → (FewClauses rs → ⊥)
    → (n : ℕ) × (first_over rs ≡ some n) × (former bs ≡ refused (ceiling clause_line) n)
newly_admitted bs rs e h = go (first_over rs) refl
  where
    go : (x : Option ℕ) → first_over rs ≡ x → (n : ℕ) × (first_over rs ≡ some n) × (former bs ≡ refused (ceiling clause_line) n)
    go none q = absurd (h ((none_over bs rs (accepted_form bs rs e).0.reads).0 q))
    go (some n) q = (n, q, over_refused bs rs (accepted_form bs rs e).0.fits (accepted_form bs rs e).0.reads n q)
