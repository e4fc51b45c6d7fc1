-- Lines without lists and self-calls are read as before; others were refused before, 5 at the first line of lists or 6 at the first L line that names its own iso.
use Prim.Native.Nat.{ℕ, suc}
use mathlib.Core.Path.{◌≡◌, refl, sym, ap, ap₂, ◌∙◌, subst}
use mathlib.Core.Bool.{Bool, true, false, not, ◌&&◌, false≢true}
use mathlib.Core.Option.{Option, none, some}
use mathlib.Core.List.{List, [], ◌∷◌, nil≢cons}
use Rattle.calculus.specs.Tools.{first_failing}
use Rattle.calculus.specs.Refusals.{Kind, Refusal, misplaced, bad_field, bad_name, ceiling}
use Rattle.calculus.proofs.Basic.{none_failing}
use Rattle.format.specs.Lines.{Row, row_of}
use Rattle.format.specs.Judge.{Seen, in_order, fields_fit, named, within_ceilings, judge, after, Reading, rows, faulty, with_row, on_row, on_judged, read_from}
use Rattle.format.proofs.Printing.{rows_inj, rows≢faulty}
use Rattle.format.proofs.Passing.{judge_fit}
use Rattle.law_zoned.specs.Before.{of_lists, calls_itself, judge_before, read_before}
use Rattle.law_zoned.specs.Unzoned.{Plain, Unzoned, FirstZoned}

-- ---- a row

and_off : (b : Bool) {c : Bool} → c ≡ false → (b && not c) ≡ b
and_off true e = ap not e
and_off false e = refl

and_on : (b : Bool) {c : Bool} → c ≡ true → (b && not c) ≡ false
and_on true e = ap not e
and_on false e = refl

-- the four tests, by what they come to
abbrev four : Kind → Bool → Bool → Bool → Bool → Option Refusal
four k a b c d = first_failing ((a, misplaced k) ∷ (b, bad_field k) ∷ (c, bad_name k) ∷ (d, ceiling k) ∷ [])

pub same_judge : (s : Seen) (r : Row) → of_lists r.kind r ≡ false → calls_itself s r.kind r ≡ false → judge_before within_ceilings s r ≡ judge s r
unfolding judge judge_before
same_judge s r l o =
    ap₂ (λ b c. four r.kind (in_order s.above r.kind) b c (within_ceilings s r.kind r))
    (and_off (fields_fit r.kind r) l) (and_off (named s r.kind r) o)

-- a row that passes, and is of lists or calls its own iso
pub lists_judged : (s : Seen) (r : Row) → judge s r ≡ none → of_lists r.kind r ≡ true → judge_before within_ceilings s r ≡ some (bad_field r.kind)
unfolding judge_before
lists_judged s r j l =
    let k : Kind = r.kind in
    ap₂ (λ a b. four k a b (named s k r && not (calls_itself s k r)) (within_ceilings s k r)) (judge_fit s r j).order (and_on (fields_fit k r) l)

pub itself_judged : (s : Seen) (r : Row) → judge s r ≡ none → of_lists r.kind r ≡ false → calls_itself s r.kind r ≡ true
    → judge_before within_ceilings s r ≡ some (bad_name r.kind)
unfolding judge_before
itself_judged s r j l o =
    let k : Kind = r.kind in
    ap₂ (λ a b. four k a b (named s k r && not (calls_itself s k r)) (within_ceilings s k r)) (judge_fit s r j).order (and_off (fields_fit k r) l ∙ (judge_fit s r j).fields)
    ∙ ap (λ c. four k true true c (within_ceilings s k r)) (and_on (named s k r) o)

-- a row that passed before is neither
pub passed : (ceilings : Seen → Kind → Row → Bool) (s : Seen) (r : Row) → judge_before ceilings s r ≡ none
    → (of_lists r.kind r ≡ false) × (calls_itself s r.kind r ≡ false)
unfolding judge_before
passed ceilings s r e =
    let k : Kind = r.kind in
    let e₁ = none_failing (in_order s.above k) (misplaced k) _ e in
    let e₂ = none_failing (fields_fit k r && not (of_lists k r)) (bad_field k) _ e₁.1 in
    let e₃ = none_failing (named s k r && not (calls_itself s k r)) (bad_name k) _ e₂.1 in
    (off (fields_fit k r) (of_lists k r) e₂.0, off (named s k r) (calls_itself s k r) e₃.0)
  where
    off : (b c : Bool) → (b && not c) ≡ true → c ≡ false
    off true true h = absurd (false≢true h)
    off true false h = refl
    off false c h = absurd (false≢true h)

-- ---- lines

not_empty : {s : Seen} {n m : ℕ} {rs : List Row} {f : Refusal} → FirstZoned s n rs f m → [] ≡ rs → ⊥
not_empty (FirstZoned.lists h a b) e = absurd (nil≢cons e)
not_empty (FirstZoned.itself h k a b) e = absurd (nil≢cons e)
not_empty (FirstZoned.later h k w) e = absurd (nil≢cons e)

module _ (ceilings : Seen → Kind → Row → Bool) (s : Seen) (n : ℕ) (l : List ℕ) (ls : List (List ℕ)) where
  -- a line that is no row, and one that is
  pub before_none : row_of l ≡ none → read_before ceilings s n (l ∷ ls) ≡ read_from s n (l ∷ ls)
  before_none e =
      ap (λ o. on_row n o (λ r. on_judged n (judge_before ceilings s r) (λ _. with_row r (read_before ceilings (after s r) (suc n) ls)))) e
      ∙ sym (ap (λ o. on_row n o (λ r. on_judged n (judge s r) (λ _. with_row r (read_from (after s r) (suc n) ls)))) e)

  pub before_row : (r : Row) → row_of l ≡ some r
      → read_before ceilings s n (l ∷ ls) ≡ on_judged n (judge_before ceilings s r) (λ _. with_row r (read_before ceilings (after s r) (suc n) ls))
  before_row r e = ap (λ o. on_row n o (λ r. on_judged n (judge_before ceilings s r) (λ _. with_row r (read_before ceilings (after s r) (suc n) ls)))) e

pub today_row : (s : Seen) (n : ℕ) (l : List ℕ) (ls : List (List ℕ)) (r : Row) → row_of l ≡ some r
    → read_from s n (l ∷ ls) ≡ on_judged n (judge s r) (λ _. with_row r (read_from (after s r) (suc n) ls))
today_row s n l ls r e = ap (λ o. on_row n o (λ r. on_judged n (judge s r) (λ _. with_row r (read_from (after s r) (suc n) ls)))) e

-- "files without lists and self-calls" are read as before
pub same_read : {s : Seen} {ls : List (List ℕ)} (n : ℕ) → Unzoned s ls → read_before within_ceilings s n ls ≡ read_from s n ls
same_read n Unzoned.ends = refl
same_read n (Unzoned.broken {s = s} {l = l} {ls = ls} e) = before_none within_ceilings s n l ls e
same_read n (Unzoned.next {s = s} {l = l} {ls = ls} r e a b u) =
    before_row within_ceilings s n l ls r e
    ∙ ap₂ (λ j (x : Reading). on_judged n j (λ _. with_row r x)) (same_judge s r a b) (same_read (suc n) u)
    ∙ sym (today_row s n l ls r e)

-- what was read, one row in front of the others
record Read (r : Row) (x : Reading) (rs : List Row) : Type 0 where
  rest : List Row
  reads : x ≡ rows rest
  whole : r ∷ rest ≡ rs

after_row : (n : ℕ) (j : Option Refusal) (r : Row) (x : Reading) (rs : List Row) → on_judged n j (λ _. with_row r x) ≡ rows rs → (j ≡ none) × Read r x rs
after_row n none r (rows qs) rs e = (refl, record { rest = qs; reads = refl; whole = rows_inj e })
after_row n none r (faulty f m) rs e = absurd (rows≢faulty (sym e))
after_row n (some f) r x rs e = absurd (rows≢faulty (sym e))

-- the rows of such lines
pub plain_rows : {s : Seen} {ls : List (List ℕ)} (n : ℕ) → Unzoned s ls → (rs : List Row) → read_from s n ls ≡ rows rs → Plain s rs
plain_rows n (Unzoned.ends {s = s}) rs e = subst (Plain s) (rows_inj e) Plain.ends
plain_rows n (Unzoned.broken {s = s} {l = l} {ls = ls} q) rs e =
    absurd (rows≢faulty (sym e ∙ ap (λ o. on_row n o (λ r. on_judged n (judge s r) (λ _. with_row r (read_from (after s r) (suc n) ls)))) q))
plain_rows n (Unzoned.next {s = s} {l = l} {ls = ls} r q a b u) rs e =
    let x = (after_row n (judge s r) r (read_from (after s r) (suc n) ls) rs (sym (today_row s n l ls r q) ∙ e)).1 in
    subst (Plain s) x.whole (Plain.next a b (plain_rows (suc n) u x.rest x.reads))

-- ---- lines of lists, or that name their own iso

-- whatever the ceilings: what is read as rows before the request holds none
pub before_plain : (ceilings : Seen → Kind → Row → Bool) (s : Seen) (n : ℕ) (ls : List (List ℕ)) (rs : List Row) → read_before ceilings s n ls ≡ rows rs → Plain s rs
before_plain ceilings s n [] rs e = subst (Plain s) (rows_inj e) Plain.ends
before_plain ceilings s n (l ∷ ls) rs e = go (row_of l) refl (λ r. before_plain ceilings (after s r) (suc n) ls)
  where
    go : (o : Option Row) → row_of l ≡ o → ((r : Row) (qs : List Row) → read_before ceilings (after s r) (suc n) ls ≡ rows qs → Plain (after s r) qs) → Plain s rs
    go none q below =
        absurd (rows≢faulty (sym e ∙ ap (λ o. on_row n o (λ r. on_judged n (judge_before ceilings s r) (λ _. with_row r (read_before ceilings (after s r) (suc n) ls)))) q))
    go (some r) q below =
        let x = after_row n (judge_before ceilings s r) r (read_before ceilings (after s r) (suc n) ls) rs (sym (before_row ceilings s n l ls r q) ∙ e) in
        let p = passed ceilings s r x.0 in
        subst (Plain s) x.1.whole (Plain.next p.0 p.1 (below r x.1.rest x.1.reads))

-- at the first of them, where every line passes today
pub first_zoned : {s : Seen} {n m : ℕ} {rs : List Row} {f : Refusal} → FirstZoned s n rs f m → (ls : List (List ℕ)) → read_from s n ls ≡ rows rs
    → read_before within_ceilings s n ls ≡ faulty f m
first_zoned {rs = rs} z [] e = absurd (not_empty z (rows_inj e))
first_zoned {s = s} {n = n} {m = m} {f = f} z (l ∷ ls) e = go (row_of l) refl z e (λ t qs w b. first_zoned {s = t} {n = suc n} {rs = qs} w ls b)
  where
    Below : Type 0
    Below = (t : Seen) (qs : List Row) → FirstZoned t (suc n) qs f m → read_from t (suc n) ls ≡ rows qs → read_before within_ceilings t (suc n) ls ≡ faulty f m

    go : (o : Option Row) → row_of l ≡ o → {rs : List Row} → FirstZoned s n rs f m → read_from s n (l ∷ ls) ≡ rows rs → Below → read_before within_ceilings s n (l ∷ ls) ≡ faulty f m
    go none q z e below =
        absurd (rows≢faulty (sym e ∙ ap (λ o. on_row n o (λ r. on_judged n (judge s r) (λ _. with_row r (read_from (after s r) (suc n) ls)))) q))
    go (some r) q {rs} z e below =
        let x = after_row n (judge s r) r (read_from (after s r) (suc n) ls) rs (sym (today_row s n l ls r q) ∙ e) in
        before_row within_ceilings s n l ls r q ∙ at x.0 (subst (λ qs. FirstZoned s n qs f m) (sym x.1.whole) z) x.1.reads
      where
        at : judge s r ≡ none → {qs : List Row} → FirstZoned s n (r ∷ qs) f m → read_from (after s r) (suc n) ls ≡ rows qs
            → on_judged n (judge_before within_ceilings s r) (λ _. with_row r (read_before within_ceilings (after s r) (suc n) ls)) ≡ faulty f m
        at j (FirstZoned.lists h p q) b =
            ap (λ o. on_judged n o (λ _. with_row r (read_before within_ceilings (after s r) (suc n) ls))) (lists_judged s r j h) ∙ ap₂ faulty (sym p) (sym q)
        at j (FirstZoned.itself h k p q) b =
            ap (λ o. on_judged n o (λ _. with_row r (read_before within_ceilings (after s r) (suc n) ls))) (itself_judged s r j h k) ∙ ap₂ faulty (sym p) (sym q)
        at j {qs} (FirstZoned.later h k w) b =
            ap₂ (λ o (y : Reading). on_judged n o (λ _. with_row r y)) (same_judge s r h k ∙ j) (below (after s r) qs w b)
