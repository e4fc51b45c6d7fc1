-- A line and its refusal: its row's, or 3 where it has no form.
use Rattle.std.specs.Prelude.{Option as CodeOption, None, Some}
use Prim.Native.Nat.{ℕ, ◌+◌}
use mathlib.Core.Path.{◌≡◌, refl, sym, ap, ◌∙◌}
use mathlib.Core.Bool.{true, false}
use mathlib.Core.Logic.{◌⊎◌, inl, inr}
use mathlib.Core.Option.{none, some}
use mathlib.Core.List.{List, [], ◌∷◌}
use lib.Dec.{eqb}
use lib.ListN.{get_or, drop}
use Rattle.limits.specs.Limits.{line_feed}
use Rattle.calculus.proofs.Basic.{bool_cases, from_byte}
use Rattle.format.specs.Lines.{lines, onto_first}
use Rattle.format.specs.Judge.{Seen, judge}
use Rattle.format.specs.declared.Row as R
use Rattle.format.specs.declared.Refusal as F
use Rattle.format.specs.declared.Refusal.TheVariants as refusals
use Rattle.format.specs.Code.{row_view, refusal_view}
use Rattle.read_fields.specs.declared.Cursor as P
use Rattle.std.specs.Prelude.{Ok, Err}
use Rattle.read_rows.specs.Views.{as_line, row_from}
use Rattle.read_rows.proofs.Ahead.{first_line, no_line}
use Rattle.read_seen.specs.declared.Seen as C
use Rattle.read_seen.specs.Told.{Weighed}
use Rattle.read_lines.specs.Reads.{Verdict, passes, refused, judged_row, judged_form, judged_line, JudgedAt, LineSays}

-- ---- a line

-- bytes have a first line
begins : (b : ℕ) (bs : List ℕ) → (l : List ℕ) × (ls : List (List ℕ)) × (lines (b ∷ bs) ≡ l ∷ ls)
begins b bs = go (bool_cases (eqb b line_feed))
  where
    onto : (ls : List (List ℕ)) → (l : List ℕ) × (os : List (List ℕ)) × (onto_first b ls ≡ l ∷ os)
    onto [] = (b ∷ [], [], refl)
    onto (l ∷ ls) = (b ∷ l, ls, refl)

    go : (eqb b line_feed ≡ true) ⊎ (eqb b line_feed ≡ false) → (l : List ℕ) × (ls : List (List ℕ)) × (lines (b ∷ bs) ≡ l ∷ ls)
    go (inl t) = (b ∷ [], lines bs, rw t)
    go (inr t) = let (l, os, e) = onto (lines bs) in (l, os, rw t e)

module _ (t g : List ℕ) (c : C.Seen) (s : List ℕ) (at : ℕ) (o : CodeOption (R.Row × P.Cursor)) (e : as_line s o ≡ row_from (drop at s)) where
  module _ (r : R.Row) (next : P.Cursor) (p : o ≡ Some (r, next)) (f : CodeOption F.Refusal)
      (q : (m : Seen) → Weighed t g c m → refusal_view f ≡ judge m (row_view r)) where
    reads : row_from (drop at s) ≡ some (row_view r, drop next.at s)
    reads = sym e ∙ ap (as_line s) p

    pub form_refused : (x : F.Refusal) → f ≡ Some x → LineSays t g c s at (Err x)
    form_refused x h m told inside =
        let (l, splits, row) = first_line (drop at s) reads in
        record {
          line = l;
          others = lines (drop next.at s);
          splits = splits;
          says = ap (judged_row (row_view r)) (sym (ap refusal_view h) ∙ q m told) ∙ ap (judged_form m) (sym row);
          behind = tt;
        }

    pub form_passed : f ≡ None → LineSays t g c s at (Ok (r, next))
    form_passed h m told inside =
        let (l, splits, row) = first_line (drop at s) reads in
        record {
          line = l;
          others = lines (drop next.at s);
          splits = splits;
          says = ap (judged_row (row_view r)) (sym (ap refusal_view h) ∙ q m told) ∙ ap (judged_form m) (sym row);
          behind = refl;
        }

  pub no_form : o ≡ None → LineSays t g c s at (Err refusals.BadLine)
  no_form p m told inside =
      let (l, ls, splits) = begins (get_or s at 0) (drop (at + 1) s) in
      let whole : lines (drop at s) ≡ l ∷ ls = ap lines (from_byte s at inside) ∙ splits in
      let none_read : row_from (drop at s) ≡ none = sym e ∙ ap (as_line s) p in
      record { line = l; others = ls; splits = whole; says = ap (judged_form m) (sym (no_line (drop at s) none_read l ls whole)); behind = tt }
