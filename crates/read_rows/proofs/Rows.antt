-- The row of a line where it stands: its fields one by one, its ending, its letter.
use Prim.Native.Nat.{ℕ, ◌+◌, ◌<◌, ◌≤◌}
use native.Mathlib.Omega.{arith}
use mathlib.Core.Path.{◌≡◌, refl, sym, ap, ◌∙◌}
use mathlib.Core.Option.{Option, none, some}
use mathlib.Core.List.{List, [], ◌∷◌}
use lib.ListN.{length, get_or, drop, drop_of_length-le}
use Rattle.limits.specs.Limits.{field_bound}
use Rattle.calculus.specs.Tools.{◌>>=◌}
use Rattle.calculus.specs.Refusals.{Kind, type_line, pattern_line, iso_line, clause_line, let_line}
use Rattle.format.specs.Lines.{Row, field_count, kind_of, fields, field_bounds, to_row}
use Rattle.format.specs.declared.Kind as K
use Rattle.format.specs.Code.{kind_view}
use Rattle.calculus.proofs.Basic.{from_byte}
use Rattle.std.specs.Prelude as P
use Rattle.std.specs.Prelude.{Some, None}
use Rattle.read_forms.specs.Views.{as_letter}
use Rattle.read_fields.specs.Views.{as_field, past_ending}
use Rattle.read_fields.proofs.Fields.{onto, fields_some, fields_none}
use Rattle.read_rows.specs.Views.{closed, behind_letter, row_from}

-- ---- the end of a line

module _ (k : Kind) (x y z : ℕ) (bs : List ℕ) where
  with_rest : List ℕ → Option (Row × List ℕ)
  with_rest rest = some (record { kind = k; x = x; y = y; z = z }, rest)

  pub closed_here : {rest : List ℕ} → some rest ≡ past_ending bs → some (record { kind = k; x = x; y = y; z = z }, rest) ≡ closed k x y z bs
  unfolding with_rest
  closed_here e = ap (λ o. o >>= with_rest) e

  pub not_closed : none ≡ past_ending bs → none ≡ closed k x y z bs
  unfolding with_rest
  not_closed e = ap (λ o. o >>= with_rest) e

-- ---- the fields

-- the bounds behind the first two: none, or one more
abbrev third : Kind → List ℕ
third k = drop 2 (field_bounds k)

bounds_shape : (k : Kind) → field_bounds k ≡ field_bound ∷ field_bound ∷ third k
bounds_shape type_line = refl
bounds_shape pattern_line = refl
bounds_shape iso_line = refl
bounds_shape clause_line = refl
bounds_shape let_line = refl

no_more : (k : Kind) → field_count k ≡ 2 → third k ≡ []
no_more type_line e = absurd (omega arith)
no_more pattern_line e = absurd (omega arith)
no_more iso_line e = refl
no_more clause_line e = refl
no_more let_line e = absurd (omega arith)

one_more : (k : Kind) → (field_count k ≡ 2 → ⊥) → third k ≡ field_bound ∷ []
one_more type_line h = refl
one_more pattern_line h = refl
one_more iso_line h = absurd (h refl)
one_more clause_line h = absurd (h refl)
one_more let_line h = refl

-- what follows the fields of a line
abbrev finish : Kind → Option (List ℕ × List ℕ) → Option (Row × List ℕ)
finish k o = o >>= λ r. past_ending r.1 >>= λ rest. some (to_row k r.0, rest)

module _ (k : Kind) (bs : List ℕ) where
  by_first : behind_letter k bs ≡ finish k (fields (field_bound ∷ field_bound ∷ third k) bs)
  by_first = ap (λ bounds. finish k (fields bounds bs)) (bounds_shape k)

  pub no_first : as_field field_bound bs ≡ none → none ≡ behind_letter k bs
  no_first e = sym (by_first ∙ ap (finish k) (fields_none field_bound (field_bound ∷ third k) bs e))

  module _ {x : ℕ} {cs : List ℕ} (first : as_field field_bound bs ≡ some (x, cs)) where
    by_second : behind_letter k bs ≡ finish k (onto x (fields (field_bound ∷ third k) cs))
    by_second = by_first ∙ ap (finish k) (fields_some field_bound (field_bound ∷ third k) bs first)

    pub no_second : as_field field_bound cs ≡ none → none ≡ behind_letter k bs
    no_second e = sym (by_second ∙ ap (λ o. finish k (onto x o)) (fields_none field_bound (third k) cs e))

    module _ {y : ℕ} {ds : List ℕ} (second : as_field field_bound cs ≡ some (y, ds)) where
      by_third : (bounds : List ℕ) → third k ≡ bounds → behind_letter k bs ≡ finish k (onto x (onto y (fields bounds ds)))
      by_third bounds t =
          by_second
          ∙ ap (λ o. finish k (onto x o)) (fields_some field_bound (third k) cs second)
          ∙ ap (λ l. finish k (onto x (onto y (fields l ds)))) t

      pub two_fields : field_count k ≡ 2 → closed k x y 0 ds ≡ behind_letter k bs
      two_fields e = sym (by_third [] (no_more k e))

      module _ (more : field_count k ≡ 2 → ⊥) where
        pub no_third : as_field field_bound ds ≡ none → none ≡ behind_letter k bs
        no_third e = sym (by_third (field_bound ∷ []) (one_more k more) ∙ ap (λ o. finish k (onto x (onto y o))) (fields_none field_bound [] ds e))

        pub three_fields : {z : ℕ} {es : List ℕ} → as_field field_bound ds ≡ some (z, es) → closed k x y z es ≡ behind_letter k bs
        three_fields e = sym (by_third (field_bound ∷ []) (one_more k more) ∙ ap (λ o. finish k (onto x (onto y o))) (fields_some field_bound [] ds e))

-- ---- the letter

module _ (s : List ℕ) (at : ℕ) (h : at < length s) {r : P.Option K.Kind} (e : as_letter r ≡ kind_of (get_or s at 0)) where
  pub row_known : (k : K.Kind) → r ≡ Some k → behind_letter (kind_view k) (drop (at + 1) s) ≡ row_from (drop at s)
  row_known k p =
      ap (λ o. o >>= λ j. behind_letter j (drop (at + 1) s)) (sym (ap as_letter p) ∙ e)
      ∙ ap row_from (sym (from_byte s at h))

  pub row_unknown : r ≡ None → none ≡ row_from (drop at s)
  row_unknown p =
      ap (λ o. o >>= λ j. behind_letter j (drop (at + 1) s)) (sym (ap as_letter p) ∙ e)
      ∙ ap row_from (sym (from_byte s at h))

pub no_bytes : (s : List ℕ) (at : ℕ) → length s ≤ at → none ≡ row_from (drop at s)
no_bytes s at h = ap row_from (sym (drop_of_length-le s h))
