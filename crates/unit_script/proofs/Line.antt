-- A line of a script: its fields one by one, and its ending.
use Prim.Native.Nat.{ℕ, ◌<◌, ◌≤◌}
use mathlib.Core.Path.{◌≡◌, refl, sym, ap, ap₂, ◌∙◌, subst}
use mathlib.Core.Bool.{Bool, true, false, cond, ◌&&◌}
use mathlib.Core.Option.{Option, none, some}
use mathlib.Core.List.{List, [], ◌∷◌}
use lib.Dec.{eqb, ltb}
use lib.ListN.{length, get_or, drop}
use Rattle.limits.specs.Limits.{field_bound, letter_s}
use Rattle.calculus.specs.Tools.{◌>>=◌, guard}
use Rattle.calculus.specs.Trees.{Iso}
use Rattle.calculus.specs.Refusals.{Refusal, too_many, bad_script}
use Rattle.format.specs.Lines.{text, skip, fields, ended}
use Rattle.model.specs.Services.{gives, fails, refusal_of}
use Rattle.calculus.proofs.Basic.{lt_ltb, not_ltb, eq_eqb, not_eqb}
use Rattle.law_units.specs.Units.{Planned, planned_in, planned_of, names, planned_for, on_line, line_on}
use Rattle.read_fields.specs.declared.Cursor as C
use Rattle.read_fields.specs.Views.{as_skipped, as_field, as_end}
use Rattle.read_fields.proofs.Bytes.{is_end, not_end}
use Rattle.read_fields.proofs.Fields.{onto, fields_some, fields_none}
use Rattle.unit_script.specs.declared.Planned as P
use Rattle.std.specs.Prelude as O
use Rattle.std.specs.Prelude.{Some, None}
use Rattle.unit_script.specs.Views.{planned_view, as_planned, behind_letter, Marked}

-- ---- the fields

-- what follows the fields
abbrev finish : Option (List ℕ × List ℕ) → Option Planned
finish o =
    o >>= λ r. ended r.1 >>= λ _. some (record { unit = get_or r.0 0 0; iso = get_or r.0 1 0; back = eqb (get_or r.0 2 0) 1 })

module _ (bs : List ℕ) where
  -- each field in turn is missing, or all are there
  pub no_unit : as_field 65536 bs ≡ none → none ≡ behind_letter bs
  no_unit e = sym (ap finish (fields_none field_bound (field_bound ∷ 2 ∷ []) bs e))

  module _ {x : ℕ} {cs : List ℕ} (first : as_field 65536 bs ≡ some (x, cs)) where
    by_second : behind_letter bs ≡ finish (onto x (fields (field_bound ∷ 2 ∷ []) cs))
    by_second = ap finish (fields_some field_bound (field_bound ∷ 2 ∷ []) bs first)

    pub no_iso_lem : as_field 65536 cs ≡ none → none ≡ behind_letter bs
    no_iso_lem e = sym (by_second ∙ ap (λ o. finish (onto x o)) (fields_none field_bound (2 ∷ []) cs e))

    module _ {y : ℕ} {ds : List ℕ} (second : as_field 65536 cs ≡ some (y, ds)) where
      by_third : behind_letter bs ≡ finish (onto x (onto y (fields (2 ∷ []) ds)))
      by_third = by_second ∙ ap (λ o. finish (onto x o)) (fields_some field_bound (2 ∷ []) cs second)

      pub no_direction : as_field 2 ds ≡ none → none ≡ behind_letter bs
      no_direction e = sym (by_third ∙ ap (λ o. finish (onto x (onto y o))) (fields_none 2 [] ds e))

      module _ {z : ℕ} {es : List ℕ} (third : as_field 2 ds ≡ some (z, es)) where
        by_end : behind_letter bs ≡ (ended es >>= λ _. some (record { unit = x; iso = y; back = eqb z 1 }))
        by_end = by_third ∙ ap (λ o. finish (onto x (onto y o))) (fields_some 2 [] ds third)

        pub all_fields : (s : List ℕ) {r : O.Option C.Cursor} {c : C.Cursor} → r ≡ Some c → as_skipped s r ≡ as_end es
            → {v : Bool} → v ≡ eqb z 1 → some (record { unit = x; iso = y; back = v }) ≡ behind_letter bs
        all_fields s e f g =
            ap (λ u. some (record { unit = x; iso = y; back = u })) g
            ∙ sym (by_end ∙ ap (λ o. o >>= λ _. some (record { unit = x; iso = y; back = eqb z 1 })) (is_end s es e f))

        pub no_end : (s : List ℕ) {r : O.Option C.Cursor} → r ≡ None → as_skipped s r ≡ as_end es → none ≡ behind_letter bs
        no_end s e f = sym (by_end ∙ ap (λ o. o >>= λ _. some (record { unit = x; iso = y; back = eqb z 1 })) (not_end s es e f))

-- ---- the letter

module _ (s : List ℕ) where
  pub letter_there : {bs : List ℕ} {o : Option Planned} → some bs ≡ skip letter_s s → o ≡ behind_letter bs → o ≡ planned_in s
  letter_there e p = p ∙ ap (λ t. t >>= behind_letter) e

  pub other_letter : none ≡ skip letter_s s → none ≡ planned_in s
  other_letter e = ap (λ t. t >>= behind_letter) e

-- ---- the ending

pub no_ending : (l : List ℕ) → text l ≡ none → none ≡ planned_of l
unfolding planned_of
no_ending l e = sym (ap (λ o. o >>= planned_in) e)

pub in_text : (l : List ℕ) {t u : List ℕ} {o : Option Planned} → text l ≡ some t → u ≡ t → o ≡ planned_in u → o ≡ planned_of l
unfolding planned_of
in_text l e p q = q ∙ ap planned_in p ∙ sym (ap (λ o. o >>= planned_in) e)

-- ---- the names

abbrev naming : ℕ → ℕ → Option Planned → Option Planned
naming units isos o = o >>= λ p. guard (names units isos p) >>= λ _. some p

module _ (units isos : ℕ) (l : List ℕ) {r : O.Option P.Planned} (read : as_planned r ≡ planned_of l) where
  pub not_planned : r ≡ None → planned_for units isos l ≡ none
  not_planned e = ap (naming units isos) (sym read ∙ ap as_planned e)

  module _ {p : P.Planned} (e : r ≡ Some p) where
    by_names : (b c : Bool) → ltb p.unit units ≡ b → ltb p.iso isos ≡ c → planned_for units isos l ≡ (guard (b && c) >>= λ _. some (planned_view p))
    by_names b c f g =
        ap (naming units isos) (sym read ∙ ap as_planned e) ∙ ap₂ (λ x y. guard (x && y) >>= λ _. some (planned_view p)) f g

    pub no_such_unit : units ≤ p.unit → planned_for units isos l ≡ none
    no_such_unit h = by_names false (ltb p.iso isos) (not_ltb h) refl

    pub no_such_iso : (p.unit < units) → isos ≤ p.iso → planned_for units isos l ≡ none
    no_such_iso h k = by_names true false (lt_ltb h) (not_ltb k)

    pub both_there : (p.unit < units) → (p.iso < isos) → planned_for units isos l ≡ some (planned_view p)
    both_there h k = by_names true true (lt_ltb h) (lt_ltb k)

-- ---- the refusal

module _ (units isos : ℕ) (l ms : List ℕ) where
  abbrev tells : Option Refusal → Type 0
  tells f = (os : List Iso) → isos ≡ length os → Marked os ms → f ≡ refusal_of (line_on units os l)

  pub told_bad : planned_for units isos l ≡ none → tells (some bad_script)
  told_bad e os n m = sym (ap (λ x. refusal_of (on_line os x)) (ap (λ k. planned_for units k l) (sym n) ∙ e))

  module _ {p : Planned} (e : planned_for units isos l ≡ some p) (h : p.iso < isos) where
    by_mark : (b : Bool) → eqb (get_or ms p.iso 0) 0 ≡ b → (os : List Iso) → isos ≡ length os → Marked os ms
        → refusal_of (line_on units os l) ≡ refusal_of (cond b (gives p) (fails too_many))
    by_mark b f os n m =
        ap (λ x. refusal_of (on_line os x)) (ap (λ k. planned_for units k l) (sym n) ∙ e)
        ∙ ap (λ c. refusal_of (cond c (gives p) (fails too_many))) (sym (m p.iso (subst (λ k. p.iso < k) n h)) ∙ f)

    pub told_free : get_or ms p.iso 0 ≡ 0 → tells none
    told_free z os n m = sym (by_mark true (eq_eqb z) os n m)

    pub told_lists : (get_or ms p.iso 0 ≡ 0 → ⊥) → tells (some too_many)
    told_lists z os n m = sym (by_mark false (not_eqb z) os n m)
