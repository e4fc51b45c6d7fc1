-- A query's line: its fields one by one, its letters, and its ending.
use Prim.Native.Nat.{ℕ, ◌%◌, ◌<◌, ◌≤◌}
use native.Mathlib.Nat.{mod-eq_of_lt}
use native.Mathlib.Omega.{arith}
use mathlib.Core.Path.{◌≡◌, refl, sym, ap, ap₂, ◌∙◌, subst}
use mathlib.Core.Option.{Option, none, some}
use mathlib.Core.List.{List, [], ◌∷◌}
use lib.Dec.{eqb}
use lib.ListN.{length, get_or, take, drop, length-take}
use lib.Seq.{slice, take_all, take-take}
use borrow.Author.Tests.{le-leb}
use Rattle.limits.specs.Limits.{comma, letter_q, field_bound, budget_bound}
use Rattle.calculus.specs.Tools.{◌>>=◌}
use Rattle.format.specs.Lines.{text, skip, numeral, fields}
use Rattle.model.specs.Desk.{Query, query_in, query_of}
use Rattle.calculus.proofs.Basic.{bind_some, some_bind}
use Rattle.format.proofs.Numerals.{read_numeral}
use Rattle.read_fields.specs.Views.{as_field}
use Rattle.read_fields.proofs.Fields.{onto, fields_some, fields_none}
use Rattle.query_lines.proofs.Streaming.{query_cap}
use Rattle.query_lines.specs.Views.{as_query, Within, with_letters, behind_letter}
use Rattle.std.specs.Prelude as P
use Rattle.std.specs.Prelude.{Some, None}
use Rattle.query_lines.specs.declared.Query as Q

-- ---- the letters

-- the letters are all that is left of the text, and the budget fits
pub letters_there :
    (s : List ℕ) (iso direction budget at : ℕ) {n : ℕ}
    → n ≡ budget % 4294967296
    → budget < 4294967296
    → some (record { iso = iso; back = eqb direction 1; budget = n; letters = slice at (length s) s }) ≡ with_letters iso direction budget (drop at s)
letters_there s iso direction budget at {n} p k =
    ap₂
    (λ m ls. some (record { iso = iso; back = eqb direction 1; budget = m; letters = ls }))
    (p ∙ mod-eq_of_lt k)
    (ap (drop at) (take_all (length s) s (omega arith)))

-- ---- the fields

-- a field's number is below its bound
below_bound : (bs : List ℕ) {n : ℕ} {cs : List ℕ} → as_field budget_bound bs ≡ some (n, cs) → n < 4294967296
below_bound bs {n} {cs} e =
    let (ds, p, q) = bind_some (skip comma bs) (λ es. numeral budget_bound es) e in
    (read_numeral budget_bound (omega arith) (omega arith) ds q).1

-- what follows the fields
abbrev finish : Option (List ℕ × List ℕ) → Option Query
finish o = o >>= λ r. skip comma r.1 >>= λ cs. with_letters (get_or r.0 0 0) (get_or r.0 1 0) (get_or r.0 2 0) cs

module _ (bs : List ℕ) where
  -- each field in turn is missing, or all are there
  pub no_iso_lem : as_field 65536 bs ≡ none → none ≡ behind_letter bs
  no_iso_lem e = sym (ap finish (fields_none field_bound (2 ∷ budget_bound ∷ []) bs e))

  module _ {x : ℕ} {cs : List ℕ} (first : as_field 65536 bs ≡ some (x, cs)) where
    by_second : behind_letter bs ≡ finish (onto x (fields (2 ∷ budget_bound ∷ []) cs))
    by_second = ap finish (fields_some field_bound (2 ∷ budget_bound ∷ []) bs first)

    pub no_direction : as_field 2 cs ≡ none → none ≡ behind_letter bs
    no_direction e = sym (by_second ∙ ap (λ o. finish (onto x o)) (fields_none 2 (budget_bound ∷ []) cs e))

    module _ {y : ℕ} {ds : List ℕ} (second : as_field 2 cs ≡ some (y, ds)) where
      by_third : behind_letter bs ≡ finish (onto x (onto y (fields (budget_bound ∷ []) ds)))
      by_third = by_second ∙ ap (λ o. finish (onto x o)) (fields_some 2 (budget_bound ∷ []) cs second)

      pub no_budget : as_field 4294967296 ds ≡ none → none ≡ behind_letter bs
      no_budget e = sym (by_third ∙ ap (λ o. finish (onto x (onto y o))) (fields_none budget_bound [] ds e))

      module _ {z : ℕ} {es : List ℕ} (third : as_field 4294967296 ds ≡ some (z, es)) where
        by_comma : behind_letter bs ≡ (skip comma es >>= λ gs. with_letters x y z gs)
        by_comma = by_third ∙ ap (λ o. finish (onto x (onto y o))) (fields_some budget_bound [] ds third)

        pub no_comma : none ≡ skip comma es → none ≡ behind_letter bs
        no_comma e = ap (λ o. o >>= λ gs. with_letters x y z gs) e ∙ sym by_comma

        pub all_fields : {gs : List ℕ} {o : Option Query} → some gs ≡ skip comma es → (z < 4294967296 → o ≡ with_letters x y z gs) → o ≡ behind_letter bs
        all_fields e f = f (below_bound ds third) ∙ ap (λ p. p >>= λ gs. with_letters x y z gs) e ∙ sym by_comma

-- ---- the letter

module _ (s : List ℕ) where
  -- the letter and what follows it; another letter
  pub letter_there : {bs : List ℕ} {o : Option Query} → some bs ≡ skip letter_q s → o ≡ behind_letter bs → o ≡ query_in s
  letter_there e p = p ∙ ap (λ t. t >>= behind_letter) e

  pub other_letter : none ≡ skip letter_q s → none ≡ query_in s
  other_letter e = ap (λ t. t >>= behind_letter) e

-- ---- the ending

-- a query in the text of a line, by its places, is the query in the line
line_query : (s : List ℕ) (at : ℕ) (r : P.Option Q.Query) → Within (take at s) r → as_query s r ≡ as_query (take at s) r
line_query s at None h = refl
line_query s at (Some q) h =
    let most : length (take at s) ≤ at = subst (λ n. n ≤ at) (sym (length-take at s)) (omega arith) in
    ap
    (λ ls. some (record { iso = q.iso; back = q.back; budget = q.budget; letters = drop q.from ls }))
    (sym (take-take q.to at s (omega arith)))

module _ (s : List ℕ) where
  -- too many bytes; no ending; the query in the text
  pub too_long_lem : 200 < length s → none ≡ query_of s
  too_long_lem h = sym (query_cap s h)

  module _ (h : length s ≤ 200) where
    pub no_ending : text s ≡ none → none ≡ query_of s
    unfolding query_of
    no_ending e = rw (le-leb (length s) 200 h) (sym (ap (λ o. o >>= query_in) e))

    pub text_query :
        (at : ℕ) (r : P.Option Q.Query) {t : List ℕ}
        → text s ≡ some (take at s)
        → t ≡ take at s
        → as_query t r ≡ query_in t
        → Within t r
        → as_query s r ≡ query_of s
    unfolding query_of
    text_query at r {t} e p q w =
        rw (le-leb (length s) 200 h)
        (line_query s at r (subst (λ x. Within x r) p w)
        ∙ subst (λ x. as_query x r ≡ query_in x) p q
        ∙ sym (some_bind query_in e))
