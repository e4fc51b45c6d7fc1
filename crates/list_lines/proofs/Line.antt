-- A line of a list: its from, its to, its ending.
use Prim.Native.Nat.{ℕ}
use mathlib.Core.Path.{◌≡◌, sym, ap, ◌∙◌}
use mathlib.Core.Option.{Option, none, some}
use mathlib.Core.List.{List}
use lib.Dec.{eqb}
use lib.ListN.{drop}
use Rattle.limits.specs.Limits.{budget_bound, comma}
use Rattle.calculus.specs.Tools.{◌>>=◌, guard}
use Rattle.format.specs.Lines.{text, numeral, skip, ended}
use Rattle.calculus.proofs.Basic.{eq_eqb, not_eqb, bind_assoc}
use Rattle.law_pairlists.specs.PairLists.{to_in, to_of}
use Rattle.read_fields.specs.declared.Cursor as C
use Rattle.std.specs.Prelude as P
use Rattle.std.specs.Prelude.{Some, None}
use Rattle.read_fields.specs.Views.{as_skipped, as_number, as_field, as_end}
use Rattle.read_fields.proofs.Bytes.{is_end, not_end}
use Rattle.read_fields.proofs.Fields.{value}

-- the to behind a from
abbrev finish : Option (ℕ × List ℕ) → Option ℕ
finish o = o >>= λ t. ended t.1 >>= λ _. some t.0

abbrev after_from : ℕ → Option (ℕ × List ℕ) → Option ℕ
after_from k o = o >>= λ f. guard (eqb f.0 k) >>= λ _. skip comma f.1 >>= λ cs. numeral budget_bound cs >>= λ t. ended t.1 >>= λ _. some t.0

module _ (k : ℕ) (bs : List ℕ) where
  pub no_from : numeral budget_bound bs ≡ none → none ≡ to_in k bs
  no_from e = sym (ap (after_from k) e)

  module _ {n : ℕ} {cs : List ℕ} (first : numeral budget_bound bs ≡ some (n, cs)) where
    pub other_from : (n ≡ k → ⊥) → none ≡ to_in k bs
    other_from h = sym (ap (after_from k) first ∙ ap (λ b. guard b >>= λ _. skip comma cs >>= λ ds. numeral budget_bound ds >>= λ t. ended t.1 >>= λ _. some t.0) (not_eqb h))

    module _ (same : n ≡ k) where
      by_to : to_in k bs ≡ finish (as_field budget_bound cs)
      by_to =
          ap (after_from k) first
          ∙ ap (λ b. guard b >>= λ _. skip comma cs >>= λ ds. numeral budget_bound ds >>= λ t. ended t.1 >>= λ _. some t.0) (eq_eqb same)
          ∙ sym (bind_assoc (skip comma cs) (λ ds. numeral budget_bound ds) (λ t. ended t.1 >>= λ _. some t.0))

      pub no_to : as_field budget_bound cs ≡ none → none ≡ to_in k bs
      no_to e = sym (by_to ∙ ap finish e)

      module _ (s : List ℕ) {read : P.Option (ℕ × C.Cursor)} {t : ℕ} {d : C.Cursor} (p : read ≡ Some (t, d)) (q : as_number s read ≡ as_field budget_bound cs) where
        by_end : to_in k bs ≡ (ended (drop d.at s) >>= λ _. some t)
        by_end = by_to ∙ ap finish (value s p q)

        pub to_there : {r : P.Option C.Cursor} {c : C.Cursor} → r ≡ Some c → as_skipped s r ≡ as_end (drop d.at s) → some t ≡ to_in k bs
        to_there e f = sym (by_end ∙ ap (λ o. o >>= λ _. some t) (is_end s (drop d.at s) e f))

        pub no_end : {r : P.Option C.Cursor} → r ≡ None → as_skipped s r ≡ as_end (drop d.at s) → none ≡ to_in k bs
        no_end e f = sym (by_end ∙ ap (λ o. o >>= λ _. some t) (not_end s (drop d.at s) e f))

-- the ending
pub no_ending : (k : ℕ) (l : List ℕ) → text l ≡ none → none ≡ to_of k l
no_ending k l e = sym (ap (λ o. o >>= to_in k) e)

pub in_text : (k : ℕ) (l : List ℕ) {t u : List ℕ} {o : Option ℕ} → text l ≡ some t → u ≡ t → o ≡ to_in k u → o ≡ to_of k l
in_text k l e p q = q ∙ ap (to_in k) p ∙ sym (ap (λ o. o >>= to_in k) e)
