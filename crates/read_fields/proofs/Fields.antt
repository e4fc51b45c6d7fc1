-- A field: a comma and a number; and the fields one by one.
use Prim.Native.Nat.{ℕ}
use mathlib.Core.Path.{◌≡◌, sym, ap, ◌∙◌}
use mathlib.Core.Option.{Option, none, some}
use mathlib.Core.List.{List, ◌∷◌}
use lib.ListN.{drop}
use Rattle.limits.specs.Limits.{comma}
use Rattle.calculus.specs.Tools.{◌>>=◌}
use Rattle.format.specs.Lines.{skip, numeral, fields}
use Rattle.calculus.proofs.Basic.{bind_assoc}
use Rattle.std.specs.Prelude as P
use Rattle.std.specs.Prelude.{Some, None}
use Rattle.read_fields.specs.declared.Cursor as C
use Rattle.read_fields.specs.Views.{as_skipped, as_number, as_field}
use Rattle.read_fields.proofs.Bytes.{past, other}

module _ (bound : ℕ) (s bs : List ℕ) (r : P.Option C.Cursor) (e : as_skipped s r ≡ skip comma bs) where
  pub field_past : (c : C.Cursor) → r ≡ Some c → {o : Option (ℕ × List ℕ)} → o ≡ numeral bound (drop c.at s) → o ≡ as_field bound bs
  field_past c p q = q ∙ ap (λ t. t >>= λ cs. numeral bound cs) (past s r c p e)

  pub field_other : r ≡ None → none ≡ as_field bound bs
  field_other p = ap (λ t. t >>= λ cs. numeral bound cs) (other s r p e)

module _ (s : List ℕ) {o : Option (ℕ × List ℕ)} {r : P.Option (ℕ × C.Cursor)} where
  pub value : {n : ℕ} {c : C.Cursor} → r ≡ Some (n, c) → as_number s r ≡ o → o ≡ some (n, drop c.at s)
  value p e = sym e ∙ ap (as_number s) p

  pub wrong : r ≡ None → as_number s r ≡ o → o ≡ none
  wrong p e = sym e ∙ ap (as_number s) p

-- ---- the fields one by one

-- a number before the numbers read behind it
abbrev pub onto : ℕ → Option (List ℕ × List ℕ) → Option (List ℕ × List ℕ)
onto n o = o >>= λ s. some (n ∷ s.0, s.1)

fields_cons : (bound : ℕ) (bounds bs : List ℕ) → fields (bound ∷ bounds) bs ≡ (as_field bound bs >>= λ r. onto r.0 (fields bounds r.1))
fields_cons bound bounds bs = sym (bind_assoc (skip comma bs) (λ cs. numeral bound cs) (λ r. onto r.0 (fields bounds r.1)))

pub fields_some : (bound : ℕ) (bounds bs : List ℕ) {x : ℕ} {cs : List ℕ} → as_field bound bs ≡ some (x, cs) → fields (bound ∷ bounds) bs ≡ onto x (fields bounds cs)
fields_some bound bounds bs e = fields_cons bound bounds bs ∙ ap (λ o. o >>= λ r. onto r.0 (fields bounds r.1)) e

pub fields_none : (bound : ℕ) (bounds bs : List ℕ) → as_field bound bs ≡ none → fields (bound ∷ bounds) bs ≡ none
fields_none bound bounds bs e = fields_cons bound bounds bs ∙ ap (λ o. o >>= λ r. onto r.0 (fields bounds r.1)) e
