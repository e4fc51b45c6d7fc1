-- A row read where it stands is the row of the first line, and the bytes behind it are the other lines'; where none is read, the first line has no form.
use Prim.Native.Nat.{ℕ, ◌<◌}
use native.Mathlib.Omega.{arith}
use mathlib.Core.Path.{◌≡◌, refl, sym, ap, ap₂, ◌∙◌, subst}
use mathlib.Core.Logic.{◌⊎◌, inl, inr}
use mathlib.Core.Bool.{Bool, true, false, cond}
use mathlib.Core.Option.{Option, none, some}
use mathlib.Core.List.{List, [], ◌∷◌, ◌++◌, append-nil, append_assoc}
use lib.Dec.{eqb}
use lib.ListN.{length}
use Rattle.limits.specs.Limits.{line_feed, carriage_return}
use Rattle.calculus.specs.Tools.{◌>>=◌, guard, concat}
use Rattle.calculus.specs.Refusals.{Kind}
use Rattle.format.specs.Lines.{Row, lines, onto_first, kind_of, fields, field_bounds, ended, to_row, row_in, row_of, skip}
use Rattle.calculus.proofs.Basic.{none≢some, some_inj, some_bind, bind_some, bool_cases, eqb_eq, guard_true, each_append, each_cons, each_nil}
use Rattle.format.proofs.Endings.{feed, both, Ended, by_feed, by_both}
use Rattle.format.proofs.Numerals.{NoDigit}
use Rattle.format.proofs.Printing.{print_fields, skip_some, Split, read_fields, fields_print, WellFormed, shown, body, bounds_fields, kind_of_letter, row_shown}
use Rattle.format.proofs.Printing.{shown_below, read_body, row_iff, NoFeed, Feedless, feedless_body, lines_feed, concat_lines}
use Rattle.read_fields.specs.Views.{past_ending}
use Rattle.read_rows.specs.Views.{behind_letter, row_from}

-- ---- an ending

-- what stands before the bytes behind it
pub data Closes (u rest : List ℕ) : Type 0 where
  one : u ≡ line_feed ∷ rest → Closes u rest
  two : u ≡ carriage_return ∷ line_feed ∷ rest → Closes u rest

past_closes : (u : List ℕ) {rest : List ℕ} → past_ending u ≡ some rest → Closes u rest
past_closes [] e = absurd (none≢some e)
past_closes (b ∷ bs) {rest} e = go (bool_cases (eqb b line_feed))
  where
    go : (eqb b line_feed ≡ true) ⊎ (eqb b line_feed ≡ false) → Closes (b ∷ bs) rest
    go (inl t) = one (ap₂ ◌∷◌ (eqb_eq b line_feed t) (some_inj (rw t at e)))
    go (inr t) =
        let (u, g, k) = bind_some (guard (eqb b carriage_return)) (λ _. skip line_feed bs) (rw t at e) in
        two (ap₂ ◌∷◌ (eqb_eq b carriage_return (guard_true (eqb b carriage_return) g)) (skip_some line_feed bs k))

-- ---- a row that is read

-- the bytes are the row's text, an ending and the rest
row_shape : (bs : List ℕ) {r : Row} {rest : List ℕ} → row_from bs ≡ some (r, rest)
    → WellFormed r × ((u : List ℕ) × (bs ≡ body r ++ u) × Closes u rest)
row_shape [] e = absurd (none≢some e)
row_shape (b ∷ bs) {r} {rest} e =
    let on_end : Kind → List ℕ × List ℕ → Option (Row × List ℕ) = λ j s. past_ending s.1 >>= λ rest. some (to_row j s.0, rest) in
    let (k, b_k, e₁) = bind_some (kind_of b) (λ j. fields (field_bounds j) bs >>= on_end j) e in
    let (s, bs_s, e₂) = bind_some (fields (field_bounds k) bs) (on_end k) e₁ in
    let (u, end, e₃) = bind_some (past_ending s.1) (λ rest. some (to_row k s.0, rest)) e₂ in
    let same : ◌≡◌ {A = Row × List ℕ} (to_row k s.0, u) (r, rest) = some_inj e₃ in
    let (split, below) = read_fields (field_bounds k) bs (bounds_fields k) bs_s in
    let t : List ℕ = b ∷ print_fields s.0 in
    let on_text : Kind → List ℕ × List ℕ → Option Row = λ j q. ended q.1 >>= λ _. some (to_row j q.0) in
    let numbers : fields (field_bounds k) (print_fields s.0) ≡ some (s.0, []) =
    ap (fields (field_bounds k)) (sym (append-nil (print_fields s.0))) ∙ fields_print (field_bounds k) s.0 [] (bounds_fields k) below tt in
    let reads : row_in t ≡ some (to_row k s.0) =
    some_bind (λ j. fields (field_bounds j) (print_fields s.0) >>= on_text j) b_k ∙ some_bind (on_text k) numbers in
    let (shape, w) = read_body t reads in
    let whole : b ∷ bs ≡ body (to_row k s.0) ++ s.1 = ap (λ x. b ∷ x) split ∙ ap (λ x. x ++ s.1) shape in
    subst (λ p. WellFormed p.0 × ((v : List ℕ) × (b ∷ bs ≡ body p.0 ++ v) × Closes v p.1)) same (w, (s.1, whole, past_closes s.1 end))

feedless_return : (r : Row) → Feedless (body r ++ (carriage_return ∷ []))
feedless_return r = each_append NoFeed (body r) (feedless_body r) (each_cons NoFeed refl (each_nil NoFeed))

pub first_line : (bs : List ℕ) {r : Row} {rest : List ℕ} → row_from bs ≡ some (r, rest) → (l : List ℕ) × (lines bs ≡ l ∷ lines rest) × (row_of l ≡ some r)
first_line bs {r} {rest} e =
    let (w, (u, shape, closes)) = row_shape bs e in go w u shape closes
  where
    go : WellFormed r → (u : List ℕ) → bs ≡ body r ++ u → Closes u rest → (l : List ℕ) × (lines bs ≡ l ∷ lines rest) × (row_of l ≡ some r)
    go w u shape (one p) = (
      body r ++ feed,
      ap lines (shape ∙ ap (λ v. body r ++ v) p) ∙ lines_feed (body r) rest (feedless_body r),
      (row_iff (body r ++ feed) r).1 (by_feed refl, w),
    )
    go w u shape (two p) = (
      body r ++ both,
      ap lines (shape ∙ ap (λ v. body r ++ v) p ∙ sym (append_assoc (body r) (carriage_return ∷ []) (line_feed ∷ rest)))
          ∙ lines_feed (body r ++ (carriage_return ∷ [])) rest (feedless_return r)
          ∙ ap (λ l. l ∷ lines rest) (append_assoc (body r) (carriage_return ∷ []) feed),
      (row_iff (body r ++ both) r).1 (by_both refl, w),
    )

-- ---- no row

row_read : {r : Row} → WellFormed r → (u : List ℕ) {rest : List ℕ} → NoDigit u → past_ending u ≡ some rest → row_from (body r ++ u) ≡ some (r, rest)
row_read {r} w u {rest} q e =
    let k : Kind = r.kind in
    let bs : List ℕ = print_fields (shown r) ++ u in
    let on_end : Kind → List ℕ × List ℕ → Option (Row × List ℕ) = λ j s. past_ending s.1 >>= λ rest. some (to_row j s.0, rest) in
    let numbers : fields (field_bounds k) bs ≡ some (shown r, u) = fields_print (field_bounds k) (shown r) u (bounds_fields k) (shown_below k w.x w.y w.z) q in
    some_bind (λ j. fields (field_bounds j) bs >>= on_end j) (kind_of_letter k)
    ∙ some_bind (on_end k) numbers
    ∙ some_bind (λ rest. some (to_row k (shown r), rest)) e
    ∙ ap {B = Option (Row × List ℕ)} (λ x. some (x, rest)) (row_shown k r.x r.y r.z w.missing)

pub no_line : (bs : List ℕ) → row_from bs ≡ none → (l : List ℕ) (ls : List (List ℕ)) → lines bs ≡ l ∷ ls → row_of l ≡ none
no_line bs e l ls p = go (row_of l) refl
  where
    whole : bs ≡ l ++ concat ls
    whole = sym (concat_lines bs) ∙ ap concat p

    read : (r : Row) → Ended l (body r) × WellFormed r → ⊥
    read r (by_feed q, w) =
        none≢some
        (sym e ∙ ap row_from (whole ∙ ap (λ x. x ++ concat ls) q ∙ append_assoc (body r) feed (concat ls)) ∙ row_read w (line_feed ∷ concat ls) refl refl)
    read r (by_both q, w) =
        none≢some
        (sym e ∙ ap row_from (whole ∙ ap (λ x. x ++ concat ls) q ∙ append_assoc (body r) both (concat ls)) ∙ row_read w (carriage_return ∷ line_feed ∷ concat ls) refl refl)

    go : (o : Option Row) → row_of l ≡ o → row_of l ≡ none
    go none q = q
    go (some r) q = absurd (read r ((row_iff l r).0 q))
