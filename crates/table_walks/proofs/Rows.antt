-- Rows by their place, rows that passed the judge, what each row names, and where the I lines stand.
use Prim.Native.Nat.{ℕ, zero, suc, ◌+◌, ◌≤◌, ◌<◌}
use native.Mathlib.Nat.{add-zero, add-suc, suc-add, zero-add, not-suc-le-zero}
use native.Mathlib.Omega.{arith}
use mathlib.Core.Path.{◌≡◌, refl, sym, ap, ap₂, ◌∙◌, subst}
use mathlib.Core.Option.{none, some}
use mathlib.Core.List.{List, [], ◌∷◌, ◌++◌, Memᴰ}
use lib.ListN.{length, get_or, get_elem?, take, drop, length-append}
use Rattle.calculus.specs.Refusals.{Kind, type_line, pattern_line, iso_line, clause_line, let_line}
use Rattle.format.specs.Lines.{Row, letter}
use Rattle.format.specs.Judge.{Seen, type_tree, pattern_tree, after_kind, after, after_all}
use Rattle.calculus.proofs.Basic.{none≢some, some_inj, each_nil, each_cons}
use Rattle.format.proofs.Passing.{Passes, done, next, Fit, judge_fit, iso_fit, clause_fit, let_fit}
use Rattle.table_walks.specs.Walk.{when_iso, iso_rows}

-- ---- rows by their place

module _ {A : Type 0} where
  pub drop_row : (xs : List A) (n : ℕ) {x : A} → get_elem? xs n ≡ some x → drop n xs ≡ x ∷ drop (suc n) xs
  drop_row [] n e = absurd (none≢some e)
  drop_row (y ∷ ys) zero e = ap {B = List A} (λ z. z ∷ ys) (some_inj e)
  drop_row (y ∷ ys) (suc n) e = drop_row ys n e

  pub row_at : (xs : List A) (n : ℕ) → n < length xs → (x : A) × (get_elem? xs n ≡ some x)
  row_at [] n h = absurd (not-suc-le-zero h)
  row_at (x ∷ xs) zero h = (x, refl)
  row_at (x ∷ xs) (suc n) h = row_at xs n (omega arith)

  pub get_row : (xs : List A) (n : ℕ) (d : A) → n < length xs → get_elem? xs n ≡ some (get_or xs n d)
  get_row [] n d h = absurd (not-suc-le-zero h)
  get_row (x ∷ xs) zero d h = refl
  get_row (x ∷ xs) (suc n) d h = get_row xs n d (omega arith)

  pub past_row : (xs : List A) (n : ℕ) → length xs ≤ n → get_elem? xs n ≡ none
  past_row [] n h = refl
  past_row (x ∷ xs) zero h = absurd (omega arith)
  past_row (x ∷ xs) (suc n) h = past_row xs n (omega arith)

pub after_split : (s : Seen) (rs : List Row) (n : ℕ) → after_all (after_all s (take n rs)) (drop n rs) ≡ after_all s rs
after_split s rs zero = refl
after_split s [] (suc n) = refl
after_split s (r ∷ rs) (suc n) = after_split (after s r) rs n

-- the first n rows pass, and the rows below them
pub passes_take : {s : Seen} {rs : List Row} → Passes s rs → (n : ℕ) → Passes s (take n rs)
passes_take done zero = done
passes_take done (suc n) = done
passes_take (next j d) zero = done
passes_take (next j d) (suc n) = next j (passes_take d n)

pub passes_drop : {s : Seen} {rs : List Row} → Passes s rs → (n : ℕ) → Passes (after_all s (take n rs)) (drop n rs)
passes_drop done zero = done
passes_drop done (suc n) = done
passes_drop (next j d) zero = next j d
passes_drop (next j d) (suc n) = passes_drop d n

passes_first : {s : Seen} {r : Row} {rs : List Row} → Passes s (r ∷ rs) → Fit s r.kind r
passes_first (next {s = s} {r = r} j d) = judge_fit s r j

pub row_fit : {s : Seen} {rs : List Row} → Passes s rs → (n : ℕ) {r : Row} → get_elem? rs n ≡ some r → Fit (after_all s (take n rs)) r.kind r
row_fit {s} {rs} d n e = passes_first (subst (Passes (after_all s (take n rs))) (drop_row rs n e) (passes_drop d n))

-- ---- what a row names

abbrev pub Names : ℕ → ℕ → Kind → Row → Type 0
Names types patterns type_line r = Unit {0}
Names types patterns pattern_line r = Unit {0}
Names types patterns iso_line r = (r.x < types) × (r.y < types)
Names types patterns clause_line r = (r.x < patterns) × (r.y < patterns)
Names types patterns let_line r = (r.x < patterns) × (r.z < patterns)

-- the rows below add T and P lines
record Grown (s s' : Seen) : Type 0 where
  types : length s.types ≤ length s'.types
  patterns : length s.patterns ≤ length s'.patterns

grown_row : (s : Seen) (k : Kind) (r : Row) → Grown s (after_kind k s r)
grown_row s type_line r = record { types = omega (arith, length-append s.types (type_tree s.types r ∷ [])); patterns = omega arith }
grown_row s pattern_line r = record { types = omega arith; patterns = omega (arith, length-append s.patterns (pattern_tree s.patterns r ∷ [])) }
grown_row s iso_line r = record { types = omega arith; patterns = omega arith }
grown_row s clause_line r = record { types = omega arith; patterns = omega arith }
grown_row s let_line r = record { types = omega arith; patterns = omega arith }

grown : (s : Seen) (rs : List Row) → Grown s (after_all s rs)
grown s [] = record { types = omega arith; patterns = omega arith }
grown s (r ∷ rs) =
    let g : Grown s (after s r) = grown_row s r.kind r in
    let h : Grown (after s r) (after_all (after s r) rs) = grown (after s r) rs in
    record { types = omega arith; patterns = omega arith }

fit_names : (s s' : Seen) → Grown s s' → (k : Kind) (r : Row) → Fit s k r → Names (length s'.types) (length s'.patterns) k r
fit_names s s' g type_line r f = tt
fit_names s s' g pattern_line r f = tt
fit_names s s' g iso_line r f = let h = iso_fit s r f in (omega arith, omega arith)
fit_names s s' g clause_line r f = let h = clause_fit s r f in (omega arith, omega arith)
fit_names s s' g let_line r f = let h = let_fit s r f in (omega arith, omega arith)

-- each row names lines that the whole file has
pub row_names : {s : Seen} {rs : List Row} → Passes s rs → (n : ℕ) {r : Row} → get_elem? rs n ≡ some r
    → Names (length (after_all s rs).types) (length (after_all s rs).patterns) r.kind r
row_names {s} {rs} d n {r} e = fit_names above (after_all s rs) below r.kind r (row_fit d n e)
  where
    above : Seen
    above = after_all s (take n rs)

    below : Grown (after_all s (take n rs)) (after_all s rs)
    below = subst (Grown (after_all s (take n rs))) (after_split s rs n) (grown (after_all s (take n rs)) (drop n rs))

-- ---- letters tell kinds

pub kind_iso : (k : Kind) → letter k ≡ 73 → k ≡ iso_line
kind_iso type_line e = absurd (omega arith)
kind_iso pattern_line e = absurd (omega arith)
kind_iso iso_line e = refl
kind_iso clause_line e = absurd (omega arith)
kind_iso let_line e = absurd (omega arith)

pub kind_clause : (k : Kind) → letter k ≡ 67 → k ≡ clause_line
kind_clause type_line e = absurd (omega arith)
kind_clause pattern_line e = absurd (omega arith)
kind_clause iso_line e = absurd (omega arith)
kind_clause clause_line e = refl
kind_clause let_line e = absurd (omega arith)

pub kind_let : (k : Kind) → letter k ≡ 76 → k ≡ let_line
kind_let type_line e = absurd (omega arith)
kind_let pattern_line e = absurd (omega arith)
kind_let iso_line e = absurd (omega arith)
kind_let clause_line e = absurd (omega arith)
kind_let let_line e = refl

pub clause≢iso : clause_line ≡ iso_line → ⊥
clause≢iso e = let z : letter clause_line ≡ letter iso_line = ap letter e in omega arith

pub let≢iso : let_line ≡ iso_line → ⊥
let≢iso e = let z : letter let_line ≡ letter iso_line = ap letter e in omega arith

-- ---- where the I lines stand

when_append : (k : Kind) (n : ℕ) (xs ys : List ℕ) → when_iso k n (xs ++ ys) ≡ when_iso k n xs ++ ys
when_append type_line n xs ys = refl
when_append pattern_line n xs ys = refl
when_append iso_line n xs ys = refl
when_append clause_line n xs ys = refl
when_append let_line n xs ys = refl

iso_rows_step_from : (a : ℕ) (rs : List Row) (n : ℕ) {r : Row} → get_elem? rs n ≡ some r
    → iso_rows a (take (suc n) rs) ≡ iso_rows a (take n rs) ++ when_iso r.kind (a + n) []
iso_rows_step_from a [] n e = absurd (none≢some e)
iso_rows_step_from a (q ∷ rs) zero e = ap₂ (λ (p : Row) m. when_iso p.kind m []) (some_inj e) (sym (add-zero a))
iso_rows_step_from a (q ∷ rs) (suc n) {r} e =
    ap (when_iso q.kind a) (iso_rows_step_from (suc a) rs n e)
    ∙ when_append q.kind a (iso_rows (suc a) (take n rs)) (when_iso r.kind (suc a + n) [])
    ∙ ap (λ m. when_iso q.kind a (iso_rows (suc a) (take n rs)) ++ when_iso r.kind m []) (suc-add a n ∙ sym (add-suc a n))

-- the I lines with one row more
pub iso_rows_step : (rs : List Row) (n : ℕ) {r : Row} → get_elem? rs n ≡ some r
    → iso_rows 0 (take (suc n) rs) ≡ iso_rows 0 (take n rs) ++ when_iso r.kind n []
iso_rows_step rs n {r} e = iso_rows_step_from 0 rs n e ∙ ap (λ m. iso_rows 0 (take n rs) ++ when_iso r.kind m []) (zero-add n)

when_index : (k : Kind) (n : ℕ) (xs ys : List ℕ) → get_elem? (when_iso k n xs) (length (when_iso k n ys)) ≡ get_elem? xs (length ys)
when_index type_line n xs ys = refl
when_index pattern_line n xs ys = refl
when_index iso_line n xs ys = refl
when_index clause_line n xs ys = refl
when_index let_line n xs ys = refl

iso_place_from : (a : ℕ) (rs : List Row) (n : ℕ) {r : Row} → get_elem? rs n ≡ some r → r.kind ≡ iso_line
    → get_elem? (iso_rows a rs) (length (iso_rows a (take n rs))) ≡ some (a + n)
iso_place_from a [] n e h = absurd (none≢some e)
iso_place_from a (q ∷ rs) zero e h =
    ap (λ k. get_elem? (when_iso k a (iso_rows (suc a) rs)) 0) (ap (λ (p : Row). p.kind) (some_inj e) ∙ h) ∙ ap some (sym (add-zero a))
iso_place_from a (q ∷ rs) (suc n) e h =
    when_index q.kind a (iso_rows (suc a) rs) (iso_rows (suc a) (take n rs))
    ∙ iso_place_from (suc a) rs n e h
    ∙ ap some (suc-add a n ∙ sym (add-suc a n))

-- an I line's number is how many I lines stand above it
pub iso_place : (rs : List Row) (n : ℕ) {r : Row} → get_elem? rs n ≡ some r → r.kind ≡ iso_line
    → get_elem? (iso_rows 0 rs) (length (iso_rows 0 (take n rs))) ≡ some n
iso_place rs n e h = iso_place_from 0 rs n e h ∙ ap some (zero-add n)

when_longer : (k : Kind) (n : ℕ) (xs ys : List ℕ) → length xs ≤ length ys → length (when_iso k n xs) ≤ length (when_iso k n ys)
when_longer type_line n xs ys h = h
when_longer pattern_line n xs ys h = h
when_longer iso_line n xs ys h = omega arith
when_longer clause_line n xs ys h = h
when_longer let_line n xs ys h = h

pub iso_rows_take : (a : ℕ) (rs : List Row) (n : ℕ) → length (iso_rows a (take n rs)) ≤ length (iso_rows a rs)
iso_rows_take a rs zero = omega arith
iso_rows_take a [] (suc n) = omega arith
iso_rows_take a (r ∷ rs) (suc n) = when_longer r.kind a (iso_rows (suc a) (take n rs)) (iso_rows (suc a) rs) (iso_rows_take (suc a) rs n)

-- each of them is one of the rows
pub iso_rows_below : (a : ℕ) (rs : List Row) (h : ℕ) → Memᴰ h (iso_rows a rs) → h < a + length rs
iso_rows_below a [] = each_nil (λ h. h < a + 0)
iso_rows_below a (r ∷ rs) = step r.kind (λ h m. let l = iso_rows_below (suc a) rs h m in omega arith)
  where
    step : (k : Kind) → ((h : ℕ) → Memᴰ h (iso_rows (suc a) rs) → h < a + suc (length rs))
        → (h : ℕ) → Memᴰ h (when_iso k a (iso_rows (suc a) rs)) → h < a + suc (length rs)
    step type_line l = l
    step pattern_line l = l
    step iso_line l = each_cons (λ h. h < a + suc (length rs)) (omega arith) l
    step clause_line l = l
    step let_line l = l

-- how many there are is what the rows tell
pub isos_told : (a : ℕ) (s : Seen) (rs : List Row) → (after_all s rs).isos ≡ s.isos + length (iso_rows a rs)
isos_told a s [] = sym (add-zero s.isos)
isos_told a s (r ∷ rs) = step r.kind (isos_told (suc a) (after s r) rs)
  where
    step : (k : Kind) → (after_all (after_kind r.kind s r) rs).isos ≡ (after_kind k s r).isos + length (iso_rows (suc a) rs)
        → (after_all (after_kind r.kind s r) rs).isos ≡ s.isos + length (when_iso k a (iso_rows (suc a) rs))
    step type_line e = e
    step pattern_line e = e
    step iso_line e = e ∙ suc-add s.isos (length (iso_rows (suc a) rs)) ∙ sym (add-suc s.isos (length (iso_rows (suc a) rs)))
    step clause_line e = e
    step let_line e = e

-- a row of another kind adds none
pub other_no_iso : (k : Kind) (n : ℕ) → (k ≡ iso_line → ⊥) → when_iso k n [] ≡ []
other_no_iso type_line n h = refl
other_no_iso pattern_line n h = refl
other_no_iso iso_line n h = absurd (h refl)
other_no_iso clause_line n h = refl
other_no_iso let_line n h = refl
