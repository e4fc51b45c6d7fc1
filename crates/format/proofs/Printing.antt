-- Rows and their lines: a well-formed row reads back from what it prints, a line that reads is what its row prints but for a carriage return in its ending, and so are whole files.
use Prim.Native.Nat.{ℕ, suc, ◌+◌, ◌<◌, ◌≤◌}
use native.Mathlib.Nat.{ne_of_gt}
use native.Mathlib.Omega.{arith}
use mathlib.Core.Path.{◌≡◌, refl, sym, ap, ap₂, ◌∙◌, subst}
use mathlib.Core.Logic.{◌⊎◌, inl, inr, ◌↔◌}
use mathlib.Core.Bool.{true, false, false≢true}
use mathlib.Core.Option.{Option, none, some}
use mathlib.Core.List.{List, [], ◌∷◌, ◌++◌, map, Memᴰ, append_assoc, append-nil, append_cancel_right}
use lib.Dec.{eqb}
use lib.ListN.{length, take, get_or, length-append, length-map}
use Rattle.limits.specs.Limits.{field_bound, line_feed, carriage_return, comma, budget_bound}
use Rattle.calculus.specs.Tools.{◌>>=◌, guard, concat, total}
use Rattle.calculus.specs.Refusals.{Kind, type_line, pattern_line, iso_line, clause_line, let_line, Refusal}
use Rattle.format.specs.Lines.{Row, letter, field_count, kind_among, kind_of, onto_first, lines, numeral, text, without_returns, skip, fields, ended}
use Rattle.format.specs.Lines.{field_bounds, to_row, row_in, row_of, decimal, print_field, print, print_rows, is_digit}
use Rattle.format.specs.Judge.{Seen, start, judge, after, Reading, rows, faulty, with_row, on_row, on_judged, read_from}
use Rattle.format.specs.Unfold.{exchange, TurnedTail, turn_row, turn_from, turn_rows}
use Rattle.format.proofs.Passing.{Passes, done, next}
use Rattle.calculus.proofs.Basic.{bind_some, some_bind, none≢some, some_inj, guard_true, bool_cases, eqb_eq, not_eqb, each_nil, each_cons, each_append, all_mem}
use Rattle.format.proofs.Numerals.{NoDigit, digit_lower, numeral_decimal, read_numeral, decimal_digits}
use Rattle.format.proofs.Endings.{feed, Ended, Returnless, text_feed, text_ended, ended_text, without_concat, without_line}

-- ---- numbers with a comma before each

abbrev pub print_fields : List ℕ → List ℕ
print_fields ns = concat (map print_field ns)

-- bounds that numerals are read with
abbrev pub Bounds : List ℕ → Type 0
Bounds [] = Unit {0}
Bounds (b ∷ bs) = (0 < b) × (b ≤ budget_bound) × Bounds bs

-- as many numbers as bounds, each below its own
abbrev pub FieldsBelow : List ℕ → List ℕ → Type 0
FieldsBelow [] [] = Unit {0}
FieldsBelow [] (n ∷ ns) = ⊥
FieldsBelow (b ∷ bs) [] = ⊥
FieldsBelow (b ∷ bs) (n ∷ ns) = (n < b) × FieldsBelow bs ns

-- what follows a number of a row is a comma, or what follows the row's numbers
no_digit_fields : (ns rest : List ℕ) → NoDigit rest → NoDigit (print_fields ns ++ rest)
no_digit_fields [] rest q = q
no_digit_fields (n ∷ ns) rest q = refl

numeral_fields :
    (b n : ℕ) (ns rest : List ℕ)
    → b ≤ budget_bound
    → n < b
    → NoDigit rest
    → numeral b ((decimal n ++ print_fields ns) ++ rest) ≡ some (n, print_fields ns ++ rest)
numeral_fields b n ns rest c h q =
    ap (numeral b) (append_assoc (decimal n) (print_fields ns) rest) ∙ numeral_decimal b n (print_fields ns ++ rest) c h (no_digit_fields ns rest q)

pub fields_print :
    (bounds ns rest : List ℕ)
    → Bounds bounds
    → FieldsBelow bounds ns
    → NoDigit rest
    → fields bounds (print_fields ns ++ rest) ≡ some (ns, rest)
fields_print [] [] rest c h q = refl
fields_print [] (n ∷ ns) rest c h q = absurd h
fields_print (b ∷ bs) [] rest c h q = absurd h
fields_print (b ∷ bs) (n ∷ ns) rest c h q =
    let more : ℕ × List ℕ → Option (List ℕ × List ℕ) = λ r. fields bs r.1 >>= λ s. some (r.0 ∷ s.0, s.1) in
    let last : List ℕ × List ℕ → Option (List ℕ × List ℕ) = λ s. some (n ∷ s.0, s.1) in
    some_bind more (numeral_fields b n ns rest c.1 h.0 q) ∙ some_bind last (fields_print bs ns rest c.2 h.1 q)

pub skip_some : (c : ℕ) (bs : List ℕ) {cs : List ℕ} → skip c bs ≡ some cs → bs ≡ c ∷ cs
skip_some c [] e = absurd (none≢some e)
skip_some c (b ∷ bs) e =
    let t = bind_some (guard (eqb b c)) (λ _. some bs) e in
    ap₂ ◌∷◌ (eqb_eq b c (guard_true (eqb b c) t.1)) (some_inj t.2)

-- what reading some numbers gives: their print and the bytes behind it
abbrev pub Split : List ℕ → List ℕ → List ℕ × List ℕ → Type 0
Split bounds bs r = (bs ≡ print_fields r.0 ++ r.1) × FieldsBelow bounds r.0

split_cons :
    (b n : ℕ) (bounds bs cs ds : List ℕ) (s : List ℕ × List ℕ) {r : List ℕ × List ℕ}
    → bs ≡ comma ∷ cs
    → cs ≡ decimal n ++ ds
    → n < b
    → Split bounds ds s
    → ◌≡◌ {A = Option (List ℕ × List ℕ)} (some (n ∷ s.0, s.1)) (some r)
    → Split (b ∷ bounds) bs r
split_cons b n bounds bs cs ds s p q h t e =
    let numbers : cs ≡ (decimal n ++ print_fields s.0) ++ s.1 = q ∙ ap (λ es. decimal n ++ es) t.0 ∙ sym (append_assoc (decimal n) (print_fields s.0) s.1) in
    subst (Split (b ∷ bounds) bs) (some_inj e) (p ∙ ap (λ es. comma ∷ es) numbers, (h, t.1))

pub read_fields : (bounds bs : List ℕ) {r : List ℕ × List ℕ} → Bounds bounds → fields bounds bs ≡ some r → Split bounds bs r
read_fields [] bs c e = subst (Split [] bs) (some_inj e) (refl, tt)
read_fields (b ∷ bounds) bs {r} c e =
    let more : ℕ × List ℕ → Option (List ℕ × List ℕ) = λ n. fields bounds n.1 >>= λ s. some (n.0 ∷ s.0, s.1) in
    let (cs, comma_cs, e₁) = bind_some (skip comma bs) (λ cs. numeral b cs >>= more) e in
    let (n, n_cs, e₂) = bind_some (numeral b cs) more e₁ in
    let (s, s_ds, e₃) = bind_some (fields bounds n.1) (λ s. some (n.0 ∷ s.0, s.1)) e₂ in
    let (shape, below) = read_numeral b c.0 c.1 cs n_cs in
    split_cons b n.0 bounds bs cs n.1 s (skip_some comma bs comma_cs) shape below (read_fields bounds n.1 {r = s} c.2 s_ds) e₃

-- ---- rows

-- a row that a line can hold: its numbers are below the bound, and a missing third one is 0
pub record WellFormed (r : Row) : Type 0 where
  pub x : r.x < field_bound
  pub y : r.y < field_bound
  pub z : r.z < field_bound
  pub missing : field_count r.kind ≡ 2 → r.z ≡ 0

-- the fields that a row prints
abbrev pub shown : Row → List ℕ
shown r = take (field_count r.kind) (r.x ∷ r.y ∷ r.z ∷ [])

-- the text of a row
abbrev pub body : Row → List ℕ
body r = letter r.kind ∷ print_fields (shown r)

pub print_shape : (r : Row) → print r ≡ body r ++ feed
unfolding print
print_shape r = refl

-- every byte of a row's text stands above a line feed and a carriage return: a comma, a digit or a letter
abbrev High : ℕ → Type 0
High b = comma ≤ b

high_fields : (ns : List ℕ) (b : ℕ) → Memᴰ b (print_fields ns) → High b
high_fields [] = each_nil High
high_fields (n ∷ ns) =
    each_cons High (omega arith)
    (each_append High (decimal n) (λ b m. let low = digit_lower b (all_mem is_digit (decimal_digits n) m) in omega arith) (high_fields ns))

high_letter : (k : Kind) → High (letter k)
high_letter type_line = omega arith
high_letter pattern_line = omega arith
high_letter iso_line = omega arith
high_letter clause_line = omega arith
high_letter let_line = omega arith

high_body : (r : Row) (b : ℕ) → Memᴰ b (body r) → High b
high_body r = each_cons High (high_letter r.kind) (high_fields (shown r))

high_not : (c b : ℕ) → c < comma → High b → eqb b c ≡ false
high_not c b h k = not_eqb {m = b} {n = c} (ne_of_gt (omega arith))

pub returnless_body : (r : Row) → Returnless (body r)
returnless_body r b m = high_not carriage_return b (omega arith) (high_body r b m)

pub bounds_fields : (k : Kind) → Bounds (field_bounds k)
bounds_fields type_line = omega arith
bounds_fields pattern_line = omega arith
bounds_fields iso_line = omega arith
bounds_fields clause_line = omega arith
bounds_fields let_line = omega arith

pub kind_of_letter : (k : Kind) → kind_of (letter k) ≡ some k
kind_of_letter type_line = refl
kind_of_letter pattern_line = refl
kind_of_letter iso_line = refl
kind_of_letter clause_line = refl
kind_of_letter let_line = refl

kind_among_letter : (ks : List Kind) (b : ℕ) {k : Kind} → kind_among ks b ≡ some k → b ≡ letter k
kind_among_letter [] b e = absurd (none≢some e)
kind_among_letter (k ∷ ks) b {k = j} e = go (bool_cases (eqb b (letter k))) (kind_among_letter ks b)
  where
    go : (eqb b (letter k) ≡ true) ⊎ (eqb b (letter k) ≡ false) → (kind_among ks b ≡ some j → b ≡ letter j) → b ≡ letter j
    go (inl t) ih = eqb_eq b (letter k) t ∙ ap letter (some_inj (rw t at e))
    go (inr t) ih = ih (rw t at e)

pub kind_of_some : (b : ℕ) {k : Kind} → kind_of b ≡ some k → b ≡ letter k
kind_of_some b e = kind_among_letter (type_line ∷ pattern_line ∷ iso_line ∷ clause_line ∷ let_line ∷ []) b e

pub ended_some : (bs : List ℕ) {u : Unit {0}} → ended bs ≡ some u → bs ≡ []
ended_some [] e = refl
ended_some (b ∷ bs) e = absurd (none≢some e)

-- what a row shows is read as the row
pub row_shown : (k : Kind) (x y z : ℕ) → (field_count k ≡ 2 → z ≡ 0) → to_row k (take (field_count k) (x ∷ y ∷ z ∷ [])) ≡ record { kind = k; x = x; y = y; z = z }
row_shown type_line x y z m = refl
row_shown pattern_line x y z m = refl
row_shown iso_line x y z m = ap {B = Row} (λ n. record { kind = iso_line; x = x; y = y; z = n }) (sym (m refl))
row_shown clause_line x y z m = ap {B = Row} (λ n. record { kind = clause_line; x = x; y = y; z = n }) (sym (m refl))
row_shown let_line x y z m = refl

pub shown_below : (k : Kind) {x y z : ℕ} → x < field_bound → y < field_bound → z < field_bound → FieldsBelow (field_bounds k) (take (field_count k) (x ∷ y ∷ z ∷ []))
shown_below type_line a b c = (a, (b, (c, tt)))
shown_below pattern_line a b c = (a, (b, (c, tt)))
shown_below iso_line a b c = (a, (b, tt))
shown_below clause_line a b c = (a, (b, tt))
shown_below let_line a b c = (a, (b, (c, tt)))

-- a well-formed row reads back from its text
body_read : {r : Row} → WellFormed r → row_in (body r) ≡ some r
body_read {r} w =
    let k : Kind = r.kind in
    let bs : List ℕ = print_fields (shown r) in
    let on_end : Kind → List ℕ × List ℕ → Option Row = λ j s. ended s.1 >>= λ _. some (to_row j s.0) in
    let numbers : fields (field_bounds k) bs ≡ some (shown r, []) =
    ap (fields (field_bounds k)) (sym (append-nil bs)) ∙ fields_print (field_bounds k) (shown r) [] (bounds_fields k) (shown_below k w.x w.y w.z) tt in
    some_bind (λ j. fields (field_bounds j) bs >>= on_end j) (kind_of_letter k)
    ∙ some_bind (on_end k) numbers
    ∙ ap {B = Option Row} some (row_shown k r.x r.y r.z w.missing)

-- and from its line, with either ending
pub text_read : (l : List ℕ) {r : Row} → text l ≡ some (body r) → WellFormed r → row_of l ≡ some r
text_read l e w = some_bind row_in e ∙ body_read w

pub print_text : (r : Row) → text (print r) ≡ some (body r)
print_text r = ap text (print_shape r) ∙ text_feed (body r) (returnless_body r)

pub print_read : {r : Row} → WellFormed r → row_of (print r) ≡ some r
print_read {r} w = text_read (print r) (print_text r) w

-- the numbers of a row: as many as its kind shows, and a third one that is missing is 0
three :
    (k : Kind) (ns : List ℕ)
    → field_count k ≡ 3
    → FieldsBelow (field_bound ∷ field_bound ∷ field_bound ∷ []) ns
    → (get_or ns 0 0 ∷ get_or ns 1 0 ∷ get_or ns 2 0 ∷ [] ≡ ns) × WellFormed (to_row k ns)
three k [] e h = absurd h
three k (a ∷ []) e h = absurd h.1
three k (a ∷ b ∷ []) e h = absurd h.1.1
three k (a ∷ b ∷ c ∷ []) e h = (refl, record { x = h.0; y = h.1.0; z = h.1.1.0; missing = λ q. absurd (omega arith) })
three k (a ∷ b ∷ c ∷ d ∷ ns) e h = absurd h.1.1.1

two :
    (k : Kind) (ns : List ℕ)
    → FieldsBelow (field_bound ∷ field_bound ∷ []) ns
    → (get_or ns 0 0 ∷ get_or ns 1 0 ∷ [] ≡ ns) × WellFormed (to_row k ns)
two k [] h = absurd h
two k (a ∷ []) h = absurd h.1
two k (a ∷ b ∷ []) h = (refl, record { x = h.0; y = h.1.0; z = omega arith; missing = λ q. refl })
two k (a ∷ b ∷ c ∷ ns) h = absurd h.1.1

shown_row : (k : Kind) (ns : List ℕ) → FieldsBelow (field_bounds k) ns → (shown (to_row k ns) ≡ ns) × WellFormed (to_row k ns)
shown_row type_line ns h = three type_line ns refl h
shown_row pattern_line ns h = three pattern_line ns refl h
shown_row iso_line ns h = two iso_line ns h
shown_row clause_line ns h = two clause_line ns h
shown_row let_line ns h = three let_line ns refl h

-- the text of a row by what was read of it
body_of :
    (b : ℕ) (bs : List ℕ) (k : Kind) (s : List ℕ × List ℕ)
    → b ≡ letter k
    → Split (field_bounds k) bs s
    → s.1 ≡ []
    → (b ∷ bs ≡ body (to_row k s.0)) × WellFormed (to_row k s.0)
body_of b bs k s p t q =
    let (shape, w) = shown_row k s.0 t.1 in
    let numbers : bs ≡ print_fields (shown (to_row k s.0)) = t.0 ∙ ap₂ (λ ns rest. print_fields ns ++ rest) (sym shape) q ∙ append-nil (print_fields (shown (to_row k s.0))) in
    (ap₂ ◌∷◌ p numbers, w)

-- a text that reads is its row's text
pub read_body : (t : List ℕ) {r : Row} → row_in t ≡ some r → (t ≡ body r) × WellFormed r
read_body [] e = absurd (none≢some e)
read_body (b ∷ bs) e =
    let on_end : Kind → List ℕ × List ℕ → Option Row = λ j s. ended s.1 >>= λ _. some (to_row j s.0) in
    let (k, b_k, e₁) = bind_some (kind_of b) (λ j. fields (field_bounds j) bs >>= on_end j) e in
    let (s, bs_s, e₂) = bind_some (fields (field_bounds k) bs) (on_end k) e₁ in
    let (u, end, e₃) = bind_some (ended s.1) (λ _. some (to_row k s.0)) e₂ in
    subst
    (λ r. (b ∷ bs ≡ body r) × WellFormed r)
    (some_inj e₃)
    (body_of b bs k s (kind_of_some b b_k) (read_fields (field_bounds k) bs (bounds_fields k) bs_s) (ended_some s.1 end))

-- a line that reads has its row's text
pub read_print : (l : List ℕ) {r : Row} → row_of l ≡ some r → (text l ≡ some (body r)) × WellFormed r
read_print l e =
    let (t, l_t, e₁) = bind_some (text l) row_in e in
    let (shape, w) = read_body t e₁ in
    (l_t ∙ ap some shape, w)

-- its carriage returns taken out, it is what its row prints
pub read_line : (l : List ℕ) {r : Row} → row_of l ≡ some r → without_returns l ≡ print r
read_line l {r} e = without_line (text_ended l (read_print l e).0) (returnless_body r) ∙ sym (print_shape r)

-- A line reads as a row exactly when it is the row's text and one of the two endings.
pub row_iff : (l : List ℕ) (r : Row) → (row_of l ≡ some r) ↔ (Ended l (body r) × WellFormed r)
row_iff l r = (
  (λ e. let (shape, w) = read_print l e in (text_ended l shape, w)),
  (λ h. text_read l (ended_text h.0 (returnless_body r)) h.1),
)

-- A line reads as a row exactly when its text, ended by a line feed, is what the row prints.
pub line_iff : (l : List ℕ) (r : Row) → (row_of l ≡ some r) ↔ (((text l >>= λ t. some (t ++ feed)) ≡ some (print r)) × WellFormed r)
line_iff l r = (
  (λ e. let (shape, w) = read_print l e in (some_bind (λ t. some (t ++ feed)) shape ∙ ap some (sym (print_shape r)), w)),
  (λ h.
      let (t, l_t, e) = bind_some (text l) (λ t. some (t ++ feed)) h.0 in
      let same : t ≡ body r = append_cancel_right t (body r) feed (some_inj e ∙ print_shape r) in
      text_read l (l_t ∙ ap some same) h.1),
)

-- ---- lines

abbrev pub NoFeed : ℕ → Type 0
NoFeed b = eqb b line_feed ≡ false

-- bytes without a line feed
abbrev pub Feedless : List ℕ → Type 0
Feedless bs = (b : ℕ) → Memᴰ b bs → NoFeed b

pub feedless_body : (r : Row) → Feedless (body r)
feedless_body r b m = high_not line_feed b (omega arith) (high_body r b m)

-- bytes up to a line feed are the first line
pub lines_feed : (bs rest : List ℕ) → Feedless bs → lines (bs ++ (line_feed ∷ rest)) ≡ (bs ++ (line_feed ∷ [])) ∷ lines rest
lines_feed [] rest h = refl
lines_feed (b ∷ bs) rest h = rw (h b (Memᴰ.head refl)) (ap (onto_first b) (lines_feed bs rest (λ c m. h c (Memᴰ.tail m))))

pub lines_row : (r : Row) (rest : List ℕ) → lines (print r ++ rest) ≡ print r ∷ lines rest
lines_row r rest =
    ap (λ l. lines (l ++ rest)) (print_shape r)
    ∙ ap lines (append_assoc (body r) feed rest)
    ∙ lines_feed (body r) rest (feedless_body r)
    ∙ ap (λ l. l ∷ lines rest) (sym (print_shape r))

pub print_rows_cons : (r : Row) (rs : List Row) → print_rows (r ∷ rs) ≡ print r ++ print_rows rs
unfolding print_rows
print_rows_cons r rs = refl

pub print_rows_nil : print_rows [] ≡ []
unfolding print_rows
print_rows_nil = refl

pub print_append : (rs qs : List Row) → print_rows (rs ++ qs) ≡ print_rows rs ++ print_rows qs
print_append [] qs = ap (λ bs. bs ++ print_rows qs) (sym print_rows_nil)
print_append (r ∷ rs) qs =
    print_rows_cons r (rs ++ qs)
    ∙ ap (λ bs. print r ++ bs) (print_append rs qs)
    ∙ sym (append_assoc (print r) (print_rows rs) (print_rows qs))
    ∙ ap (λ bs. bs ++ print_rows qs) (sym (print_rows_cons r rs))

pub print_one : (r : Row) → print_rows (r ∷ []) ≡ print r
print_one r = print_rows_cons r [] ∙ ap (λ bs. print r ++ bs) print_rows_nil ∙ append-nil (print r)

pub print_rows_concat : (rs : List Row) → print_rows rs ≡ concat (map print rs)
unfolding print_rows
print_rows_concat rs = refl

-- the lines of printed rows are the rows' lines
pub lines_print : (rs : List Row) → lines (print_rows rs) ≡ map print rs
lines_print [] = ap lines print_rows_nil
lines_print (r ∷ rs) = ap lines (print_rows_cons r rs) ∙ lines_row r (print_rows rs) ∙ ap (λ ls. print r ∷ ls) (lines_print rs)

concat_onto_first : (b : ℕ) (ls : List (List ℕ)) → concat (onto_first b ls) ≡ b ∷ concat ls
concat_onto_first b [] = refl
concat_onto_first b (l ∷ ls) = refl

-- the lines of some bytes are the bytes
pub concat_lines : (bs : List ℕ) → concat (lines bs) ≡ bs
concat_lines [] = refl
concat_lines (b ∷ bs) = go (bool_cases (eqb b line_feed)) (concat_lines bs)
  where
    go : (eqb b line_feed ≡ true) ⊎ (eqb b line_feed ≡ false) → concat (lines bs) ≡ bs → concat (lines (b ∷ bs)) ≡ b ∷ bs
    go (inl t) ih = rw t (ap (λ cs. b ∷ cs) ih)
    go (inr t) ih = rw t (concat_onto_first b (lines bs) ∙ ap (λ cs. b ∷ cs) ih)

-- ---- files

-- every row is well formed
abbrev pub AllWellFormed : List Row → Type 0
AllWellFormed rs = (r : Row) → Memᴰ r rs → WellFormed r

-- a line that is refused nothing, and the rows of the lines behind it
record Accepts (s : Seen) (n : ℕ) (l : List ℕ) (ls : List (List ℕ)) (rs : List Row) : Type 0 where
  row : Row
  others : List Row
  reads : row_of l ≡ some row
  passes : judge s row ≡ none
  behind : read_from (after s row) (suc n) ls ≡ rows others
  whole : row ∷ others ≡ rs

faulty≢rows : {f : Refusal} {n : ℕ} {rs : List Row} → faulty f n ≡ rows rs → ⊥
faulty≢rows e = false≢true cc

pub rows≢faulty : {rs : List Row} {f : Refusal} {n : ℕ} → rows rs ≡ faulty f n → ⊥
rows≢faulty e = faulty≢rows (sym e)

pub rows_inj : {rs qs : List Row} → rows rs ≡ rows qs → rs ≡ qs
rows_inj e = cc

accepts : (s : Seen) (n : ℕ) (l : List ℕ) (ls : List (List ℕ)) (rs : List Row) → read_from s n (l ∷ ls) ≡ rows rs → Accepts s n l ls rs
accepts s n l ls rs e = on_read (row_of l) refl e
  where
    on_rest :
        (r : Row)
        → row_of l ≡ some r
        → judge s r ≡ none
        → (o : Reading)
        → read_from (after s r) (suc n) ls ≡ o
        → with_row r o ≡ rows rs
        → Accepts s n l ls rs
    on_rest r p q (rows os) b t = record { row = r; others = os; reads = p; passes = q; behind = b; whole = rows_inj t }
    on_rest r p q (faulty f m) b t = absurd (faulty≢rows t)

    on_judge :
        (r : Row)
        → row_of l ≡ some r
        → (j : Option Refusal)
        → judge s r ≡ j
        → on_judged n j (λ _. with_row r (read_from (after s r) (suc n) ls)) ≡ rows rs
        → Accepts s n l ls rs
    on_judge r p none q t = on_rest r p q (read_from (after s r) (suc n) ls) refl t
    on_judge r p (some f) q t = absurd (faulty≢rows t)

    on_read :
        (o : Option Row)
        → row_of l ≡ o
        → on_row n o (λ r. on_judged n (judge s r) (λ _. with_row r (read_from (after s r) (suc n) ls))) ≡ rows rs
        → Accepts s n l ls rs
    on_read none p t = absurd (faulty≢rows t)
    on_read (some r) p t = on_judge r p (judge s r) refl t

-- what reading gives: the lines are the rows' lines but for carriage returns, the rows are well formed, none is refused
pub read_rows :
    (s : Seen) (n : ℕ) (ls : List (List ℕ)) (rs : List Row)
    → read_from s n ls ≡ rows rs
    → (map without_returns ls ≡ map print rs) × AllWellFormed rs × Passes s rs
read_rows s n [] rs e = subst (λ os. ([] ≡ map print os) × AllWellFormed os × Passes s os) (rows_inj e) (refl, each_nil WellFormed, done)
read_rows s n (l ∷ ls) rs e =
    let a = accepts s n l ls rs e in
    let (lines_are, formed, pass) = read_rows (after s a.row) (suc n) ls a.others a.behind in
    subst
    (λ os. (map without_returns (l ∷ ls) ≡ map print os) × AllWellFormed os × Passes s os)
    a.whole
    (ap₂ ◌∷◌ (read_line l a.reads) lines_are, each_cons WellFormed (read_print l a.reads).1 formed, next a.passes pass)

-- each line of a file that reads is a row's line
pub read_each : (s : Seen) (n : ℕ) (ls : List (List ℕ)) (rs : List Row) → read_from s n ls ≡ rows rs → (l : List ℕ) → Memᴰ l ls → (r : Row) × (row_of l ≡ some r)
read_each s n [] rs e = each_nil (λ l. (r : Row) × (row_of l ≡ some r))
read_each s n (l ∷ ls) rs e =
    let a = accepts s n l ls rs e in
    each_cons (λ m. (r : Row) × (row_of m ≡ some r)) (a.row, a.reads) (read_each (after s a.row) (suc n) ls a.others a.behind)

-- as many lines as rows
pub read_count : (s : Seen) (n : ℕ) (ls : List (List ℕ)) (rs : List Row) → read_from s n ls ≡ rows rs → length ls ≡ length rs
read_count s n ls rs e = sym (length-map ls without_returns) ∙ ap length (read_rows s n ls rs e).0 ∙ length-map rs print

-- rows that are well formed and that nothing refuses are read from their lines
pub rows_read : (s : Seen) (n : ℕ) (rs : List Row) → Passes s rs → AllWellFormed rs → read_from s n (map print rs) ≡ rows rs
rows_read s n [] done h = refl
rows_read s n (r ∷ rs) (next j p) h =
    let w : WellFormed r = h r (Memᴰ.head refl) in
    ap (λ o. on_row n o (λ q. on_judged n (judge s q) (λ _. with_row q (read_from (after s q) (suc n) (map print rs))))) (print_read w)
    ∙ ap (λ o. on_judged n o (λ _. with_row r (read_from (after s r) (suc n) (map print rs)))) j
    ∙ ap (with_row r) (rows_read (after s r) (suc n) rs p (λ q m. h q (Memᴰ.tail m)))

-- a file that reads is what its rows print, its carriage returns taken out
pub reading_printed : (bs : List ℕ) {rs : List Row} → read_from start 1 (lines bs) ≡ rows rs → without_returns bs ≡ print_rows rs
reading_printed bs {rs} e =
    ap without_returns (sym (concat_lines bs))
    ∙ without_concat (lines bs)
    ∙ ap concat (read_rows start 1 (lines bs) rs e).0
    ∙ sym (print_rows_concat rs)

-- and it reads back from that
pub printed_reading : {rs : List Row} → Passes start rs → AllWellFormed rs → read_from start 1 (lines (print_rows rs)) ≡ rows rs
printed_reading {rs} p h = ap (read_from start 1) (lines_print rs) ∙ rows_read start 1 rs p h

-- ---- turned rows

length_field : (n : ℕ) (ns : List ℕ) → length (print_fields (n ∷ ns)) ≡ suc (length (decimal n) + length (print_fields ns))
length_field n ns = ap suc (length-append (decimal n) (print_fields ns))

length_two : (a b : ℕ) → length (print_fields (a ∷ b ∷ [])) ≡ length (decimal a) + length (decimal b) + 2
length_two a b = let p = length_field a (b ∷ []) in let q = length_field b [] in omega arith

length_three : (a b c : ℕ) → length (print_fields (a ∷ b ∷ c ∷ [])) ≡ length (decimal a) + length (decimal b) + length (decimal c) + 3
length_three a b c = let p = length_field a (b ∷ c ∷ []) in let q = length_two b c in omega arith

pub length_print : (r : Row) → length (print r) ≡ length (print_fields (shown r)) + 2
length_print r =
    let p : length (print r) ≡ suc (length (print_fields (shown r) ++ feed)) = ap length (print_shape r) in
    let q : length (print_fields (shown r) ++ (line_feed ∷ [])) ≡ length (print_fields (shown r)) + 1 = length-append (print_fields (shown r)) (line_feed ∷ []) in
    omega arith

length_shown : (k : Kind) (x y z : ℕ) → let r : Row = record { kind = k; x = x; y = y; z = z } in length (print_fields (shown (exchange k r))) ≡ length (print_fields (shown r))
length_shown type_line x y z = refl
length_shown pattern_line x y z = refl
length_shown iso_line x y z = let p = length_two x y in let q = length_two y x in omega arith
length_shown clause_line x y z = let p = length_two x y in let q = length_two y x in omega arith
length_shown let_line x y z = let p = length_three x y z in let q = length_three z y x in omega arith

-- exchanged fields print to the same length
length_print_exchange : (r : Row) → length (print (exchange r.kind r)) ≡ length (print r)
length_print_exchange r =
    let p = length_print r in
    let q = length_print (exchange r.kind r) in
    let h : length (print_fields (shown (exchange r.kind r))) ≡ length (print_fields (shown r)) = length_shown r.kind r.x r.y r.z in
    q ∙ ap (λ n. n + 2) h ∙ sym p

total_append : (f : Row → ℕ) (qs rs : List Row) → total (map f (qs ++ rs)) ≡ total (map f qs) + total (map f rs)
total_append f [] rs = omega arith
total_append f (q ∷ qs) rs = let ih = total_append f qs rs in omega arith

-- the rows of a turned tail, in their order
abbrev pub turned : TurnedTail → List Row
turned o = o.held ++ o.rest

total_turn_row :
    (f : Row → ℕ) (k : Kind) (r : Row) (o : TurnedTail)
    → total (map f (turned (turn_row k r o))) ≡ f (exchange k r) + total (map f (turned o))
total_turn_row f type_line r o = refl
total_turn_row f pattern_line r o = refl
total_turn_row f iso_line r o = refl
total_turn_row f clause_line r o = refl
total_turn_row f let_line r o =
    let q : Row = exchange let_line r in
    let a = total_append f (o.held ++ (q ∷ [])) o.rest in
    let b : total (map f (o.held ++ (q ∷ []))) ≡ total (map f o.held) + (f q + 0) = total_append f o.held (q ∷ []) in
    let c = total_append f o.held o.rest in
    omega arith

total_turn_from :
    (f : Row → ℕ)
    → ((r : Row) → f (exchange r.kind r) ≡ f r)
    → (rs : List Row)
    → total (map f (turned (turn_from rs))) ≡ total (map f rs)
total_turn_from f h [] = refl
total_turn_from f h (r ∷ rs) = total_turn_row f r.kind r (turn_from rs) ∙ ap₂ ◌+◌ (h r) (total_turn_from f h rs)

-- a sum that exchange keeps is kept by the turn
pub total_turn : (f : Row → ℕ) → ((r : Row) → f (exchange r.kind r) ≡ f r) → (rs : List Row) → total (map f (turn_rows rs)) ≡ total (map f rs)
unfolding turn_rows
total_turn f h rs = total_turn_from f h rs

pub length_print_rows : (rs : List Row) → length (print_rows rs) ≡ total (map (λ r. length (print r)) rs)
length_print_rows [] = ap length print_rows_nil
length_print_rows (r ∷ rs) = ap length (print_rows_cons r rs) ∙ length-append (print r) (print_rows rs) ∙ ap (λ n. length (print r) + n) (length_print_rows rs)

-- the turned rows print to the same length
pub length_print_rows_turn : (rs : List Row) → length (print_rows (turn_rows rs)) ≡ length (print_rows rs)
length_print_rows_turn rs = length_print_rows (turn_rows rs) ∙ total_turn (λ r. length (print r)) length_print_exchange rs ∙ sym (length_print_rows rs)

length_total : (rs : List Row) → length rs ≡ total (map (λ _. 1) rs)
length_total [] = refl
length_total (r ∷ rs) = let ih = length_total rs in omega arith

pub length_turn_rows : (rs : List Row) → length (turn_rows rs) ≡ length rs
length_turn_rows rs = length_total (turn_rows rs) ∙ total_turn (λ _. 1) (λ _. refl) rs ∙ sym (length_total rs)

pub wellformed_exchange : (k : Kind) (r : Row) → r.kind ≡ k → WellFormed r → WellFormed (exchange k r)
wellformed_exchange type_line r e w = w
wellformed_exchange pattern_line r e w = w
wellformed_exchange iso_line r e w = record { x = w.y; y = w.x; z = w.z; missing = w.missing }
wellformed_exchange clause_line r e w = record { x = w.y; y = w.x; z = w.z; missing = w.missing }
wellformed_exchange let_line r e w =
    let three_shown : field_count r.kind ≡ 3 = ap field_count e in
    record { x = w.z; y = w.y; z = w.x; missing = λ q. absurd (omega arith) }

-- both parts of a turned tail
abbrev TailFormed : TurnedTail → Type 0
TailFormed o = AllWellFormed o.held × AllWellFormed o.rest

tail_formed : (k : Kind) (r : Row) (o : TurnedTail) → WellFormed (exchange k r) → TailFormed o → TailFormed (turn_row k r o)
tail_formed type_line r o w h = (each_nil WellFormed, each_cons WellFormed w (each_append WellFormed o.held h.0 h.1))
tail_formed pattern_line r o w h = (each_nil WellFormed, each_cons WellFormed w (each_append WellFormed o.held h.0 h.1))
tail_formed iso_line r o w h = (each_nil WellFormed, each_cons WellFormed w (each_append WellFormed o.held h.0 h.1))
tail_formed clause_line r o w h = (each_nil WellFormed, each_cons WellFormed w (each_append WellFormed o.held h.0 h.1))
tail_formed let_line r o w h = (each_append WellFormed o.held h.0 (each_cons WellFormed w (each_nil WellFormed)), h.1)

turn_from_formed : (rs : List Row) → AllWellFormed rs → TailFormed (turn_from rs)
turn_from_formed [] h = (each_nil WellFormed, each_nil WellFormed)
turn_from_formed (r ∷ rs) h =
    tail_formed r.kind r (turn_from rs) (wellformed_exchange r.kind r refl (h r (Memᴰ.head refl))) (turn_from_formed rs (λ q m. h q (Memᴰ.tail m)))

-- the turned rows are well formed
pub wellformed_turn : (rs : List Row) → AllWellFormed rs → AllWellFormed (turn_rows rs)
unfolding turn_rows
wellformed_turn rs h = let t = turn_from_formed rs h in each_append WellFormed (turn_from rs).held t.0 t.1

-- a last line without a line feed
pub lines_last : (b : ℕ) (l : List ℕ) → Feedless (b ∷ l) → lines (b ∷ l) ≡ (b ∷ l) ∷ []
lines_last b [] h = rw (h b (Memᴰ.head refl))
lines_last b (c ∷ l) h = rw (h b (Memᴰ.head refl)) (ap (onto_first b) (lines_last c l (λ d m. h d (Memᴰ.tail m))))
