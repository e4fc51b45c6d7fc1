-- Lines that differ in the order of clauses read as rows that do, and such rows print as such lines.
use Prim.Native.Nat.{ℕ, suc}
use mathlib.Core.Path.{◌≡◌, refl, sym, ap, ◌∙◌, subst}
use mathlib.Core.Bool.{true, not, true≢false, false≢true}
use mathlib.Core.Option.{some}
use mathlib.Core.List.{List, [], ◌∷◌, ◌++◌, map, map-append, Memᴰ}
use lib.Dec.{eqb}
use Rattle.calculus.specs.Tools.{all}
use Rattle.calculus.specs.Refusals.{Kind, type_line, pattern_line, iso_line, clause_line, let_line}
use Rattle.format.specs.Lines.{Row, letter, without_returns, row_of, print}
use Rattle.format.specs.Judge.{Seen, start, judge, after, rows, with_row, on_row, on_judged, read_from}
use Rattle.format.specs.Unfold.{isos_of, turn_rows}
use Rattle.calculus.proofs.Basic.{and_true, true_and, not_true, some_inj}
use Rattle.format.proofs.Endings.{Ended, by_feed, by_both}
use Rattle.format.proofs.Passing.{Passes, done, next}
use Rattle.format.proofs.Printing.{AllWellFormed, body, print_shape, print_read, read_line, row_iff, read_rows, read_each}
use Rattle.format.proofs.Turning.{AllLets}
use Rattle.law_ranking.specs.Numbering.{types_of}
use Rattle.format.specs.Idle.{idle_fault}
use Rattle.law_reordering.specs.Reordered.{begins_with, is_clause, is_let, is_block, is_whole, Exchanged, Reordered, Alike}
use Rattle.law_reordering.proofs.Alike.{alike_refl, alike_then}
use Rattle.law_reordering.proofs.Moving.{Whole, Moved, moved_passes, moved_types, moved_idle, moved_alike, moved_turn}

-- ---- the rows of lines, one by one

pub data Rows : List (List ℕ) → List Row → Type 0 where
  no : Rows [] []
  more : {l : List ℕ} {ls : List (List ℕ)} {r : Row} {rs : List Row} → row_of l ≡ some r → Rows ls rs → Rows (l ∷ ls) (r ∷ rs)

cons_inj : {A : Type 0} {x y : A} {xs ys : List A} → x ∷ xs ≡ y ∷ ys → (x ≡ y) × (xs ≡ ys)
cons_inj e = (cc, cc)

-- lines that read, each as some row, and that are what given rows print but for carriage returns, read as these rows
rows_printed : (ls : List (List ℕ)) (rs : List Row) → map without_returns ls ≡ map print rs → ((l : List ℕ) → Memᴰ l ls → (r : Row) × (row_of l ≡ some r))
    → AllWellFormed rs → Rows ls rs
rows_printed [] [] e h w = Rows.no
rows_printed [] (r ∷ rs) e h w = absurd (false≢true cc)
rows_printed (l ∷ ls) [] e h w = absurd (false≢true cc)
rows_printed (l ∷ ls) (r ∷ rs) e h w =
    let c = cons_inj e in
    let (q, p) = h l (Memᴰ.head refl) in
    let wq = ((row_iff l q).0 p).1 in
    let same : q ≡ r = some_inj (sym (print_read wq) ∙ ap row_of (sym (read_line l p) ∙ c.0) ∙ print_read (w r (Memᴰ.head refl))) in
    Rows.more (p ∙ ap some same) (rows_printed ls rs c.1 (λ m i. h m (Memᴰ.tail i)) (λ s i. w s (Memᴰ.tail i)))

-- reading gives the rows of the lines, and none is refused
pub read_pass : (s : Seen) (n : ℕ) (ls : List (List ℕ)) (rs : List Row) → read_from s n ls ≡ rows rs → Rows ls rs × Passes s rs
read_pass s n ls rs e =
    let (printed, formed, pass) = read_rows s n ls rs e in (rows_printed ls rs printed (read_each s n ls rs e) formed, pass)

-- and nothing else is asked
pub pass_read : {s : Seen} (n : ℕ) {ls : List (List ℕ)} {rs : List Row} → Rows ls rs → Passes s rs → read_from s n ls ≡ rows rs
pass_read n Rows.no done = refl
pass_read {s} n (Rows.more {l} {ls} {r} {rs} h q) (next j p) =
    ap (λ o. on_row n o (λ r. on_judged n (judge s r) (λ _. with_row r (read_from (after s r) (suc n) ls)))) h
    ∙ ap (λ o. on_judged n o (λ _. with_row r (read_from (after s r) (suc n) ls))) j
    ∙ ap (with_row r) (pass_read (suc n) q p)

pub rows_split : (xs ys : List (List ℕ)) {rs : List Row} → Rows (xs ++ ys) rs
    → (as₁ : List Row) × (as₂ : List Row) × (rs ≡ as₁ ++ as₂) × Rows xs as₁ × Rows ys as₂
rows_split [] ys {rs} q = ([], rs, refl, Rows.no, q)
rows_split (x ∷ xs) ys (Rows.more {r = r} h q) =
    let t = rows_split xs ys q in (r ∷ t.0, t.1, ap (λ qs. r ∷ qs) t.2, Rows.more h t.3, t.4)

pub rows_join : {xs ys : List (List ℕ)} {rs qs : List Row} → Rows xs rs → Rows ys qs → Rows (xs ++ ys) (rs ++ qs)
rows_join Rows.no q = q
rows_join (Rows.more h p) q = Rows.more h (rows_join p q)

-- ---- the letter of a line

-- a row's line begins with the letter of its kind, whatever its ending
pub begins : (l : List ℕ) {r : Row} → row_of l ≡ some r → (c : ℕ) → begins_with c l ≡ eqb (letter r.kind) c
begins l {r} e c = go ((row_iff l r).0 e).0
  where
    go : Ended l (body r) → begins_with c l ≡ eqb (letter r.kind) c
    go (by_feed p) = ap (begins_with c) p
    go (by_both p) = ap (begins_with c) p

clause_letter : (k : Kind) → eqb (letter k) (letter clause_line) ≡ true → k ≡ clause_line
clause_letter type_line e = absurd (false≢true e)
clause_letter pattern_line e = absurd (false≢true e)
clause_letter iso_line e = absurd (false≢true e)
clause_letter clause_line e = refl
clause_letter let_line e = absurd (false≢true e)

let_letter : (k : Kind) → eqb (letter k) (letter let_line) ≡ true → k ≡ let_line
let_letter type_line e = absurd (false≢true e)
let_letter pattern_line e = absurd (false≢true e)
let_letter iso_line e = absurd (false≢true e)
let_letter clause_line e = absurd (false≢true e)
let_letter let_line e = refl

not_let : (k : Kind) → (k ≡ let_line → ⊥) → not (eqb (letter k) (letter let_line)) ≡ true
not_let type_line h = refl
not_let pattern_line h = refl
not_let iso_line h = refl
not_let clause_line h = refl
not_let let_line h = absurd (h refl)

pub row_clause : (l : List ℕ) {r : Row} → row_of l ≡ some r → is_clause l ≡ true → r.kind ≡ clause_line
row_clause l {r} e h = clause_letter r.kind (sym (begins l e (letter clause_line)) ∙ h)

pub row_let : (l : List ℕ) {r : Row} → row_of l ≡ some r → is_let l ≡ true → r.kind ≡ let_line
row_let l {r} e h = let_letter r.kind (sym (begins l e (letter let_line)) ∙ h)

pub no_let : (l : List ℕ) {r : Row} → row_of l ≡ some r → not (is_let l) ≡ true → r.kind ≡ let_line → ⊥
no_let l e h k = true≢false (sym (begins l e (letter let_line) ∙ ap (λ k. eqb (letter k) (letter let_line)) k) ∙ not_true (is_let l) h)

pub rows_lets : {ls : List (List ℕ)} {rs : List Row} → Rows ls rs → all is_let ls ≡ true → AllLets rs
rows_lets Rows.no h = tt
rows_lets (Rows.more {l} {ls} e q) h = let t = and_true (is_let l) (all is_let ls) h in (row_let l e t.0, rows_lets q t.1)

rows_whole : {ls : List (List ℕ)} {rs : List Row} → Rows ls rs → is_whole ls ≡ true → Whole rs
rows_whole Rows.no h = tt
rows_whole (Rows.more {l} e q) h = no_let l e h

-- ---- an exchange of lines is one of rows

record RowsOf (rs : List Row) (ys : List (List ℕ)) : Type 0 where
  others : List Row
  moved : Moved rs others
  each : Rows ys others

moved_of : {one two behind : List (List ℕ)} (before one₁ two₁ behind₁ : List Row) → Rows one one₁ → Rows two two₁ → Rows behind behind₁
    → is_block one ≡ true → is_block two ≡ true → is_whole behind ≡ true
    → Moved (before ++ (one₁ ++ (two₁ ++ behind₁))) (before ++ (two₁ ++ (one₁ ++ behind₁)))
moved_of before [] two₁ behind₁ Rows.no q₂ q₃ h k w = absurd (false≢true h)
moved_of before (c ∷ ls) [] behind₁ (Rows.more e q₁) Rows.no q₃ h k w = absurd (false≢true k)
moved_of before (c ∷ ls) (d ∷ ms) behind₁ (Rows.more {l = x} {ls = xs} e q₁) (Rows.more {l = y} {ls = ys} f q₂) q₃ h k w =
    let p = and_true (is_clause x) (all is_let xs) h in
    let q = and_true (is_clause y) (all is_let ys) k in
    record {
      before = before;
      c = c;
      ls = ls;
      d = d;
      ms = ms;
      behind = behind₁;
      c_kind = row_clause x e p.0;
      ls_lets = rows_lets q₁ p.1;
      d_kind = row_clause y f q.0;
      ms_lets = rows_lets q₂ q.1;
      whole = rows_whole q₃ w;
      here = refl;
      there = refl;
    }

rows_of : {xs ys : List (List ℕ)} (rs : List Row) → Rows xs rs → Exchanged xs ys → RowsOf rs ys
rows_of {xs} {ys} rs q x =
    let (a, bcd, e₁, qa, q₁) = rows_split x.before (x.one ++ (x.two ++ x.behind)) (subst (λ z. Rows z rs) x.here q) in
    let (b, cd, e₂, qb, q₂) = rows_split x.one (x.two ++ x.behind) q₁ in
    let (c, d, e₃, qc, qd) = rows_split x.two x.behind q₂ in
    let whole : rs ≡ a ++ (b ++ (c ++ d)) = e₁ ∙ ap (λ z. a ++ z) (e₂ ∙ ap (λ z. b ++ z) e₃) in
    record {
      others = a ++ (c ++ (b ++ d));
      moved = subst (λ z. Moved z (a ++ (c ++ (b ++ d)))) (sym whole) (moved_of a b c d qb qc qd x.one_block x.two_block x.whole);
      each = subst (λ z. Rows z (a ++ (c ++ (b ++ d)))) (sym x.there) (rows_join qa (rows_join qc (rows_join qb qd)));
    }

-- ---- and an exchange of rows is one of what they print

printed_begins : (r : Row) (c : ℕ) → begins_with c (print r) ≡ eqb (letter r.kind) c
printed_begins r c = ap (begins_with c) (print_shape r)

clause_row : (r : Row) → r.kind ≡ clause_line → is_clause (print r) ≡ true
clause_row r e = printed_begins r (letter clause_line) ∙ ap (λ k. eqb (letter k) (letter clause_line)) e

lets_rows : (rs : List Row) → AllLets rs → all is_let (map print rs) ≡ true
lets_rows [] u = refl
lets_rows (r ∷ rs) u = true_and (printed_begins r (letter let_line) ∙ ap (λ k. eqb (letter k) (letter let_line)) u.0) (lets_rows rs u.1)

whole_rows : (rs : List Row) → Whole rs → is_whole (map print rs) ≡ true
whole_rows [] w = refl
whole_rows (r ∷ rs) w = ap not (printed_begins r (letter let_line)) ∙ not_let r.kind w

lines_of : {rs qs : List Row} → Moved rs qs → Exchanged (map print rs) (map print qs)
lines_of {rs} {qs} v =
    let four : (a : List Row) (c : Row) (b : List Row) (d : Row) (e f : List Row)
    → map print (a ++ (c ∷ (b ++ (d ∷ (e ++ f))))) ≡ map print a ++ (map print (c ∷ b) ++ (map print (d ∷ e) ++ map print f)) =
    λ a c b d e f. map-append print a (c ∷ (b ++ (d ∷ (e ++ f))))
    ∙ ap (λ z. map print a ++ z) (map-append print (c ∷ b) (d ∷ (e ++ f)) ∙ ap (λ z. map print (c ∷ b) ++ z) (map-append print (d ∷ e) f)) in
    record {
      before = map print v.before;
      one = map print (v.c ∷ v.ls);
      two = map print (v.d ∷ v.ms);
      behind = map print v.behind;
      one_block = true_and (clause_row v.c v.c_kind) (lets_rows v.ls v.ls_lets);
      two_block = true_and (clause_row v.d v.d_kind) (lets_rows v.ms v.ms_lets);
      whole = whole_rows v.behind v.whole;
      here = ap (map print) v.here ∙ four v.before v.c v.ls v.d v.ms v.behind;
      there = ap (map print) v.there ∙ four v.before v.d v.ms v.c v.ls v.behind;
    }

-- ---- lines in another order read as rows that unfold alike and turn to rows in another order

pub record Other (rs : List Row) (ys : List (List ℕ)) : Type 0 where
  pub others : List Row
  pub each : Rows ys others
  pub passes : Passes start others
  pub types : types_of rs ≡ types_of others
  pub idle : idle_fault rs ≡ idle_fault others
  pub alike : Alike (isos_of rs) (isos_of others)
  pub turned : Reordered (map print (turn_rows rs)) (map print (turn_rows others))

pub other_rows : {xs ys : List (List ℕ)} → Reordered xs ys → (rs : List Row) → Rows xs rs → Passes start rs → Other rs ys
other_rows (Reordered.same e) rs q p =
    record { others = rs; each = subst (λ z. Rows z rs) e q; passes = p; types = refl; idle = refl; alike = alike_refl (isos_of rs); turned = Reordered.same refl }
other_rows (Reordered.exchange x r) rs q p =
    let o = rows_of rs q x in
    let rest = other_rows r o.others o.each (moved_passes o.moved p) in
    record {
      others = rest.others;
      each = rest.each;
      passes = rest.passes;
      types = moved_types o.moved p ∙ rest.types;
      idle = moved_idle o.moved p ∙ rest.idle;
      alike = alike_then (moved_alike o.moved p) rest.alike;
      turned = Reordered.exchange (lines_of (moved_turn o.moved)) rest.turned;
    }
