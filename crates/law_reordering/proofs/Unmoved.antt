-- Of files that are refused 3 to 7: a fault in a line that is no C or L line is the same fault at the same line in the other file.
use Prim.Native.Nat.{ℕ, suc, ◌+◌, ◌≤◌}
use native.Mathlib.Omega.{arith}
use mathlib.Core.Path.{◌≡◌, refl, sym, ap, ap₂, ◌∙◌, subst}
use mathlib.Core.Logic.{◌⊎◌, inl, inr}
use mathlib.Core.Bool.{Bool, true, false, cond, ◌||◌, true≢false, false≢true}
use mathlib.Core.Option.{Option, none, some}
use mathlib.Core.List.{List, [], ◌∷◌, ◌++◌}
use lib.ListN.{length, get_elem?}
use Rattle.calculus.specs.Tools.{all, first_failing}
use Rattle.calculus.specs.Trees.{Ty, Pat}
use Rattle.calculus.specs.Refusals.{Kind, type_line, pattern_line, iso_line, clause_line, let_line, Refusal, bad_line, misplaced, bad_field, bad_name, ceiling, too_long}
use Rattle.format.specs.Lines.{Row, lines, row_of}
use Rattle.format.specs.Judge.{Seen, start, stage, in_order, fields_fit, named, within_ceilings, judge, after_kind, after, after_all, Reading, rows, faulty, with_row, on_row, on_judged, read_from}
use Rattle.model.specs.Services.{refused, over, after_reading, verdict, check_by, check}
use Rattle.law_reordering.specs.Reordered.{is_clause, is_let, is_block, is_whole, Reordered, SameButOrder}
use Rattle.calculus.proofs.Basic.{some_inj, and_true, le_leb, leb_le, not_leb, none_failing, true_or_left, true_or_right}
use Rattle.format.proofs.Passing.{Passes, done, next}
use Rattle.format.proofs.Turning.{passes_next}
use Rattle.law_reordering.proofs.Moving.{seen, block_after, block_needs, block_pass}
use Rattle.law_reordering.proofs.Reading.{Rows, rows_lets, row_clause, no_let}
use Rattle.format.proofs.Printing.{rows≢faulty}
use Rattle.law_reordering.proofs.Files.{same_over}

-- reading stops at a line with a refusal: the rows above it pass, the line is of no form or its row is refused
pub data Stops : Seen → ℕ → List (List ℕ) → Refusal → ℕ → List ℕ → Type 0 where
  bad : {s : Seen} {n m : ℕ} {l k : List ℕ} {ls : List (List ℕ)} {f : Refusal} → row_of l ≡ none → f ≡ bad_line → m ≡ n → k ≡ l → Stops s n (l ∷ ls) f m k
  judged : {s : Seen} {n m : ℕ} {l k : List ℕ} {ls : List (List ℕ)} {f : Refusal} (r : Row) → row_of l ≡ some r → judge s r ≡ some f → m ≡ n → k ≡ l
      → Stops s n (l ∷ ls) f m k
  past : {s : Seen} {n m : ℕ} {l k : List ℕ} {ls : List (List ℕ)} {f : Refusal} (r : Row) → row_of l ≡ some r → judge s r ≡ none
      → Stops (after s r) (suc n) ls f m k → Stops s n (l ∷ ls) f m k

pub with_row_faulty : (r : Row) (x : Reading) (f : Refusal) (n : ℕ) → with_row r x ≡ faulty f n → x ≡ faulty f n
with_row_faulty r (rows rs) f n e = absurd (rows≢faulty e)
with_row_faulty r (faulty g m) f n e = e

pub stops_of : (s : Seen) (n : ℕ) (xs : List (List ℕ)) (f : Refusal) (m : ℕ) → read_from s n xs ≡ faulty f m → (l : List ℕ) × Stops s n xs f m l
stops_of s n [] f m e = absurd (rows≢faulty e)
stops_of s n (l ∷ ls) f m e = go (row_of l) refl e (λ r. stops_of (after s r) (suc n) ls f m)
  where
    go : (o : Option Row) → row_of l ≡ o → on_row n o (λ r. on_judged n (judge s r) (λ _. with_row r (read_from (after s r) (suc n) ls))) ≡ faulty f m
        → ((r : Row) → read_from (after s r) (suc n) ls ≡ faulty f m → (k : List ℕ) × Stops (after s r) (suc n) ls f m k) → (k : List ℕ) × Stops s n (l ∷ ls) f m k
    go none h e below =
        let p : f ≡ bad_line = cc in
        let q : m ≡ n = cc in
        (l, Stops.bad h p q refl)
    go (some r) h e below = on (judge s r) refl e
      where
        on : (o : Option Refusal) → judge s r ≡ o → on_judged n o (λ _. with_row r (read_from (after s r) (suc n) ls)) ≡ faulty f m → (k : List ℕ) × Stops s n (l ∷ ls) f m k
        on none j e = let t = below r (with_row_faulty r (read_from (after s r) (suc n) ls) f m e) in (t.0, Stops.past r h j t.1)
        on (some g) j e =
            let p : g ≡ f = cc in
            let q : m ≡ n = cc in
            (l, Stops.judged r h (j ∙ ap some p) q refl)

pub of_stops : {s : Seen} {n : ℕ} {xs : List (List ℕ)} {f : Refusal} {m : ℕ} {l : List ℕ} → Stops s n xs f m l → read_from s n xs ≡ faulty f m
of_stops (Stops.bad {s} {n} {ls = ls} h e p k) =
    ap (λ o. on_row n o (λ r. on_judged n (judge s r) (λ _. with_row r (read_from (after s r) (suc n) ls)))) h ∙ ap₂ faulty (sym e) (sym p)
of_stops (Stops.judged {s} {n} {ls = ls} {f} r h j p k) =
    ap (λ o. on_row n o (λ r. on_judged n (judge s r) (λ _. with_row r (read_from (after s r) (suc n) ls)))) h
    ∙ ap (λ o. on_judged n o (λ _. with_row r (read_from (after s r) (suc n) ls))) j
    ∙ ap (faulty f) (sym p)
of_stops (Stops.past {s} {n} {ls = ls} r h j t) =
    ap (λ o. on_row n o (λ r. on_judged n (judge s r) (λ _. with_row r (read_from (after s r) (suc n) ls)))) h
    ∙ ap (λ o. on_judged n o (λ _. with_row r (read_from (after s r) (suc n) ls))) j
    ∙ ap (with_row r) (of_stops t)

-- lines that pass, and others behind them
pub record Beyond (s : Seen) (n : ℕ) (xs ys : List (List ℕ)) (f : Refusal) (m : ℕ) (l : List ℕ) : Type 0 where
  pub above : List Row
  pub rows_are : Rows xs above
  pub passes : Passes s above
  pub stops : Stops (after_all s above) (length xs + n) ys f m l

pub split : (s : Seen) (n : ℕ) (xs ys : List (List ℕ)) {f : Refusal} {m : ℕ} {l : List ℕ} → Stops s n (xs ++ ys) f m l → Stops s n xs f m l ⊎ Beyond s n xs ys f m l
split s n [] ys {f} {m} {l} t =
    let z : n ≡ 0 + n = omega arith in inr (record { above = []; rows_are = Rows.no; passes = done; stops = subst (λ k. Stops s k ys f m l) z t })
split s n (x ∷ xs) ys (Stops.bad h e p k) = inl (Stops.bad h e p k)
split s n (x ∷ xs) ys (Stops.judged r h j p k) = inl (Stops.judged r h j p k)
split s n (x ∷ xs) ys {f} {m} {l} (Stops.past r h j t) = go (split (after s r) (suc n) xs ys t)
  where
    go : Stops (after s r) (suc n) xs f m l ⊎ Beyond (after s r) (suc n) xs ys f m l → Stops s n (x ∷ xs) f m l ⊎ Beyond s n (x ∷ xs) ys f m l
    go (inl u) = inl (Stops.past r h j u)
    go (inr b) =
        let z : length xs + suc n ≡ suc (length xs) + n = omega arith in
        inr (record { above = r ∷ b.above; rows_are = Rows.more h b.rows_are; passes = next j b.passes; stops = subst (λ k. Stops (after_all (after s r) b.above) k ys f m l) z b.stops })

pub join_front : (s : Seen) (n : ℕ) (xs ys : List (List ℕ)) {f : Refusal} {m : ℕ} {l : List ℕ} → Stops s n xs f m l → Stops s n (xs ++ ys) f m l
join_front s n (x ∷ xs) ys (Stops.bad h e p k) = Stops.bad h e p k
join_front s n (x ∷ xs) ys (Stops.judged r h j p k) = Stops.judged r h j p k
join_front s n (x ∷ xs) ys (Stops.past r h j t) = Stops.past r h j (join_front (after s r) (suc n) xs ys t)
join_front s n [] ys {f = f} {m = m} {l = l} x' = elim x' [ ]

pub join : (s : Seen) (n : ℕ) (xs ys : List (List ℕ)) (rs : List Row) {f : Refusal} {m : ℕ} {l : List ℕ} → Rows xs rs → Passes s rs
    → Stops (after_all s rs) (length xs + n) ys f m l → Stops s n (xs ++ ys) f m l
join s n [] ys [] {f} {m} {l} Rows.no p t = let z : 0 + n ≡ n = omega arith in subst (λ k. Stops s k ys f m l) z t
join s n (x ∷ xs) ys (r ∷ rs) {f} {m} {l} (Rows.more h q) p t =
    let j = passes_next p in
    let z : suc (length xs) + n ≡ length xs + suc n = omega arith in
    Stops.past r h j.0 (join (after s r) (suc n) xs ys rs q j.1 (subst (λ k. Stops (after_all (after s r) rs) k ys f m l) z t))
join s n [] ys (r ∷ rs) {f = f} {m = m} {l = l} x6 p t = elim x6 [ ]
join s n (x ∷ xs) ys [] {f = f} {m = m} {l = l} x6 p t = elim x6 [ ]

-- ---- blocks

abbrev Moves : List ℕ → Bool
Moves l = is_clause l || is_let l

in_lets : {s : Seen} {n m : ℕ} (xs : List (List ℕ)) {f : Refusal} {l : List ℕ} → all is_let xs ≡ true → Stops s n xs f m l → Moves l ≡ true
in_lets (x ∷ xs) {l = l} h (Stops.bad e g p k) = true_or_right (is_clause l) (ap is_let k ∙ (and_true (is_let x) (all is_let xs) h).0)
in_lets (x ∷ xs) {l = l} h (Stops.judged r e j p k) = true_or_right (is_clause l) (ap is_let k ∙ (and_true (is_let x) (all is_let xs) h).0)
in_lets (x ∷ xs) h (Stops.past r e j t) = in_lets xs (and_true (is_let x) (all is_let xs) h).1 t
in_lets {s = s} {n = n} {m = m} [] {f = f} {l = l} h x'' = elim x'' [ ]

in_block : {s : Seen} {n m : ℕ} (xs : List (List ℕ)) {f : Refusal} {l : List ℕ} → is_block xs ≡ true → Stops s n xs f m l → Moves l ≡ true
in_block (x ∷ xs) {l = l} h (Stops.bad e g p k) = true_or_left (is_let l) (ap is_clause k ∙ (and_true (is_clause x) (all is_let xs) h).0)
in_block (x ∷ xs) {l = l} h (Stops.judged r e j p k) = true_or_left (is_let l) (ap is_clause k ∙ (and_true (is_clause x) (all is_let xs) h).0)
in_block (x ∷ xs) h (Stops.past r e j t) = in_lets xs (and_true (is_clause x) (all is_let xs) h).1 t
in_block {s = s} {n = n} {m = m} [] {f = f} {l = l} h x'' = elim x'' [ ]

-- what follows a clause is judged alike behind any other clause
module _ (ts : List Ty) (ps : List Pat) (n : ℕ) where
  judge_same : (a b : Option Kind) (k m m' : ℕ) → 3 ≤ stage a → 3 ≤ stage b → (r : Row) → (r.kind ≡ let_line → ⊥) → judge (seen ts ps n a k m) r ≡ judge (seen ts ps n b k m') r
  unfolding judge
  judge_same a b k m m' h g r w = step r.kind w
    where
      step : (κ : Kind) → (κ ≡ let_line → ⊥)
          → first_failing ((in_order a κ, misplaced κ) ∷ (fields_fit κ r, bad_field κ) ∷ (named (seen ts ps n a k m) κ r, bad_name κ) ∷ (within_ceilings (seen ts ps n a k m) κ r, ceiling κ) ∷ [])
          ≡ first_failing ((in_order b κ, misplaced κ) ∷ (fields_fit κ r, bad_field κ) ∷ (named (seen ts ps n b k m') κ r, bad_name κ) ∷ (within_ceilings (seen ts ps n b k m') κ r, ceiling κ) ∷ [])
      step type_line v = ap (λ z. first_failing
          ((z, misplaced type_line) ∷ (fields_fit type_line r, bad_field type_line) ∷ (named (seen ts ps n a k m) type_line r, bad_name type_line) ∷
          (within_ceilings (seen ts ps n a k m) type_line r, ceiling type_line) ∷ []))
          (not_leb {m = stage a} {n = 0} (omega arith) ∙ sym (not_leb {m = stage b} {n = 0} (omega arith)))
      step pattern_line v = ap
          (λ z. first_failing ((z, misplaced pattern_line) ∷ (fields_fit pattern_line r, bad_field pattern_line) ∷ (named (seen ts ps n a k m) pattern_line r, bad_name pattern_line) ∷
          (within_ceilings (seen ts ps n a k m) pattern_line r, ceiling pattern_line) ∷ []))
          (not_leb {m = stage a} {n = 1} (omega arith) ∙ sym (not_leb {m = stage b} {n = 1} (omega arith)))
      step iso_line v = refl
      step clause_line v = ap
          (λ z. first_failing ((z, misplaced clause_line) ∷ (fields_fit clause_line r, bad_field clause_line) ∷ (named (seen ts ps n a k m) clause_line r, bad_name clause_line) ∷
          (within_ceilings (seen ts ps n a k m) clause_line r, ceiling clause_line) ∷ []))
          (le_leb {m = 2} {n = stage a} (omega arith) ∙ sym (le_leb {m = 2} {n = stage b} (omega arith)))
      step let_line v = absurd (v refl)

  late_none : (a : Option Kind) (k m : ℕ) → 3 ≤ stage a → (r : Row) → judge (seen ts ps n a k m) r ≡ none → (b : Option Kind) (m' : ℕ) → (r.kind ≡ let_line → ⊥)
      → after (seen ts ps n a k m) r ≡ after (seen ts ps n b k m') r
  unfolding judge
  late_none a k m h r j b m' w = step r.kind w j
    where
      rest : Kind → Option Refusal
      rest κ = first_failing ((fields_fit κ r, bad_field κ) ∷ (named (seen ts ps n a k m) κ r, bad_name κ) ∷ (within_ceilings (seen ts ps n a k m) κ r, ceiling κ) ∷ [])

      step : (κ : Kind) → (κ ≡ let_line → ⊥)
          → first_failing ((in_order a κ, misplaced κ) ∷ (fields_fit κ r, bad_field κ) ∷ (named (seen ts ps n a k m) κ r, bad_name κ) ∷ (within_ceilings (seen ts ps n a k m) κ r, ceiling κ)
          ∷ []) ≡ none
          → after_kind κ (seen ts ps n a k m) r ≡ after_kind κ (seen ts ps n b k m') r
      step type_line v e = let o = leb_le (stage a) 0 (none_failing (in_order a type_line) (misplaced type_line) (rest type_line) e).0 in absurd (omega arith)
      step pattern_line v e = let o = leb_le (stage a) 1 (none_failing (in_order a pattern_line) (misplaced pattern_line) (rest pattern_line) e).0 in absurd (omega arith)
      step iso_line v e = refl
      step clause_line v e = refl
      step let_line v e = absurd (v refl)

  behind_stops : (xs : List (List ℕ)) → is_whole xs ≡ true → (a b : Option Kind) (k m m' i : ℕ) → 3 ≤ stage a → 3 ≤ stage b → {f : Refusal} {j : ℕ} {l : List ℕ}
      → Stops (seen ts ps n a k m) i xs f j l → Stops (seen ts ps n b k m') i xs f j l
  behind_stops (x ∷ xs) w a b k m m' i h g (Stops.bad e q p z) = Stops.bad e q p z
  behind_stops (x ∷ xs) w a b k m m' i h g (Stops.judged r e j p z) =
      let v : r.kind ≡ let_line → ⊥ = no_let x e w in
      Stops.judged r e (sym (judge_same a b k m m' h g r v) ∙ j) p z
  behind_stops (x ∷ xs) w a b k m m' i h g {f = f} {j = q} {l = l} (Stops.past r e j t) =
      let v : r.kind ≡ let_line → ⊥ = no_let x e w in
      Stops.past r e (sym (judge_same a b k m m' h g r v) ∙ j) (subst (λ s. Stops s (suc i) xs f q l) (late_none a k m h r j b m' v) t)
  behind_stops [] w a b k m m' i h g {f = f} {j = q} {l = l} x4 = elim x4 [ ]

two_blocks : (s : Seen) (i : ℕ) (one two behind : List (List ℕ)) (B C : List Row) → is_block one ≡ true → is_block two ≡ true → is_whole behind ≡ true
    → Rows one B → Rows two C → Passes s B → Passes (after_all s B) C → {f : Refusal} {m : ℕ} {l : List ℕ}
    → Stops (after_all (after_all s B) C) (length two + (length one + i)) behind f m l → Stops s i (two ++ (one ++ behind)) f m l
two_blocks s i [] two behind B C h k w qb qc p₁ p₂ t = absurd (false≢true h)
two_blocks s i (x ∷ xs) [] behind B C h k w qb qc p₁ p₂ t = absurd (false≢true k)
two_blocks s i (x ∷ xs) (y ∷ ys) behind (c ∷ ls) (d ∷ ms) h k w (Rows.more rc qc) (Rows.more rd qd) p₁ p₂ {f = f} {m = m} {l = l} t =
    let hx = and_true (is_clause x) (all is_let xs) h in
    let hy = and_true (is_clause y) (all is_let ys) k in
    let ec = row_clause x rc hx.0 in
    let ed = row_clause y rd hy.0 in
    let ul = rows_lets qc hx.1 in
    let um = rows_lets qd hy.1 in
    let ts : List Ty = s.types in
    let ps : List Pat = s.patterns in
    let n : ℕ = s.isos in
    let z : ℕ = s.clauses in
    let n₁ = block_needs ts ps n c ls ec s.above z s.lets p₁ in
    let b₁ = block_after ts ps n c ls ec ul s.above z s.lets in
    let p₃ = subst (λ r. Passes r (d ∷ ms)) b₁.is p₂ in
    let n₂ = block_needs ts ps n d ms ed b₁.above (suc z) b₁.lets p₃ in
    let b₂ = block_after ts ps n d ms ed um b₁.above (suc z) b₁.lets in
    let b₃ = block_after ts ps n d ms ed um s.above z s.lets in
    let l₃ = b₃.late in
    let b₄ = block_after ts ps n c ls ec ul b₃.above (suc z) b₃.lets in
    let q₁ = block_pass ts ps n d ms ed um b₁.above s.above (suc z) z b₁.lets s.lets p₃ n₁.0 n₁.1 in
    let q₂ = block_pass ts ps n c ls ec ul s.above b₃.above z (suc z) s.lets b₃.lets p₁ (omega arith) n₂.1 in
    let a : ℕ = length (x ∷ xs) in
    let b : ℕ = length (y ∷ ys) in
    let u = behind_stops ts ps n behind w b₂.above b₄.above (suc (suc z)) b₂.lets b₄.lets (b + (a + i)) b₂.late b₄.late
    (subst (λ r. Stops r (b + (a + i)) behind f m l) (ap (λ r. after_all r (d ∷ ms)) b₁.is ∙ b₂.is) t) in
    let e : b + (a + i) ≡ a + (b + i) = omega arith in
    let v = subst (λ r. Stops r (a + (b + i)) behind f m l) (sym b₄.is) (subst (λ j. Stops (seen ts ps n b₄.above (suc (suc z)) b₄.lets) j behind f m l) e u) in
    let o = join (seen ts ps n b₃.above (suc z) b₃.lets) (b + i) (x ∷ xs) behind (c ∷ ls) (Rows.more rc qc) q₂ v in
    join s i (y ∷ ys) ((x ∷ xs) ++ behind) (d ∷ ms) (Rows.more rd qd) q₁ (subst (λ r. Stops r (b + i) ((x ∷ xs) ++ behind) f m l) (sym b₃.is) o)
two_blocks s i (x ∷ xs) (y ∷ ys) behind [] C h k w qb qc p₁ p₂ {f = f} {m = m} {l = l} t = elim qb [ ]
two_blocks s i (x ∷ xs) (y ∷ ys) behind (c ∷ ls) [] h k w qb qc p₁ p₂ {f = f} {m = m} {l = l} t = elim qc [ ]

module _ {f : Refusal} {m : ℕ} {l : List ℕ} (still : Moves l ≡ false) where
  stops_four : (before one two behind : List (List ℕ)) → is_block one ≡ true → is_block two ≡ true → is_whole behind ≡ true
      → Stops start 1 (before ++ (one ++ (two ++ behind))) f m l → Stops start 1 (before ++ (two ++ (one ++ behind))) f m l
  stops_four before one two behind h k w t = first (split start 1 before (one ++ (two ++ behind)) t)
    where
      third : (A B : List Row) → Rows before A → Rows one B → Passes start A → Passes (after_all start A) B
          → Stops (after_all (after_all start A) B) (length one + (length before + 1)) two f m l
          ⊎ Beyond (after_all (after_all start A) B) (length one + (length before + 1)) two behind f m l
          → Stops start 1 (before ++ (two ++ (one ++ behind))) f m l
      third A B qa qb pa pb (inl u) = absurd (true≢false (sym (in_block two k u) ∙ still))
      third A B qa qb pa pb (inr b) =
          join start 1 before (two ++ (one ++ behind)) A qa pa
          (two_blocks (after_all start A) (length before + 1) one two behind B b.above h k w qb b.rows_are pb b.passes b.stops)

      second : (A : List Row) → Rows before A → Passes start A
          → Stops (after_all start A) (length before + 1) one f m l ⊎ Beyond (after_all start A) (length before + 1) one (two ++ behind) f m l
          → Stops start 1 (before ++ (two ++ (one ++ behind))) f m l
      second A qa pa (inl u) = absurd (true≢false (sym (in_block one h u) ∙ still))
      second A qa pa (inr b) =
          third A b.above qa b.rows_are pa b.passes (split (after_all (after_all start A) b.above) (length one + (length before + 1)) two behind b.stops)

      first : Stops start 1 before f m l ⊎ Beyond start 1 before (one ++ (two ++ behind)) f m l → Stops start 1 (before ++ (two ++ (one ++ behind))) f m l
      first (inl u) = join_front start 1 before (two ++ (one ++ behind)) u
      first (inr b) = second b.above b.rows_are b.passes (split (after_all start b.above) (length before + 1) one (two ++ behind) b.stops)

  pub stops_reordered : {xs ys : List (List ℕ)} → Reordered xs ys → Stops start 1 xs f m l → Stops start 1 ys f m l
  stops_reordered (Reordered.same e) t = subst (λ z. Stops start 1 z f m l) e t
  stops_reordered (Reordered.exchange x r) t =
      stops_reordered r
      (subst (λ z. Stops start 1 z f m l) (sym x.there)
      (stops_four x.before x.one x.two x.behind x.one_block x.two_block x.whole (subst (λ z. Stops start 1 z f m l) x.here t)))

-- the line where reading stops
pub stops_line : {s : Seen} {n : ℕ} {xs : List (List ℕ)} {f : Refusal} {m : ℕ} {l : List ℕ} → Stops s n xs f m l → (k : ℕ) × (m ≡ k + n) × (get_elem? xs k ≡ some l)
stops_line (Stops.bad {n = n} h e p k) = let z : n ≡ 0 + n = omega arith in (0, p ∙ z, ap some (sym k))
stops_line (Stops.judged {n = n} r h j p k) = let z : n ≡ 0 + n = omega arith in (0, p ∙ z, ap some (sym k))
stops_line (Stops.past {n = n} r h j t) =
    let (k, p, q) = stops_line t in
    let z : k + suc n ≡ suc k + n = omega arith in
    (suc k, p ∙ z, q)

-- Where a file of at most 65,536 bytes and 4,096 lines is refused 3 to 7 at a line that is no C or L line, Check answers the same for the other and leaves
-- the same in every lent area.
pub unmoved : (file other : List ℕ) → SameButOrder file other → over file ≡ false → (f : Refusal) (k : ℕ) (l : List ℕ)
    → read_from start 1 (lines file) ≡ faulty f (suc k) → get_elem? (lines file) k ≡ some l → (is_clause l || is_let l) ≡ false
    → (table work : List ℕ) → check file table work ≡ check other table work
unfolding check verdict
unmoved file other r h f k l e i still table work =
    let (m, t) = stops_of start 1 (lines file) f (suc k) e in
    let (j, p, q) = stops_line t in
    let z : k ≡ j = omega arith in
    let same : m ≡ l = some_inj (sym q ∙ ap (get_elem? (lines file)) (sym z) ∙ i) in
    let stays = of_stops (stops_reordered (ap (λ x. is_clause x || is_let x) same ∙ still) r t) in
    ap₂ (λ b o. check_by (cond b (refused too_long 0) (after_reading o)) table work) (same_over file other r) (e ∙ sym stays)
