-- Request 13: "Stored files … within the old ceiling keep their bytes and answers. The checker as it stood before this request meets a file that only the new ceiling
-- admits with 7 and never with a wrong setting." The verdicts; the line of 7 stands in proofs/Over.antt, every service in proofs/Services.antt.
use Prim.Native.Nat.{ℕ, suc, ◌+◌, ◌≤◌}
use native.Mathlib.Omega.{arith}
use mathlib.Core.Path.{◌≡◌, refl, sym, ap, ◌∙◌, subst}
use mathlib.Core.Logic.{◌⊎◌, inl, inr, ◌↔◌}
use mathlib.Core.Bool.{Bool, true, false, cond, ◌&&◌, ◌||◌, false≢true}
use mathlib.Core.Option.{Option, none, some}
use mathlib.Core.List.{List, [], ◌∷◌, Memᴰ}
use lib.Dec.{ltb}
use lib.ListN.{length}
use Rattle.limits.specs.Limits.{max_clauses, result_length}
use Rattle.calculus.specs.Tools.{first_failing, stages}
use Rattle.calculus.specs.Trees.{Ty, Pat, Iso}
use Rattle.calculus.specs.Refusals.{Kind, type_line, pattern_line, iso_line, clause_line, let_line, Refusal, misplaced, bad_field, bad_name, ceiling, too_long}
use Rattle.format.specs.Lines.{Row, lines, row_of}
use Rattle.format.specs.Judge.{Seen, start, in_order, fields_fit, named, within_ceilings, judge, after_kind, after, after_all, stage, Reading, rows, faulty, with_row, on_row, on_judged, read_from}
use Rattle.format.specs.Unfold.{Tail, place, tail_from, isos_of}
use Rattle.format.proofs.Printing.{rows_inj, rows≢faulty}
use Rattle.format.proofs.Passing.{Passes, done, next, Fit, judge_fit}
use Rattle.model.specs.Services.{Verdict, accepted, refused, file_tests, after_reading, over, verdict, short, serve, ran_by, run_on, RunResult, run_by, run_service}
use Rattle.model.proofs.Files.{refused≢accepted, accepted_form, judged_accepted, passes_read}
use Rattle.calculus.proofs.Basic.{and_true, true_and, ltb_lt, lt_ltb, ltb_false, none_failing, leb_le, each_nil, each_cons}
use Rattle.law_witnesses.specs.Showing.{shown_of, showing}
use Rattle.law_longer.specs.Former.{former_clauses, within_former, former_judge, former_read, former, former_showing, FewClauses}

-- ---- a row

-- the two judges agree, or only today's passes the row, and it is the 33rd C line of its iso or a later one
pub data JudgeCases (s : Seen) (r : Row) : Type 0 where
  alike : former_judge s r ≡ judge s r → JudgeCases s r
  newly : judge s r ≡ none → former_judge s r ≡ some (ceiling clause_line) → r.kind ≡ clause_line → former_clauses ≤ s.clauses → JudgeCases s r

pub judge_cases : (s : Seen) (r : Row) → JudgeCases s r
unfolding judge former_judge
judge_cases s r = go r.kind refl
  where
    clause : (p q c d : Bool) → (c ≡ true → d ≡ true) → (c ≡ false → former_clauses ≤ s.clauses)
        → (first_failing ((p, misplaced clause_line) ∷ (true, bad_field clause_line) ∷ (q, bad_name clause_line) ∷ (c, ceiling clause_line) ∷ [])
        ≡ first_failing ((p, misplaced clause_line) ∷ (true, bad_field clause_line) ∷ (q, bad_name clause_line) ∷ (d, ceiling clause_line) ∷ []))
        ⊎ ((first_failing ((p, misplaced clause_line) ∷ (true, bad_field clause_line) ∷ (q, bad_name clause_line) ∷ (d, ceiling clause_line) ∷ []) ≡ none)
        × (first_failing ((p, misplaced clause_line) ∷ (true, bad_field clause_line) ∷ (q, bad_name clause_line) ∷ (c, ceiling clause_line) ∷ []) ≡ some (ceiling clause_line))
        × (former_clauses ≤ s.clauses))
    clause false q c d h l = inl refl
    clause true false c d h l = inl refl
    clause true true true true h l = inl refl
    clause true true true false h l = absurd (false≢true (h refl))
    clause true true false true h l = inr (refl, refl, l refl)
    clause true true false false h l = inl refl

    go : (k : Kind) → r.kind ≡ k → JudgeCases s r
    go type_line e = JudgeCases.alike
        (ap (λ k. first_failing ((in_order s.above k, misplaced k) ∷ (fields_fit k r, bad_field k) ∷ (named s k r, bad_name k) ∷ (within_former s k r, ceiling k) ∷ [])) e ∙ sym
        (ap (λ k. first_failing ((in_order s.above k, misplaced k) ∷ (fields_fit k r, bad_field k) ∷ (named s k r, bad_name k) ∷ (within_ceilings s k r, ceiling k) ∷ [])) e))
    go pattern_line e = JudgeCases.alike
        (ap (λ k. first_failing ((in_order s.above k, misplaced k) ∷ (fields_fit k r, bad_field k) ∷ (named s k r, bad_name k) ∷ (within_former s k r, ceiling k) ∷ [])) e ∙ sym
        (ap (λ k. first_failing ((in_order s.above k, misplaced k) ∷ (fields_fit k r, bad_field k) ∷ (named s k r, bad_name k) ∷ (within_ceilings s k r, ceiling k) ∷ [])) e))
    go iso_line e = JudgeCases.alike
        (ap (λ k. first_failing ((in_order s.above k, misplaced k) ∷ (fields_fit k r, bad_field k) ∷ (named s k r, bad_name k) ∷ (within_former s k r, ceiling k) ∷ [])) e ∙ sym
        (ap (λ k. first_failing ((in_order s.above k, misplaced k) ∷ (fields_fit k r, bad_field k) ∷ (named s k r, bad_name k) ∷ (within_ceilings s k r, ceiling k) ∷ [])) e))
    go let_line e = JudgeCases.alike
        (ap (λ k. first_failing ((in_order s.above k, misplaced k) ∷ (fields_fit k r, bad_field k) ∷ (named s k r, bad_name k) ∷ (within_former s k r, ceiling k) ∷ [])) e ∙ sym
        (ap (λ k. first_failing ((in_order s.above k, misplaced k) ∷ (fields_fit k r, bad_field k) ∷ (named s k r, bad_name k) ∷ (within_ceilings s k r, ceiling k) ∷ [])) e))
    go clause_line e =
        on
        (clause (in_order s.above clause_line) (named s clause_line r) (ltb s.clauses former_clauses) (ltb s.clauses max_clauses)
        (λ c. let l = ltb_lt s.clauses former_clauses c in lt_ltb {m = s.clauses} {n = max_clauses} (omega arith))
        (λ c. ltb_false s.clauses former_clauses c))
      where
        to_former : former_judge s r ≡ first_failing
            ((in_order s.above clause_line, misplaced clause_line) ∷ (true, bad_field clause_line) ∷ (named s clause_line r, bad_name clause_line) ∷
            (ltb s.clauses former_clauses, ceiling clause_line) ∷ [])
        to_former = ap (λ k. first_failing ((in_order s.above k, misplaced k) ∷ (fields_fit k r, bad_field k) ∷ (named s k r, bad_name k) ∷ (within_former s k r, ceiling k) ∷ [])) e

        to_today : judge s r ≡ first_failing
            ((in_order s.above clause_line, misplaced clause_line) ∷ (true, bad_field clause_line) ∷ (named s clause_line r, bad_name clause_line)
            ∷ (ltb s.clauses max_clauses, ceiling clause_line) ∷ [])
        to_today = ap (λ k. first_failing ((in_order s.above k, misplaced k) ∷ (fields_fit k r, bad_field k) ∷ (named s k r, bad_name k) ∷ (within_ceilings s k r, ceiling k) ∷ [])) e

        on : (first_failing ((in_order s.above clause_line, misplaced clause_line) ∷ (true, bad_field clause_line) ∷ (named s clause_line r, bad_name clause_line) ∷
            (ltb s.clauses former_clauses, ceiling clause_line) ∷ [])
            ≡ first_failing ((in_order s.above clause_line, misplaced clause_line) ∷ (true, bad_field clause_line) ∷ (named s clause_line r, bad_name clause_line) ∷
            (ltb s.clauses max_clauses, ceiling clause_line) ∷ []))
            ⊎ ((first_failing ((in_order s.above clause_line, misplaced clause_line) ∷ (true, bad_field clause_line) ∷ (named s clause_line r, bad_name clause_line) ∷
            (ltb s.clauses max_clauses, ceiling clause_line) ∷ []) ≡ none)
            × (first_failing ((in_order s.above clause_line, misplaced clause_line) ∷ (true, bad_field clause_line) ∷ (named s clause_line r, bad_name clause_line) ∷
            (ltb s.clauses former_clauses, ceiling clause_line) ∷ []) ≡ some (ceiling clause_line))
            × (former_clauses ≤ s.clauses)) → JudgeCases s r
        on (inl x) = JudgeCases.alike (to_former ∙ x ∙ sym to_today)
        on (inr x) = JudgeCases.newly (to_today ∙ x.0) (to_former ∙ x.1) e x.2

-- ---- the lines

-- the two readings agree, or the former one ends with 7 at a C line
pub data ReadCases (s : Seen) (n : ℕ) (ls : List (List ℕ)) : Type 0 where
  alike : former_read s n ls ≡ read_from s n ls → ReadCases s n ls
  seven : (m : ℕ) → former_read s n ls ≡ faulty (ceiling clause_line) m → ReadCases s n ls

pub read_cases : (s : Seen) (n : ℕ) (ls : List (List ℕ)) → ReadCases s n ls
read_cases s n [] = ReadCases.alike refl
read_cases s n (l ∷ ls) = go (row_of l) refl (λ r. read_cases (after s r) (suc n) ls)
  where
    old : Row → Reading
    old r = on_judged n (former_judge s r) (λ _. with_row r (former_read (after s r) (suc n) ls))

    new : Row → Reading
    new r = on_judged n (judge s r) (λ _. with_row r (read_from (after s r) (suc n) ls))

    go : (o : Option Row) → row_of l ≡ o → ((r : Row) → ReadCases (after s r) (suc n) ls) → ReadCases s n (l ∷ ls)
    go none e below = ReadCases.alike
        (ap (λ o. on_row n o (λ r. on_judged n (former_judge s r) (λ _. with_row r (former_read (after s r) (suc n) ls)))) e ∙ sym
        (ap (λ o. on_row n o (λ r. on_judged n (judge s r) (λ _. with_row r (read_from (after s r) (suc n) ls)))) e))
    go (some r) e below = on (judge_cases s r) (judge s r) refl (below r)
      where
        left : former_read s n (l ∷ ls) ≡ on_judged n (former_judge s r) (λ _. with_row r (former_read (after s r) (suc n) ls))
        left = ap (λ o. on_row n o (λ r. on_judged n (former_judge s r) (λ _. with_row r (former_read (after s r) (suc n) ls)))) e

        right : read_from s n (l ∷ ls) ≡ on_judged n (judge s r) (λ _. with_row r (read_from (after s r) (suc n) ls))
        right = ap (λ o. on_row n o (λ r. on_judged n (judge s r) (λ _. with_row r (read_from (after s r) (suc n) ls)))) e

        on : JudgeCases s r → (x : Option Refusal) → judge s r ≡ x → ReadCases (after s r) (suc n) ls → ReadCases s n (l ∷ ls)
        on (JudgeCases.newly a b c d) x j below =
            ReadCases.seven n (left ∙ ap (λ z. on_judged n z (λ _. with_row r (former_read (after s r) (suc n) ls))) b)
        on (JudgeCases.alike a) (some f) j below =
            ReadCases.alike
            (left ∙ ap (λ z. on_judged n z (λ _. with_row r (former_read (after s r) (suc n) ls))) (a ∙ j)
            ∙ sym (right ∙ ap (λ z. on_judged n z (λ _. with_row r (read_from (after s r) (suc n) ls))) j))
        on (JudgeCases.alike a) none j (ReadCases.alike b) =
            ReadCases.alike
            (left ∙ ap (λ z. on_judged n z (λ _. with_row r (former_read (after s r) (suc n) ls))) (a ∙ j) ∙ ap (with_row r) b
            ∙ sym (right ∙ ap (λ z. on_judged n z (λ _. with_row r (read_from (after s r) (suc n) ls))) j))
        on (JudgeCases.alike a) none j (ReadCases.seven m b) =
            ReadCases.seven m (left ∙ ap (λ z. on_judged n z (λ _. with_row r (former_read (after s r) (suc n) ls))) (a ∙ j) ∙ ap (with_row r) b)

-- ---- files

-- For any bytes the former verdict is today's, or it is 7 at a C line: "never with a wrong setting".
pub data Verdicts (bs : List ℕ) : Type 0 where
  alike : former bs ≡ verdict bs → Verdicts bs
  seven : (n : ℕ) → former bs ≡ refused (ceiling clause_line) n → Verdicts bs

pub verdicts : (bs : List ℕ) → Verdicts bs
unfolding verdict former
verdicts bs = go (over bs) refl (read_cases start 1 (lines bs))
  where
    go : (b : Bool) → over bs ≡ b → ReadCases start 1 (lines bs) → Verdicts bs
    go true e x =
        Verdicts.alike (ap (λ b. cond b (refused too_long 0) (after_reading (former_read start 1 (lines bs)))) e ∙ sym
        (ap (λ b. cond b (refused too_long 0) (after_reading (read_from start 1 (lines bs)))) e))
    go false e (ReadCases.alike x) = Verdicts.alike (ap (λ r. cond (over bs) (refused too_long 0) (after_reading r)) x)
    go false e (ReadCases.seven m x) =
        Verdicts.seven m (ap (λ b. cond b (refused too_long 0) (after_reading (former_read start 1 (lines bs)))) e ∙ ap after_reading x)

-- ---- within the old ceiling

abbrev pub kind_few : Kind → Seen → Bool
kind_few type_line s = true
kind_few pattern_line s = true
kind_few iso_line s = true
kind_few clause_line s = ltb s.clauses former_clauses
kind_few let_line s = true

abbrev pub few_rows : Seen → List Row → Bool
few_rows s [] = true
few_rows s (r ∷ rs) = kind_few r.kind s && few_rows (after s r) rs

record TailFew (k : ℕ) (o : Tail) : Type 0 where
  clauses : k + length o.clauses ≤ former_clauses
  isos : (i : Iso) → Memᴰ i o.isos → length i.clauses ≤ former_clauses

abbrev Few : Iso → Type 0
Few i = length i.clauses ≤ former_clauses

module _ (ts : List Ty) (ps : List Pat) where
  rows_tail : (s : Seen) (n : ℕ) (rs : List Row) → s.clauses ≤ former_clauses → few_rows s rs ≡ true → TailFew s.clauses (tail_from ts ps n rs)
  rows_tail s n [] h e = record { clauses = omega arith; isos = each_nil Few }
  rows_tail s n (r ∷ rs) h e = step r.kind e (λ z. rows_tail z (suc n) rs)
    where
      o : Tail
      o = tail_from ts ps (suc n) rs

      step : (k : Kind) → (kind_few k s && few_rows (after_kind k s r) rs) ≡ true
          → ((z : Seen) → z.clauses ≤ former_clauses → few_rows z rs ≡ true → TailFew z.clauses (tail_from ts ps (suc n) rs))
          → TailFew s.clauses (place ts ps k n r (tail_from ts ps (suc n) rs))
      step type_line e below = below (after_kind type_line s r) h e
      step pattern_line e below = below (after_kind pattern_line s r) h e
      step iso_line e below =
          let t = below (after_kind iso_line s r) (omega arith) e in
          let c = t.clauses in
          record { clauses = omega arith; isos = each_cons Few (omega arith) t.isos }
      step clause_line e below =
          let b = and_true (ltb s.clauses former_clauses) (few_rows (after_kind clause_line s r) rs) e in
          let l = ltb_lt s.clauses former_clauses b.0 in
          let t = below (after_kind clause_line s r) (omega arith) b.1 in
          let c = t.clauses in
          record { clauses = omega arith; isos = t.isos }
      step let_line e below = let t = below (after_kind let_line s r) h e in record { clauses = t.clauses; isos = t.isos }

  tail_rows : (s : Seen) (n : ℕ) (rs : List Row) → TailFew s.clauses (tail_from ts ps n rs) → few_rows s rs ≡ true
  tail_rows s n [] t = refl
  tail_rows s n (r ∷ rs) t = step r.kind t (λ z. tail_rows z (suc n) rs)
    where
      step : (k : Kind) → TailFew s.clauses (place ts ps k n r (tail_from ts ps (suc n) rs))
          → ((z : Seen) → TailFew z.clauses (tail_from ts ps (suc n) rs) → few_rows z rs ≡ true) → (kind_few k s && few_rows (after_kind k s r) rs) ≡ true
      step type_line t below = below (after_kind type_line s r) t
      step pattern_line t below = below (after_kind pattern_line s r) t
      step iso_line t below =
          let c = t.isos _ (Memᴰ.head refl) in
          below (after_kind iso_line s r) (record { clauses = omega arith; isos = λ i m. t.isos i (Memᴰ.tail m) })
      step clause_line t below =
          let c = t.clauses in
          true_and (lt_ltb {m = s.clauses} {n = former_clauses} (omega arith)) (below (after_kind clause_line s r) (record { clauses = omega arith; isos = t.isos }))
      step let_line t below = below (after_kind let_line s r) (record { clauses = t.clauses; isos = t.isos })

  -- no C line stands above the first I line
  front_clauses : {s : Seen} {rs : List Row} → Passes s rs → stage s.above ≤ 1 → (n : ℕ) → (tail_from ts ps n rs).clauses ≡ []
  front_clauses done h n = refl
  front_clauses (next {s = s} {r = r} {rs = rs} j d) h n = step r.kind (judge_fit s r j) (λ z. front_clauses d z (suc n))
    where
      step : (k : Kind) → Fit s k r → (stage (after_kind k s r).above ≤ 1 → (tail_from ts ps (suc n) rs).clauses ≡ []) → (place ts ps k n r (tail_from ts ps (suc n) rs)).clauses ≡ []
      step type_line f below = below (omega arith)
      step pattern_line f below = below (omega arith)
      step iso_line f below = refl
      step clause_line f below = let o = leb_le 2 (stage s.above) f.order in absurd (omega arith)
      step let_line f below = let o = leb_le 3 (stage s.above) f.order in absurd (omega arith)

-- no iso has over 32 clauses exactly where no C line is the 33rd of its iso
pub few_clauses : (rs : List Row) → Passes start rs → FewClauses rs ↔ (few_rows start rs ≡ true)
unfolding isos_of start
few_clauses rs d = (
  (λ h. tail_rows (after_all start rs).types (after_all start rs).patterns start 1 rs
      (record { clauses = let e = ap length (front_clauses (after_all start rs).types (after_all start rs).patterns d (omega arith) 1) in omega arith; isos = h })),
  (λ e. (rows_tail (after_all start rs).types (after_all start rs).patterns start 1 rs (omega arith) e).isos),
)

-- ---- the former reading of rows

pub former_few : (s : Seen) (r : Row) → former_judge s r ≡ none → kind_few r.kind s ≡ true
unfolding former_judge
former_few s r e =
    let k : Kind = r.kind in
    let e₁ = none_failing (in_order s.above k) (misplaced k) _ e in
    let e₂ = none_failing (fields_fit k r) (bad_field k) _ e₁.1 in
    let e₃ = none_failing (named s k r) (bad_name k) _ e₂.1 in
    let e₄ = none_failing (within_former s k r) (ceiling k) _ e₃.1 in
    step r.kind e₄.0
  where
    step : (k : Kind) → within_former s k r ≡ true → kind_few k s ≡ true
    step type_line h = refl
    step pattern_line h = refl
    step iso_line h = refl
    step clause_line h = h
    step let_line h = refl

pub few_former : (s : Seen) (r : Row) → judge s r ≡ none → kind_few r.kind s ≡ true → former_judge s r ≡ none
few_former s r j h = go (judge_cases s r)
  where
    go : JudgeCases s r → former_judge s r ≡ none
    go (JudgeCases.alike a) = a ∙ j
    go (JudgeCases.newly a b c d) = let l = ltb_lt s.clauses former_clauses (ap (λ k. kind_few k s) (sym c) ∙ h) in absurd (omega arith)

former_today : (s : Seen) (r : Row) → former_judge s r ≡ none → judge s r ≡ none
former_today s r e = go (judge_cases s r)
  where
    go : JudgeCases s r → judge s r ≡ none
    go (JudgeCases.alike a) = sym a ∙ e
    go (JudgeCases.newly a b c d) = a

pub with_row_rows : (r : Row) (x : Reading) (rs : List Row) → with_row r x ≡ rows rs → (qs : List Row) × (x ≡ rows qs) × (rs ≡ r ∷ qs)
with_row_rows r (rows qs) rs e = (qs, refl, sym (rows_inj e))
with_row_rows r (faulty f n) rs e = absurd (rows≢faulty (sym e))

-- rows read by both
pub few_read : (s : Seen) (n : ℕ) (ls : List (List ℕ)) (rs : List Row) → read_from s n ls ≡ rows rs → few_rows s rs ≡ true → former_read s n ls ≡ rows rs
few_read s n [] rs e h = e
few_read s n (l ∷ ls) rs e h = go (row_of l) refl (λ r. few_read (after s r) (suc n) ls)
  where
    go : (o : Option Row) → row_of l ≡ o
        → ((r : Row) (qs : List Row) → read_from (after s r) (suc n) ls ≡ rows qs → few_rows (after s r) qs ≡ true → former_read (after s r) (suc n) ls ≡ rows qs)
        → former_read s n (l ∷ ls) ≡ rows rs
    go none q below =
        absurd (rows≢faulty (sym e ∙ ap (λ o. on_row n o (λ r. on_judged n (judge s r) (λ _. with_row r (read_from (after s r) (suc n) ls)))) q))
    go (some r) q below = on (judge s r) refl
      where
        right : read_from s n (l ∷ ls) ≡ on_judged n (judge s r) (λ _. with_row r (read_from (after s r) (suc n) ls))
        right = ap (λ o. on_row n o (λ r. on_judged n (judge s r) (λ _. with_row r (read_from (after s r) (suc n) ls)))) q

        on : (x : Option Refusal) → judge s r ≡ x → former_read s n (l ∷ ls) ≡ rows rs
        on (some f) j = absurd (rows≢faulty (sym e ∙ right ∙ ap (λ z. on_judged n z (λ _. with_row r (read_from (after s r) (suc n) ls))) j))
        on none j =
            let w = with_row_rows r (read_from (after s r) (suc n) ls) rs (sym (right ∙ ap (λ z. on_judged n z (λ _. with_row r (read_from (after s r) (suc n) ls))) j) ∙ e) in
            let k = and_true (kind_few r.kind s) (few_rows (after s r) w.0) (ap (few_rows s) (sym w.2) ∙ h) in
            ap (λ o. on_row n o (λ r. on_judged n (former_judge s r) (λ _. with_row r (former_read (after s r) (suc n) ls)))) q
            ∙ ap (λ z. on_judged n z (λ _. with_row r (former_read (after s r) (suc n) ls))) (few_former s r j k.0)
            ∙ ap (with_row r) (below r w.0 w.1 k.1)
            ∙ ap rows (sym w.2)

pub read_few : (s : Seen) (n : ℕ) (ls : List (List ℕ)) (rs : List Row) → former_read s n ls ≡ rows rs → (read_from s n ls ≡ rows rs) × (few_rows s rs ≡ true)
read_few s n [] rs e = (e, ap (few_rows s) (sym (rows_inj e)))
read_few s n (l ∷ ls) rs e = go (row_of l) refl (λ r. read_few (after s r) (suc n) ls)
  where
    go : (o : Option Row) → row_of l ≡ o
        → ((r : Row) (qs : List Row) → former_read (after s r) (suc n) ls ≡ rows qs → (read_from (after s r) (suc n) ls ≡ rows qs) × (few_rows (after s r) qs ≡ true))
        → (read_from s n (l ∷ ls) ≡ rows rs) × (few_rows s rs ≡ true)
    go none q below =
        absurd (rows≢faulty (sym e ∙ ap (λ o. on_row n o (λ r. on_judged n (former_judge s r) (λ _. with_row r (former_read (after s r) (suc n) ls)))) q))
    go (some r) q below = on (former_judge s r) refl
      where
        left : former_read s n (l ∷ ls) ≡ on_judged n (former_judge s r) (λ _. with_row r (former_read (after s r) (suc n) ls))
        left = ap (λ o. on_row n o (λ r. on_judged n (former_judge s r) (λ _. with_row r (former_read (after s r) (suc n) ls)))) q

        on : (x : Option Refusal) → former_judge s r ≡ x → (read_from s n (l ∷ ls) ≡ rows rs) × (few_rows s rs ≡ true)
        on (some f) j = absurd (rows≢faulty (sym e ∙ left ∙ ap (λ z. on_judged n z (λ _. with_row r (former_read (after s r) (suc n) ls))) j))
        on none j =
            let w = with_row_rows r (former_read (after s r) (suc n) ls) rs (sym (left ∙ ap (λ z. on_judged n z (λ _. with_row r (former_read (after s r) (suc n) ls))) j) ∙ e) in
            let k = below r w.0 w.1 in (
              ap (λ o. on_row n o (λ r. on_judged n (judge s r) (λ _. with_row r (read_from (after s r) (suc n) ls)))) q
                  ∙ ap (λ z. on_judged n z (λ _. with_row r (read_from (after s r) (suc n) ls))) (former_today s r j)
                  ∙ ap (with_row r) k.0
                  ∙ ap rows (sym w.2),
              ap (few_rows s) w.2 ∙ true_and (former_few s r j) k.1,
            )

-- ---- the laws

-- "Stored files … within the old ceiling keep their … answers"
pub same_verdict : (bs : List ℕ) (rs : List Row) → read_from start 1 (lines bs) ≡ rows rs → FewClauses rs → former bs ≡ verdict bs
unfolding verdict former
same_verdict bs rs e h =
    ap (λ r. cond (over bs) (refused too_long 0) (after_reading r)) (few_read start 1 (lines bs) rs e ((few_clauses rs (passes_read bs rs e)).0 h) ∙ sym e)

former_rows : (bs : List ℕ) (rs : List Row) → former bs ≡ accepted rs → former_read start 1 (lines bs) ≡ rows rs
unfolding former
former_rows bs rs = go (over bs) (former_read start 1 (lines bs)) refl
  where
    go : (b : Bool) (r : Reading) → former_read start 1 (lines bs) ≡ r → cond b (refused too_long 0) (after_reading r) ≡ accepted rs → former_read start 1 (lines bs) ≡ rows rs
    go true r hr e = absurd (refused≢accepted e)
    go false (faulty f n) hr e = absurd (refused≢accepted e)
    go false (rows qs) hr e = hr ∙ ap rows (judged_accepted qs rs (stages file_tests qs) e).0

-- the former checker accepts exactly what is accepted today and keeps the old ceiling
pub former_accepts : (bs : List ℕ) (rs : List Row) → (former bs ≡ accepted rs) ↔ ((verdict bs ≡ accepted rs) × FewClauses rs)
former_accepts bs rs = (there, λ h. same_verdict bs rs (accepted_form bs rs h.0).0.reads h.1 ∙ h.0)
  where
    there : former bs ≡ accepted rs → (verdict bs ≡ accepted rs) × FewClauses rs
    there e =
        let k = read_few start 1 (lines bs) rs (former_rows bs rs e) in
        let few = (few_clauses rs (passes_read bs rs k.0)).1 k.1 in
        (sym (same_verdict bs rs k.0 few) ∙ e, few)

-- "and never with a wrong setting": for any bytes, whatever goes by the verdict answers as today, or as for a file refused 7
pub former_answers : {A : Type 0} (answer : Verdict → A) (bs : List ℕ)
    → (answer (former bs) ≡ answer (verdict bs)) ⊎ ((n : ℕ) × (answer (former bs) ≡ answer (refused (ceiling clause_line) n)))
former_answers answer bs = go (verdicts bs)
  where
    go : Verdicts bs → (answer (former bs) ≡ answer (verdict bs)) ⊎ ((n : ℕ) × (answer (former bs) ≡ answer (refused (ceiling clause_line) n)))
    go (Verdicts.alike a) = inl (ap answer a)
    go (Verdicts.seven n a) = inr (n, ap answer a)

pub former_run : (bs table work : List ℕ) (i : ℕ) (back : Bool) (budget : ℕ) (value result : List ℕ)
    → (run_by (former bs) table work i back budget value result ≡ run_service bs table work i back budget value result)
    ⊎ ((n : ℕ) × (run_by (former bs) table work i back budget value result ≡ run_by (refused (ceiling clause_line) n) table work i back budget value result))
unfolding run_service
former_run bs table work i back budget value result = former_answers (λ v. run_by v table work i back budget value result) bs

-- the setting that shows a fault is today's, or none is shown
pub former_showing_lem : (bs : List ℕ) → (former_showing bs ≡ showing bs) ⊎ (former_showing bs ≡ [])
unfolding showing former_showing
former_showing_lem bs = go (over bs) (read_cases start 1 (lines bs))
  where
    go : (b : Bool) → ReadCases start 1 (lines bs)
        → (cond b [] (shown_of (former_read start 1 (lines bs))) ≡ cond b [] (shown_of (read_from start 1 (lines bs)))) ⊎ (cond b [] (shown_of (former_read start 1 (lines bs))) ≡ [])
    go true x = inl refl
    go false (ReadCases.alike a) = inl (ap shown_of a)
    go false (ReadCases.seven m a) = inr (ap shown_of a)

-- and such a run gives nothing
pub seven_run : (n : ℕ) (table work : List ℕ) (i : ℕ) (back : Bool) (budget : ℕ) (value result : List ℕ) (r : RunResult)
    → r ≡ run_by (refused (ceiling clause_line) n) table work i back budget value result → (1 ≤ r.number) × (r.number ≤ 7) × (r.length ≡ 0) × (r.result ≡ result)
seven_run n table work i back budget value result r e = subst (λ (x : RunResult). (1 ≤ x.number) × (x.number ≤ 7) × (x.length ≡ 0) × (x.result ≡ result)) (sym e)
    (go (short table work || ltb (length result) result_length))
  where
    go : (b : Bool)
        → (1 ≤ (ran_by result (serve b (refused (ceiling clause_line) n) (run_on i back budget value) table work)).number)
        × ((ran_by result (serve b (refused (ceiling clause_line) n) (run_on i back budget value) table work)).number ≤ 7)
        × ((ran_by result (serve b (refused (ceiling clause_line) n) (run_on i back budget value) table work)).length ≡ 0)
        × ((ran_by result (serve b (refused (ceiling clause_line) n) (run_on i back budget value) table work)).result ≡ result)
    go true = (omega arith, omega arith, refl, refl)
    go false = (omega arith, omega arith, refl, refl)
