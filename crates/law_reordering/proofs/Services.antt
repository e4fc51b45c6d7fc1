-- "both accepted or both refused, and if accepted answer every query alike": every service, a sheet and the desk program on two files that differ in the
-- order of clauses.
use Prim.Native.Nat.{ℕ}
use native.Mathlib.Nat.{ne_of_gt}
use mathlib.Core.Path.{◌≡◌, refl, sym, ap, ap₂, ◌∙◌, subst}
use mathlib.Core.Logic.{◌↔◌, ◌⊎◌, inl, inr}
use mathlib.Core.Bool.{Bool, true, false, cond, ◌||◌}
use mathlib.Core.Option.{Option, none, some}
use mathlib.Core.List.{List, [], ◌∷◌, ◌++◌, map, append_assoc}
use lib.Dec.{ltb, eqb}
use lib.ListN.{length, get_or, get_elem?}
use Rattle.limits.specs.Limits.{result_length, line_feed, carriage_return, letter_q, max_queries}
use Rattle.calculus.specs.Tools.{concat}
use Rattle.calculus.specs.Trees.{Val, Iso, invert}
use Rattle.calculus.specs.Refusals.{Kind, type_line, pattern_line, iso_line, clause_line, let_line, too_long, short_area, too_many}
use Rattle.calculus.specs.Lists.{is_free}
use Rattle.format.specs.Lines.{Row, onto_first, lines, letter, row_of}
use Rattle.format.specs.Judge.{start}
use Rattle.format.specs.Unfold.{isos_of, turn_rows}
use Rattle.model.specs.Services.{Verdict, accepted, refused, verdict, answer_of, Checked, check_by, check, gives, fails, go_on, refusal_by, served, Output, turned}
use Rattle.model.specs.Services.{turned_of, turned_rows, output_by, turn_by, turn, on_iso, from, within, argument, value_in, run_rows, toward, run_of, run, RunAnswer}
use Rattle.model.specs.Services.{answer_of_run, RunResult, ran_by, run_by, run_service, table_after, work_after, short, unless}
use Rattle.model.specs.Desk.{is_query, file_lines, query_lines, Query, query_of, answer_to, query_line, file_line, query_answers, desk}
use Rattle.model.specs.Sheet.{answers_to, numbers_after, letters_after, narrow_sheet, Sheet, sheet_by, sheet}
use Rattle.calculus.proofs.Basic.{eqb_eq, each_append, each_cons, each_nil}
use Rattle.format.proofs.Endings.{feed, Ended, by_feed, by_both}
use Rattle.format.proofs.Turning.{isos_turn}
use Rattle.format.proofs.Printing.{body, row_iff, NoFeed, Feedless, feedless_body, lines_feed, concat_lines}
use Rattle.model.proofs.Files.{accepted_form, number_positive, answer_zero, turned_accepted}
use Rattle.model.proofs.Runs.{run_accepted}
use Rattle.model.proofs.Sheets.{desk_same as answers_printed}
use Rattle.law_ranking.specs.Numbering.{on_type, to_number, to_setting, number_on, setting_on, Numbered, numbered_by, Lettered, lettered_by, number_service, setting_service}
use Rattle.law_costs.specs.Costs.{least_costs, greatest_costs}
use Rattle.law_costs.specs.Bounds.{on_iso as bounds_on, bounds_rows, bounds_by, BoundsResult, bounds_service}
use Rattle.law_reordering.specs.Reordered.{SameButOrder, AlikeIso, Alike}
use Rattle.law_reordering.specs.Answers.{checked_but, turned_but, ran_but, sheet_but, numbered_but, lettered_but, bounds_but, begins_queries}
use Rattle.law_reordering.proofs.Alike.{alike_invert, index_alike, reduce_alike}
use Rattle.law_reordering.proofs.Costs.{least_alike, greatest_alike, free_alike}
use Rattle.law_reordering.proofs.Reading.{Rows, read_pass, begins}
use Rattle.law_reordering.proofs.Files.{Twins, reordered_sym, same_length, accepted_too, turned_too}

-- ---- a run on the rows

module _ {os ns : List Iso} (h : Alike os ns) (i budget : ℕ) (value : List ℕ) where
  from_alike : (x : Option Val) → from os i budget x ≡ from ns i budget x
  from_alike none = refl
  from_alike (some v) = ap (within budget) (reduce_alike h i v)

  on_iso_alike : on_iso os i budget value (get_elem? os i) ≡ on_iso ns i budget value (get_elem? ns i)
  on_iso_alike = go (index_alike h i)
    where
      go : ((get_elem? os i ≡ none) × (get_elem? ns i ≡ none)) ⊎ ((o : Iso) × (n : Iso) × (get_elem? os i ≡ some o) × (get_elem? ns i ≡ some n) × AlikeIso o n)
          → on_iso os i budget value (get_elem? os i) ≡ on_iso ns i budget value (get_elem? ns i)
      go (inl (p, q)) = ap (on_iso os i budget value) p ∙ sym (ap (on_iso ns i budget value) q)
      go (inr (o, n, p, q, a)) =
          ap (on_iso os i budget value) p
          ∙ ap (λ t. from os i budget (value_in value t)) a.from
          ∙ from_alike (argument n value)
          ∙ sym (ap (on_iso ns i budget value) q)

bounds_alike : {os ns : List Iso} → Alike os ns → (i : ℕ) → bounds_on os i (get_elem? os i) ≡ bounds_on ns i (get_elem? ns i)
bounds_alike {os} {ns} h i = go (index_alike h i)
  where
    go : ((get_elem? os i ≡ none) × (get_elem? ns i ≡ none)) ⊎ ((o : Iso) × (n : Iso) × (get_elem? os i ≡ some o) × (get_elem? ns i ≡ some n) × AlikeIso o n)
        → bounds_on os i (get_elem? os i) ≡ bounds_on ns i (get_elem? ns i)
    go (inl (p, q)) = ap (bounds_on os i) p ∙ sym (ap (bounds_on ns i) q)
    go (inr (o, n, p, q, a)) =
        ap (bounds_on os i) p
        ∙ ap (λ bs. cond (get_or bs i true) (gives (get_or (least_costs os) i 0, get_or (greatest_costs os) i 0)) (fails too_many)) (free_alike h)
        ∙ ap₂ (λ ls gs. cond (is_free ns i) (gives (get_or ls i 0, get_or gs i 0)) (fails too_many)) (least_alike h) (greatest_alike h)
        ∙ sym (ap (bounds_on ns i) q)

run_rows_alike : (rs qs : List Row) → Alike (isos_of rs) (isos_of qs) → (i budget : ℕ) (value : List ℕ) → run_rows rs i budget value ≡ run_rows qs i budget value
unfolding run_rows
run_rows_alike rs qs a i budget value = on_iso_alike a i budget value

module _ {rs qs : List Row} (t : Twins rs qs) where
  isos_toward : (back : Bool) → Alike (isos_of (toward back rs)) (isos_of (toward back qs))
  isos_toward true =
      subst (λ z. Alike z (isos_of (turn_rows qs))) (sym (isos_turn rs t.passes))
      (subst (Alike (map invert (isos_of rs))) (sym (isos_turn qs t.passes')) (alike_invert t.alike))
  isos_toward false = t.alike

  run_twins : (i : ℕ) (back : Bool) (budget : ℕ) (value : List ℕ) → run_of (accepted rs) i back budget value ≡ run_of (accepted qs) i back budget value
  run_twins i back budget value = run_rows_alike (toward back rs) (toward back qs) (isos_toward back) i budget value

  answer_twins : (q : Option Query) → answer_to (accepted rs) q ≡ answer_to (accepted qs) q
  answer_twins none = refl
  answer_twins (some q) = run_twins q.iso q.back q.budget q.letters

  answers_twins : (ls : List (List ℕ)) → answers_to (accepted rs) ls ≡ answers_to (accepted qs) ls
  answers_twins ls = ap (λ f. map f ls) (λ i l. answer_of_run (answer_twins (query_of l) i))

  number_twins : (i : ℕ) (value : List ℕ) → number_on (accepted rs) i value ≡ number_on (accepted qs) i value
  number_twins i value = ap (λ ts. on_type (get_elem? ts i) (to_number value)) t.types

  setting_twins : (i n : ℕ) → setting_on (accepted rs) i n ≡ setting_on (accepted qs) i n
  setting_twins i n = ap (λ ts. on_type (get_elem? ts i) (to_setting n)) t.types

  bounds_twins : (i : ℕ) → bounds_rows i rs ≡ bounds_rows i qs
  bounds_twins i = bounds_alike t.alike i

-- ---- the services, refusal 1 told by a test

module _ (table work : List ℕ) where
  abbrev check_under : Verdict → Checked
  check_under v = record { answer = answer_of v; table = table_after v table; work = work_after v work }

  check_under_lem : (rs qs : List Row) (b : Bool) → checked_but (check_under (unless b (accepted rs))) ≡ checked_but (check_under (unless b (accepted qs)))
  check_under_lem rs qs true = refl
  check_under_lem rs qs false = refl

  abbrev turn_under : List ℕ → Verdict → Output
  turn_under output v = output_by output (served v (go_on v turned_rows) table work)

  turn_under_lem : (output : List ℕ) (rs qs : List Row) → length (turned_of (accepted rs)) ≡ length (turned_of (accepted qs)) → (b : Bool)
      → turned_but (turn_under output (unless b (accepted rs))) ≡ turned_but (turn_under output (unless b (accepted qs)))
  turn_under_lem output rs qs e true = refl
  turn_under_lem output rs qs e false = ap (λ n. record { refusal = none; answer = answer_of (accepted rs); length = n; table = []; work = work_after (accepted rs) work; output = [] }) e

  module _ {rs qs : List Row} (t : Twins rs qs) where
    abbrev run_under : ℕ → Bool → ℕ → List ℕ → List ℕ → Verdict → RunResult
    run_under i back budget value result v = ran_by result (served v (run_of v i back budget value) table work)

    run_under_lem : (i : ℕ) (back : Bool) (budget : ℕ) (value result : List ℕ) (b : Bool)
        → ran_but (run_under i back budget value result (unless b (accepted rs))) ≡ ran_but (run_under i back budget value result (unless b (accepted qs)))
    run_under_lem i back budget value result true = refl
    run_under_lem i back budget value result false =
        ap (λ r. ran_but (ran_by result (served (accepted rs) r table work))) (run_twins t i back budget value)

    abbrev number_under : ℕ → List ℕ → Verdict → Numbered
    number_under i value v = numbered_by (served v (number_on v i value) table work)

    number_under_lem : (i : ℕ) (value : List ℕ) (b : Bool)
        → numbered_but (number_under i value (unless b (accepted rs))) ≡ numbered_but (number_under i value (unless b (accepted qs)))
    number_under_lem i value true = refl
    number_under_lem i value false =
        ap (λ o. numbered_but (numbered_by (served (accepted rs) o table work))) (number_twins t i value)

    abbrev setting_under : ℕ → ℕ → List ℕ → Verdict → Lettered
    setting_under i n result v = lettered_by result (served v (setting_on v i n) table work)

    setting_under_lem : (i n : ℕ) (result : List ℕ) (b : Bool)
        → lettered_but (setting_under i n result (unless b (accepted rs))) ≡ lettered_but (setting_under i n result (unless b (accepted qs)))
    setting_under_lem i n result true = refl
    setting_under_lem i n result false =
        ap (λ o. lettered_but (lettered_by result (served (accepted rs) o table work))) (setting_twins t i n)

    abbrev bounds_under : ℕ → Verdict → BoundsResult
    bounds_under i v = bounds_by (served v (go_on v (bounds_rows i)) table work)

    bounds_under_lem : (i : ℕ) (b : Bool) → bounds_but (bounds_under i (unless b (accepted rs))) ≡ bounds_but (bounds_under i (unless b (accepted qs)))
    bounds_under_lem i true = refl
    bounds_under_lem i false = ap (λ o. bounds_but (bounds_by (served (accepted rs) o table work))) (bounds_twins t i)

    abbrev sheet_under : List (List ℕ) → List ℕ → List ℕ → Verdict → Sheet
    sheet_under ls numbers letters v =
        let as₁ : List RunAnswer = answers_to v ls in
        record {
          refusal = refusal_by v;
          answer = answer_of v;
          queries = length as₁;
          table = table_after v table;
          work = work_after v work;
          numbers = numbers_after as₁ numbers;
          letters = letters_after as₁ letters;
        }

    sheet_under_lem : (ls : List (List ℕ)) (numbers letters : List ℕ) (b c : Bool)
        → sheet_but (sheet_under ls numbers letters (unless b (cond c (refused too_long 0) (accepted rs))))
        ≡ sheet_but (sheet_under ls numbers letters (unless b (cond c (refused too_long 0) (accepted qs))))
    sheet_under_lem ls numbers letters true c = refl
    sheet_under_lem ls numbers letters false true = refl
    sheet_under_lem ls numbers letters false false =
        ap (λ us. record {
          refusal = none;
          answer = answer_of (accepted rs);
          queries = length us;
          table = [];
          work = work_after (accepted rs) work;
          numbers = numbers_after us numbers;
          letters = letters_after us letters;
        })
        (answers_twins t ls)

-- ---- a file and the queries behind it

-- a line that reads is the first line of any bytes behind it
lines_line : (l : List ℕ) {r : Row} → row_of l ≡ some r → (rest : List ℕ) → lines (l ++ rest) ≡ l ∷ lines rest
lines_line l {r} e rest = go ((row_iff l r).0 e).0
  where
    feeds : (u : List ℕ) → Feedless u → l ≡ u ++ feed → lines (l ++ rest) ≡ l ∷ lines rest
    feeds u h p =
        ap (λ z. lines (z ++ rest)) p
        ∙ ap lines (append_assoc u feed rest)
        ∙ lines_feed u rest h
        ∙ ap (λ z. z ∷ lines rest) (sym p)

    go : Ended l (body r) → lines (l ++ rest) ≡ l ∷ lines rest
    go (by_feed p) = feeds (body r) (feedless_body r) p
    go (by_both p) =
        feeds (body r ++ (carriage_return ∷ [])) (each_append NoFeed (body r) (feedless_body r) (each_cons NoFeed refl (each_nil NoFeed)))
        (p ∙ sym (append_assoc (body r) (carriage_return ∷ []) feed))

lines_behind : {ls : List (List ℕ)} {rs : List Row} → Rows ls rs → (rest : List ℕ) → lines (concat ls ++ rest) ≡ ls ++ lines rest
lines_behind Rows.no rest = refl
lines_behind (Rows.more {l} {ls} h q) rest =
    ap lines (append_assoc l (concat ls) rest) ∙ lines_line l h (concat ls ++ rest) ∙ ap (λ z. l ∷ z) (lines_behind q rest)

no_query : (k : Kind) → eqb (letter k) letter_q ≡ false
no_query type_line = refl
no_query pattern_line = refl
no_query iso_line = refl
no_query clause_line = refl
no_query let_line = refl

row_no_query : (l : List ℕ) {r : Row} → row_of l ≡ some r → is_query l ≡ false
row_no_query [] e = refl
row_no_query (b ∷ bs) {r} e = begins (b ∷ bs) e letter_q ∙ no_query r.kind

-- what `rules` takes as the file and as the queries
split_input : {ls ms : List (List ℕ)} {rs : List Row} → Rows ls rs → file_lines ms ≡ [] → query_lines ms ≡ ms
    → (file_lines (ls ++ ms) ≡ ls) × (query_lines (ls ++ ms) ≡ ms)
split_input Rows.no p q = (p, q)
split_input {ms = ms} (Rows.more {l} {ls} h r) p q =
    let (a, b) = split_input r p q in
    let no = row_no_query l h in
    (ap (λ c. cond c [] (l ∷ file_lines (ls ++ ms))) no ∙ ap (λ z. l ∷ z) a, ap (λ c. cond c (l ∷ (ls ++ ms)) (query_lines (ls ++ ms))) no ∙ b)

queries_first : (b : ℕ) → eqb b letter_q ≡ true → (ls : List (List ℕ)) → (file_lines (onto_first b ls) ≡ []) × (query_lines (onto_first b ls) ≡ onto_first b ls)
queries_first b e [] = (rw e, rw e)
queries_first b e (l ∷ ls) = (rw e, rw e)

queries_only : (queries : List ℕ) → begins_queries queries ≡ true → (file_lines (lines queries) ≡ []) × (query_lines (lines queries) ≡ lines queries)
queries_only [] e = (refl, refl)
queries_only (b ∷ bs) e =
    let other : eqb b line_feed ≡ false = ap (λ c. eqb c line_feed) (eqb_eq b letter_q e) in
    subst (λ ls. (file_lines ls ≡ []) × (query_lines ls ≡ ls)) (sym (ap (λ c. cond c ((b ∷ []) ∷ lines bs) (onto_first b (lines bs))) other)) (queries_first b e (lines bs))

desk_file : (file : List ℕ) (rs : List Row) → verdict file ≡ accepted rs → (queries : List ℕ) → begins_queries queries ≡ true
    → desk (file ++ queries) ≡ file_line (answer_of (accepted rs)) ++ concat (map query_line (answers_to (accepted rs) (lines queries)))
unfolding desk
desk_file file rs e queries h =
    let q = (read_pass start 1 (lines file) rs (accepted_form file rs e).0.reads).0 in
    let all = ap (λ z. lines (z ++ queries)) (sym (concat_lines file)) ∙ lines_behind q queries in
    let (p, n) = queries_only queries h in
    let (a, b) = split_input q p n in
    ap₂ (λ f ls. file_line (answer_of (verdict (concat f))) ++ query_answers (verdict (concat f)) ls) (ap file_lines all ∙ a) (ap query_lines all ∙ b)
    ∙ ap (λ f. file_line (answer_of (verdict f)) ++ query_answers (verdict f) (lines queries)) (concat_lines file)
    ∙ ap (λ v. file_line (answer_of v) ++ query_answers v (lines queries)) e
    ∙ ap (λ z. file_line (answer_of (accepted rs)) ++ z) (answers_printed (accepted rs) (lines queries))

-- ---- the laws

-- every iso, direction and budget, and any bytes
pub run_rows_lem : (file other : List ℕ) → SameButOrder file other → (rs : List Row) → verdict file ≡ accepted rs
    → (i : ℕ) (back : Bool) (budget : ℕ) (value : List ℕ) → run file i back budget value ≡ run other i back budget value
run_rows_lem file other r rs a i back budget value =
    let (qs, b, t) = accepted_too file other r rs a in
    run_accepted file rs a i back budget value ∙ run_twins t i back budget value ∙ sym (run_accepted other qs b i back budget value)

past_short : (b : Bool) (v : Verdict) → (answer_of (unless b v)).number ≡ 0 → (rs : List Row) × (v ≡ accepted rs)
past_short true v e = absurd (ne_of_gt (number_positive short_area) e)
past_short false v e = answer_zero v e

-- the rows of a file that Check accepts, with whatever areas
rows_of : (file table work : List ℕ) → (check file table work).answer.number ≡ 0 → (rs : List Row) × (verdict file ≡ accepted rs)
unfolding check
rows_of file table work e = past_short (short table work) (verdict file) e

check_one : (file other : List ℕ) → SameButOrder file other → (table work : List ℕ)
    → (check file table work).answer.number ≡ 0 → checked_but (check file table work) ≡ checked_but (check other table work)
unfolding check
check_one file other r table work e =
    let (rs, a) = rows_of file table work e in
    let (qs, b, t) = accepted_too file other r rs a in
    ap (λ v. checked_but (check_by v table work)) a
    ∙ check_under_lem table work rs qs (short table work)
    ∙ ap (λ v. checked_but (check_by v table work)) (sym b)

module _ (file other : List ℕ) (same : SameButOrder file other) where
  -- "Two files that differ only in the order of clauses within isos … are both accepted or both refused"
  pub check_both : (table work : List ℕ) → ((check file table work).answer.number ≡ 0) ↔ ((check other table work).answer.number ≡ 0)
  check_both table work = (
    (λ e. ap (λ c. c.answer.number) (sym (check_one file other same table work e)) ∙ e),
    (λ e. ap (λ c. c.answer.number) (sym (check_one other file (reordered_sym same) table work e)) ∙ e),
  )

  -- "and if accepted answer every query alike": from here on Check accepts the file, in some areas
  module _ (table₀ work₀ : List ℕ) (ok : (check file table₀ work₀).answer.number ≡ 0) where
    pub rows_both : (rs : List Row) × (qs : List Row) × (verdict file ≡ accepted rs) × (verdict other ≡ accepted qs) × Twins rs qs
    rows_both =
        let (rs, a) = rows_of file table₀ work₀ ok in
        let (qs, b, t) = accepted_too file other same rs a in
        (rs, qs, a, b, t)

    -- every iso, direction and budget, and any bytes
    pub run_same : (i : ℕ) (back : Bool) (budget : ℕ) (value : List ℕ) → run file i back budget value ≡ run other i back budget value
    run_same = let (rs, a) = rows_of file table₀ work₀ ok in run_rows_lem file other same rs a

    -- the turned files are such files again, both accepted, so that all of this holds of them too
    pub turned_same : SameButOrder (turned file) (turned other)
    turned_same = let (rs, qs, a, b, t) = rows_both in turned_too file other same rs a

    -- in any lent areas
    module _ (table work : List ℕ) where
      pub check_same : checked_but (check file table work) ≡ checked_but (check other table work)
      unfolding check
      check_same =
          let (rs, qs, a, b, t) = rows_both in
          ap (λ v. checked_but (check_by v table work)) a
          ∙ check_under_lem table work rs qs (short table work)
          ∙ ap (λ v. checked_but (check_by v table work)) (sym b)

      pub turn_same : (output : List ℕ) → turned_but (turn file table work output) ≡ turned_but (turn other table work output)
      unfolding turn
      turn_same output =
          let (rs, qs, a, b, t) = rows_both in
          let long = ap length (sym (ap turned_of a)) ∙ same_length (turned file) (turned other) turned_same ∙ ap length (ap turned_of b) in
          ap (λ v. turned_but (turn_by v (length file) table work output)) a
          ∙ turn_under_lem table work output rs qs long (short table work || ltb (length output) (length file))
          ∙ ap (λ v. turned_but (turn_by v (length file) table work output)) (sym b)
          ∙ ap (λ n. turned_but (turn_by (verdict other) n table work output)) (same_length file other same)

      pub run_service_same : (i : ℕ) (back : Bool) (budget : ℕ) (value result : List ℕ)
          → ran_but (run_service file table work i back budget value result) ≡ ran_but (run_service other table work i back budget value result)
      unfolding run_service
      run_service_same i back budget value result =
          let (rs, qs, a, b, t) = rows_both in
          ap (λ v. ran_but (run_by v table work i back budget value result)) a
          ∙ run_under_lem table work t i back budget value result (short table work || ltb (length result) result_length)
          ∙ ap (λ v. ran_but (run_by v table work i back budget value result)) (sym b)

      pub sheet_same : (queries numbers letters : List ℕ) → sheet_but (sheet file table work queries numbers letters) ≡ sheet_but (sheet other table work queries numbers letters)
      unfolding sheet
      sheet_same queries numbers letters =
          let (rs, qs, a, b, t) = rows_both in
          let n : ℕ = length (lines queries) in
          ap (λ v. sheet_but (sheet_by v table work queries numbers letters)) a
          ∙ sheet_under_lem table work t (lines queries) numbers letters (short table work || narrow_sheet n numbers letters) (ltb max_queries n)
          ∙ ap (λ v. sheet_but (sheet_by v table work queries numbers letters)) (sym b)

      -- settings as numbers
      pub number_same : (i : ℕ) (value : List ℕ) → numbered_but (number_service file table work i value) ≡ numbered_but (number_service other table work i value)
      unfolding number_service
      number_same i value =
          let (rs, qs, a, b, t) = rows_both in
          let on : Verdict → Numbered = λ v. numbered_but (number_under table work t i value (unless (short table work) v)) in
          ap on a ∙ number_under_lem table work t i value (short table work) ∙ ap on (sym b)

      pub setting_same : (i n : ℕ) (result : List ℕ) → lettered_but (setting_service file table work i n result) ≡ lettered_but (setting_service other table work i n result)
      unfolding setting_service
      setting_same i n result =
          let (rs, qs, a, b, t) = rows_both in
          let narrow : Bool = short table work || ltb (length result) result_length in
          let on : Verdict → Lettered = λ v. lettered_but (setting_under table work t i n result (unless narrow v)) in
          ap on a ∙ setting_under_lem table work t i n result narrow ∙ ap on (sym b)

      -- bounds on the count
      pub bounds_same : (i : ℕ) → bounds_but (bounds_service file table work i) ≡ bounds_but (bounds_service other table work i)
      unfolding bounds_service
      bounds_same i =
          let (rs, qs, a, b, t) = rows_both in
          let on : Verdict → BoundsResult = λ v. bounds_but (bounds_under table work t i (unless (short table work) v)) in
          ap on a ∙ bounds_under_lem table work t i (short table work) ∙ ap on (sym b)

    -- all that `rules` prints for the files with the same queries behind them
    pub desk_same : (queries : List ℕ) → begins_queries queries ≡ true → desk (file ++ queries) ≡ desk (other ++ queries)
    desk_same queries h =
        let (rs, qs, a, b, t) = rows_both in
        desk_file file rs a queries h
        ∙ ap (λ us. file_line (answer_of (accepted rs)) ++ concat (map query_line us)) (answers_twins t (lines queries))
        ∙ sym (desk_file other qs b queries h)

-- the turned files answer alike: every law above holds of them
pub turned_accepted_too : (file table work : List ℕ) → (check file table work).answer.number ≡ 0 → (check (turned file) table work).answer.number ≡ 0
unfolding check
turned_accepted_too file table work e = go (short table work) e
  where
    go : (b : Bool) → (answer_of (unless b (verdict file))).number ≡ 0 → (answer_of (unless b (verdict (turned file)))).number ≡ 0
    go true h = h
    go false h = let (rs, a) = answer_zero (verdict file) h in ap (λ v. (answer_of v).number) (turned_accepted file rs a)
