-- Files, sheets and input whose lines have other endings are answered alike: every service, a sheet of queries, and the desk program.
use Prim.Native.Nat.{ℕ, ◌+◌, ◌≤◌, ◌<◌}
use native.Mathlib.Omega.{arith}
use mathlib.Core.Path.{◌≡◌, refl, sym, ap, ap₂, ◌∙◌, subst}
use mathlib.Core.Bool.{Bool, false, cond, ◌||◌}
use mathlib.Core.Option.{Option, some}
use mathlib.Core.List.{List, [], ◌∷◌, ◌++◌, map}
use lib.Dec.{leb, ltb, eqb}
use lib.ListN.{length, get_or, length-append}
use Rattle.limits.specs.Limits.{max_bytes, max_lines, max_queries, result_length, query_length, field_bound, budget_bound, comma, letter_q}
use Rattle.calculus.specs.Tools.{◌>>=◌, guard, concat}
use Rattle.calculus.specs.Refusals.{too_long}
use Rattle.format.specs.Lines.{lines, skip}
use Rattle.format.specs.Judge.{start}
use Rattle.model.specs.Services.{Verdict, accepted, refused, after_reading, over, verdict, answer_of, refusal_by, check_by, check, serve, turned_rows, output_by}
use Rattle.model.specs.Services.{turn, run_of, run, answer_of_run, run_by, run_service, table_after, work_after, short, unless}
use Rattle.model.specs.Desk.{Query, query_in, query_of, answer_to, query_line, file_line, file_lines, query_lines, query_answers, desk}
use Rattle.model.specs.Sheet.{answers_to, numbers_after, letters_after, narrow_sheet, sheet}
use Rattle.law_ranking.specs.Numbering.{number_rows, setting_rows, numbered_by, lettered_by, number_service, setting_service}
use Rattle.calculus.proofs.Basic.{some_bind, not_ltb}
use Rattle.format.proofs.Endings.{feed, both, text_both}
use Rattle.format.proofs.Printing.{print_fields, fields_print}
use Rattle.law_endings.specs.Resaved.{ends_in_return, SameLine, SameLines, done, next, Resaved, fits}
use Rattle.law_endings.proofs.Lines.{text_same, read_same, count_same, file_same, queries_same, lines_split, split_lines, file_split, text_alone}

-- ---- the file

-- Where neither has more than 65,536 bytes, a file and the same file with other endings are both accepted, with the same rows, or both refused, with
-- the same number and line.
pub verdict_alike : (bs cs : List ℕ) → Resaved bs cs → length bs ≤ max_bytes → length cs ≤ max_bytes → verdict bs ≡ verdict cs
unfolding verdict over
verdict_alike bs cs h m n =
    ap₂
    (λ b r. cond b (refused too_long 0) (after_reading r))
    (ap₂ ◌||◌ (not_ltb m ∙ sym (not_ltb n)) (ap (ltb max_lines) (count_same h)))
    (read_same start 1 h)

-- Every service that takes a file then answers for both alike, and leaves the same in every lent area.
module _ (bs cs table work : List ℕ) (same : Resaved bs cs) (short_bs : length bs ≤ max_bytes) (short_cs : length cs ≤ max_bytes) where
  e : verdict bs ≡ verdict cs
  e = verdict_alike bs cs same short_bs short_cs

  pub check_alike : check bs table work ≡ check cs table work
  unfolding check
  check_alike = ap (λ v. check_by v table work) e

  -- the output area is long enough for both files
  pub turn_alike : (output : List ℕ) → length bs ≤ length output → length cs ≤ length output → turn bs table work output ≡ turn cs table work output
  unfolding turn
  turn_alike output m n =
      ap₂ (λ b v. output_by output (serve (short table work || b) v turned_rows table work)) (not_ltb m ∙ sym (not_ltb n)) e

  pub run_alike : (i : ℕ) (back : Bool) (budget : ℕ) (value : List ℕ) → run bs i back budget value ≡ run cs i back budget value
  unfolding run
  run_alike i back budget value = ap (λ v. run_of v i back budget value) e

  pub run_service_alike : (i : ℕ) (back : Bool) (budget : ℕ) (value result : List ℕ)
      → run_service bs table work i back budget value result ≡ run_service cs table work i back budget value result
  unfolding run_service
  run_service_alike i back budget value result = ap (λ v. run_by v table work i back budget value result) e

  pub number_alike : (i : ℕ) (value : List ℕ) → number_service bs table work i value ≡ number_service cs table work i value
  unfolding number_service
  number_alike i value = ap (λ v. numbered_by (serve (short table work) v (number_rows i value) table work)) e

  pub setting_alike : (i n : ℕ) (result : List ℕ) → setting_service bs table work i n result ≡ setting_service cs table work i n result
  unfolding setting_service
  setting_alike i n result =
      ap (λ v. lettered_by result (serve (short table work || ltb (length result) result_length) v (setting_rows i n) table work)) e

-- ---- queries

-- "a query's 200 bytes count both bytes of the ending": the query of a text and each ending
pub query_both : (t : List ℕ) → query_of (t ++ both) ≡ (guard (leb (length t + 2) query_length) >>= λ _. query_in t)
unfolding query_of
query_both t = ap₂ (λ n o. guard (leb n query_length) >>= λ _. o >>= λ u. query_in u) (length-append t both) (text_both t)

pub query_alone : (t : List ℕ) → ends_in_return t ≡ false → query_of (t ++ feed) ≡ (guard (leb (length t + 1) query_length) >>= λ _. query_in t)
unfolding query_of
query_alone t h = ap₂ (λ n o. guard (leb n query_length) >>= λ _. o >>= λ u. query_in u) (length-append t feed) (text_alone t h)

-- "in a query's letters field one of its letters": any bytes behind the fourth comma of a text are the letters
pub query_letters : (i d n : ℕ) → i < field_bound → d < 2 → n < budget_bound → (ls : List ℕ)
    → query_in (letter_q ∷ (print_fields (i ∷ d ∷ n ∷ []) ++ (comma ∷ ls))) ≡ some (record { iso = i; back = eqb d 1; budget = n; letters = ls })
query_letters i d n h k m ls =
    let bounds = field_bound ∷ 2 ∷ budget_bound ∷ [] in
    some_bind
    (λ r.
    skip comma r.1 >>= λ ks.
    some (record { iso = get_or r.0 0 0; back = eqb (get_or r.0 1 0) 1; budget = get_or r.0 2 0; letters = ks }))
    (fields_print bounds (i ∷ d ∷ n ∷ []) (comma ∷ ls) (omega arith) (h, (k, (m, tt))) refl)

-- a line and the same line with another ending, where both are short enough or neither is, are one query
pub query_alike : (l m : List ℕ) → SameLine l m → fits l ≡ fits m → query_of l ≡ query_of m
unfolding query_of
query_alike l m h e = ap₂ (λ b o. guard b >>= λ _. o >>= λ u. query_in u) e (text_same h)

heads : {x y : Bool} {xs ys : List Bool} → ◌≡◌ {A = List Bool} (x ∷ xs) (y ∷ ys) → x ≡ y
heads e = cc

tails : {x y : Bool} {xs ys : List Bool} → ◌≡◌ {A = List Bool} (x ∷ xs) (y ∷ ys) → xs ≡ ys
tails e = cc

-- what answers a list of query lines
module _ {A : Type 0} (f : Option Query → A) where
  each_alike : {ls ms : List (List ℕ)} → SameLines ls ms → map fits ls ≡ map fits ms → map (λ l. f (query_of l)) ls ≡ map (λ l. f (query_of l)) ms
  each_alike done e = refl
  each_alike (next {l} {m} h hs) e = ap₂ ◌∷◌ (ap f (query_alike l m h (heads e))) (each_alike hs (tails e))

answers_alike : (v : Verdict) {ls ms : List (List ℕ)} → SameLines ls ms → map fits ls ≡ map fits ms → answers_to v ls ≡ answers_to v ms
answers_alike (refused f n) h e = refl
answers_alike (accepted rs) h e = each_alike (λ q. answer_of_run (answer_to (accepted rs) q)) h e

query_answers_alike : (v : Verdict) {ls ms : List (List ℕ)} → SameLines ls ms → map fits ls ≡ map fits ms → query_answers v ls ≡ query_answers v ms
query_answers_alike (refused f n) h e = refl
query_answers_alike (accepted rs) h e = ap concat (each_alike (λ q. query_line (answer_of_run (answer_to (accepted rs) q))) h e)

-- A sheet with other endings in the file and in the queries.
pub sheet_alike : (bs cs table work qs ps numbers letters : List ℕ) → Resaved bs cs → length bs ≤ max_bytes → length cs ≤ max_bytes
    → Resaved qs ps → map fits (lines qs) ≡ map fits (lines ps) → sheet bs table work qs numbers letters ≡ sheet cs table work ps numbers letters
unfolding sheet
sheet_alike bs cs table work qs ps numbers letters same m n h k =
    let verdicts : ℕ → Verdict → Verdict = λ n u. unless (short table work || narrow_sheet n numbers letters) (cond (ltb max_queries n) (refused too_long 0) u) in
    let v = verdicts (length (lines qs)) (verdict bs) in
    let same_verdict : v ≡ verdicts (length (lines ps)) (verdict cs) = ap₂ verdicts (count_same h) (verdict_alike bs cs same m n) in
    ap₂
    (λ v rs. record {
      refusal = refusal_by v;
      answer = answer_of v;
      queries = length rs;
      table = table_after v table;
      work = work_after v work;
      numbers = numbers_after rs numbers;
      letters =
          letters_after rs letters;
    })
    same_verdict
    (answers_alike v h k ∙ ap (λ v. answers_to v (lines ps)) same_verdict)

-- ---- the desk program

-- the file's part of the input
abbrev pub file_of : List ℕ → List ℕ
file_of bs = concat (file_lines (lines bs))

file_resaved : (bs cs : List ℕ) → Resaved bs cs → Resaved (file_of bs) (file_of cs)
file_resaved bs cs h = subst (λ ls. SameLines ls (lines (file_of cs))) (sym (split_lines (file_split (lines_split bs))))
    (subst (SameLines (file_lines (lines bs))) (sym (split_lines (file_split (lines_split cs)))) (file_same h))

-- All that `rules` prints is the same for input with other endings, where no file part has more than 65,536 bytes and each query has at most 200
-- bytes with both endings or with neither.
pub desk_alike : (bs cs : List ℕ) → Resaved bs cs → length (file_of bs) ≤ max_bytes → length (file_of cs) ≤ max_bytes
    → map fits (query_lines (lines bs)) ≡ map fits (query_lines (lines cs)) → desk bs ≡ desk cs
unfolding desk
desk_alike bs cs h m n e =
    let same_verdict = verdict_alike (file_of bs) (file_of cs) (file_resaved bs cs h) m n in
    ap₂ (λ v ps. file_line (answer_of v) ++ ps)
    same_verdict
    (query_answers_alike (verdict (file_of bs)) (queries_same h) e ∙ ap (λ v. query_answers v (query_lines (lines cs))) same_verdict)
