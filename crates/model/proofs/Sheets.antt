-- Request 01, a whole sheet in one call: its answers are those of lone runs, each stands in a place of its own, and a refusal leaves
-- what it must leave.
use Prim.Native.Nat.{ℕ, zero, suc, ◌+◌, ◌*◌, ◌≤◌, ◌<◌}
use native.Mathlib.Nat.{ne_of_gt}
use native.Mathlib.Omega.{arith}
use mathlib.Core.Path.{◌≡◌, refl, sym, ap, ap₂, ◌∙◌, subst}
use mathlib.Core.Bool.{Bool, true, false, cond, ◌||◌}
use mathlib.Core.Option.{Option, none, some}
use mathlib.Core.List.{List, [], ◌∷◌, ◌++◌, map, map-map, Memᴰ}
use lib.Dec.{ltb}
use lib.ListN.{length, take, drop, get_elem?, length-append, length-drop, length-map}
use lib.Seq.{length-take-le, take_at, drop_at, drop-drop}
use Rattle.limits.specs.Limits.{table_length, work_length, result_length, max_queries}
use Rattle.calculus.specs.Tools.{concat}
use Rattle.calculus.specs.Refusals.{Refusal, short_area, too_long, bad_line}
use Rattle.format.specs.Lines.{Row, lines}
use Rattle.model.specs.Services.{Verdict, accepted, refused, verdict, answer_of, check, Ran, gives, fails, RunAnswer, answer_of_run, RunResult, run_of}
use Rattle.model.specs.Services.{run_service, filled, written, table_after, work_after, short, unless}
use Rattle.model.specs.Desk.{Query, query_of, answer_to, query_line, query_answers}
use Rattle.model.specs.Sheet.{answers_to, three, numbers_after, letters_after, narrow_sheet, sheet_verdict, sheet}
use Rattle.calculus.proofs.Basic.{neither, none≢some, some_inj, le_leb, lt_ltb, ltb_false, not_ltb, each_nil, each_map, index_map, index_of_map, index_below}
use Rattle.model.proofs.Files.{number_positive, answer_zero}
use Rattle.model.proofs.Sizes.{short_result}

-- ---- the area of numbers

-- an area keeps its length where what is written fits
pub written_length : (bs area : List ℕ) → length bs ≤ length area → length (written bs area) ≡ length area
written_length bs area h = omega (arith, length-append bs (drop (length bs) area), length-drop (length bs) area)

-- and only there
pub written_fits : (bs area : List ℕ) → length (written bs area) ≡ length area → length bs ≤ length area
written_fits bs area e = omega (arith, e, length-append bs (drop (length bs) area))

-- three numbers an answer
threes_length : (rs : List RunAnswer) → length (concat (map three rs)) ≡ length rs * 3
threes_length [] = refl
threes_length (r ∷ rs) = let h = threes_length rs in omega arith

three_at : (rs : List RunAnswer) (rest : List ℕ) (k : ℕ) {a : RunAnswer} → get_elem? rs k ≡ some a
    → take 3 (drop (k * 3) (concat (map three rs) ++ rest)) ≡ three a
three_at [] rest k e = absurd (none≢some e)
three_at (r ∷ rs) rest zero e = ap three (some_inj e)
three_at (r ∷ rs) rest (suc k) e =
    let p : suc k * 3 ≡ suc (suc (suc (k * 3))) = omega arith in
    ap (λ n. take 3 (drop n (concat (map three (r ∷ rs)) ++ rest))) p ∙ three_at rs rest k e

-- "three numbers of 32 bits in a lent area, in the same order": answer k has the numbers from 3 k on
pub own_numbers : (rs : List RunAnswer) (area : List ℕ) (k : ℕ) {a : RunAnswer} → get_elem? rs k ≡ some a
    → take 3 (drop (k * 3) (numbers_after rs area)) ≡ three a
own_numbers rs area k e = three_at rs (drop (length (concat (map three rs))) area) k e

-- the numbers behind those of the answers stay
pub other_numbers : (rs : List RunAnswer) (area : List ℕ) → drop (length rs * 3) (numbers_after rs area) ≡ drop (length rs * 3) area
other_numbers rs area =
    drop_at (concat (map three rs)) (drop (length (concat (map three rs))) area) (length rs * 3) (threes_length rs)
    ∙ ap (λ n. drop n area) (threes_length rs)

-- the area of numbers keeps its length
pub numbers_length : (rs : List RunAnswer) (area : List ℕ) → length rs * 3 ≤ length area → length (numbers_after rs area) ≡ length area
numbers_length rs area h = let e = threes_length rs in written_length (concat (map three rs)) area (omega arith)

-- ---- the area of letters

-- each answer's letters fit their block
abbrev pub ShortLetters : List RunAnswer → Type 0
ShortLetters rs = (a : RunAnswer) → Memᴰ a rs → length a.letters ≤ result_length

-- block k of an area of letters
abbrev pub block : ℕ → List ℕ → List ℕ
block k area = take result_length (drop (k * result_length) area)

-- a block keeps its length
block_length : (bs area : List ℕ) → length bs ≤ result_length → result_length ≤ length area → length (written bs (take result_length area)) ≡ result_length
block_length bs area h k =
    let l = length-take-le result_length area k in written_length bs (take result_length area) (omega arith) ∙ l

-- all blocks but the first
drop_block : (k : ℕ) (area : List ℕ) → drop (suc k * result_length) area ≡ drop (k * result_length) (drop result_length area)
drop_block k area =
    let p : suc k * result_length ≡ result_length + k * result_length = omega arith in
    ap (λ n. drop n area) p ∙ sym (drop-drop (k * result_length) result_length area)

-- the first answer's block, and the others
module _ (r : RunAnswer) (rs : List RunAnswer) (s : ShortLetters (r ∷ rs)) (area : List ℕ) (room : length (r ∷ rs) * result_length ≤ length area) where
  first_length : length (written r.letters (take result_length area)) ≡ result_length
  first_length = block_length r.letters area (s r (Memᴰ.head refl)) (omega arith)

  rest_room : length rs * result_length ≤ length (drop result_length area)
  rest_room = omega (arith, length-drop result_length area)

  rest_short : ShortLetters rs
  rest_short a m = s a (Memᴰ.tail m)

  first_block : take result_length (letters_after (r ∷ rs) area) ≡ written r.letters (take result_length area)
  first_block = take_at _ _ result_length first_length

  rest_blocks : (k : ℕ) → drop (suc k * result_length) (letters_after (r ∷ rs) area) ≡ drop (k * result_length) (letters_after rs (drop result_length area))
  rest_blocks k =
      drop_block k (letters_after (r ∷ rs) area)
      ∙ ap (drop (k * result_length))
      (drop_at (written r.letters (take result_length area)) (letters_after rs (drop result_length area)) result_length first_length)

-- "its letters stand in 127 bytes of its own": block k is changed by answer k alone, as a lone run changes its result area
pub own_letters : (rs : List RunAnswer) → ShortLetters rs → (area : List ℕ) → length rs * result_length ≤ length area
    → (k : ℕ) {a : RunAnswer} → get_elem? rs k ≡ some a → block k (letters_after rs area) ≡ written a.letters (block k area)
own_letters [] s area room k e = absurd (none≢some e)
own_letters (r ∷ rs) s area room zero e =
    first_block r rs s area room ∙ ap (λ (b : RunAnswer). written b.letters (take result_length area)) (some_inj e)
own_letters (r ∷ rs) s area room (suc k) {a} e =
    ap (take result_length) (rest_blocks r rs s area room k)
    ∙ own_letters rs (rest_short r rs s area room) (drop result_length area) (rest_room r rs s area room) k e
    ∙ ap (λ l. written a.letters (take result_length l)) (sym (drop_block k area))

-- the letters behind the answers' blocks stay
pub other_letters : (rs : List RunAnswer) → ShortLetters rs → (area : List ℕ) → length rs * result_length ≤ length area
    → drop (length rs * result_length) (letters_after rs area) ≡ drop (length rs * result_length) area
other_letters [] s area room = refl
other_letters (r ∷ rs) s area room =
    rest_blocks r rs s area room (length rs)
    ∙ other_letters rs (rest_short r rs s area room) (drop result_length area) (rest_room r rs s area room)
    ∙ sym (drop_block (length rs) area)

-- the area of letters keeps its length
pub letters_length : (rs : List RunAnswer) → ShortLetters rs → (area : List ℕ) → length rs * result_length ≤ length area
    → length (letters_after rs area) ≡ length area
letters_length [] s area room = refl
letters_length (r ∷ rs) s area room =
    let f = first_length r rs s area room in
    let g = letters_length rs (rest_short r rs s area room) (drop result_length area) (rest_room r rs s area room) in
    omega (
      arith,
      length-append (written r.letters (take result_length area)) (letters_after rs (drop result_length area)),
      length-drop result_length area,
    )

-- ---- the answers

-- the desk program prints the same answers
pub desk_same : (v : Verdict) (ls : List (List ℕ)) → query_answers v ls ≡ concat (map query_line (answers_to v ls))
desk_same (refused f n) ls = refl
desk_same (accepted rs) ls = ap concat (sym (map-map query_line (λ l. answer_of_run (answer_to (accepted rs) (query_of l))) ls))

-- a refused query has no letters, and changes nothing where they would stand
pub refused_query : (f : Refusal) (o : List ℕ) → written (answer_of_run (fails f)).letters o ≡ o
refused_query f o = refl

-- "A refused query leaves its 127 bytes unchanged"
pub refused_block : (rs : List RunAnswer) → ShortLetters rs → (area : List ℕ) → length rs * result_length ≤ length area
    → (k : ℕ) (f : Refusal) → get_elem? rs k ≡ some (answer_of_run (fails f)) → block k (letters_after rs area) ≡ block k area
refused_block rs s area room k f e = own_letters rs s area room k e ∙ refused_query f (block k area)

-- a run whose number is not 0 gives no letters
failed_run : (r : Ran) → ((answer_of_run r).number ≡ 0 → ⊥) → (answer_of_run r).letters ≡ []
failed_run (gives r) h = absurd (h refl)
failed_run (fails f) h = refl

-- the letters of every answer fit their block
pub short_letters_answers : (file : List ℕ) (ls : List (List ℕ)) → ShortLetters (answers_to (verdict file) ls)
short_letters_answers file ls = go (verdict file) refl
  where
    one : (rs : List Row) → verdict file ≡ accepted rs → (x : Option Query) → length (answer_of_run (answer_to (accepted rs) x)).letters ≤ result_length
    one rs e none = omega arith
    one rs e (some q) = short_result file rs e q.iso q.back q.budget q.letters

    go : (v : Verdict) → verdict file ≡ v → ShortLetters (answers_to v ls)
    go (refused f n) e = each_nil (λ a. length a.letters ≤ result_length)
    go (accepted rs) e =
        each_map (λ a. length a.letters ≤ result_length) (λ l. answer_of_run (answer_to (accepted rs) (query_of l))) ls (λ l m. one rs e (query_of l))

-- an accepted file answers each line
answers_length : {v : Verdict} {rs : List Row} (ls : List (List ℕ)) → v ≡ accepted rs → length (answers_to v ls) ≡ length ls
answers_length {rs = rs} ls e =
    ap (λ v. length (answers_to v ls)) e ∙ length-map ls (λ l. answer_of_run (answer_to (accepted rs) (query_of l)))

-- "in the same order": answer k is that to line k
answer_at : {v : Verdict} {rs : List Row} (ls : List (List ℕ)) → v ≡ accepted rs → (k : ℕ) {l : List ℕ} → get_elem? ls k ≡ some l
    → get_elem? (answers_to v ls) k ≡ some (answer_of_run (answer_to v (query_of l)))
answer_at {v} ls e k {l} h =
    subst (λ u. get_elem? (answers_to u ls) k ≡ some (answer_of_run (answer_to u (query_of l)))) (sym e)
    (index_map (λ l. answer_of_run (answer_to (accepted _) (query_of l))) ls k h)

-- an answer whose number is not 0 has no letters
pub no_letters : (v : Verdict) (ls : List (List ℕ)) (k : ℕ) {a : RunAnswer} → get_elem? (answers_to v ls) k ≡ some a → (a.number ≡ 0 → ⊥) → a.letters ≡ []
no_letters (refused f n) ls k e h = absurd (none≢some e)
no_letters (accepted rs) ls k e h =
    let r = index_of_map (λ l. answer_of_run (answer_to (accepted rs) (query_of l))) ls k e in
    ap (λ b. b.letters) (sym r.2) ∙ failed_run (answer_to (accepted rs) (query_of r.0)) (λ z. h (ap (λ b. b.number) (sym r.2) ∙ z))

-- ---- which calls are refused

false_or : {a b : Bool} → a ≡ false → b ≡ false → (a || b) ≡ false
false_or p q = ap₂ ◌||◌ p q

-- no lent area is shorter than stated, or too short for the queries given
pub record Room (t w queries numbers letters : List ℕ) : Type 0 where
  pub table : table_length ≤ length t
  pub work : work_length ≤ length w
  pub of_numbers : length (lines queries) * 3 ≤ length numbers
  pub of_letters : length (lines queries) * result_length ≤ length letters

-- the table and the work area are long enough
pub long_enough : (t w : List ℕ) → table_length ≤ length t → work_length ≤ length w → short t w ≡ false
long_enough t w p q = false_or (not_ltb p) (not_ltb q)

-- an accepted verdict passed both tests before it
both_passed : (b c : Bool) (v : Verdict) → (answer_of (unless b (cond c (refused too_long 0) v))).number ≡ 0
    → (rs : List Row) × (b ≡ false) × (c ≡ false) × (v ≡ accepted rs)
both_passed true c v e = absurd (ne_of_gt (number_positive short_area) e)
both_passed false true v e = absurd (ne_of_gt (number_positive too_long) e)
both_passed false false v e = let r = answer_zero v e in (r.0, refl, refl, r.1)

-- what a call that is not refused gives
pub record AcceptedSheet (file t w queries numbers letters : List ℕ) : Type 0 where
  pub rows : List Row
  pub file_accepted : verdict file ≡ accepted rows
  pub room : Room t w queries numbers letters
  pub few : length (lines queries) ≤ max_queries
  pub answered : (sheet file t w queries numbers letters).queries ≡ length (lines queries)
  pub numbers_left : (sheet file t w queries numbers letters).numbers ≡ numbers_after (answers_to (verdict file) (lines queries)) numbers
  pub letters_left : (sheet file t w queries numbers letters).letters ≡ letters_after (answers_to (verdict file) (lines queries)) letters

-- what a refused call leaves
pub record RefusedSheet (file t w queries numbers letters : List ℕ) : Type 0 where
  pub answered : (sheet file t w queries numbers letters).queries ≡ 0
  pub numbers_left : (sheet file t w queries numbers letters).numbers ≡ numbers
  pub letters_left : (sheet file t w queries numbers letters).letters ≡ letters

-- the call is answered as Check answers the file, and leaves table and work as Check does
pub record AsCheck (file t w queries numbers letters : List ℕ) : Type 0 where
  pub answer : (sheet file t w queries numbers letters).answer ≡ (check file t w).answer
  pub table : (sheet file t w queries numbers letters).table ≡ (check file t w).table
  pub work : (sheet file t w queries numbers letters).work ≡ (check file t w).work

module _ (file t w queries numbers letters : List ℕ) where
  abbrev count : ℕ
  count = length (lines queries)

  abbrev narrow : Bool
  narrow = short t w || narrow_sheet count numbers letters

  narrow_room : narrow ≡ false → Room t w queries numbers letters
  narrow_room e =
      let p = neither (short t w) (narrow_sheet count numbers letters) e in
      let q = neither (ltb (length t) table_length) (ltb (length w) work_length) p.0 in
      let r = neither (ltb (length numbers) (count * 3)) (ltb (length letters) (count * result_length)) p.1 in
      record {
        table = ltb_false (length t) table_length q.0;
        work = ltb_false (length w) work_length q.1;
        of_numbers = ltb_false (length numbers) (count * 3) r.0;
        of_letters = ltb_false (length letters) (count * result_length) r.1;
      }

  room_narrow : Room t w queries numbers letters → narrow ≡ false
  room_narrow r = false_or (long_enough t w r.table r.work) (false_or (not_ltb r.of_numbers) (not_ltb r.of_letters))

  -- "A lent area too short for the queries given is 1", and so is a table or a work area shorter than stated
  pub short_sheet : (Room t w queries numbers letters → ⊥) → (sheet file t w queries numbers letters).answer ≡ record { number = 1; line = 0 }
  unfolding sheet
  short_sheet h = go narrow refl
    where
      go : (b : Bool) → narrow ≡ b → answer_of (unless b (sheet_verdict count (verdict file))) ≡ record { number = 1; line = 0 }
      go true e = refl
      go false e = absurd (h (narrow_room e))

  -- "and over 600 queries is 2"
  pub long_sheet : Room t w queries numbers letters → max_queries < length (lines queries)
      → (sheet file t w queries numbers letters).answer ≡ record { number = 2; line = 0 }
  unfolding sheet
  long_sheet r h =
      ap (λ b. answer_of (unless b (sheet_verdict count (verdict file)))) (room_narrow r) ∙ ap (λ b. answer_of (cond b (refused too_long 0) (verdict file))) (lt_ltb h)

  -- where neither test refuses, the verdict is the file's
  file_verdict : narrow ≡ false → ltb max_queries count ≡ false → unless narrow (sheet_verdict count (verdict file)) ≡ verdict file
  file_verdict p q = ap (λ b. unless b (sheet_verdict count (verdict file))) p ∙ ap (λ b. cond b (refused too_long 0) (verdict file)) q

  -- "the file is checked once", "A refused file refuses the whole call"
  pub as_check : Room t w queries numbers letters → length (lines queries) ≤ max_queries → AsCheck file t w queries numbers letters
  unfolding sheet check
  as_check r h =
      let q : unless (short t w) (verdict file) ≡ verdict file = ap (λ b. unless b (verdict file)) (long_enough t w r.table r.work) in
      let e : unless narrow (sheet_verdict count (verdict file)) ≡ unless (short t w) (verdict file) = file_verdict (room_narrow r) (not_ltb h) ∙ sym q in
      record { answer = ap answer_of e; table = ap (λ v. table_after v t) e; work = ap (λ v. work_after v w) e }

  -- A call that is not refused: the file is accepted, the areas have room for at most 600 queries, and each query is answered in its place.
  pub accepted_sheet : (sheet file t w queries numbers letters).answer.number ≡ 0 → AcceptedSheet file t w queries numbers letters
  unfolding sheet
  accepted_sheet e =
      let r = both_passed narrow (ltb max_queries count) (verdict file) e in
      let p = file_verdict r.1 r.2 in
      record {
        rows = r.0;
        file_accepted = r.3;
        room = narrow_room r.1;
        few = ltb_false max_queries count r.2;
        answered = ap (λ v. length (answers_to v (lines queries))) p ∙ answers_length (lines queries) r.3;
        numbers_left = ap (λ v. numbers_after (answers_to v (lines queries)) numbers) p;
        letters_left = ap (λ v. letters_after (answers_to v (lines queries)) letters) p;
      }

  -- A refused call answers no query and leaves the areas of numbers and letters.
  pub refused_sheet : ((sheet file t w queries numbers letters).answer.number ≡ 0 → ⊥) → RefusedSheet file t w queries numbers letters
  unfolding sheet
  refused_sheet h = let r = go (unless narrow (sheet_verdict count (verdict file))) h in record { answered = r.0; numbers_left = r.1; letters_left = r.2 }
    where
      go : (v : Verdict) → ((answer_of v).number ≡ 0 → ⊥)
          → (length (answers_to v (lines queries)) ≡ 0)
          × (numbers_after (answers_to v (lines queries)) numbers ≡ numbers)
          × (letters_after (answers_to v (lines queries)) letters ≡ letters)
      go (accepted rs) h = absurd (h refl)
      go (refused f n) h = (refl, refl, refl)

  -- A call refused by 1 or 2 leaves table and work too.
  pub low_refusal : ((sheet file t w queries numbers letters).answer.number ≡ 0 → ⊥) → (sheet file t w queries numbers letters).answer.number ≤ 2
      → ((sheet file t w queries numbers letters).table ≡ t) × ((sheet file t w queries numbers letters).work ≡ w)
  unfolding sheet
  low_refusal h l = go (unless narrow (sheet_verdict count (verdict file))) h l
    where
      go : (v : Verdict) → ((answer_of v).number ≡ 0 → ⊥) → (answer_of v).number ≤ 2 → (table_after v t ≡ t) × (work_after v w ≡ w)
      go (accepted rs) h l = absurd (h refl)
      go (refused f n) h l =
          (ap (λ b. cond b t (filled table_length [] t)) (le_leb l), ap (λ b. cond b w (filled work_length [] w)) (le_leb l))

-- ---- lone runs

-- an answer equal to that of a lone run whose result area was o
pub record Alone (a : RunAnswer) (o : List ℕ) (r : RunResult) : Type 0 where
  pub number : a.number ≡ r.number
  pub count : a.count ≡ r.count
  pub bytes : length a.letters ≡ r.length
  pub result : written a.letters o ≡ r.result

three_alone : {a : RunAnswer} {o : List ℕ} {r : RunResult} → Alone a o r → three a ≡ r.number ∷ (r.count ∷ (r.length ∷ []))
three_alone h = cc

-- Run, where the areas are long enough
run_alone : (file t w : List ℕ) (i : ℕ) (back : Bool) (budget : ℕ) (value o : List ℕ) → short t w ≡ false → result_length ≤ length o
    → Alone (answer_of_run (run_of (verdict file) i back budget value)) o (run_service file t w i back budget value o)
unfolding run_service
run_alone file t w i back budget value o p q =
    let e : verdict file ≡ unless (short t w || ltb (length o) result_length) (verdict file) = sym (ap (λ b. unless b (verdict file)) (false_or p (not_ltb q))) in
    record {
      number = ap (λ v. (answer_of_run (run_of v i back budget value)).number) e;
      count = ap (λ v. (answer_of_run (run_of v i back budget value)).count) e;
      bytes = ap (λ v. length (answer_of_run (run_of v i back budget value)).letters) e;
      result = ap (λ v. written (answer_of_run (run_of v i back budget value)).letters o) e;
    }

module _ (file t w queries numbers letters : List ℕ) (yes : (sheet file t w queries numbers letters).answer.number ≡ 0) where
  abbrev answers : List RunAnswer
  answers = answers_to (verdict file) (lines queries)

  accepts : AcceptedSheet file t w queries numbers letters
  accepts = accepted_sheet file t w queries numbers letters yes

  -- "equal to those of a lone run": in a call that is not refused, answer k is that of Run on query k, with any result area
  pub lone_run : (k : ℕ) (l : List ℕ) (q : Query) (o : List ℕ) → result_length ≤ length o → get_elem? (lines queries) k ≡ some l → query_of l ≡ some q
      → (a : RunAnswer)
      × (get_elem? (answers_to (verdict file) (lines queries)) k ≡ some a)
      × Alone a o (run_service file t w q.iso q.back q.budget q.letters o)
  lone_run k l q o long e f =
      let enough = long_enough t w accepts.room.table accepts.room.work in (
        answer_of_run (run_of (verdict file) q.iso q.back q.budget q.letters),
        answer_at (lines queries) accepts.file_accepted k e ∙ ap (λ x. some (answer_of_run (answer_to (verdict file) x))) f,
        run_alone file t w q.iso q.back q.budget q.letters o enough long,
      )

  -- a line that is no query is refused 3
  pub bad_query : (k : ℕ) (l : List ℕ) → get_elem? (lines queries) k ≡ some l → query_of l ≡ none
      → get_elem? (answers_to (verdict file) (lines queries)) k ≡ some (answer_of_run (fails bad_line))
  bad_query k l e f =
      answer_at (lines queries) accepts.file_accepted k e ∙ ap (λ x. some (answer_of_run (answer_to (verdict file) x))) f

  counted : length answers ≡ length (lines queries)
  counted = answers_length (lines queries) accepts.file_accepted

  numbers_room : length answers * 3 ≤ length numbers
  numbers_room = let r = accepts.room.of_numbers in let c = counted in omega arith

  letters_room : length answers * result_length ≤ length letters
  letters_room = let r = accepts.room.of_letters in let c = counted in omega arith

  -- the numbers of answer k
  pub sheet_numbers : (k : ℕ) {a : RunAnswer} → get_elem? (answers_to (verdict file) (lines queries)) k ≡ some a
      → take 3 (drop (k * 3) (sheet file t w queries numbers letters).numbers) ≡ three a
  sheet_numbers k e = ap (λ l. take 3 (drop (k * 3) l)) accepts.numbers_left ∙ own_numbers answers numbers k e

  -- the letters of answer k, which alone change block k
  pub sheet_letters : (k : ℕ) {a : RunAnswer} → get_elem? (answers_to (verdict file) (lines queries)) k ≡ some a
      → block k (sheet file t w queries numbers letters).letters ≡ written a.letters (block k letters)
  sheet_letters k e =
      ap (block k) accepts.letters_left ∙ own_letters answers (short_letters_answers file (lines queries)) letters letters_room k e

  -- "A refused query leaves its 127 bytes unchanged": one whose number is not 0
  pub refused_bytes : (k : ℕ) {a : RunAnswer} → get_elem? (answers_to (verdict file) (lines queries)) k ≡ some a → (a.number ≡ 0 → ⊥)
      → block k (sheet file t w queries numbers letters).letters ≡ block k letters
  refused_bytes k e h =
      sheet_letters k e ∙ ap (λ bs. written bs (block k letters)) (no_letters (verdict file) (lines queries) k e h)

  -- what stands behind the answers stays
  pub sheet_rest : (drop (length (lines queries) * 3) (sheet file t w queries numbers letters).numbers ≡ drop (length (lines queries) * 3) numbers)
      × (drop (length (lines queries) * result_length) (sheet file t w queries numbers letters).letters ≡ drop (length (lines queries) * result_length) letters)
  sheet_rest = (
    ap (drop (length (lines queries) * 3)) accepts.numbers_left
        ∙ subst (λ n. drop (n * 3) (numbers_after answers numbers) ≡ drop (n * 3) numbers) counted (other_numbers answers numbers),
    ap (drop (length (lines queries) * result_length)) accepts.letters_left
        ∙ subst (λ n. drop (n * result_length) (letters_after answers letters) ≡ drop (n * result_length) letters) counted
        (other_letters answers (short_letters_answers file (lines queries)) letters letters_room),
  )

  -- the areas keep their lengths
  pub sheet_lengths : (length (sheet file t w queries numbers letters).numbers ≡ length numbers)
      × (length (sheet file t w queries numbers letters).letters ≡ length letters)
  sheet_lengths = (
    ap length accepts.numbers_left ∙ numbers_length answers numbers numbers_room,
    ap length accepts.letters_left ∙ letters_length answers (short_letters_answers file (lines queries)) letters letters_room,
  )

  -- In a call that is not refused, query k's three numbers are those of a lone run whose result area is the query's own 127 bytes, and these
  -- hold what that run leaves there.
  pub each_query : (k : ℕ) (l : List ℕ) (q : Query) → get_elem? (lines queries) k ≡ some l → query_of l ≡ some q
      → (r : RunResult) → r ≡ run_service file t w q.iso q.back q.budget q.letters (block k letters)
      → (take 3 (drop (k * 3) (sheet file t w queries numbers letters).numbers) ≡ r.number ∷ (r.count ∷ (r.length ∷ [])))
      × (block k (sheet file t w queries numbers letters).letters ≡ r.result)
  each_query k l q e f r same =
      let a = lone_run k l q (block k letters) own_room e f in
      let alone : Alone a.0 (block k letters) r = subst (Alone a.0 (block k letters)) (sym same) a.2 in
      (sheet_numbers k a.1 ∙ three_alone alone, sheet_letters k a.1 ∙ alone.result)
    where
      own_room : result_length ≤ length (block k letters)
      own_room =
          let b = index_below (lines queries) k e in
          let o = accepts.room.of_letters in
          let d : result_length ≤ length (drop (k * result_length) letters) = omega (arith, length-drop (k * result_length) letters) in
          omega (arith, length-take-le result_length (drop (k * result_length) letters) d)
