-- Demand 1: what a call leaves in the lent areas, through the verdict that it goes by.
use Prim.Native.Nat.{ℕ, ◌-◌, ◌≤◌, ◌<◌}
use native.Mathlib.Omega.{arith}
use mathlib.Core.Path.{◌≡◌, refl, sym, ap, ◌∙◌, subst}
use mathlib.Core.Logic.{◌⊎◌, inl, inr}
use mathlib.Core.Bool.{Bool, true, false, ◌||◌}
use mathlib.Core.List.{List, [], ◌++◌, append_assoc}
use lib.Dec.{leb, ltb}
use lib.ListN.{length, take, drop, replicate, length-append, length-drop, length-replicate}
use lib.Seq.{take_at, drop_at}
use Rattle.limits.specs.Limits.{max_bytes, max_lines, table_length, work_length, result_length}
use Rattle.calculus.specs.Trees.{Iso}
use Rattle.calculus.specs.Refusals.{Refusal, number, short_area}
use Rattle.format.specs.Lines.{Row, lines}
use Rattle.format.specs.Table.{table_of}
use Rattle.format.specs.Judge.{start}
use Rattle.model.specs.Services.{Verdict, accepted, refused, over, verdict, filled, written, table_after, work_after, short, unless, answer_of, check, turned_of}
use Rattle.model.specs.Services.{turn, Ran, gives, fails, run_of, run, RunAnswer, answer_of_run, run_service}
use Rattle.model.specs.Answers.{RunIs, absent, strange, passed, large, done}
use Rattle.calculus.proofs.Basic.{neither, ltb_false, leb_le, leb_false, bool_cases}
use Rattle.format.proofs.Printing.{read_count}
use Rattle.format.proofs.Tables.{length_table}
use Rattle.model.proofs.Files.{InForm, refused≢accepted, accepted_inj, accepted_form, accepted_iff, number_positive, turned_fits, turned_accepted_bytes}
use Rattle.model.proofs.Outcomes.{turn_answer}
use Rattle.model.proofs.Runs.{run_iff}
use Rattle.model.proofs.Sizes.{short_result}
use Rattle.model.proofs.Sheets.{written_length}
use Rattle.demands.specs.Words.{OfFile}
use Rattle.demands.specs.Demands.{OneOrTwo, Left, Written, CheckLeaves, TurnLeaves, RunLeaves}

-- ---- an area whose front is filled

module _ (n : ℕ) (front area : List ℕ) (h : length front ≤ n) where
  abbrev padded : List ℕ
  padded = front ++ replicate (n - length front) 0

  padded_length : length padded ≡ n
  padded_length =
      let a = length-append front (replicate (n - length front) 0) in
      let b = length-replicate {A = ℕ} (n - length front) 0 in
      omega arith

  split : filled n front area ≡ padded ++ drop n area
  split = sym (append_assoc front (replicate (n - length front) 0) (drop n area))

  filled_front : take n (filled n front area) ≡ padded
  filled_front = ap (take n) split ∙ take_at padded (drop n area) n padded_length

  filled_behind : drop n (filled n front area) ≡ drop n area
  filled_behind = ap (drop n) split ∙ drop_at padded (drop n area) n padded_length

  filled_length : n ≤ length area → length (filled n front area) ≡ length area
  filled_length k =
      let a = ap length split in
      let b = length-append padded (drop n area) in
      let c = padded_length in
      let d = length-drop n area in
      omega arith

-- the lines of a file that is not too long fit the table
pub rows_fit : (file : List ℕ) (rs : List Row) → InForm file rs → length (table_of rs) ≤ table_length
unfolding over
rows_fit file rs f =
    let few = ltb_false max_lines (length (lines file)) (neither (ltb max_bytes (length file)) (ltb max_lines (length (lines file))) f.fits).1 in
    let count = read_count start 1 (lines file) rs f.reads in
    let long = length_table rs in
    omega arith

-- ---- table and work area

-- a number that a call may answer where the verdict is v
abbrev Tells : ℕ → Verdict → Type 0
Tells n (accepted rs) = (n ≡ 0) ⊎ ((15 ≤ n) × (n ≡ 21 → ⊥) × (n ≡ 23 → ⊥))
Tells n (refused f m) = n ≡ number f

one_or_two : (n : ℕ) → 0 < n → n ≤ 2 → OneOrTwo n
one_or_two n a b = go (bool_cases (leb n 1))
  where
    go : (leb n 1 ≡ true) ⊎ (leb n 1 ≡ false) → OneOrTwo n
    go (inl e) = let h = leb_le n 1 e in inl (omega arith)
    go (inr e) = let h = leb_false n 1 e in inr (omega arith)

not_low : (n : ℕ) → 3 ≤ n → OneOrTwo n → ⊥
not_low n h (inl x) = omega arith
not_low n h (inr x) = omega arith

not_low' : (n : ℕ) → (n ≡ 0) ⊎ ((15 ≤ n) × (n ≡ 21 → ⊥) × (n ≡ 23 → ⊥)) → OneOrTwo n → ⊥
not_low' n (inl z) (inl x) = omega arith
not_low' n (inl z) (inr x) = omega arith
not_low' n (inr z) x = not_low n (omega (arith, z.0)) x

not_file : (n : ℕ) → n ≤ 2 → OfFile n → ⊥
not_file n h (inl x) = omega (arith, x.0)
not_file n h (inr (inl x)) = omega arith
not_file n h (inr (inr x)) = omega arith

not_of_file : (n : ℕ) → (n ≡ 0) ⊎ ((15 ≤ n) × (n ≡ 21 → ⊥) × (n ≡ 23 → ⊥)) → OfFile n → ⊥
not_of_file n (inl z) x = not_file n (omega arith) x
not_of_file n (inr z) (inl x) = omega (arith, z.0, x.1)
not_of_file n (inr z) (inr (inl x)) = z.1 x
not_of_file n (inr z) (inr (inr x)) = z.2 x

-- the verdict by which a call goes, where `narrow` says that some area is short
module _ (file t w : List ℕ) (narrow : Bool) (room : narrow ≡ false → (table_length ≤ length t) × (work_length ≤ length w)) where
  held : {rs : List Row} → accepted rs ≡ unless narrow (verdict file) → (narrow ≡ false) × (verdict file ≡ accepted rs)
  held {rs} = go narrow
    where
      go : (b : Bool) → accepted rs ≡ unless b (verdict file) → (b ≡ false) × (verdict file ≡ accepted rs)
      go true e = absurd (refused≢accepted (sym e))
      go false e = (refl, sym e)

  -- a verdict other than 1 is the file's, in areas that are long enough
  turned_down : {f : Refusal} {m : ℕ} → refused f m ≡ unless narrow (verdict file) → 3 ≤ number f → (narrow ≡ false) × (verdict file ≡ refused f m)
  turned_down {f} {m} = go narrow
    where
      go : (b : Bool) → refused f m ≡ unless b (verdict file) → 3 ≤ number f → (b ≡ false) × (verdict file ≡ refused f m)
      go true e h = let same : f ≡ short_area = cc in let one = ap number same in absurd (omega arith)
      go false e h = (refl, sym e)

  -- an accepted file's lines stand in the table, and neither 1 nor 2 nor a refusal of a file is answered
  left_accepted : (n : ℕ) (rs : List Row) → accepted rs ≡ unless narrow (verdict file) → (OneOrTwo n → ⊥) → (OfFile n → ⊥)
      → Left n file t w (table_after (accepted rs) t) (work_after (accepted rs) w)
  left_accepted n rs e low high =
      let (enough, v) = held e in
      let (long, wide) = room enough in
      let fit = rows_fit file rs (accepted_form file rs v).0 in
      record {
        rows = λ x qs f ok.
            let same = accepted_inj (sym v ∙ (accepted_iff file qs).1 (f, ok)) in
            subst (λ z. take table_length (filled table_length (table_of rs) t) ≡ table_of z ++ replicate (table_length - length (table_of z)) 0) same
            (filled_front table_length (table_of rs) t fit);
        zeros = λ a. absurd (high a);
        cleared = λ x. filled_front work_length [] w (omega arith);
        unchanged = λ x. absurd (low x);
        beyond = (filled_behind table_length (table_of rs) t fit, filled_behind work_length [] w (omega arith));
        lengths = (filled_length table_length (table_of rs) t fit long, filled_length work_length [] w (omega arith) wide);
      }

  -- 1 and 2 change nothing
  left_low : (n : ℕ) → 0 < n → n ≤ 2 → Left n file t w t w
  left_low n a b =
      record {
        rows = λ x rs f ok. absurd (x (one_or_two n a b));
        zeros = λ c. absurd (not_file n b c);
        cleared = λ x. absurd (x (one_or_two n a b));
        unchanged = λ x. (refl, refl);
        beyond = (refl, refl);
        lengths = (refl, refl);
      }

  -- another refusal leaves zeros
  left_high : (f : Refusal) (m : ℕ) → refused f m ≡ unless narrow (verdict file) → 3 ≤ number f → Left (number f) file t w (filled table_length [] t) (filled work_length [] w)
  left_high f m e h =
      let (enough, v) = turned_down e h in
      let (long, wide) = room enough in
      record {
        rows = λ x rs a ok. absurd (refused≢accepted (sym v ∙ (accepted_iff file rs).1 (a, ok)));
        zeros = λ c. filled_front table_length [] t (omega arith);
        cleared = λ x. filled_front work_length [] w (omega arith);
        unchanged = λ x. absurd (not_low (number f) h x);
        beyond = (filled_behind table_length [] t (omega arith), filled_behind work_length [] w (omega arith));
        lengths = (filled_length table_length [] t (omega arith) long, filled_length work_length [] w (omega arith) wide);
      }

  left : (n : ℕ) (v : Verdict) → v ≡ unless narrow (verdict file) → Tells n v → Left n file t w (table_after v t) (work_after v w)
  left n (accepted rs) e z = left_accepted n rs e (λ x. not_low' n z x) (not_of_file n z)
  left n (refused f m) e z = subst (λ k. Left k file t w (table_after (refused f m) t) (work_after (refused f m) w)) (sym z) (go (bool_cases (leb (number f) 2)))
    where
      go : (leb (number f) 2 ≡ true) ⊎ (leb (number f) 2 ≡ false) → Left (number f) file t w (table_after (refused f m) t) (work_after (refused f m) w)
      go (inl b) = rw b (left_low (number f) (number_positive f) (leb_le (number f) 2 b))
      go (inr b) = rw b (left_high f m e (leb_false (number f) 2 b))

-- ---- the three services

-- no area is short
roomy : (t w : List ℕ) → short t w ≡ false → (table_length ≤ length t) × (work_length ≤ length w)
roomy t w e =
    let (a, b) = neither (ltb (length t) table_length) (ltb (length w) work_length) e in
    (ltb_false (length t) table_length a, ltb_false (length w) work_length b)

-- the number that Check and Turn answer
answer_tells : (v : Verdict) → Tells (answer_of v).number v
answer_tells (accepted rs) = inl refl
answer_tells (refused f m) = refl

pub check_leaves : CheckLeaves
unfolding check
check_leaves file t w =
    let v : Verdict = unless (short t w) (verdict file) in
    left file t w (short t w) (roomy t w) (answer_of v).number v refl (answer_tells v)

-- bytes that fit are written in front, and none with a refusal
written_left : (n : ℕ) (bs o : List ℕ) → length bs ≤ length o → (0 < n → bs ≡ []) → Written n (length bs) o (written bs o)
written_left n bs o fits none =
    record {
      untouched = λ h. (ap length (none h), ap (λ x. written x o) (none h));
      within = fits;
      beyond = drop_at bs (drop (length bs) o) (length bs) refl;
      lengths = written_length bs o fits;
    }

-- an area is short, the output area among them
abbrev narrow : List ℕ → List ℕ → List ℕ → ℕ → Bool
narrow t w o least = short t w || ltb (length o) least

wide_enough : (t w o : List ℕ) (least : ℕ) → narrow t w o least ≡ false → (table_length ≤ length t) × (work_length ≤ length w)
wide_enough t w o least e = roomy t w (neither (short t w) (ltb (length o) least) e).0

long_output : (t w o : List ℕ) (least : ℕ) → narrow t w o least ≡ false → least ≤ length o
long_output t w o least e = ltb_false (length o) least (neither (short t w) (ltb (length o) least) e).1

-- the verdict by which Turn goes
module _ (file t w o : List ℕ) where
  abbrev for_turn : Verdict
  for_turn = unless (narrow t w o (length file)) (verdict file)

  turn_written : (u : Verdict) → u ≡ for_turn → Written (answer_of u).number (length (turned_of u)) o (written (turned_of u) o)
  turn_written (refused f m) e = written_left (number f) [] o (omega arith) (λ h. refl)
  turn_written (accepted rs) e =
      let (enough, there) = held file t w (narrow t w o (length file)) (wide_enough t w o (length file)) e in
      let room = long_output t w o (length file) enough in
      let fits = turned_fits file rs there in
      let same = ap length (turned_accepted_bytes file rs there) in
      written_left 0 (turned_of (accepted rs)) o (omega arith) (λ h. absurd (omega arith))

pub turn_leaves : TurnLeaves
unfolding turn
turn_leaves file t w o =
    let v : Verdict = for_turn file t w o in
    subst (λ a. Left a.number file t w (table_after v t) (work_after v w) × Written a.number (length (turned_of v)) o (written (turned_of v) o))
    (sym (turn_answer file t w o))
    (left file t w (narrow t w o (length file)) (wide_enough t w o (length file)) (answer_of v).number v refl (answer_tells v), turn_written file t w o v refl)

-- the number that Run answers for an accepted file
pub says_tells : {os : List Iso} {i budget : ℕ} {bs : List ℕ} {r : Ran} → RunIs os i budget bs r
    → ((answer_of_run r).number ≡ 0) ⊎ ((15 ≤ (answer_of_run r).number) × ((answer_of_run r).number ≡ 21 → ⊥) × ((answer_of_run r).number ≡ 23 → ⊥))
says_tells (absent e) = inr (omega arith, (λ z. omega arith), (λ z. omega arith))
says_tells (strange o e h) = inr (omega arith, (λ z. omega arith), (λ z. omega arith))
says_tells (passed o v w k e x h s l) = inr (omega arith, (λ z. omega arith), (λ z. omega arith))
says_tells (large o v k e x h s l) = inr (omega arith, (λ z. omega arith), (λ z. omega arith))
says_tells (done o v w k e x h s l) = inl refl

-- a run that is refused has no letters and the count 0
refused_run : (r : Ran) → 0 < (answer_of_run r).number → ((answer_of_run r).letters ≡ []) × ((answer_of_run r).count ≡ 0)
refused_run (gives r) h = absurd (omega arith)
refused_run (fails f) h = (refl, refl)

-- the verdict by which Run goes
module _ (file t w : List ℕ) (i : ℕ) (back : Bool) (budget : ℕ) (value o : List ℕ) where
  abbrev for_run : Verdict
  for_run = unless (narrow t w o result_length) (verdict file)

  abbrev answered : Verdict → RunAnswer
  answered u = answer_of_run (run_of u i back budget value)

  run_tells : (u : Verdict) → u ≡ for_run → Tells (answered u).number u
  unfolding run
  run_tells (refused f m) e = refl
  run_tells (accepted rs) e =
      let there = (held file t w (narrow t w o result_length) (wide_enough t w o result_length) e).1 in
      says_tells ((run_iff file rs there i back budget value (run_of (accepted rs) i back budget value)).0 (ap (λ x. run_of x i back budget value) there))

  run_written : (u : Verdict) → u ≡ for_run → Written (answered u).number (length (answered u).letters) o (written (answered u).letters o)
  run_written (refused f m) e = written_left (number f) [] o (omega arith) (λ h. refl)
  run_written (accepted rs) e =
      let (enough, there) = held file t w (narrow t w o result_length) (wide_enough t w o result_length) e in
      let room = long_output t w o result_length enough in
      let few = short_result file rs there i back budget value in
      let r : Ran = run_of (accepted rs) i back budget value in
      written_left (answer_of_run r).number (answer_of_run r).letters o (omega arith) (λ h. (refused_run r h).0)

pub run_leaves : RunLeaves
unfolding run_service run
run_leaves file t w i back budget value o r e =
    let v : Verdict = for_run file t w i back budget value o in
    subst (λ r. Left r.number file t w r.table r.work × Written r.number r.length o r.result × (0 < r.number → r.count ≡ 0)) (sym e) (
      left file t w (narrow t w o result_length) (wide_enough t w o result_length) (answer_of_run (run_of v i back budget value)).number v refl
          (run_tells file t w i back budget value o v refl),
      run_written file t w i back budget value o v refl,
      (λ h. (refused_run (run_of v i back budget value) h).1),
    )
