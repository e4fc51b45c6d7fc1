-- One query's answer in the areas, and the answers to all lines of a list of queries.
use Prim.Native.Nat.{ℕ, suc, ◌+◌, ◌-◌, ◌*◌, ◌%◌, ◌≤◌, ◌<◌}
use native.Mathlib.Omega.{arith}
use mathlib.Core.Path.{◌≡◌, refl, sym, ap, ap₂, ◌∙◌}
use mathlib.Core.List.{List, [], ◌∷◌, ◌++◌, append_assoc, map}
use lib.ListN.{length, take, drop, length-append, length-drop, take-append-drop, drop_of_length-le}
use lib.Seq.{sets, sets-eq, take_at, drop_at, drop-drop, length-take-le}
use borrow.Rule.Slice.PartMut.{mid_of, put_mid}
use Rattle.limits.specs.Limits.{result_length, run_room, work_length}
use Rattle.calculus.specs.Tools.{concat}
use Rattle.format.specs.Lines.{Row, lines}
use Rattle.model.specs.Services.{accepted, RunAnswer, answer_of_run, written}
use Rattle.model.specs.Desk.{query_of, answer_to}
use Rattle.model.specs.Sheet.{answers_to, three, numbers_after, letters_after}
use Rattle.format.specs.Code.{number_of}
use Rattle.model.proofs.Sheets.{written_length, written_fits}
use Rattle.read_fields.specs.Views.{LineEnd}
use Rattle.runner.specs.RunSays.{Prepared, RanAs}
use Rattle.runner.specs.declared.run.Ran as R
use Rattle.sheets.specs.Answering.{with_part, OneAnswered, AllAnswered}

-- ---- one query

-- the three numbers of a run are those of its answer
three_told : (a : RunAnswer) (r : R.Ran) {o o' : List ℕ} → RanAs a o o' r → length a.letters ≤ result_length
    → ◌≡◌ {A = List ℕ} (number_of r.refusal ∷ (r.count ∷ (r.length % 4294967296 ∷ []))) (three a)
three_told a r ran h =
    let same = ran.bytes in
    let small : r.length % 4294967296 ≡ length a.letters = omega (arith, same, h) in
    ap₂ (λ x y. x ∷ (r.count ∷ (y ∷ []))) ran.number small ∙ ap (λ x. a.number ∷ (x ∷ (length a.letters ∷ []))) ran.count

pub one_answered : (a : RunAnswer) (k : ℕ) {n n' : List ℕ} (o ys : List ℕ) (r : R.Ran) → k * 127 + result_length ≤ length o
    → (result_length ≤ length (mid_of (k * 127) (k * 127 + 127 - k * 127) o) → RanAs a (mid_of (k * 127) (k * 127 + 127 - k * 127) o) ys r)
    → length ys ≡ length (mid_of (k * 127) (k * 127 + 127 - k * 127) o)
    → n' ≡ sets n (k * 3) (number_of r.refusal ∷ (r.count ∷ (r.length % 4294967296 ∷ [])))
    → OneAnswered a k n o n' (put_mid (k * 127) (k * 127 + 127 - k * 127) o ys)
one_answered a k {n} {n'} o ys r room says kept e =
    let width : k * 127 + 127 - k * 127 ≡ 127 = omega arith in
    let long : length (mid_of (k * 127) (k * 127 + 127 - k * 127) o) ≡ 127 =
    ap (λ m. length (mid_of (k * 127) m o)) width ∙ length-take-le 127 (drop (k * 127) o) (omega (arith, length-drop (k * 127) o)) in
    let ran = says (omega (arith, long)) in
    let fits : length a.letters ≤ 127 =
    omega (arith, long, written_fits a.letters (mid_of (k * 127) (k * 127 + 127 - k * 127) o) (ap length (sym ran.result) ∙ kept)) in
    record {
      fits = fits;
      numbers = e ∙ ap (sets n (k * 3)) (three_told a r ran fits);
      letters =
          ap (put_mid (k * 127) (k * 127 + 127 - k * 127) o) ran.result
          ∙ ap (λ m. put_mid (k * 127) m o (written a.letters (mid_of (k * 127) m o))) width;
    }

-- ---- what one answer leaves to the others

-- a front that is done, a part that is done now, and the rest
onward : (f : List ℕ → List ℕ) (xs ys zs : List ℕ) {l : List ℕ} (m : ℕ) → l ≡ xs ++ (ys ++ zs) → length xs + length ys ≡ m
    → xs ++ (ys ++ f zs) ≡ take m l ++ f (drop m l)
onward f xs ys zs {l} m e h =
    let whole : l ≡ (xs ++ ys) ++ zs = e ∙ sym (append_assoc xs ys zs) in
    let long : length (xs ++ ys) ≡ m = length-append xs ys ∙ h in
    sym (append_assoc xs ys (f zs))
    ∙ sym (ap₂ (λ p q. p ++ f q) (ap (take m) whole ∙ take_at (xs ++ ys) zs m long) (ap (drop m) whole ∙ drop_at (xs ++ ys) zs m long))

numbers_first : (a : RunAnswer) (bs : List RunAnswer) (n : List ℕ) → numbers_after (a ∷ bs) n ≡ three a ++ numbers_after bs (drop 3 n)
numbers_first a bs n =
    let m : ℕ = length (concat (map three bs)) in
    let sum : suc (suc (suc m)) ≡ 3 + m = omega arith in
    ap (λ l. three a ++ (concat (map three bs) ++ l)) (ap (λ i. drop i n) sum ∙ sym (drop-drop m 3 n))

numbers_onward : (a : RunAnswer) (bs : List RunAnswer) (k : ℕ) (n n' : List ℕ) → k * 3 + 3 ≤ length n → n' ≡ sets n (k * 3) (three a)
    → take (k * 3) n ++ numbers_after (a ∷ bs) (drop (k * 3) n) ≡ take ((k + 1) * 3) n' ++ numbers_after bs (drop ((k + 1) * 3) n')
numbers_onward a bs k n n' h e =
    let front : length (take (k * 3) n) ≡ k * 3 = length-take-le (k * 3) n (omega arith) in
    let back : drop (k * 3 + 3) n ≡ drop 3 (drop (k * 3) n) = sym (drop-drop 3 (k * 3) n) in
    ap (λ l. take (k * 3) n ++ l) (numbers_first a bs (drop (k * 3) n))
    ∙ onward (numbers_after bs) (take (k * 3) n) (three a) (drop 3 (drop (k * 3) n)) ((k + 1) * 3)
    (e ∙ sets-eq (three a) n (k * 3) h ∙ append_assoc (take (k * 3) n) (three a) (drop (k * 3 + 3) n) ∙ ap (λ l. take (k * 3) n ++ (three a ++ l)) back)
    (omega (arith, front))

letters_onward : (a : RunAnswer) (bs : List RunAnswer) (k : ℕ) (o o' : List ℕ) → k * 127 + result_length ≤ length o → length a.letters ≤ 127
    → o' ≡ with_part k (written a.letters (take 127 (drop (k * 127) o))) o
    → take (k * 127) o ++ letters_after (a ∷ bs) (drop (k * 127) o) ≡ take ((k + 1) * 127) o' ++ letters_after bs (drop ((k + 1) * 127) o')
letters_onward a bs k o o' h fits e =
    let part : List ℕ = take 127 (drop (k * 127) o) in
    let front : length (take (k * 127) o) ≡ k * 127 = length-take-le (k * 127) o (omega arith) in
    let size : length part ≡ 127 = length-take-le 127 (drop (k * 127) o) (omega (arith, length-drop (k * 127) o)) in
    let wide : length (written a.letters part) ≡ 127 =
    written_length a.letters part (omega (arith, size, fits)) ∙ size in
    onward (letters_after bs) (take (k * 127) o) (written a.letters part) (drop 127 (drop (k * 127) o)) ((k + 1) * 127) e (omega (arith, front, wide))

-- ---- all queries

-- the answers to lines, on the rows of an accepted file
abbrev answers_of : List Row → List (List ℕ) → List RunAnswer
answers_of rs ls = answers_to (accepted rs) ls

-- what the loop knows before the line at place `at`, which is query k: what is still to come makes the areas what all answers make them
pub record Through (t : List ℕ) (base : ℕ) (index : List ℕ) (isos : ℕ) (q w₀ n₀ o₀ w n o : List ℕ) (at k : ℕ) : Type 0 where
  pub within : at ≤ length q
  pub lines_left : k + length (lines (drop at q)) ≡ length (lines q)
  pub works : length w ≡ length w₀
  pub wide : length n ≡ length n₀
  pub long : length o ≡ length o₀
  pub numbers : (rs : List Row) → Prepared t base index isos rs → run_room ≤ length w₀ → length w₀ ≤ 65536
      → numbers_after (answers_of rs (lines q)) n₀ ≡ take (k * 3) n ++ numbers_after (answers_of rs (lines (drop at q))) (drop (k * 3) n)
  pub letters : (rs : List Row) → Prepared t base index isos rs → run_room ≤ length w₀ → length w₀ ≤ 65536
      → letters_after (answers_of rs (lines q)) o₀ ≡ take (k * 127) o ++ letters_after (answers_of rs (lines (drop at q))) (drop (k * 127) o)

pub through_start : (t : List ℕ) (base : ℕ) (index : List ℕ) (isos : ℕ) (q w n o : List ℕ) → Through t base index isos q w n o w n o 0 0
through_start t base index isos q w n o =
    record {
      within = omega arith;
      lines_left = omega arith;
      works = refl;
      wide = refl;
      long = refl;
      numbers = λ rs p h m. refl;
      letters = λ rs p h m. refl;
    }

-- a line more is there
pub through_room : {t : List ℕ} {base : ℕ} {index : List ℕ} {isos : ℕ} {q w₀ n₀ o₀ w n o : List ℕ} {at k end : ℕ} → Through t base index isos q w₀ n₀ o₀ w n o at k → at < length q
    → LineEnd q at end → length (lines q) * 3 ≤ length n₀ → length (lines q) * result_length ≤ length o₀ → (k * 3 + 3 ≤ length n) × (k * 127 + result_length ≤ length o)
through_room x h e a b =
    let s = ap length (e.splits h) in
    let l = x.lines_left in
    let c = x.wide in
    let d = x.long in
    (omega (arith, s, l, c, a), omega (arith, s, l, d, b))

pub through_next : {t : List ℕ} {base : ℕ} {index : List ℕ} {isos : ℕ} {q w₀ n₀ o₀ w n o w' n' o' : List ℕ} {at k end : ℕ} → Through t base index isos q w₀ n₀ o₀ w n o at k → at < length q
    → LineEnd q at end → (k * 3 + 3 ≤ length n) × (k * 127 + result_length ≤ length o)
    → ((rs : List Row) → Prepared t base index isos rs → run_room ≤ length w → length w ≤ work_length
    → OneAnswered (answer_of_run (answer_to (accepted rs) (query_of (mid_of at (end - at) q)))) k n o n' o')
    → length w' ≡ length w → length n' ≡ length n → length o' ≡ length o → Through t base index isos q w₀ n₀ o₀ w' n' o' end (k + 1)
through_next {q = q} {n = n} {o = o} {n' = n'} {o' = o'} {at = at} {k = k} {end = end} x h e room one kw kn ko =
    let s = ap length (e.splits h) in
    let l = x.lines_left in
    let works' = x.works in
    let answer : List Row → RunAnswer = λ rs. answer_of_run (answer_to (accepted rs) (query_of (mid_of at (end - at) q))) in
    record {
      within = e.within h;
      lines_left = omega (arith, s, l);
      works = kw ∙ x.works;
      wide = kn ∙ x.wide;
      long = ko ∙ x.long;
      numbers =
          λ rs p m u. let y = one rs p (omega (arith, works', m)) (omega (arith, works', u)) in
          x.numbers rs p m u ∙ ap (λ ls. take (k * 3) n ++ numbers_after (answers_of rs ls) (drop (k * 3) n)) (e.splits h)
          ∙ numbers_onward (answer rs) (answers_of rs (lines (drop end q))) k n n' room.0 y.numbers;
      letters =
          λ rs p m u. let y = one rs p (omega (arith, works', m)) (omega (arith, works', u)) in
          x.letters rs p m u ∙ ap (λ ls. take (k * 127) o ++ letters_after (answers_of rs ls) (drop (k * 127) o)) (e.splits h)
          ∙ letters_onward (answer rs) (answers_of rs (lines (drop end q))) k o o' room.1 y.fits y.letters;
    }

pub through_end : {t : List ℕ} {base : ℕ} {index : List ℕ} {isos : ℕ} {q w₀ n₀ o₀ w n o : List ℕ} {at k : ℕ} → Through t base index isos q w₀ n₀ o₀ w n o at k → length q ≤ at
    → (rs : List Row) → Prepared t base index isos rs → run_room ≤ length w₀ → length w₀ ≤ 65536 → AllAnswered rs q n₀ o₀ n o
through_end {q = q} {n = n} {o = o} {at = at} {k = k} x h rs p m u =
    let none_left : drop at q ≡ [] = drop_of_length-le q {i = at} h in
    record {
      numbers =
          sym (x.numbers rs p m u ∙ ap (λ l. take (k * 3) n ++ numbers_after (answers_of rs (lines l)) (drop (k * 3) n)) none_left ∙ take-append-drop (k * 3) n);
      letters =
          sym (x.letters rs p m u ∙ ap (λ l. take (k * 127) o ++ letters_after (answers_of rs (lines l)) (drop (k * 127) o)) none_left ∙ take-append-drop (k * 127) o);
    }
