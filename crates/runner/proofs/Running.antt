-- A run on a checked table, case by case, against the model's run of the file's rows.
use Prim.Native.Nat.{ℕ, ◌+◌, ◌-◌, ◌*◌, ◌≤◌, ◌<◌}
use native.Mathlib.Nat.{zero-add}
use native.Mathlib.Omega.{arith}
use mathlib.Core.Path.{◌≡◌, refl, sym, ap, ap₂, ◌∙◌}
use mathlib.Core.Bool.{Bool, true, false, cond}
use mathlib.Core.Option.{Option, none, some}
use mathlib.Core.Logic.{◌⊎◌, inl, inr}
use mathlib.Core.List.{List, ◌++◌}
use lib.ListN.{length, get_elem?, take, drop}
use lib.Dec.{ltb}
use lib.Seq.{paste, drop_at, take-length, length-take-le}
use Rattle.limits.specs.Limits.{max_isos, max_depth, max_letters, run_room, work_length, result_length, frame}
use Rattle.calculus.specs.Trees.{Val, Iso}
use Rattle.calculus.specs.Refusals.{Refusal, no_iso, no_value, spent, too_large}
use Rattle.format.specs.Lines.{Row}
use Rattle.format.specs.Judge.{start}
use Rattle.format.specs.Unfold.{isos_of}
use Rattle.calculus.specs.Letters.{letters}
use Rattle.model.specs.Services.{gives, fails, ended, within, argument, from, on_iso, run_rows, toward, RunAnswer, answer_of_run, written}
use Rattle.format.specs.Code.{refusal_view, numbered}
use Rattle.calculus.proofs.Basic.{le_leb, not_leb, le_or_lt}
use Rattle.format.proofs.Passing.{Passes}
use Rattle.model.proofs.Runs.{good_toward, accepted_good, toward_length}
use Rattle.table_trees.specs.Unfolding.{cell_of, type_of}
use Rattle.table_walks.proofs.Tails.{isos_few}
use Rattle.table_walks.proofs.Rows.{isos_told, past_row}
use Rattle.run_coding.specs.Coded.{Coded}
use Rattle.run_index.specs.Index.{place_at, isos_at, index_length}
use Rattle.check_isos.proofs.Collecting.{head_small}
use Rattle.checker.specs.CheckSays.{Accepted}
use Rattle.checker.specs.declared.Checked as C
use Rattle.checker.proofs.Checks.{isos_counted}
use Rattle.run_values.specs.Texts.{behind, alone}
use Rattle.run_values.specs.Traces.{Runs}
use Rattle.run_values.proofs.Alone.{alone_true, alone_false}
use Rattle.run_values.proofs.Agreeing.{value_some, value_none, at_slice}
use Rattle.run_values.proofs.Tracing.{traced}
use Rattle.std.specs.Prelude.{Err}
use Rattle.run_reduction.specs.declared.Stop.TheVariants as halt
use Rattle.run_reduction.specs.Frames.{Giving, given_at, Laid, Spares, Answers, Applied, ApplySays}
use Rattle.run_reduction.proofs.Laying.{inside, laid, from_at}
use Rattle.run_reduction.proofs.Framing.{range_begin, range_end, range_left, ok≢spent, ok≢large, spent≢large, spares_more}
use Rattle.runner.specs.declared.run.Ran as R
use Rattle.runner.specs.RunSays.{Prepared, answer_for, RanAs}
use Rattle.runner.proofs.Copying.{value_front, paste_front, copied_none, copied_all}

-- ---- the isos of a direction

-- at most 32 isos
pub isos_small : (rs : List Row) → Passes start rs → length (isos_of rs) ≤ max_isos
unfolding start
isos_small rs ps =
    let a = isos_counted rs in let b = isos_told 0 start rs in let c = isos_few ps in omega (arith, a, b, c)

-- as many the one way as the other
-- the model's run, by its cases
on_none : (rs : List Row) (i budget : ℕ) (value : List ℕ) → get_elem? (isos_of rs) i ≡ none → run_rows rs i budget value ≡ fails no_iso
unfolding run_rows
on_none rs i budget value e = ap (on_iso (isos_of rs) i budget value) e

on_some : (rs : List Row) (i budget : ℕ) (value : List ℕ) {o : Iso} → get_elem? (isos_of rs) i ≡ some o
    → run_rows rs i budget value ≡ from (isos_of rs) i budget (argument o value)
unfolding run_rows
on_some rs i budget value e = ap (on_iso (isos_of rs) i budget value) e

-- ---- a file that is prepared

pub prepared : {s t index : List ℕ} {c : C.Checked} (a : Accepted s t c) → isos_of a.file ≡ isos_at t c.types index 0 c.isos → Coded t c.types (drop index_length index)
    → Prepared t c.types index c.isos a.file
prepared {s} a e f = record { good = accepted_good s a.file a.accepts; indexed = e; count = a.isos; coded = f }

-- an accepted file has few isos
pub isos_within : {s t : List ℕ} {c : C.Checked} (a : Accepted s t c) → c.isos < index_length
isos_within {s} a =
    let n = isos_small a.file (accepted_good s a.file a.accepts).passes in let m = a.isos in omega (arith, n, m)

pub unprepared : {P : Type 0} {s t : List ℕ} {c : C.Checked} → Accepted s t c → (4096 < c.types) ⊎ (4096 < c.patterns) → P
unprepared a (inl h) = let small = head_small a.table in absurd (omega (arith, small))
unprepared a (inr h) = let small = head_small a.table in absurd (omega (arith, small))

-- ---- refusals

pub ran_refused : (a : RunAnswer) (o : List ℕ) (r : R.Ran) (f : Refusal) → a ≡ answer_of_run (fails f) → refusal_view r.refusal ≡ some f → r.count ≡ 0 → r.length ≡ 0 → RanAs a o o r
ran_refused a o r f e n k l =
    record {
      refusal = n ∙ sym (ap (λ x. x.refusal) e);
      number = ap numbered n ∙ sym (ap (λ x. x.number) e);
      count = k ∙ sym (ap (λ x. x.count) e);
      bytes = l ∙ sym (ap (λ x. length x.letters) e);
      result = sym (ap (λ x. written x.letters o) e);
    }

-- 15
pub no_iso_lem : (t : List ℕ) (base : ℕ) (index : List ℕ) (isos i : ℕ) (back : Bool) (budget : ℕ) (value o : List ℕ) (r : R.Ran) → isos ≤ i
    → refusal_view r.refusal ≡ some no_iso → r.count ≡ 0 → r.length ≡ 0 → (rs : List Row) → Prepared t base index isos rs → RanAs (answer_for rs i back budget value) o o r
no_iso_lem t base index isos i back budget value o r h n k l rs p =
    let many = toward_length back rs p.good.passes in
    let all = p.count in
    ran_refused (answer_for rs i back budget value) o r no_iso
    (ap answer_of_run (on_none (toward back rs) i budget value (past_row (isos_of (toward back rs)) i (omega (arith, many, all))))) n k l

-- the iso of a run, and the type of its value
record Found (t : List ℕ) (base : ℕ) (index : List ℕ) (back : Bool) (i j : ℕ) (rs : List Row) : Type 0 where
  pub o : Iso
  pub at : get_elem? (isos_of (toward back rs)) i ≡ some o
  pub type : o.from ≡ type_of t j
  pub lay : Laid t base index back (isos_of (toward back rs))

found : (t : List ℕ) (base : ℕ) (index : List ℕ) (isos i : ℕ) (back : Bool) (j row h f : ℕ) → i < isos → j ≡ cell_of t row f → row ≡ place_at index h → h ≡ place_at index i
    → f ≡ cond back 2 1 → (rs : List Row) → Prepared t base index isos rs → Found t base index back i j rs
found t base index isos i back j row h f less ej er eh ef rs p =
    let many = toward_length back rs p.good.passes in
    let all = p.count in
    let x = inside (isos_of (toward back rs)) i (omega (arith, many, all)) in
    let lay = laid t base index isos rs p.good.passes p.indexed back in
    record {
      o = x.0;
      at = x.1;
      type = ap (λ y. y.from) (lay.isos i x.0 x.1) ∙ from_at t base index back i
          ∙ ap (type_of t) (sym (ej ∙ ap₂ (cell_of t) (er ∙ ap (place_at index) eh) ef));
      lay = lay;
    }

-- 16
pub no_value_lem : (t : List ℕ) (base : ℕ) (index : List ℕ) (isos i : ℕ) (back : Bool) (budget : ℕ) (value o : List ℕ) (r : R.Ran) (j row h f : ℕ) (b : Bool) → i < isos
    → j ≡ cell_of t row f → row ≡ place_at index h → h ≡ place_at index i → f ≡ cond back 2 1 → b ≡ alone (behind (type_of t j) value) → b ≡ false
    → refusal_view r.refusal ≡ some no_value → r.count ≡ 0 → r.length ≡ 0 → (rs : List Row) → Prepared t base index isos rs → RanAs (answer_for rs i back budget value) o o r
no_value_lem t base index isos i back budget value o r j row h f b less ej er eh ef eb not' n k l rs p =
    let x = found t base index isos i back j row h f less ej er eh ef rs p in
    let none' : argument x.o value ≡ none =
    value_none x.o.from value (λ y. alone_false (behind (type_of t j) value) (sym eb ∙ not') (ap (λ a. behind a value) (sym x.type) ∙ y)) in
    ran_refused (answer_for rs i back budget value) o r no_value
    (ap answer_of_run (on_some (toward back rs) i budget value x.at ∙ ap (from (isos_of (toward back rs)) i budget) none')) n k l

-- ---- a run

-- a value of the starting type, what it comes to and with how many applications
record Begun (t : List ℕ) (base : ℕ) (index : List ℕ) (i : ℕ) (back : Bool) (budget : ℕ) (value : List ℕ) (rs : List Row) : Type 0 where
  pub v : Val
  pub spelled : value ≡ letters v
  pub x : Option Val
  pub m : ℕ
  pub runs : Runs max_depth (isos_of (toward back rs)) i v x m
  pub lay : Laid t base index back (isos_of (toward back rs))
  pub answer : answer_for rs i back budget value ≡ answer_of_run (within budget (x, m))

begun : (t : List ℕ) (base : ℕ) (index : List ℕ) (isos i : ℕ) (back : Bool) (budget : ℕ) (value : List ℕ) (j row h f : ℕ) (b : Bool) → i < isos
    → j ≡ cell_of t row f → row ≡ place_at index h → h ≡ place_at index i → f ≡ cond back 2 1 → b ≡ alone (behind (type_of t j) value) → b ≡ true
    → (rs : List Row) → Prepared t base index isos rs → Begun t base index i back budget value rs
begun t base index isos i back budget value j row h f b less ej er eh ef eb yes' rs p =
    let x = found t base index isos i back j row h f less ej er eh ef rs p in
    let a = value_some x.o.from value (ap (λ y. behind y value) x.type ∙ alone_true (behind (type_of t j) value) (sym eb ∙ yes')) in
    let r = traced (toward back rs) (good_toward back rs p.good) i x.o x.at a.0 a.3 in
    record {
      v = a.0;
      spelled = a.2;
      x = r.result;
      m = r.count;
      runs = r.runs;
      lay = x.lay;
      answer = ap answer_of_run (on_some (toward back rs) i budget value x.at ∙ ap (from (isos_of (toward back rs)) i budget) a.1 ∙ ap (within budget) r.reduces);
    }

-- few letters are copied
copied_few : (n : ℕ) {k : ℕ} → k ≡ cond (ltb max_letters n) 0 n → (k ≤ n) × (k ≤ max_letters)
copied_few n {k} e = go (le_or_lt n max_letters)
  where
    go : (n ≤ max_letters) ⊎ (max_letters < n) → (k ≤ n) × (k ≤ max_letters)
    go (inl h) = let is = e ∙ sym (copied_all n h) in (omega (arith, is), omega (arith, is, h))
    go (inr h) = let is = e ∙ sym (copied_none n h) in (omega (arith, is), omega (arith, is))

-- the application in the work area
applied : {t : List ℕ} {base : ℕ} {index : List ℕ} {i : ℕ} {back : Bool} {budget : ℕ} {value : List ℕ} {rs : List Row} (work : List ℕ) {work₁ work₂ : List ℕ} {k : ℕ} {r : Giving}
    → (g : Begun t base index i back budget value rs) → run_room ≤ length work → length work ≤ work_length → length work₁ ≡ length work
    → k ≡ cond (ltb max_letters (length value)) 0 (length value) → (k ≤ length value → k ≤ length work → work₁ ≡ paste work 0 value k)
    → ApplySays t base index back i max_depth work₁ work₂ 0 (length value) 0 (length value) budget r → Applied work₁ work₂ 0 max_depth budget g.x g.m r
applied {value = value} work {work₁} {k = k} g long most wide ek copy says =
    let n : length value ≡ length (letters g.v) = ap length g.spelled in
    let few = copied_few (length value) ek in
    let few₁ = few.1 in
    says _ g.v g.x g.m g.lay g.runs
    (record {
      large = λ h. omega (arith, n, h);
      fits = λ h.
          let all : k ≡ length value = ek ∙ sym (copied_all (length value) (omega (arith, n, h))) in
          let front = copy few.0 (omega (arith, few₁, long)) ∙ ap (paste work 0 value) all in
          record {
            stands = value_front work value g.v g.spelled front;
            ends = n ∙ sym (zero-add (length (letters g.v)));
            low = omega arith;
            over = omega arith;
            near = omega (arith, n, h);
          };
    })
    (omega (arith, long, wide)) (omega (arith, wide, most))

-- the model's run, by the budget
within_gives : (budget m : ℕ) {x : Option Val} (w : Val) → m ≤ budget → x ≡ some w → within budget (x, m) ≡ gives (m, letters w)
within_gives budget m w h e = ap (λ y. within budget (y, m)) e ∙ ap (λ b. cond b (gives (m, letters w)) (fails spent)) (le_leb h)

within_large : (budget m : ℕ) {x : Option Val} → m ≤ budget → x ≡ none → within budget (x, m) ≡ fails too_large
within_large budget m h e = ap (λ y. within budget (y, m)) e ∙ ap (λ b. cond b (fails too_large) (fails spent)) (le_leb h)

within_spent : (budget m : ℕ) (x : Option Val) → budget < m → within budget (x, m) ≡ fails spent
within_spent budget m x h = ap (λ b. cond b (ended x m) (fails spent)) (not_leb h)

-- a result within the budget
ran_done : {t : List ℕ} {base : ℕ} {index : List ℕ} {i : ℕ} {back : Bool} {budget : ℕ} {value : List ℕ} {rs : List Row} (work₂ part o o' : List ℕ) (b x left : ℕ) {z : Giving} (r : R.Ran)
    → (g : Begun t base index i back budget value rs) → Answers work₂ 0 budget g.x g.m z → z ≡ given_at b x left → result_length ≤ length o → part ≡ drop b (take x work₂)
    → (length part ≤ length part → length part ≤ length o → o' ≡ paste o 0 part (length part)) → refusal_view r.refusal ≡ none → r.count ≡ budget - left → r.length ≡ length part
    → RanAs (answer_for rs i back budget value) o o' r
ran_done work₂ part o o' b x left r g (Answers.spent h n) told long ep copy e k l = absurd (ok≢spent (sym told ∙ n))
ran_done work₂ part o o' b x left r g (Answers.large h y n) told long ep copy e k l = absurd (ok≢large (sym told ∙ n))
ran_done {i = i} {back = back} {budget = budget} {value = value} {rs = rs} work₂ part o o' b x left r g (Answers.gives w h y a) told long ep copy e k l =
    let bs : List ℕ = letters w in
    let less = a.near in
    let done = sym told ∙ a.gives in
    let rest = range_left done in
    let bytes : part ≡ bs = ep ∙ ap₂ (λ p q. drop p (take q work₂)) (range_begin done) (range_end done) ∙ at_slice a.stands in
    let place : length part ≡ length bs = ap length bytes in
    let answer = g.answer ∙ ap answer_of_run (within_gives budget g.m w h y) in
    let front : take (length part) part ≡ bs = take-length part ∙ bytes in
    record {
      refusal = e ∙ sym (ap (λ x. x.refusal) answer);
      number = ap numbered e ∙ sym (ap (λ x. x.number) answer);
      count = k ∙ omega (arith, rest, h) ∙ sym (ap (λ x. x.count) answer);
      bytes = l ∙ place ∙ sym (ap (λ x. length x.letters) answer);
      result = copy (omega arith) (omega (arith, place, less, long)) ∙ paste_front o part (length part) ∙ ap₂ (λ x y. x ++ drop y o) front place
          ∙ sym (ap (λ x. written x.letters o) answer);
    }

-- 17
ran_spent : {t : List ℕ} {base : ℕ} {index : List ℕ} {i : ℕ} {back : Bool} {budget : ℕ} {value : List ℕ} {rs : List Row} (work₂ o : List ℕ) {z : Giving} (r : R.Ran)
    → (g : Begun t base index i back budget value rs) → Answers work₂ 0 budget g.x g.m z → z ≡ Err halt.Spent
    → refusal_view r.refusal ≡ some spent → r.count ≡ 0 → r.length ≡ 0 → RanAs (answer_for rs i back budget value) o o r
ran_spent {budget = budget} work₂ o r g (Answers.spent h n) told e k l =
    ran_refused _ o r spent (g.answer ∙ ap answer_of_run (within_spent budget g.m g.x h)) e k l
ran_spent work₂ o r g (Answers.large h y n) told e k l = absurd (spent≢large (sym told ∙ n))
ran_spent work₂ o r g (Answers.gives w h y a) told e k l = absurd (ok≢spent (sym a.gives ∙ told))

-- 24
ran_large : {t : List ℕ} {base : ℕ} {index : List ℕ} {i : ℕ} {back : Bool} {budget : ℕ} {value : List ℕ} {rs : List Row} (work₂ o : List ℕ) {z : Giving} (r : R.Ran)
    → (g : Begun t base index i back budget value rs) → Answers work₂ 0 budget g.x g.m z → z ≡ Err halt.Large
    → refusal_view r.refusal ≡ some too_large → r.count ≡ 0 → r.length ≡ 0 → RanAs (answer_for rs i back budget value) o o r
ran_large work₂ o r g (Answers.spent h n) told e k l = absurd (spent≢large (sym n ∙ told))
ran_large {budget = budget} work₂ o r g (Answers.large h y n) told e k l =
    ran_refused _ o r too_large (g.answer ∙ ap answer_of_run (within_large budget g.m h y)) e k l
ran_large work₂ o r g (Answers.gives w h y a) told e k l = absurd (ok≢large (sym a.gives ∙ told))

-- letters of a value copied to the front leave alone what is behind them
front_spares : (work value : List ℕ) {work₁ : List ℕ} {n : ℕ} → n ≤ length value → work₁ ≡ paste work 0 value n → Spares work work₁ 0 n
front_spares work value {n = n} h e =
    record {
      before = refl;
      behind = ap (drop n) (e ∙ paste_front work value n) ∙ drop_at (take n value) (drop n work) n (length-take-le n value h);
    }

module _ (t : List ℕ) (base : ℕ) (index : List ℕ) (isos i : ℕ) (back : Bool) (budget : ℕ) (value work : List ℕ) {work₁ work₂ : List ℕ} {n : ℕ} {z : Giving} (j row h f : ℕ) (b : Bool)
    (less : i < isos) (ej : j ≡ cell_of t row f) (er : row ≡ place_at index h) (eh : h ≡ place_at index i) (ef : f ≡ cond back 2 1) (eb : b ≡ alone (behind (type_of t j) value)) (yes' : b ≡ true)
    (wide : length work₁ ≡ length work) (en : n ≡ cond (ltb max_letters (length value)) 0 (length value)) (copy : n ≤ length value → n ≤ length work → work₁ ≡ paste work 0 value n)
    (says : ApplySays t base index back i max_depth work₁ work₂ 0 (length value) 0 (length value) budget z) (rs : List Row) (p : Prepared t base index isos rs)
    (long : run_room ≤ length work) (most : length work ≤ work_length) where
  -- the run in the model, and the application
  model : Begun t base index i back budget value rs
  model = begun t base index isos i back budget value j row h f b less ej er eh ef eb yes' rs p

  area : Applied work₁ work₂ 0 max_depth budget model.x model.m z
  area = applied work model long most wide en copy says

  -- behind the frames of all calls the work area is as it was
  abbrev pub Spared : Type 0
  Spared = drop run_room work₂ ≡ drop run_room work

  run_spares : Spared
  run_spares =
      let few = copied_few (length value) en in
      let few₀ = few.0 in
      let few₁ = few.1 in
      let first = front_spares work value few₀ (copy few₀ (omega (arith, few₁, long))) in
      (spares_more 0 (0 + max_depth * frame) 0 run_room area.spares (omega arith) (omega arith)).behind ∙ (spares_more 0 n 0 run_room first (omega arith) (omega (arith, few₁))).behind

  pub run_done : (mid part o o' : List ℕ) (c x left : ℕ) (r : R.Ran) → z ≡ given_at c x left → mid ≡ take x work₂ → part ≡ drop c mid
      → (length part ≤ length part → length part ≤ length o → o' ≡ paste o 0 part (length part)) → refusal_view r.refusal ≡ none → r.count ≡ budget - left → r.length ≡ length part
      → result_length ≤ length o → RanAs (answer_for rs i back budget value) o o' r × Spared
  run_done mid part o o' c x left r told em ep copy' e k l room = (ran_done work₂ part o o' c x left r model area.answers told room (ep ∙ ap (drop c) em) copy' e k l, run_spares)

  pub run_spent : (o : List ℕ) (r : R.Ran) → z ≡ Err halt.Spent → refusal_view r.refusal ≡ some spent → r.count ≡ 0 → r.length ≡ 0 → RanAs (answer_for rs i back budget value) o o r × Spared
  run_spent o r told e k l = (ran_spent work₂ o r model area.answers told e k l, run_spares)

  pub run_large : (o : List ℕ) (r : R.Ran) → z ≡ Err halt.Large → refusal_view r.refusal ≡ some too_large → r.count ≡ 0 → r.length ≡ 0 → RanAs (answer_for rs i back budget value) o o r × Spared
  run_large o r told e k l = (ran_large work₂ o r model area.answers told e k l, run_spares)
