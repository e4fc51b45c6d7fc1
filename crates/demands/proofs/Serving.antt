-- What the services answer in areas of the stated lengths, through the verdict and the run that they are defined by.
use Prim.Native.Nat.{ℕ, ◌≤◌}
use native.Mathlib.Nat.{ne_of_gt}
use native.Mathlib.Omega.{arith}
use mathlib.Core.Path.{◌≡◌, refl, sym, ap, ap₂, ◌∙◌}
use mathlib.Core.Bool.{Bool, true, false, ◌||◌, false≢true}
use mathlib.Core.List.{List}
use lib.Dec.{ltb}
use lib.ListN.{length, take, drop}
use lib.Seq.{take_at}
use Rattle.limits.specs.Limits.{result_length}
use Rattle.format.specs.Lines.{Row}
use Rattle.format.specs.Judge.{rows}
use Rattle.model.specs.Services.{accepted, verdict, short, unless, written, answer_of, check, turned, turned_of, turn, Ran, gives, fails, run_of, run, RunAnswer, answer_of_run, run_service}
use Rattle.calculus.proofs.Basic.{not_ltb}
use Rattle.model.proofs.Files.{InForm, accepted_form, answer_zero, number_positive}
use Rattle.model.proofs.Outcomes.{turn_answer}
use Rattle.model.proofs.Sheets.{long_enough}
use Rattle.demands.specs.Words.{Areas, yes, Accepted, turned_bytes, shown, Gives}

-- ---- areas

pub not_short : {t w : List ℕ} → Areas t w → short t w ≡ false
not_short {t} {w} a = long_enough t w a.long a.wide

pub not_tight : {t w : List ℕ} (output : List ℕ) (n : ℕ) → Areas t w → n ≤ length output → (short t w || ltb (length output) n) ≡ false
not_tight output n a h = ap₂ ◌||◌ (not_short a) (not_ltb {m = length output} {n = n} h)

-- ---- Check

pub check_says : (file : List ℕ) {t w : List ℕ} → Areas t w → (check file t w).answer ≡ answer_of (verdict file)
unfolding check
check_says file a = ap (λ b. answer_of (unless b (verdict file))) (not_short a)

pub accepted_rows : {file : List ℕ} → Accepted file → (rs : List Row) × (verdict file ≡ accepted rs)
unfolding check
accepted_rows {file} a = go (short a.table a.work) (ap (λ x. x.number) a.says)
  where
    go : (b : Bool) → (answer_of (unless b (verdict file))).number ≡ 0 → (rs : List Row) × (verdict file ≡ accepted rs)
    go true e = absurd (omega arith)
    go false e = answer_zero (verdict file) e

-- an answer with the number 0 is `0,0`
pub zero_says : (file t w : List ℕ) → (check file t w).answer.number ≡ 0 → (check file t w).answer ≡ yes
unfolding check
zero_says file t w e = ap answer_of (answer_zero (unless (short t w) (verdict file)) e).1

-- the rows that the lines of an accepted file are
pub same_rows : {file : List ℕ} {qs : List Row} → verdict file ≡ accepted qs → (rs : List Row) → InForm file rs → qs ≡ rs
same_rows {file} {qs} e rs f =
    let g = (accepted_form file qs e).0 in
    let same : rows qs ≡ rows rs = sym g.reads ∙ f.reads in
    cc

pub accepted_as : {file : List ℕ} → Accepted file → (rs : List Row) → InForm file rs → verdict file ≡ accepted rs
accepted_as {file} a rs f = let (qs, e) = accepted_rows a in e ∙ ap accepted (same_rows e rs f)

-- ---- Turn

-- the bytes that Turn writes
pub turn_writes : (file output : List ℕ) {t w : List ℕ} → Areas t w → length file ≤ length output → turned_bytes file t w output ≡ turned file
unfolding turn turned
turn_writes file output a h =
    ap (λ b. let bs : List ℕ = turned_of (unless b (verdict file)) in take (length bs) (written bs output)) (not_tight output (length file) a h)
    ∙ take_at (turned_of (verdict file)) (drop (length (turned_of (verdict file))) output) (length (turned_of (verdict file))) refl

pub turn_says : (file output : List ℕ) {t w : List ℕ} → Areas t w → length file ≤ length output → (turn file t w output).answer ≡ answer_of (verdict file)
unfolding turn
turn_says file output {t} {w} a h = turn_answer file t w output ∙ ap (λ b. answer_of (unless b (verdict file))) (not_tight output (length file) a h)

-- ---- Run

-- the letters stand in front of the result area
front : (ls area : List ℕ) → take (length ls) (written ls area) ≡ ls
front ls area = take_at ls (drop (length ls) area) (length ls) refl

pub run_shows : (file result : List ℕ) {t w : List ℕ} (i : ℕ) (back : Bool) (budget : ℕ) (value : List ℕ) → Areas t w → 127 ≤ length result
    → shown (run_service file t w i back budget value result) ≡ answer_of_run (run file i back budget value)
unfolding run_service run
run_shows file result {t} {w} i back budget value a h = go (short t w || ltb (length result) result_length) (not_tight result 127 a h)
  where
    go : (b : Bool) → b ≡ false
        → (let r : RunAnswer = answer_of_run (run_of (unless b (verdict file)) i back budget value) in
        record { refusal = r.refusal; number = r.number; count = r.count; letters = take (length r.letters) (written r.letters result) })
        ≡ answer_of_run (run_of (verdict file) i back budget value)
    go true e = absurd (false≢true (sym e))
    go false e =
        let r : RunAnswer = answer_of_run (run_of (verdict file) i back budget value) in
        ap (λ ls. record { refusal = r.refusal; number = r.number; count = r.count; letters = ls }) (front r.letters result)

-- a call that gives something, in whatever areas, is a run that does
pub gives_run : (file t w result : List ℕ) (i : ℕ) (back : Bool) (budget : ℕ) (value : List ℕ) (k : ℕ) (y : List ℕ)
    → Gives (run_service file t w i back budget value result) k y → run file i back budget value ≡ gives (k, y)
unfolding run_service run
gives_run file t w result i back budget value k y g =
    go (short t w || ltb (length result) result_length) g.number g.count g.bytes
  where
    on : (r : Ran) → (answer_of_run r).number ≡ 0 → (answer_of_run r).count ≡ k
        → take (length (answer_of_run r).letters) (written (answer_of_run r).letters result) ≡ y → r ≡ gives (k, y)
    on (gives r) e c b = ap₂ (λ j ls. gives (j, ls)) c (sym (front r.1 result) ∙ b)
    on (fails f) e c b = absurd (ne_of_gt (number_positive f) e)

    go : (b : Bool) → (let r : RunAnswer = answer_of_run (run_of (unless b (verdict file)) i back budget value) in r.number ≡ 0)
        → (let r : RunAnswer = answer_of_run (run_of (unless b (verdict file)) i back budget value) in r.count ≡ k)
        → (let r : RunAnswer = answer_of_run (run_of (unless b (verdict file)) i back budget value) in take (length r.letters) (written r.letters result) ≡ y)
        → run_of (verdict file) i back budget value ≡ gives (k, y)
    go true e c h = absurd (omega arith)
    go false e c h = on (run_of (verdict file) i back budget value) e c h

-- and in areas of the stated lengths a run that gives something is a call that does
pub run_gives : (file result : List ℕ) {t w : List ℕ} (i : ℕ) (back : Bool) (budget : ℕ) (value : List ℕ) (k : ℕ) (y : List ℕ) → Areas t w → 127 ≤ length result
    → run file i back budget value ≡ gives (k, y) → Gives (run_service file t w i back budget value result) k y
run_gives file result i back budget value k y a h e =
    let s = run_shows file result i back budget value a h ∙ ap answer_of_run e in
    record { number = ap (λ r. r.number) s; count = ap (λ r. r.count) s; bytes = ap (λ r. r.letters) s }
