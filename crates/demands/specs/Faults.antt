-- Refusals 1 to 7, exactly where document 01 has them, and request 11's 21: `Demands.RefusedExactly` has 8 to 14 and 23. And the order in which the lines of a file in form stand.
use Rattle.std.specs.Prelude.{ℕ, suc, ◌≤◌, ◌<◌, ◌≡◌, ◌↔◌, ◌⊎◌, Bool, true, false, List, [], ◌∷◌, length}
use Rattle.std.proofs.Math.Option.{none, some}
use Rattle.calculus.specs.Refusals.{type_line, pattern_line, iso_line, clause_line, let_line, Refusal, number, bad_line, misplaced, bad_field, bad_name, ceiling}
use Rattle.format.specs.Lines.{Row, lines, row_of}
use Rattle.format.specs.Judge.{Seen, start, in_order, fields_fit, named, within_ceilings, after, rows, read_from}
use Rattle.format.specs.Idle.{FirstIdle}
use Rattle.model.specs.Services.{check, turn, run_service}
use Rattle.model.specs.Answers.{InForm}
use Rattle.demands.specs.Words.{Areas}

-- "an answer or a numbered refusal": Check and Turn answer 0 or one of 1 to 14, 21 and 23, Run 0 or one of 1 to 17, 21, 23 and 24
abbrev pub Checks : ℕ → Type 0
Checks n = (n ≤ 14) ⊎ ((n ≡ 21) ⊎ (n ≡ 23))

abbrev pub Runs : ℕ → Type 0
Runs n = (n ≤ 17) ⊎ ((n ≡ 21) ⊎ ((n ≡ 23) ⊎ (n ≡ 24)))

abbrev pub NumberedAnswers : Type 0
NumberedAnswers =
    (file t w : List ℕ)
    → Checks (check file t w).answer.number
    × ((output : List ℕ) → Checks (turn file t w output).answer.number)
    × ((i : ℕ) (back : Bool) (budget : ℕ) (value result : List ℕ) → Runs (run_service file t w i back budget value result).number)

-- 1, "a lent area is shorter than stated": for Check the table or the work area, for Turn also its output area, which "must be as long as the file", for Run its result area, which
-- "must have 127 bytes"
abbrev pub ShortExactly : Type 0
ShortExactly = (file t w : List ℕ) → ((check file t w).answer ≡ record { number = 1; line = 0 }) ↔ (Areas t w → ⊥)

abbrev pub TurnShortExactly : Type 0
TurnShortExactly =
    (file t w output : List ℕ) → ((turn file t w output).answer ≡ record { number = 1; line = 0 }) ↔ (Areas t w × (length file ≤ length output) → ⊥)

abbrev pub RunShortExactly : Type 0
RunShortExactly =
    (file t w : List ℕ) (i : ℕ) (back : Bool) (budget : ℕ) (value result : List ℕ)
    → ((run_service file t w i back budget value result).number ≡ 1) ↔ (Areas t w × (127 ≤ length result) → ⊥)

-- 2, "over 65,536 bytes or 4,096 lines"
abbrev pub LongExactly : Type 0
LongExactly =
    (file t w : List ℕ) → Areas t w → ((check file t w).answer ≡ record { number = 2; line = 0 }) ↔ ((65536 < length file) ⊎ (4096 < length (lines file)))

-- "Order: 1, then 2. … For a run, 15, 16, 17 follow": Check's own refusals, 2 to 14 and 21, come before those of Turn and Run, which refuse the file as Check does, Turn at the same line.
abbrev pub TurnAsCheck : Type 0
TurnAsCheck = (file t w output : List ℕ) → Areas t w → length file ≤ length output → (turn file t w output).answer ≡ (check file t w).answer

abbrev pub RunAsCheck : Type 0
RunAsCheck =
    (file t w : List ℕ) (i : ℕ) (back : Bool) (budget : ℕ) (value result : List ℕ) → Areas t w → 127 ≤ length result → 0 < (check file t w).answer.number
    → (run_service file t w i back budget value result).number ≡ (check file t w).answer.number

-- What is wrong with a line, where `s` is what the rows above tell: "on each the lowest of 3 to 7".
pub data LineFault (s : Seen) (l : List ℕ) : Refusal → Type 0 where
  form : row_of l ≡ none → LineFault s l bad_line
  order : (r : Row) → row_of l ≡ some r → in_order s.above r.kind ≡ false → LineFault s l (misplaced r.kind)
  fields : (r : Row) → row_of l ≡ some r → in_order s.above r.kind ≡ true → fields_fit r.kind r ≡ false → LineFault s l (bad_field r.kind)
  names : (r : Row) → row_of l ≡ some r → in_order s.above r.kind ≡ true → fields_fit r.kind r ≡ true → named s r.kind r ≡ false
      → LineFault s l (bad_name r.kind)
  ceilings : (r : Row) → row_of l ≡ some r → in_order s.above r.kind ≡ true → fields_fit r.kind r ≡ true → named s r.kind r ≡ true
      → within_ceilings s r.kind r ≡ false → LineFault s l (ceiling r.kind)

-- a line that passes
pub record LinePasses (s : Seen) (l : List ℕ) (r : Row) : Type 0 where
  pub form : row_of l ≡ some r
  pub order : in_order s.above r.kind ≡ true
  pub fields : fields_fit r.kind r ≡ true
  pub names : named s r.kind r ≡ true
  pub ceilings : within_ceilings s r.kind r ≡ true

-- "Then all lines from the first": the first line at fault, of those from number n on
pub data FirstLine : Seen → ℕ → List (List ℕ) → Refusal → ℕ → Type 0 where
  here : {s : Seen} {n m : ℕ} {l : List ℕ} {ls : List (List ℕ)} {f : Refusal} → LineFault s l f → m ≡ n → FirstLine s n (l ∷ ls) f m
  later : {s : Seen} {n m : ℕ} {l : List ℕ} {ls : List (List ℕ)} {f : Refusal} (r : Row) → LinePasses s l r → FirstLine (after s r) (suc n) ls f m
      → FirstLine s n (l ∷ ls) f m

-- 3 to 7: each at its line, exactly when it is the lowest that fails on the first line where any fails
abbrev pub LinesExactly : Type 0
LinesExactly =
    (file t w : List ℕ) → Areas t w → length file ≤ 65536 → length (lines file) ≤ 4096 → (n m : ℕ) → 0 < n → n ≤ 7
    → ((check file t w).answer ≡ record { number = n; line = m }) ↔ ((f : Refusal) × (number f ≡ n) × FirstLine start 1 (lines file) f m)

-- 21, request 11: "A T or P line reached from no I, C or L line is now refused at the first such line", "after 7 for the whole file and before 8"
abbrev pub IdleExactly : Type 0
IdleExactly =
    (file t w : List ℕ) → Areas t w → length file ≤ 65536 → length (lines file) ≤ 4096 → (m : ℕ)
    → ((check file t w).answer ≡ record { number = 21; line = m })
    ↔ ((rs : List Row) × (read_from start 1 (lines file) ≡ rows rs) × (f : Refusal) × FirstIdle rs f m)

-- "All T lines come first, then all P lines, then the isos, each an I line, its C lines, and under each C line its L lines in order": T*, P*, (I (C L*)*)*. What may
-- stand at a place is a line of its kind, or what may stand at the next one.
pub data Place : Type 0 where
  types patterns isos clauses lets : Place

pub data Stand : Place → List Row → Type 0 where
  type : {r : Row} {rs : List Row} → r.kind ≡ type_line → Stand types rs → Stand types (r ∷ rs)
  no_type : {rs : List Row} → Stand patterns rs → Stand types rs
  pattern : {r : Row} {rs : List Row} → r.kind ≡ pattern_line → Stand patterns rs → Stand patterns (r ∷ rs)
  no_pattern : {rs : List Row} → Stand isos rs → Stand patterns rs
  iso : {r : Row} {rs : List Row} → r.kind ≡ iso_line → Stand clauses rs → Stand isos (r ∷ rs)
  clause : {r : Row} {rs : List Row} → r.kind ≡ clause_line → Stand lets rs → Stand clauses (r ∷ rs)
  no_clause : {rs : List Row} → Stand isos rs → Stand clauses rs
  let_step : {r : Row} {rs : List Row} → r.kind ≡ let_line → Stand lets rs → Stand lets (r ∷ rs)
  no_let : {rs : List Row} → Stand clauses rs → Stand lets rs
  end : Stand isos []

abbrev pub RowsInOrder : Type 0
RowsInOrder = (file : List ℕ) (rs : List Row) → InForm file rs → Stand types rs
