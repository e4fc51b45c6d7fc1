-- A refusal's line is one of the file's, so that it prints; and no answer's line has more than 160 bytes.
use Prim.Native.Nat.{ℕ, zero, suc, ◌+◌, ◌/◌, ◌%◌, ◌≤◌, ◌<◌}
use native.Mathlib.Omega.{arith}
use mathlib.Core.Path.{◌≡◌, refl, ap}
use mathlib.Core.Logic.{◌⊎◌, inl, inr}
use mathlib.Core.Bool.{Bool, true, false, cond, ◌||◌}
use mathlib.Core.Option.{Option, none, some}
use mathlib.Core.List.{List, [], ◌∷◌, ◌++◌, Memᴰ}
use lib.Dec.{ltb}
use lib.ListN.{length, length-append}
use Rattle.limits.specs.Limits.{max_bytes, max_lines, digit_zero, comma, line_feed, numeral_bound}
use Rattle.calculus.specs.Tools.{or_else, first_of, stages}
use Rattle.calculus.specs.Trees.{Ty, Pat, Clause, Iso}
use Rattle.calculus.specs.Refusals.{Kind, type_line, pattern_line, iso_line, clause_line, let_line, Refusal, idle, recursion}
use Rattle.format.specs.Lines.{Row, lines, row_of, decimal_of, decimal}
use Rattle.format.specs.Judge.{Seen, start, judge, after, after_all, Reading, rows, faulty, with_row, on_row, on_judged, read_from}
use Rattle.format.specs.Unfold.{Tail, place, tail_from, isos_of}
use Rattle.format.specs.Idle.{type_lines, reach, is_root, member, Reach, reach_from, idle_fault}
use Rattle.calculus.specs.Clauses.{Sigs, at, clause_fault, side_fault, zoned, clause_rule, recursion_rule, at_breach, breach, recursion_fault, iso_fault, sigs_of, fault_from, fault}
use Rattle.model.specs.Services.{Verdict, accepted, refused, judged, file_tests, after_reading, over, verdict, Answer, answer_of, RunAnswer}
use Rattle.model.specs.Desk.{query_line, file_line}
use Rattle.calculus.proofs.Basic.{bool_cases, each_nil, each_cons, ltb_false, true_or_right, not_both}
use Rattle.desk.specs.DeskSays.{answer_room}

-- ---- reading

-- of k lines from number n on: as many rows, or a refused line among them
abbrev Placed : ℕ → ℕ → Reading → Type 0
Placed n k (rows rs) = length rs ≡ k
Placed n k (faulty f m) = m < n + k

-- a line that is no row
placed_row : (n k : ℕ) (o : Option Row) (g : Row → Reading) → ((r : Row) → Placed n (suc k) (g r)) → Placed n (suc k) (on_row n o g)
placed_row n k none g h = omega arith
placed_row n k (some r) g h = h r

-- a row that is refused
placed_judged : (n k : ℕ) (o : Option Refusal) (g : Unit {0} → Reading) → Placed n (suc k) (g tt) → Placed n (suc k) (on_judged n o g)
placed_judged n k none g h = h
placed_judged n k (some f) g h = omega arith

-- a row before others
placed_with : (n k : ℕ) (r : Row) (x : Reading) → Placed (suc n) k x → Placed n (suc k) (with_row r x)
placed_with n k r (rows rs) h = ap suc h
placed_with n k r (faulty f m) h = omega (arith, h)

-- the lines of a file from some place on
read_placed : (s : Seen) (n : ℕ) (ls : List (List ℕ)) → Placed n (length ls) (read_from s n ls)
read_placed s n [] = refl
read_placed s n (l ∷ ls) =
    placed_row n (length ls) (row_of l) (λ r. on_judged n (judge s r) (λ _. with_row r (read_from (after s r) (suc n) ls)))
    (λ r. placed_judged n (length ls) (judge s r) (λ _. with_row r (read_from (after s r) (suc n) ls))
    (placed_with n (length ls) r (read_from (after s r) (suc n) ls) (read_placed (after s r) (suc n) ls)))

-- ---- isos

-- an iso's line and those of its clauses stand before line b
pub record IsoBelow (b : ℕ) (o : Iso) : Type 0 where
  pub line : o.line < b
  pub clauses : (c : Clause) → Memᴰ c o.clauses → c.line < b

-- all lines of what the rows from some place on hold
pub record TailBelow (b : ℕ) (o : Tail) : Type 0 where
  pub clauses : (c : Clause) → Memᴰ c o.clauses → c.line < b
  pub isos : (i : Iso) → Memᴰ i o.isos → IsoBelow b i

-- one row more
place_below : (ts : List Ty) (ps : List Pat) (b : ℕ) (k : Kind) (n : ℕ) (r : Row) (o : Tail) → n < b → TailBelow b o → TailBelow b (place ts ps k n r o)
place_below ts ps b type_line n r o h t = t
place_below ts ps b pattern_line n r o h t = t
place_below ts ps b iso_line n r o h t =
    record { clauses = each_nil (λ c. c.line < b); isos = each_cons (IsoBelow b) (record { line = h; clauses = t.clauses }) t.isos }
place_below ts ps b clause_line n r o h t = record { clauses = each_cons (λ c. c.line < b) h t.clauses; isos = t.isos }
place_below ts ps b let_line n r o h t = record { clauses = t.clauses; isos = t.isos }

-- all rows from some place on
tail_below : (ts : List Ty) (ps : List Pat) (b n : ℕ) (rs : List Row) → n + length rs ≤ b → TailBelow b (tail_from ts ps n rs)
tail_below ts ps b n [] h = record { clauses = each_nil (λ c. c.line < b); isos = each_nil (IsoBelow b) }
tail_below ts ps b n (r ∷ rs) h =
    place_below ts ps b r.kind n r (tail_from ts ps (suc n) rs) (omega (arith, h)) (tail_below ts ps b (suc n) rs (omega (arith, h)))

-- a refusal, if any, of a line before line b
abbrev Bounded : ℕ → Option (Refusal × ℕ) → Type 0
Bounded b none = Unit {0}
Bounded b (some p) = p.1 < b

-- the first of two
or_bounded : (b : ℕ) (x y : Option (Refusal × ℕ)) → Bounded b x → Bounded b y → Bounded b (or_else x y)
or_bounded b none y h k = k
or_bounded b (some p) y h k = h

-- the first in a list
first_bounded : {A : Type 0} (b : ℕ) (g : A → Option (Refusal × ℕ)) (xs : List A) → ((x : A) → Memᴰ x xs → Bounded b (g x)) → Bounded b (first_of g xs)
first_bounded b g [] h = tt
first_bounded b g (x ∷ xs) h = or_bounded b (g x) (first_of g xs) (h x (Memᴰ.head refl)) (first_bounded b g xs (λ y m. h y (Memᴰ.tail m)))

-- a refusal at a line
at_bounded : (b n : ℕ) (x : Option Refusal) → n < b → Bounded b (at n x)
at_bounded b n none h = tt
at_bounded b n (some f) h = h

-- one that a test decides on
test_bounded : (b : ℕ) (t : Bool) (x y : Option (Refusal × ℕ)) → Bounded b x → Bounded b y → Bounded b (cond t x y)
test_bounded b true x y h k = h
test_bounded b false x y h k = k

-- 23 stands at the iso's line or a clause's
recursion_bounded : (b i : ℕ) (o : Iso) → IsoBelow b o → Bounded b (recursion_fault i o)
unfolding recursion_fault
recursion_bounded b i o h =
    test_bounded b (recursion_rule i o) none (breach i o) tt
    (test_bounded b (zoned o.from) (first_of (at_breach i) o.clauses) (some (recursion iso_line, o.line))
    (first_bounded b (at_breach i) o.clauses
    (λ c m. test_bounded b (clause_rule i c) none (some (recursion clause_line, c.line)) tt (h.clauses c m)))
    h.line)

-- and so does an iso's refusal
iso_bounded : (b : ℕ) (sigs : Sigs) (i : ℕ) (o : Iso) → IsoBelow b o → Bounded b (iso_fault sigs i o)
unfolding iso_fault
iso_bounded b sigs i o h =
    or_bounded b
    (first_of (λ c. at c.line (clause_fault sigs o.from o.to c)) o.clauses)
    (or_else (recursion_fault i o) (at o.line (side_fault o)))
    (first_bounded b (λ c. at c.line (clause_fault sigs o.from o.to c)) o.clauses
    (λ c m. at_bounded b c.line (clause_fault sigs o.from o.to c) (h.clauses c m)))
    (or_bounded b (recursion_fault i o) (at o.line (side_fault o)) (recursion_bounded b i o h) (at_bounded b o.line (side_fault o) h.line))

-- the first of some isos
from_bounded : (b : ℕ) (sigs : Sigs) (i : ℕ) (os : List Iso) → ((o : Iso) → Memᴰ o os → IsoBelow b o) → Bounded b (fault_from sigs i os)
from_bounded b sigs i [] h = tt
from_bounded b sigs i (o ∷ os) h =
    or_bounded b (iso_fault sigs i o) (fault_from sigs (suc i) os) (iso_bounded b sigs i o (h o (Memᴰ.head refl)))
    (from_bounded b sigs (suc i) os (λ p m. h p (Memᴰ.tail m)))

-- and so that of a file's isos
fault_bounded : (b : ℕ) (rs : List Row) → 1 + length rs ≤ b → Bounded b (fault (isos_of rs))
unfolding fault isos_of
fault_bounded b rs h =
    from_bounded b (sigs_of (isos_of rs)) 0 (isos_of rs)
    (tail_below (after_all start rs).types (after_all start rs).patterns b 1 rs h).isos

-- an idle line is one of the file's
idle_bounded : (b ts n : ℕ) (rs : List Row) → suc n + length rs ≤ b → Bounded b (reach_from ts n rs).found
idle_bounded b ts n [] h = tt
idle_bounded b ts n (r ∷ rs) h =
    go (is_root r.kind || member n (reach_from ts (suc n) rs).named) (idle_bounded b ts (suc n) rs (omega (arith, h)))
  where
    go : (c : Bool) → Bounded b (reach_from ts (suc n) rs).found
        → Bounded b (cond {A = Reach} c (record { named = reach ts r.kind r ++ (reach_from ts (suc n) rs).named; found = (reach_from ts (suc n) rs).found })
        (record { named = (reach_from ts (suc n) rs).named; found = some (idle r.kind, suc n) })).found
    go true k = k
    go false k = omega (arith, h)

stages_bounded : (b : ℕ) (rs : List Row) → 1 + length rs ≤ b → Bounded b (stages file_tests rs)
unfolding idle_fault
stages_bounded b rs h =
    or_bounded b (idle_fault rs) (fault (isos_of rs)) (idle_bounded b (type_lines rs) 0 rs (omega (arith, h))) (fault_bounded b rs h)

-- ---- the verdict

-- a refusal of a line before line b, or acceptance
abbrev VerdictBelow : ℕ → Verdict → Type 0
VerdictBelow b (accepted rs) = Unit {0}
VerdictBelow b (refused f n) = n < b

-- by the isos
judged_below : (b : ℕ) (rs : List Row) (x : Option (Refusal × ℕ)) → Bounded b x → VerdictBelow b (judged rs x)
judged_below b rs none h = tt
judged_below b rs (some p) h = h

-- by the lines
reading_below : (b k : ℕ) (x : Reading) → Placed 1 k x → 1 + k ≤ b → VerdictBelow b (after_reading x)
reading_below b k (rows rs) h j = judged_below b rs (stages file_tests rs) (stages_bounded b rs (omega (arith, h, j)))
reading_below b k (faulty f n) h j = omega (arith, h, j)

-- a file that is not over the ceilings has at most 4,096 lines
few_lines : (bs : List ℕ) → over bs ≡ false → length (lines bs) ≤ max_lines
unfolding over
few_lines bs e = go (bool_cases (ltb max_lines (length (lines bs))))
  where
    go : (ltb max_lines (length (lines bs)) ≡ true) ⊎ (ltb max_lines (length (lines bs)) ≡ false) → length (lines bs) ≤ max_lines
    go (inl t) = absurd (not_both (true_or_right (ltb max_bytes (length bs)) t) e)
    go (inr t) = ltb_false max_lines (length (lines bs)) t

-- a refusal names none of the file's lines, or one of at most 4,096
verdict_below : (bs : List ℕ) → VerdictBelow 4097 (verdict bs)
unfolding verdict
verdict_below bs = go (bool_cases (over bs))
  where
    go : (over bs ≡ true) ⊎ (over bs ≡ false) → VerdictBelow 4097 (verdict bs)
    go (inl t) = rw t (omega arith)
    go (inr t) =
        rw t
        (reading_below 4097 (length (lines bs)) (read_from start 1 (lines bs)) (read_placed start 1 (lines bs)) (omega (arith, few_lines bs t)))

-- so the answer's line is small
answer_below : (v : Verdict) → VerdictBelow 4097 v → (answer_of v).line < numeral_bound
answer_below (accepted rs) h = omega arith
answer_below (refused f n) h = omega (arith, h)

-- the line of a file's answer prints
pub verdict_line : (bs : List ℕ) → (answer_of (verdict bs)).line < numeral_bound
verdict_line bs = answer_below (verdict bs) (verdict_below bs)

-- ---- lengths

-- no more digits than allowed
digits_few : (d n : ℕ) → length (decimal_of d n) ≤ d
digits_few zero n = omega arith
digits_few (suc d) n = go (bool_cases (ltb n 10)) (digits_few d (n / 10))
  where
    go : (ltb n 10 ≡ true) ⊎ (ltb n 10 ≡ false) → length (decimal_of d (n / 10)) ≤ d → length (decimal_of (suc d) n) ≤ suc d
    go (inl t) h = rw t (omega arith)
    go (inr t) h = rw t (omega (arith, h, length-append (decimal_of d (n / 10)) ((digit_zero + n % 10) ∷ [])))

-- a number prints in ten digits
decimal_few : (n : ℕ) → length (decimal n) ≤ 10
unfolding decimal
decimal_few n = digits_few 10 n

-- a file's answer
pub file_line_short : (a : Answer) → length (file_line a) ≤ answer_room
file_line_short a =
    omega (
      arith,
      decimal_few a.number,
      decimal_few a.line,
      length-append (decimal a.number) (comma ∷ (decimal a.line ++ (line_feed ∷ []))),
      length-append (decimal a.line) (line_feed ∷ []),
    )

-- a query's answer
pub query_line_short : (a : RunAnswer) → length a.letters ≤ 127 → length (query_line a) ≤ answer_room
query_line_short a h =
    omega (
      arith,
      h,
      decimal_few a.number,
      decimal_few a.count,
      length-append (decimal a.number) (comma ∷ (decimal a.count ++ (comma ∷ (a.letters ++ (line_feed ∷ []))))),
      length-append (decimal a.count) (comma ∷ (a.letters ++ (line_feed ∷ []))),
      length-append a.letters (line_feed ∷ []),
    )
