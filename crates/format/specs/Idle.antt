-- Request 11, "Idle lines": "A T or P line reached from no I, C or L line is now refused at the first such line."
use Rattle.std.specs.Prelude.{ℕ, suc, ◌+◌, ◌<◌, ◌≡◌, Bool, true, false, cond, ◌||◌, eqb, length}
use Rattle.std.proofs.Math.Option.{Option, none, some}
use mathlib.Core.List.{List, [], ◌∷◌, ◌++◌, Memᴰ}
use Rattle.std.proofs.Math.ListN.{get_elem?}
use Rattle.calculus.specs.Refusals.{Kind, type_line, pattern_line, iso_line, clause_line, let_line, Refusal, idle}
use Rattle.format.specs.Lines.{Row}
use Rattle.format.specs.Judge.{start, after_all}
use Rattle.format.specs.Kinds.{TypeKind, unit_type, sum_type, product_type, list_type, no_type, type_kind, PatternKind, unit_pattern, variable_pattern}
use Rattle.format.specs.Kinds.{left_pattern, right_pattern, pair_pattern, empty_pattern, element_pattern, no_pattern, pattern_kind}

-- Lines by their places in the file, from 0. "All T lines come first, then all P lines": T line a stands at place a, and P line a at place
-- ts + a, where ts is the number of T lines.
unfoldable pub type_lines : List Row → ℕ
unfolding start
type_lines rs = length (after_all start rs).types

-- the places of the lines that a T line names, and of those that a P line names; a variable's number names no line
abbrev pub type_reach : TypeKind → ℕ → ℕ → List ℕ
type_reach unit_type a b = []
type_reach sum_type a b = a ∷ (b ∷ [])
type_reach product_type a b = a ∷ (b ∷ [])
type_reach list_type a b = a ∷ []
type_reach no_type a b = []

abbrev pub pattern_reach : ℕ → PatternKind → ℕ → ℕ → List ℕ
pattern_reach ts unit_pattern a b = []
pattern_reach ts variable_pattern a b = []
pattern_reach ts left_pattern a b = (ts + a) ∷ []
pattern_reach ts right_pattern a b = (ts + a) ∷ []
pattern_reach ts pair_pattern a b = (ts + a) ∷ ((ts + b) ∷ [])
pattern_reach ts empty_pattern a b = []
pattern_reach ts element_pattern a b = (ts + a) ∷ ((ts + b) ∷ [])
pattern_reach ts no_pattern a b = []

-- the places of the T and P lines that a line names; the iso number of an L line reaches nothing
abbrev pub reach : ℕ → Kind → Row → List ℕ
reach ts type_line r = type_reach (type_kind r.x) r.y r.z
reach ts pattern_line r = pattern_reach ts (pattern_kind r.x) r.y r.z
reach ts iso_line r = r.x ∷ (r.y ∷ [])
reach ts clause_line r = (ts + r.x) ∷ ((ts + r.y) ∷ [])
reach ts let_line r = (ts + r.x) ∷ ((ts + r.z) ∷ [])

-- "from no I, C or L line"
abbrev pub is_root : Kind → Bool
is_root type_line = false
is_root pattern_line = false
is_root iso_line = true
is_root clause_line = true
is_root let_line = true

-- ---- as a judgement

-- the line at a place is an I, C or L line, or one that such a line reaches, through T and P lines
pub data Reached (rs : List Row) : ℕ → Type 0 where
  root : {n : ℕ} (r : Row) → get_elem? rs n ≡ some r → is_root r.kind ≡ true → Reached rs n
  named : {n : ℕ} (m : ℕ) (r : Row) → Reached rs m → get_elem? rs m ≡ some r → Memᴰ n (reach (type_lines rs) r.kind r) → Reached rs n

-- a file without idle lines
abbrev pub NoneIdle : List Row → Type 0
NoneIdle rs = (n : ℕ) → n < length rs → Reached rs n

-- "refused at the first such line", counted from 1
pub record FirstIdle (rs : List Row) (f : Refusal) (n : ℕ) : Type 0 where
  pub place : ℕ
  pub row : Row
  pub here : get_elem? rs place ≡ some row
  pub unreached : Reached rs place → ⊥
  pub above : (m : ℕ) → m < place → Reached rs m
  pub refusal : f ≡ idle row.kind
  pub line : n ≡ suc place

-- ---- as a test: one pass from the last line to the first, which is enough since lines name only earlier ones

abbrev pub member : ℕ → List ℕ → Bool
member n [] = false
member n (m ∷ ms) = eqb n m || member n ms

-- what the lines from some place on tell: the places that those among them that are reached name, and the first idle line
pub record Reach : Type 0 where
  pub named : List ℕ
  pub found : Option (Refusal × ℕ)

-- the row at place n before what follows it
abbrev pub reach_row : ℕ → ℕ → Row → Reach → Reach
reach_row ts n r o =
    cond (is_root r.kind || member n o.named)
    (record { named = reach ts r.kind r ++ o.named; found = o.found })
    (record { named = o.named; found = some (idle r.kind, suc n) })

abbrev pub reach_from : ℕ → ℕ → List Row → Reach
reach_from ts n [] = record { named = []; found = none }
reach_from ts n (r ∷ rs) = reach_row ts n r (reach_from ts (suc n) rs)

-- 21, at the first idle line
unfoldable pub idle_fault : List Row → Option (Refusal × ℕ)
unfolding type_lines
idle_fault rs = (reach_from (type_lines rs) 0 rs).found
