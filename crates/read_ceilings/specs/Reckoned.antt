-- What is reckoned of a row that stands next, by the rows above it: contracts.
use Rattle.std.specs.Prelude.{ℕ, ◌≤◌, ◌≡◌, Bool, true, List, length}
use Rattle.limits.specs.Limits.{max_patterns}
use Rattle.calculus.specs.Trees.{Ty, Pat, type_nodes, nodes, tags}
use Rattle.calculus.specs.Refusals.{Kind}
use Rattle.format.specs.Judge.{Seen, type_names, pattern_names, named, within_ceilings, after_kind}
use Rattle.format.specs.Table.{size_of}
use Rattle.format.specs.Code.{row_view}
use Rattle.format.specs.declared.Row as R
use Rattle.read_seen.specs.Told.{TypeSizes, PatternSizes, TagsAt, next_type, next_pattern, Weighed}
use Rattle.read_seen.specs.declared.Seen as S

-- the nodes of a T line that stands next, where its names stand
abbrev pub TypeReckoned : List ℕ → ℕ → ℕ → ℕ → ℕ → Type 0
TypeReckoned t kind a b r = (ts : List Ty) → TypeSizes t ts → type_names (length ts) kind a b ≡ true → r ≡ type_nodes (next_type ts kind a b)

-- the nodes of a P line that stands next, and those that count towards the 40
abbrev pub PatternReckoned : List ℕ → ℕ → ℕ → ℕ → ℕ → ℕ → Type 0
PatternReckoned t base kind a b r =
    (ps : List Pat) → PatternSizes t base ps → pattern_names (length ps) kind a b ≡ true → r ≡ nodes (next_pattern ps kind a b)

abbrev pub TagsReckoned : List ℕ → ℕ → ℕ → ℕ → ℕ → Type 0
TagsReckoned g kind a b r = (ps : List Pat) → TagsAt g ps → pattern_names (length ps) kind a b ≡ true → r ≡ tags (next_pattern ps kind a b)

-- whether a row of this kind keeps the ceilings, where its names stand and c tells of the rows above
abbrev pub CeilingsTold : Kind → List ℕ → List ℕ → S.Seen → R.Row → Bool → Type 0
CeilingsTold k t g c r b = (s : Seen) → Weighed t g c s → named s k (row_view r) ≡ true → b ≡ within_ceilings s k (row_view r)

-- the size of a row of this kind
abbrev pub SizeTold : Kind → List ℕ → S.Seen → R.Row → ℕ → Type 0
SizeTold k t c r n = (g : List ℕ) (s : Seen) → Weighed t g c s → named s k (row_view r) ≡ true → n ≡ size_of k s (row_view r)

-- the nodes of the P lines that count towards the 40, with a row of this kind more that keeps the ceilings
pub record TagsKept (k : Kind) (g g' : List ℕ) (c : S.Seen) (r : R.Row) : Type 0 where
  pub kept : (t : List ℕ) (s : Seen) → Weighed t g c s → named s k (row_view r) ≡ true → within_ceilings s k (row_view r) ≡ true → max_patterns ≤ length g
      → TagsAt g' (after_kind k s (row_view r)).patterns
  pub long : length g' ≡ length g
