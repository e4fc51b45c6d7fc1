-- Refusals 4 to 7 of a row, judged by the rows above it, and the reading of a whole file.
use Rattle.std.specs.Prelude.{ℕ, suc, ◌+◌, ◌≡◌, Bool, true, false, ◌&&◌, List, [], ◌∷◌, ◌++◌, leb, ltb, eqb, get_or, length}
use Rattle.std.proofs.Math.Option.{Option, none, some}
use Rattle.limits.specs.Limits.{max_types, max_patterns, max_isos, max_clauses, max_lets, max_nodes, max_tags, variables}
use Rattle.calculus.specs.Tools.{first_failing}
use Rattle.calculus.specs.Trees.{Ty, tunit, tlist, tsum, tprod, Pat, pleaf, unit_leaf, empty_leaf, pvar, pinj, pnode, pair_node, element_node, left, right, type_nodes, nodes, tags}
use Rattle.calculus.specs.Refusals.{Kind, type_line, pattern_line, iso_line, clause_line, let_line, Refusal, bad_line, misplaced, bad_field, bad_name, ceiling}
use Rattle.format.specs.Lines.{Row, row_of}
use Rattle.format.specs.Kinds.{TypeKind, unit_type, sum_type, product_type, list_type, no_type, type_kind, PatternKind, unit_pattern, variable_pattern}
use Rattle.format.specs.Kinds.{left_pattern, right_pattern, pair_pattern, empty_pattern, element_pattern, no_pattern, pattern_kind}

-- what the rows above tell: the kind of the last, the T and P lines as trees, how many I lines there are, how many C lines since
-- the last I and L lines since the last C
pub record Seen : Type 0 where
  pub above : Option Kind
  pub types : List Ty
  pub patterns : List Pat
  pub isos : ℕ
  pub clauses : ℕ
  pub lets : ℕ

unfoldable pub start : Seen
start = record { above = none; types = []; patterns = []; isos = 0; clauses = 0; lets = 0 }

-- "unfolding it gives a tree": the tree of a T line, and of a P line, over the earlier lines' trees. A number that is no kind gives a
-- unit; no line of a file that was read has one, by `type_fields` and `pattern_fields`.
abbrev pub type_node_of : TypeKind → Ty → Ty → Ty
type_node_of unit_type a b = tunit
type_node_of sum_type a b = tsum a b
type_node_of product_type a b = tprod a b
type_node_of list_type a b = tlist a
type_node_of no_type a b = tunit

abbrev pub type_node : ℕ → Ty → Ty → Ty
type_node k a b = type_node_of (type_kind k) a b

abbrev pub type_tree : List Ty → Row → Ty
type_tree ts r = type_node r.x (get_or ts r.y tunit) (get_or ts r.z tunit)

abbrev pub pattern_node_of : PatternKind → ℕ → Pat → Pat → Pat
pattern_node_of unit_pattern n p q = pleaf unit_leaf
pattern_node_of variable_pattern n p q = pvar n
pattern_node_of left_pattern n p q = pinj left p
pattern_node_of right_pattern n p q = pinj right p
pattern_node_of pair_pattern n p q = pnode pair_node p q
pattern_node_of empty_pattern n p q = pleaf empty_leaf
pattern_node_of element_pattern n p q = pnode element_node p q
pattern_node_of no_pattern n p q = pleaf unit_leaf

abbrev pub pattern_node : ℕ → ℕ → Pat → Pat → Pat
pattern_node k n p q = pattern_node_of (pattern_kind k) n p q

abbrev pub pattern_tree : List Pat → Row → Pat
pattern_tree ps r = pattern_node r.x r.y (get_or ps r.y (pleaf unit_leaf)) (get_or ps r.z (pleaf unit_leaf))

-- "All T lines come first, then all P lines, then the isos, each an I line, its C lines, and under each C line its L lines"
abbrev pub stage : Option Kind → ℕ
stage none = 0
stage (some type_line) = 0
stage (some pattern_line) = 1
stage (some iso_line) = 2
stage (some clause_line) = 3
stage (some let_line) = 4

abbrev pub in_order : Option Kind → Kind → Bool
in_order a type_line = leb (stage a) 0
in_order a pattern_line = leb (stage a) 1
in_order a iso_line = true
in_order a clause_line = leb 2 (stage a)
in_order a let_line = leb 3 (stage a)

-- "kind not listed, idle field not 0, variable above 31"
abbrev pub type_fields_of : TypeKind → ℕ → ℕ → Bool
type_fields_of unit_type a b = eqb a 0 && eqb b 0
type_fields_of sum_type a b = true
type_fields_of product_type a b = true
type_fields_of list_type a b = eqb b 0
type_fields_of no_type a b = false

abbrev pub type_fields : ℕ → ℕ → ℕ → Bool
type_fields k a b = type_fields_of (type_kind k) a b

abbrev pub pattern_fields_of : PatternKind → ℕ → ℕ → Bool
pattern_fields_of unit_pattern a b = eqb a 0 && eqb b 0
pattern_fields_of variable_pattern a b = ltb a variables && eqb b 0
pattern_fields_of left_pattern a b = eqb b 0
pattern_fields_of right_pattern a b = eqb b 0
pattern_fields_of pair_pattern a b = true
pattern_fields_of empty_pattern a b = eqb a 0 && eqb b 0
pattern_fields_of element_pattern a b = true
pattern_fields_of no_pattern a b = false

abbrev pub pattern_fields : ℕ → ℕ → ℕ → Bool
pattern_fields k a b = pattern_fields_of (pattern_kind k) a b

abbrev pub fields_fit : Kind → Row → Bool
fields_fit type_line r = type_fields r.x r.y r.z
fields_fit pattern_line r = pattern_fields r.x r.y r.z
fields_fit iso_line r = true
fields_fit clause_line r = true
fields_fit let_line r = true

-- "A T or P line names only earlier lines of its own letter. An L line names an iso earlier than its own", or, request 14, its own. A number
-- that is no kind names nothing; its fields do not fit.
abbrev pub type_names_of : ℕ → TypeKind → ℕ → ℕ → Bool
type_names_of n unit_type a b = true
type_names_of n sum_type a b = ltb a n && ltb b n
type_names_of n product_type a b = ltb a n && ltb b n
type_names_of n list_type a b = ltb a n
type_names_of n no_type a b = true

abbrev pub type_names : ℕ → ℕ → ℕ → ℕ → Bool
type_names n k a b = type_names_of n (type_kind k) a b

abbrev pub pattern_names_of : ℕ → PatternKind → ℕ → ℕ → Bool
pattern_names_of n unit_pattern a b = true
pattern_names_of n variable_pattern a b = true
pattern_names_of n left_pattern a b = ltb a n
pattern_names_of n right_pattern a b = ltb a n
pattern_names_of n pair_pattern a b = ltb a n && ltb b n
pattern_names_of n empty_pattern a b = true
pattern_names_of n element_pattern a b = ltb a n && ltb b n
pattern_names_of n no_pattern a b = true

abbrev pub pattern_names : ℕ → ℕ → ℕ → ℕ → Bool
pattern_names n k a b = pattern_names_of n (pattern_kind k) a b

abbrev pub named : Seen → Kind → Row → Bool
named s type_line r = type_names (length s.types) r.x r.y r.z
named s pattern_line r = pattern_names (length s.patterns) r.x r.y r.z
named s iso_line r = ltb r.x (length s.types) && ltb r.y (length s.types)
named s clause_line r = ltb r.x (length s.patterns) && ltb r.y (length s.patterns)
named s let_line r = ltb r.x (length s.patterns) && ltb r.z (length s.patterns) && ltb r.y s.isos

-- "any other ceiling passed"
abbrev pub within_ceilings : Seen → Kind → Row → Bool
within_ceilings s type_line r = ltb (length s.types) max_types && leb (type_nodes (type_tree s.types r)) max_nodes
within_ceilings s pattern_line r =
    ltb (length s.patterns) max_patterns
    && leb (nodes (pattern_tree s.patterns r)) max_nodes
    && leb (tags (pattern_tree s.patterns r)) max_tags
within_ceilings s iso_line r = ltb s.isos max_isos
within_ceilings s clause_line r = ltb s.clauses max_clauses
within_ceilings s let_line r = ltb s.lets max_lets

-- the lowest of 4 to 7
unfoldable pub judge : Seen → Row → Option Refusal
judge s r =
    let k : Kind = r.kind in
    first_failing
    ((in_order s.above k, misplaced k)
    ∷ (fields_fit k r, bad_field k)
    ∷ (named s k r, bad_name k)
    ∷ (within_ceilings s k r, ceiling k)
    ∷ [])

-- what the rows tell with one row more
abbrev pub after_kind : Kind → Seen → Row → Seen
after_kind type_line s r = record { above = some type_line; types = s.types ++ (type_tree s.types r ∷ []); patterns = s.patterns; isos = s.isos; clauses = s.clauses; lets = s.lets }
after_kind pattern_line s r = record { above = some pattern_line; types = s.types; patterns = s.patterns ++ (pattern_tree s.patterns r ∷ []); isos = s.isos; clauses = s.clauses; lets = s.lets }
after_kind iso_line s r = record { above = some iso_line; types = s.types; patterns = s.patterns; isos = suc s.isos; clauses = 0; lets = 0 }
after_kind clause_line s r = record { above = some clause_line; types = s.types; patterns = s.patterns; isos = s.isos; clauses = suc s.clauses; lets = 0 }
after_kind let_line s r = record { above = some let_line; types = s.types; patterns = s.patterns; isos = s.isos; clauses = s.clauses; lets = suc s.lets }

abbrev pub after : Seen → Row → Seen
after s r = after_kind r.kind s r

abbrev pub after_all : Seen → List Row → Seen
after_all s [] = s
after_all s (r ∷ rs) = after_all (after s r) rs

-- each row passes the judge below the rows above it
pub data Passes : Seen → List Row → Type 0 where
  done : {s : Seen} → Passes s []
  next : {s : Seen} {r : Row} {rs : List Row} → judge s r ≡ none → Passes (after s r) rs → Passes s (r ∷ rs)

-- a file's rows, or the first line refused and its place
pub data Reading : Type 0 where
  rows : List Row → Reading
  faulty : Refusal → ℕ → Reading

abbrev pub with_row : Row → Reading → Reading
with_row r (rows rs) = rows (r ∷ rs)
with_row r (faulty f n) = faulty f n

abbrev pub on_row : ℕ → Option Row → (Row → Reading) → Reading
on_row n none k = faulty bad_line n
on_row n (some r) k = k r

abbrev pub on_judged : ℕ → Option Refusal → (Unit {0} → Reading) → Reading
on_judged n none k = k tt
on_judged n (some f) k = faulty f n

-- "all lines from the first, on each the lowest of 3 to 7": the lines from number n on, below the rows that `s` tells of
abbrev pub read_from : Seen → ℕ → List (List ℕ) → Reading
read_from s n [] = rows []
read_from s n (l ∷ ls) = on_row n (row_of l) (λ r. on_judged n (judge s r) (λ _. with_row r (read_from (after s r) (suc n) ls)))
