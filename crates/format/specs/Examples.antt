-- Rows by example, by computation.
use Rattle.std.specs.Prelude.{ℕ, None, Some, ◌≡◌, refl, true, false, List, [], ◌∷◌, map, replicate}
use Rattle.std.proofs.Math.Option.{Option, none, some}
use Rattle.calculus.specs.Trees.{Ty, tunit, tlist, tsum, tprod, left, right, Pat, pleaf, unit_leaf, empty_leaf, pvar, pinj, pnode, pair_node, element_node}
use Rattle.calculus.specs.Refusals.{Kind, type_line, pattern_line, iso_line, clause_line, let_line, short_area, too_long, bad_line, misplaced, bad_field, bad_name}
use Rattle.calculus.specs.Refusals.{ceiling, variable, let_shape, bad_type, overlap, gap, no_iso, no_value, spent, too_many, too_high, bad_list, idle, bad_script, recursion, too_large}
use Rattle.format.specs.declared.Kind.TheVariants as kinds
use Rattle.format.specs.declared.Side.TheVariants as sides
use Rattle.format.specs.declared.Refusal.TheVariants as refusals
use Rattle.format.specs.Lines.{Row}
use Rattle.format.specs.Judge.{Seen, start, type_node, type_tree, pattern_node, pattern_tree, stage, type_fields, type_names, pattern_fields, pattern_names, judge, after}
use Rattle.format.specs.Unfold.{isos_of}
use Rattle.format.specs.Code.{kind_view, row_view, side_view, refusal_view}

abbrev unit_line : Row
unit_line = record { kind = type_line; x = 0; y = 0; z = 0 }

-- "Two types are the same when their trees are equal, under any line numbers": T lines 0 and 1 are both the unit
pub one_tree_two_lines : map (λ o. o.to) (isos_of (unit_line ∷ (unit_line ∷ (record { kind = iso_line; x = 0; y = 1; z = 0 } ∷ [])))) ≡ tunit ∷ []
unfolding isos_of start
one_tree_two_lines = refl

-- what the cases and fields of the code's types mean
kind_views : map kind_view (kinds.Type ∷ kinds.Pattern ∷ kinds.Iso ∷ kinds.Clause ∷ kinds.Let ∷ []) ≡ type_line ∷ pattern_line ∷ iso_line ∷ clause_line ∷ let_line ∷ []
kind_views = refl

side_views : map side_view (sides.Left ∷ sides.Right ∷ []) ≡ left ∷ right ∷ []
side_views = refl

row_view_lem : row_view (record { kind = kinds.Clause; x = 1; y = 2; z = 3 }) ≡ record { kind = clause_line; x = 1; y = 2; z = 3 }
row_view_lem = refl

refusal_views : map refusal_view
    (None ∷ Some refusals.ShortArea ∷ Some refusals.TooLong ∷ Some refusals.BadLine ∷ Some (refusals.Misplaced kinds.Type) ∷ Some (refusals.BadField kinds.Pattern) ∷ Some (refusals.BadName kinds.Iso)
    ∷ Some (refusals.Ceiling kinds.Clause) ∷ Some (refusals.Variable kinds.Clause) ∷ Some (refusals.LetShape kinds.Clause) ∷ Some (refusals.BadType kinds.Clause)
    ∷ Some (refusals.Overlap kinds.Iso sides.Left)
    ∷ Some (refusals.Overlap kinds.Iso sides.Right) ∷ Some (refusals.Gap kinds.Iso sides.Left) ∷ Some (refusals.Gap kinds.Iso sides.Right) ∷ Some refusals.NoIso ∷ Some refusals.NoValue
    ∷ Some refusals.Spent
    ∷ Some refusals.TooMany ∷ Some refusals.TooHigh ∷ Some refusals.BadList ∷ Some (refusals.Idle kinds.Pattern) ∷ Some refusals.BadScript ∷ Some (refusals.Recursion kinds.Clause)
    ∷ Some refusals.TooLarge ∷ [])
    ≡ none ∷ some short_area ∷ some too_long ∷ some bad_line ∷ some (misplaced type_line) ∷ some (bad_field pattern_line) ∷ some (bad_name iso_line) ∷ some (ceiling clause_line)
    ∷ some (variable clause_line) ∷ some (let_shape clause_line) ∷ some (bad_type clause_line) ∷ some (overlap iso_line left) ∷ some (overlap iso_line right) ∷ some (gap iso_line left)
    ∷ some (gap iso_line right) ∷ some no_iso ∷ some no_value ∷ some spent ∷ some too_many ∷ some too_high ∷ some bad_list ∷ some (idle pattern_line) ∷ some bad_script
    ∷ some (recursion clause_line) ∷ some too_large ∷ []
refusal_views = refl

-- ---- lines and rows

abbrev row : Kind → ℕ → ℕ → ℕ → Row
row k x y z = record { kind = k; x = x; y = y; z = z }

abbrev bit : Ty
bit = tsum tunit tunit

-- the kinds of T and P lines by their numbers, and the tree of each over two earlier ones
type_nodes : map (λ k. type_node k bit tunit) (0 ∷ 1 ∷ 2 ∷ 3 ∷ 4 ∷ []) ≡ tunit ∷ tsum bit tunit ∷ tprod bit tunit ∷ tlist bit ∷ tunit ∷ []
type_nodes = refl

pattern_nodes : map (λ k. pattern_node k 7 (pvar 1) (pvar 2)) (0 ∷ 1 ∷ 2 ∷ 3 ∷ 4 ∷ 5 ∷ 6 ∷ 7 ∷ [])
    ≡ pleaf unit_leaf ∷ pvar 7 ∷ pinj left (pvar 1) ∷ pinj right (pvar 1) ∷ pnode pair_node (pvar 1) (pvar 2) ∷ pleaf empty_leaf ∷ pnode element_node (pvar 1) (pvar 2)
    ∷ pleaf unit_leaf ∷ []
pattern_nodes = refl

line_trees : (type_tree (bit ∷ tunit ∷ []) (row type_line 2 0 1) ≡ tprod bit tunit)
    × (map (pattern_tree (pvar 8 ∷ pvar 9 ∷ [])) (row pattern_line 1 4 0 ∷ row pattern_line 2 1 0 ∷ row pattern_line 4 0 1 ∷ []) ≡ pvar 4 ∷ pinj left (pvar 9) ∷ pnode pair_node (pvar 8) (pvar 9) ∷ [])
line_trees = (refl, refl)

-- "All T lines come first, then all P lines, then the isos": how far the lines above have come
stages_so_far : map stage (none ∷ some type_line ∷ some pattern_line ∷ some iso_line ∷ some clause_line ∷ some let_line ∷ []) ≡ 0 ∷ 0 ∷ 1 ∷ 2 ∷ 3 ∷ 4 ∷ []
stages_so_far = refl

-- a number that is no kind: 5 of its line, not 6 or 7
no_kind : (type_fields 4 0 0 ∷ type_names 0 4 9 9 ∷ pattern_fields 7 0 0 ∷ pattern_names 0 7 9 9 ∷ [] ≡ false ∷ true ∷ false ∷ true ∷ [])
no_kind = refl

-- "T kind 3 (a the element, b 0), P kinds 5 empty (a = b = 0) and 6 an element before a list"
list_fields : (type_fields 3 9 0 ∷ type_fields 3 0 1 ∷ pattern_fields 5 0 0 ∷ pattern_fields 5 1 0 ∷ pattern_fields 5 0 1 ∷ pattern_fields 6 9 9 ∷ []
    ≡ true ∷ false ∷ true ∷ false ∷ false ∷ true ∷ [])
list_fields = refl

-- the lines that they name: a list's element, an element and the list behind it
list_names : (type_names 1 3 0 9 ∷ type_names 1 3 1 0 ∷ pattern_names 0 5 9 9 ∷ pattern_names 2 6 1 0 ∷ pattern_names 2 6 2 0 ∷ pattern_names 2 6 0 2 ∷ []
    ≡ true ∷ false ∷ true ∷ true ∷ false ∷ false ∷ [])
list_names = refl

-- "on each the lowest of 3 to 7": below 1,024 P lines a T line of no kind that names no line; P lines of no kind, with an idle field, with an absent name; and one that is
-- only one too many
abbrev many : Seen
many = record { above = some pattern_line; types = []; patterns = replicate 1024 (pleaf unit_leaf); isos = 0; clauses = 0; lets = 0 }

lowest : map (judge many) (row type_line 9 9 9 ∷ row pattern_line 9 9999 9 ∷ row pattern_line 2 9999 1 ∷ row pattern_line 2 9999 0 ∷ row pattern_line 2 1023 0 ∷ [])
    ≡ some (misplaced type_line) ∷ some (bad_field pattern_line) ∷ some (bad_field pattern_line) ∷ some (bad_name pattern_line) ∷ some (ceiling pattern_line) ∷ []
unfolding judge
lowest = refl

-- before the first line, and what each line adds to what the lines above tell
abbrev seen : Option Kind → List Ty → List Pat → ℕ → ℕ → ℕ → Seen
seen k ts ps i c l = record { above = k; types = ts; patterns = ps; isos = i; clauses = c; lets = l }

before_lines : start ≡ seen none [] [] 0 0 0
unfolding start
before_lines = refl

line_added : map (after (seen none (bit ∷ []) (pvar 5 ∷ []) 3 4 6))
    (row type_line 0 0 0 ∷ row pattern_line 2 0 0 ∷ row iso_line 0 0 0 ∷ row clause_line 0 0 0 ∷ row let_line 0 0 0 ∷ [])
    ≡ seen (some type_line) (bit ∷ tunit ∷ []) (pvar 5 ∷ []) 3 4 6
    ∷ seen (some pattern_line) (bit ∷ []) (pvar 5 ∷ pinj left (pvar 5) ∷ []) 3 4 6
    ∷ seen (some iso_line) (bit ∷ []) (pvar 5 ∷ []) 4 0 0
    ∷ seen (some clause_line) (bit ∷ []) (pvar 5 ∷ []) 3 5 0
    ∷ seen (some let_line) (bit ∷ []) (pvar 5 ∷ []) 3 4 7
    ∷ []
line_added = refl
