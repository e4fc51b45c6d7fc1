-- Request 07: examples that shut out wrong readings. Each holds by computation.
use Rattle.std.specs.Prelude.{ℕ, zero, suc, ◌≡◌, refl, true, false, List, [], ◌∷◌, map, replicate}
use Rattle.std.proofs.Math.Option.{none, some}
use Rattle.limits.specs.Limits.{line_feed}
use Rattle.calculus.specs.Trees.{Ty, tunit, tlist, tsum, tprod, left, right, pvar, vleaf, unit_leaf, empty_leaf, vinj, vnode, pair_node, element_node, Iso}
use Rattle.calculus.specs.Refusals.{Kind, type_line, pattern_line, iso_line, clause_line, let_line, no_iso, spent, ceiling, too_many, bad_list}
use Rattle.calculus.specs.Reduction.{reduce}
use Rattle.calculus.specs.Lists.{free_isos}
use Rattle.format.specs.Lines.{Row, print_rows}
use Rattle.format.specs.Judge.{start}
use Rattle.model.specs.Services.{Verdict, verdict, gives, fails, refusal_of}
use Rattle.model.specs.Cases.{bytes, file_s}
use Rattle.law_pairlists.specs.PairLists.{pair_line, pair_lines, to_in, tos_of, none_twice, pairs_up, same_row, find, enter, type_row, pattern_row, write_type}
use Rattle.law_pairlists.specs.PairLists.{write_value, clause_row, iso_row, write_pairs, settings, list_of, within_all, writing, on_types, to_if, on_exported, export_on}
use Rattle.law_pairlists.specs.PairLists.{import_on, export_rows, import_rows}

abbrev squares : Verdict
squares = verdict (bytes "T,0,0,0\nT,1,0,0\nT,2,1,1\nT,2,2,2\nT,2,3,3\nT,2,4,4\nP,1,0,0\nI,5,5\nC,0,0\n")

-- so many empty lines
abbrev blanks : ℕ → List ℕ
blanks n = replicate n line_feed

-- S's second iso as a list; a budget of 1 is spent at pair 0
export_s : export_on (verdict file_s) 1 2 ≡ gives (bytes "0,1\n1,0\n2,2\n3,3\n")
unfolding verdict export_rows
export_s = refl

export_spent : export_on (verdict file_s) 1 1 ≡ fails spent
unfolding verdict export_rows
export_spent = refl

-- no equal line twice: one T line for both types' parts, the P lines clause by clause
import_s : import_on (verdict file_s) 2 2 (bytes "0,1\n1,0\n2,2\n3,3\n")
    ≡ gives (bytes "T,0,0,0\nT,1,0,0\nT,2,1,1\nP,0,0,0\nP,2,0,0\nP,4,1,1\nP,3,0,0\nP,4,1,3\nP,4,3,1\nP,4,3,3\nI,2,2\nC,2,4\nC,4,2\nC,5,5\nC,6,6\n")
unfolding verdict import_rows
import_s = refl

-- from (1 + 1) × (1 × 1) to (1 × 1) × (1 + 1), types of which every part is a line of its own: the from-type's T lines first, and of both types and of every value the first part
-- before the second, the left value before the right; a list with either ending on each line
import_parts : import_on (verdict (bytes "T,0,0,0\nT,2,0,0\nT,1,0,0\nT,2,1,2\nT,2,2,1\nP,1,0,0\nP,1,1,0\nP,4,0,1\nP,4,1,0\nI,4,3\nC,2,3\n")) 4 3 (bytes "0,1\r\n1,0\n")
    ≡ gives (bytes "T,0,0,0\nT,1,0,0\nT,2,0,0\nT,2,1,2\nT,2,2,1\nP,0,0,0\nP,2,0,0\nP,4,0,0\nP,4,1,2\nP,3,0,0\nP,4,2,4\nP,4,4,2\nP,4,2,1\nI,3,4\nC,3,5\nC,6,7\n")
unfolding verdict import_rows
import_parts = refl

import_repeated : import_on (verdict file_s) 1 1 (bytes "0,1\n1,1\n") ≡ fails bad_list
unfolding verdict import_rows
import_repeated = refl

import_short : import_on (verdict file_s) 2 2 (bytes "0,1\n1,0\n") ≡ fails bad_list
unfolding verdict import_rows
import_short = refl

import_unended : import_on (verdict file_s) 1 1 (bytes "0,1\n1,0") ≡ fails bad_list
unfolding verdict import_rows
import_unended = refl

import_absent : import_on (verdict file_s) 1 3 (bytes "0,1\n1,0\n") ≡ fails no_iso
unfolding verdict import_rows
import_absent = refl

-- 15 stands before 18, 18 before 7, and 7 before 20: T line 5 has 65,536 values, and the lists are bad
import_many : (import_on squares 5 1 (blanks 129) ≡ fails too_many) × (import_on squares 1 5 (blanks 129) ≡ fails too_many) × (import_on squares 5 6 [] ≡ fails no_iso)
unfolding verdict import_rows
import_many = (refl, refl, refl)

import_long : (import_on squares 1 1 (blanks 129) ≡ fails (ceiling clause_line)) × (import_on squares 1 1 (blanks 128) ≡ fails bad_list)
unfolding verdict import_rows
import_long = (refl, refl)

-- ---- case by case

-- "lines `from,to`", from 0 on
pair_lines_lem : pair_lines 9 (4 ∷ 0 ∷ []) ≡ bytes "9,4\n10,0\n"
unfolding pair_line
pair_lines_lem = refl

-- the from is the line's place, both are numbers of 32 bits, and nothing stands behind them
tos_read : map (to_in 7) (bytes "7,4294967295" ∷ bytes "7,4294967296" ∷ bytes "8,0" ∷ bytes "7,0," ∷ bytes "7" ∷ bytes "7;0" ∷ bytes "07,0" ∷ [])
    ∷ (to_in 4294967295 (bytes "4294967295,0") ∷ to_in 4294967296 (bytes "4294967296,0") ∷ [])
    ∷ []
    ≡ (some 4294967295 ∷ none ∷ none ∷ none ∷ none ∷ none ∷ none ∷ []) ∷ (some 0 ∷ none ∷ []) ∷ []
tos_read = refl

tos_in_order : map (tos_of 3) ([] ∷ (bytes "3,5\n" ∷ bytes "4,6\r\n" ∷ []) ∷ (bytes "3,5\n" ∷ bytes "3,6\n" ∷ []) ∷ []) ≡ some [] ∷ some (5 ∷ 6 ∷ []) ∷ none ∷ []
tos_in_order = refl

-- "a to is repeated", at any two places
none_twice_lem : map none_twice ([] ∷ (1 ∷ 2 ∷ 3 ∷ []) ∷ (1 ∷ 2 ∷ 1 ∷ []) ∷ (1 ∷ 2 ∷ 2 ∷ []) ∷ []) ≡ true ∷ true ∷ false ∷ false ∷ []
none_twice_lem = refl

abbrev bit : Ty
bit = tsum tunit tunit

-- "up to the counts of both types, or a to is repeated or too high"
pairs_up_lem : map (pairs_up bit bit) ((1 ∷ 0 ∷ []) ∷ (0 ∷ []) ∷ (0 ∷ 1 ∷ 2 ∷ []) ∷ (1 ∷ 2 ∷ []) ∷ (1 ∷ 1 ∷ []) ∷ [])
    ∷ (pairs_up bit tunit (0 ∷ 1 ∷ []) ∷ pairs_up tunit bit (0 ∷ 1 ∷ []) ∷ pairs_up bit (tsum bit tunit) (0 ∷ 1 ∷ []) ∷ pairs_up (tsum bit tunit) bit (0 ∷ 1 ∷ []) ∷ [])
    ∷ []
    ≡ (true ∷ false ∷ false ∷ false ∷ false ∷ []) ∷ (false ∷ false ∷ false ∷ false ∷ []) ∷ []
pairs_up_lem = refl

-- "no equal line twice": rows are equal in letter and all fields
abbrev row : Kind → ℕ → ℕ → ℕ → Row
row k x y z = record { kind = k; x = x; y = y; z = z }

same_rows : map (λ r. same_row r (row type_line 1 2 3)) (row type_line 1 2 3 ∷ row pattern_line 1 2 3 ∷ row type_line 9 2 3 ∷ row type_line 1 9 3 ∷ row type_line 1 2 9 ∷ []) ≡ true ∷ false ∷ false
    ∷ false ∷ false ∷ []
same_rows = refl

entered : map (λ r. find r (type_row 0 0 0 ∷ type_row 1 0 0 ∷ [])) (type_row 0 0 0 ∷ type_row 1 0 0 ∷ type_row 2 0 0 ∷ []) ≡ 0 ∷ 1 ∷ 2 ∷ []
entered = refl

entered_rows : map (λ r. enter r (type_row 0 0 0 ∷ type_row 1 0 0 ∷ [])) (type_row 1 0 0 ∷ type_row 2 0 0 ∷ [])
    ≡ (type_row 0 0 0 ∷ type_row 1 0 0 ∷ []) ∷ (type_row 0 0 0 ∷ type_row 1 0 0 ∷ type_row 2 0 0 ∷ []) ∷ []
entered_rows = refl

rows_written : type_row 1 2 3 ∷ pattern_row 1 2 3 ∷ clause_row 1 2 ∷ iso_row 1 2 ∷ [] ≡ row type_line 1 2 3 ∷ row pattern_line 1 2 3 ∷ row clause_line 1 2 0 ∷ row iso_line 1 2 0 ∷ []
rows_written = refl

-- "first part before second, parts before wholes"
types_written : write_type (tsum (tprod tunit bit) tunit) [] ≡ record { rows = row type_line 0 0 0 ∷ row type_line 1 0 0 ∷ row type_line 2 0 1 ∷ row type_line 1 2 0 ∷ []; number = 3 }
types_written = refl

values_written : write_value (vnode pair_node (vinj right (vleaf unit_leaf)) (vinj left (vinj right (vleaf unit_leaf)))) []
    ≡ record { rows = row pattern_line 0 0 0 ∷ row pattern_line 3 0 0 ∷ row pattern_line 2 1 0 ∷ row pattern_line 4 1 2 ∷ []; number = 3 }
values_written = refl

pairs_written : write_pairs ((vleaf unit_leaf, vinj left (vleaf unit_leaf)) ∷ (vinj right (vleaf unit_leaf), (vleaf unit_leaf)) ∷ []) []
    ≡ record { patterns = row pattern_line 0 0 0 ∷ row pattern_line 2 0 0 ∷ row pattern_line 3 0 0 ∷ []; clauses = row clause_line 0 1 0 ∷ row clause_line 2 0 0 ∷ [] }
pairs_written = refl

-- "one clause of closed values a pair": the from by its place, the to by its number
pair_settings : settings (tsum tunit bit) bit 1 (1 ∷ 0 ∷ []) ≡ (vinj right (vinj left (vleaf unit_leaf)), vinj right (vleaf unit_leaf)) ∷
    (vinj right (vinj right (vleaf unit_leaf)), vinj left (vleaf unit_leaf)) ∷ []
pair_settings = refl

-- "another ceiling passed in the writing is 7": eight L lines pass, a ninth does not, wherever the rows go on
within_all_lem : (map (λ n. within_all start (replicate n (row let_line 0 0 0))) (0 ∷ 8 ∷ 9 ∷ 10 ∷ []) ≡ true ∷ true ∷ false ∷ false ∷ [])
    × (map refusal_of (writing (replicate 8 (row let_line 0 0 0)) ∷ writing (replicate 9 (row let_line 0 0 0)) ∷ []) ≡ none ∷ some (ceiling pattern_line) ∷ [])
unfolding start print_rows
within_all_lem = (refl, refl)

-- n bits side by side: 2^n values
abbrev wide : ℕ → Ty
wide zero = tunit
wide (suc n) = tprod bit (wide n)

-- "Over 4,096 values is 18, in import for either type", in export for the from-type
import_counts : map (λ a. on_types (some a) (some tunit) [] ∷ on_types (some tunit) (some a) [] ∷ []) (wide 12 ∷ tsum (wide 12) tunit ∷ [])
    ≡ (fails bad_list ∷ fails bad_list ∷ []) ∷ (fails too_many ∷ fails too_many ∷ []) ∷ []
unfolding list_of
import_counts = refl

abbrev through : Ty → Ty → Iso
through a b = record { line = 1; from = a; to = b; clauses = record { line = 2; lhs = pvar 0; lets = []; rhs = pvar 0 } ∷ [] }

export_counts : map (on_exported [] 0 0)
    (some (through (wide 12) tunit) ∷ some (through (tsum (wide 12) tunit) tunit) ∷ some (through tunit (tsum (wide 12) tunit)) ∷ none ∷ [])
    ≡ fails spent ∷ fails too_many ∷ fails spent ∷ fails no_iso ∷ []
unfolding reduce pair_line free_isos
export_counts = refl

-- the pairs are those of the from-type's values, and the to of each is its number in the to-type
export_froms : on_exported (through bit tunit ∷ []) 0 1 (some (through bit tunit)) ∷ export_on (verdict (bytes "T,0,0,0\nT,1,0,0\nT,2,1,0\nP,1,0,0\nP,0,0,0\nP,4,0,1\nI,1,2\nC,0,2\n")) 0 9 ∷ []
    ≡ gives (bytes "0,0\n1,0\n") ∷ gives (bytes "0,0\n1,1\n") ∷ []
unfolding reduce pair_line verdict export_rows free_isos
export_froms = refl

-- request 14: 18 where the iso has to do with lists, as where it has over 4,096 values; 17 behind both
abbrev units : Ty
units = tlist tunit

list_exports : map (λ o. on_exported (o ∷ []) 0 0 (some o)) (through units tunit ∷ through tunit units ∷ through tunit tunit ∷ []) ≡ fails too_many ∷ fails too_many ∷ fails spent ∷ []
unfolding reduce pair_line free_isos
list_exports = refl

list_imports : map (λ a. on_types (some a) (some tunit) [] ∷ on_types (some tunit) (some a) [] ∷ []) (units ∷ []) ≡ (fails too_many ∷ fails too_many ∷ []) ∷ []
unfolding list_of
list_imports = refl

-- the to of a pair: nothing where nothing is given or the count passes the budget
tos_given : map (to_if 3 (through bit (tsum tunit bit))) ((none, 1) ∷ (some (vinj right (vinj left (vleaf unit_leaf))), 3) ∷ (some (vinj right (vinj left (vleaf unit_leaf))), 4) ∷ [])
    ≡ none ∷ some 1 ∷ none ∷ []
tos_given = refl

-- the rows of lists: "T kind 3 (a the element, b 0), P kinds 5 empty (a = b = 0) and 6 an element before a list"
lists_written : (write_type (tlist bit) [] ≡ record { rows = row type_line 0 0 0 ∷ row type_line 1 0 0 ∷ row type_line 3 1 0 ∷ []; number = 2 })
    × (write_value (vnode element_node (vinj left (vleaf unit_leaf)) (vleaf empty_leaf)) []
    ≡ record { rows = row pattern_line 0 0 0 ∷ row pattern_line 2 0 0 ∷ row pattern_line 5 0 0 ∷ row pattern_line 6 1 2 ∷ []; number = 3 })
lists_written = (refl, refl)
