-- Every number and letter that document 01 states, held fast: with another one in the definitions an example here, or a statement of `Demands` or `Faults`, fails. Each
-- holds by computation.
use Rattle.std.specs.Prelude.{ℕ, zero, suc, ◌≡◌, refl, Bool, true, false, ◌||◌, List, [], ◌∷◌, ◌++◌, map, ltb, length, replicate, take}
use Rattle.std.proofs.Math.Option.{none, some}
use Rattle.limits.specs.Limits.{max_bytes, max_lines, max_types, max_patterns, max_isos, max_clauses, max_lets, max_nodes, max_tags, variables, field_bound, budget_bound}
use Rattle.limits.specs.Limits.{row_width, table_length, work_length, result_length, query_length, max_queries, max_values, max_pairs, export_length, import_length, max_units, letter_s}
use Rattle.limits.specs.Limits.{max_depth, max_letters}
use Rattle.calculus.specs.Tools.{is_some}
use Rattle.calculus.specs.Trees.{Ty, tunit, tsum, tprod, left, right, Pat, pleaf, unit_leaf, empty_leaf, pvar, pinj, pnode, pair_node, element_node, vleaf, vinj, vnode, type_nodes, nodes}
use Rattle.calculus.specs.Refusals.{Kind, type_line, pattern_line, iso_line, clause_line, let_line, number, short_area, too_long, bad_line, misplaced, bad_field}
use Rattle.calculus.specs.Refusals.{bad_name, ceiling, variable, let_shape, bad_type, overlap, gap, no_iso, no_value, spent, too_many, too_high, bad_list, idle, bad_script}
use Rattle.calculus.specs.Refusals.{recursion, too_large}
use Rattle.format.specs.Lines.{Row, lines, row_of, decimal}
use Rattle.format.specs.Table.{size_of, numbers, table_of}
use Rattle.format.specs.Unfold.{exchange, turn_rows}
use Rattle.format.specs.Judge.{Seen, start, in_order, fields_fit, named, within_ceilings, after}
use Rattle.calculus.specs.Letters.{letters}
use Rattle.model.specs.Services.{accepted, refused, over, verdict, filled, table_after, work_after, short, unless, answer_of, serve, turned_rows, output_by}
use Rattle.model.specs.Services.{turn, run_on, ran_by, RunResult, run_service}
use Rattle.model.specs.Desk.{query_of, desk}
use Rattle.model.specs.Sheet.{sheet_verdict}
use Rattle.model.specs.Cases.{bytes}
use Rattle.law_ranking.specs.Numbering.{number_rows, setting_rows, numbered_by, number_service, Lettered, lettered_by, setting_service}
use Rattle.law_witnesses.specs.Showing.{setting, shown_by, letters_of?, showing, measured, show_service}
use Rattle.law_witnesses.specs.Seeking.{least_in, alone, gap_in, gap_word}
use Rattle.law_pairlists.specs.PairLists.{export_rows, import_rows, export_service, import_service}
use Rattle.law_endings.specs.Resaved.{feeds_alone, with_ending, resave, fits}
use Rattle.law_units.specs.Units.{Planned, Units, Tally, planned_of, play_rows, unequal, play_verdict, play_by, play_service}
use Rattle.law_units.specs.Calls.{Lent, setting_call, run_call, number_call}
use Rattle.law_reordering.specs.Reordered.{is_clause, is_let, is_block, is_whole, bare}
use Rattle.law_reordering.specs.Answers.{begins_queries, stays}

-- the column "number" of the table of refusals, request 02's two, 07's, 11's, 12's and 14's two
numbered : (k : Kind)
    → map number
    (short_area ∷ too_long ∷ bad_line ∷ misplaced k ∷ bad_field k ∷ bad_name k ∷ ceiling k ∷ variable k ∷ let_shape k ∷ bad_type k ∷ overlap k left ∷ overlap k right
    ∷ gap k left ∷ gap k right ∷ no_iso ∷ no_value ∷ spent ∷ too_many ∷ too_high ∷ bad_list ∷ idle k ∷ bad_script ∷ recursion k ∷ too_large ∷ [])
    ≡ 1 ∷ 2 ∷ 3 ∷ 4 ∷ 5 ∷ 6 ∷ 7 ∷ 8 ∷ 9 ∷ 10 ∷ 11 ∷ 12 ∷ 13 ∷ 14 ∷ 15 ∷ 16 ∷ 17 ∷ 18 ∷ 19 ∷ 20 ∷ 21 ∷ 22 ∷ 23 ∷ 24 ∷ []
numbered k = refl

-- "Ceilings: 65,536 bytes; 4,096 lines; 256 T; 1,024 P; 32 I; 32 C in an iso (128 since request 13); 8 L in a clause; 127 nodes in an unfolded T or P; 40 left and right nodes in an unfolded P."
ceilings : max_bytes ∷ max_lines ∷ max_types ∷ max_patterns ∷ max_isos ∷ max_clauses ∷ max_lets ∷ max_nodes ∷ max_tags ∷ []
    ≡ 65536 ∷ 4096 ∷ 256 ∷ 1024 ∷ 32 ∷ 128 ∷ 8 ∷ 127 ∷ 40 ∷ []
ceilings = refl

-- request 14: "An argument or result of over 127 letters, or calls nested deeper than 40"
deep_and_long : max_depth ∷ max_letters ∷ [] ≡ 40 ∷ 127 ∷ []
deep_and_long = refl

-- variables 0 to 31, fields 0 to 65,535, budgets 0 to 4,294,967,295, five numbers a line, the areas, a query's 200 bytes; of the requests 600 queries, 4,294,967,295
-- values, 4,096 pairs, areas of 40,960 and 65,536 bytes for lists and their files, 1,000 units, and the letter S of a script
bounds : variables ∷ field_bound ∷ budget_bound ∷ row_width ∷ table_length ∷ work_length ∷ result_length ∷ query_length ∷ max_queries ∷ max_values ∷ max_pairs ∷ export_length
    ∷ import_length ∷ max_units ∷ letter_s ∷ []
    ≡ 32 ∷ 65536 ∷ 4294967296 ∷ 5 ∷ 20480 ∷ 65536 ∷ 127 ∷ 200 ∷ 600 ∷ 4294967295 ∷ 4096 ∷ 40960 ∷ 65536 ∷ 1000 ∷ 83 ∷ []
bounds = refl

-- ---- lines

abbrev row : Kind → ℕ → ℕ → ℕ → Row
row k x y z = record { kind = k; x = x; y = y; z = z }

-- "Five line forms exist": the letters' codes, the numbers of fields, and the table's five numbers a line
five_forms : map row_of (bytes "T,1,2,3\n" ∷ bytes "P,1,2,3\n" ∷ bytes "I,1,2\n" ∷ bytes "C,1,2\n" ∷ bytes "L,1,2,3\n" ∷ [])
    ≡ some (row type_line 1 2 3) ∷ some (row pattern_line 1 2 3) ∷ some (row iso_line 1 2 0) ∷ some (row clause_line 1 2 0) ∷ some (row let_line 1 2 3) ∷ []
five_forms = refl

no_others : map row_of (bytes "T,1,2\n" ∷ bytes "P,1,2,3,4\n" ∷ bytes "I,1\n" ∷ bytes "I,1,2,3\n" ∷ bytes "C,1,2,0\n" ∷ bytes "L,1,2\n" ∷ bytes "Q,1,2\n" ∷ bytes "t,1,2,3\n" ∷ [])
    ≡ none ∷ none ∷ none ∷ none ∷ none ∷ none ∷ none ∷ none ∷ []
no_others = refl

five_numbers : map (λ k. numbers (row k 1 2 3) 7) (type_line ∷ pattern_line ∷ iso_line ∷ clause_line ∷ let_line ∷ [])
    ≡ (84 ∷ 1 ∷ 2 ∷ 3 ∷ 7 ∷ []) ∷ (80 ∷ 1 ∷ 2 ∷ 3 ∷ 7 ∷ []) ∷ (73 ∷ 1 ∷ 2 ∷ 3 ∷ 7 ∷ []) ∷ (67 ∷ 1 ∷ 2 ∷ 3 ∷ 7 ∷ []) ∷ (76 ∷ 1 ∷ 2 ∷ 3 ∷ 7 ∷ []) ∷ []
five_numbers = refl

-- request 10, "the fifth the unfolded size of a T or P line and 0 for other letters": a unit, a sum of two units, that sum times itself; a variable, a left of it, a pair
sizes : table_of
    (row type_line 0 0 0 ∷ row type_line 1 0 0 ∷ row type_line 2 1 1 ∷ row pattern_line 1 0 0 ∷ row pattern_line 2 0 0 ∷ row pattern_line 4 1 0 ∷ row iso_line 2 2 0 ∷ row clause_line 2 2 0 ∷ [])
    ≡ (84 ∷ 0 ∷ 0 ∷ 0 ∷ 1 ∷ []) ++ (84 ∷ 1 ∷ 0 ∷ 0 ∷ 3 ∷ []) ++ (84 ∷ 2 ∷ 1 ∷ 1 ∷ 7 ∷ []) ++ (80 ∷ 1 ∷ 0 ∷ 0 ∷ 1 ∷ []) ++ (80 ∷ 2 ∷ 0 ∷ 0 ∷ 2 ∷ [])
    ++ (80 ∷ 4 ∷ 1 ∷ 0 ∷ 4 ∷ []) ++ (73 ∷ 2 ∷ 2 ∷ 0 ∷ 0 ∷ []) ++ (67 ∷ 2 ∷ 2 ∷ 0 ∷ 0 ∷ [])
unfolding start
sizes = refl

-- "decimal numbers 0 to 65,535 without leading zeros; commas part them; there is no quoting and no blank"
numerals : map (λ l. is_some (row_of l))
    (bytes "I,0,65535\n" ∷ bytes "I,0,65536\n" ∷ bytes "I,00,1\n" ∷ bytes "I,01,1\n" ∷ bytes "I,,1\n" ∷ bytes "I, 0,1\n" ∷ bytes "I,0;1\n" ∷ bytes "I,+0,1\n" ∷ bytes "I,0,1" ∷ [])
    ≡ true ∷ false ∷ false ∷ false ∷ false ∷ false ∷ false ∷ false ∷ false ∷ []
numerals = refl

-- each field below 65,536, and no digit but 0 to 9: the bytes before and behind them are none
each_field : map (λ l. is_some (row_of l)) (bytes "T,65535,65535,65535\n" ∷ bytes "T,65536,0,0\n" ∷ bytes "T,0,65536,0\n" ∷ bytes "T,0,0,65536\n" ∷ [])
    ∷ map (λ l. is_some (row_of l)) (bytes "I,9,90\n" ∷ bytes "I,:,1\n" ∷ bytes "I,1:,1\n" ∷ bytes "I,/,1\n" ∷ bytes "I,1/,1\n" ∷ [])
    ∷ []
    ≡ (true ∷ false ∷ false ∷ false ∷ []) ∷ (true ∷ false ∷ false ∷ false ∷ false ∷ []) ∷ []
each_field = refl

-- numbers as they are written
written_numbers : map decimal (0 ∷ 9 ∷ 10 ∷ 99 ∷ 65535 ∷ 4294967295 ∷ []) ≡ bytes "0" ∷ bytes "9" ∷ bytes "10" ∷ bytes "99" ∷ bytes "65535" ∷ bytes "4294967295" ∷ []
unfolding decimal
written_numbers = refl

-- which line may follow which: a row for each kind above, none first, and in it T, P, I, C, L
order : map (λ a. map (in_order a) (type_line ∷ pattern_line ∷ iso_line ∷ clause_line ∷ let_line ∷ []))
    (none ∷ some type_line ∷ some pattern_line ∷ some iso_line ∷ some clause_line ∷ some let_line ∷ [])
    ≡ (true ∷ true ∷ true ∷ false ∷ false ∷ [])
    ∷ (true ∷ true ∷ true ∷ false ∷ false ∷ [])
    ∷ (false ∷ true ∷ true ∷ false ∷ false ∷ [])
    ∷ (false ∷ false ∷ true ∷ true ∷ false ∷ [])
    ∷ (false ∷ false ∷ true ∷ true ∷ true ∷ [])
    ∷ (false ∷ false ∷ true ∷ true ∷ true ∷ [])
    ∷ []
order = refl

-- T: "0 unit (a = b = 0); 1 sum; 2 product", request 14's "T kind 3 (a the element, b 0)", and no other kind
type_fields : map (fields_fit type_line)
    (row type_line 0 0 0 ∷ row type_line 0 1 0 ∷ row type_line 0 0 1 ∷ row type_line 1 5 6 ∷ row type_line 2 5 6 ∷ row type_line 3 5 0 ∷ row type_line 3 5 1 ∷ row type_line 4 0 0 ∷ [])
    ≡ true ∷ false ∷ false ∷ true ∷ true ∷ true ∷ false ∷ false ∷ []
type_fields = refl

-- P: "0 unit (a = b = 0); 1 variable number a, 0 to 31 (b = 0); 2 left of a (b = 0); 3 right of a (b = 0); 4 pair a, b", request 14's "5 empty
-- (a = b = 0) and 6 an element before a list", and no other kind
pattern_fields : map (fields_fit pattern_line)
    (row pattern_line 0 0 0 ∷ row pattern_line 0 1 0 ∷ row pattern_line 0 0 1 ∷ row pattern_line 1 31 0 ∷ row pattern_line 1 32 0 ∷ row pattern_line 1 0 1 ∷ row pattern_line 2 5 0
    ∷ row pattern_line 2 5 1 ∷ row pattern_line 3 5 0 ∷ row pattern_line 3 5 1 ∷ row pattern_line 4 5 6 ∷ row pattern_line 5 0 0 ∷ row pattern_line 5 1 0
    ∷ row pattern_line 5 0 1 ∷ row pattern_line 6 5 6 ∷ row pattern_line 7 0 0 ∷ [])
    ≡ true ∷ false ∷ false ∷ true ∷ false ∷ false ∷ true ∷ false ∷ true ∷ false ∷ true ∷ true ∷ false ∷ false ∷ true ∷ false ∷ []
pattern_fields = refl

-- ---- names and ceilings

-- so many lines above, each a unit
abbrev above : ℕ → ℕ → ℕ → ℕ → ℕ → Seen
above t p i c l = record { above = none; types = replicate t tunit; patterns = replicate p (pleaf unit_leaf); isos = i; clauses = c; lets = l }

-- "A T or P line names only earlier lines of its own letter. An L line names an iso earlier than its own", or with request 14 its own: lines 0 and 1 are there, and
-- of the isos 0 and, being open, 1
names : map (λ r. named (above 2 2 2 0 0) r.kind r)
    (row type_line 1 1 1 ∷ row type_line 1 2 0 ∷ row type_line 1 0 2 ∷ row type_line 2 1 1 ∷ row type_line 2 2 0 ∷ row type_line 2 0 2 ∷ row pattern_line 2 1 0 ∷ row pattern_line 2 2 0 ∷ row
    pattern_line 3 2 0 ∷ row pattern_line 4 1 1
    ∷ row pattern_line 4 2 0 ∷ row pattern_line 4 0 2 ∷ row iso_line 1 1 0 ∷ row iso_line 2 0 0 ∷ row iso_line 0 2 0 ∷ row clause_line 1 1 0 ∷ row clause_line 2 0 0 ∷ row clause_line 0 2 0
    ∷ row let_line 1 0 1 ∷ row let_line 2 0 1 ∷ row let_line 1 0 2 ∷ row let_line 1 1 1 ∷ row let_line 1 2 1
    ∷ row type_line 3 1 9 ∷ row type_line 3 2 0 ∷ row pattern_line 5 9 9 ∷ row pattern_line 6 1 1 ∷ row pattern_line 6 2 0 ∷ row pattern_line 6 0 2 ∷ [])
    ≡ true ∷ false ∷ false ∷ true ∷ false ∷ false ∷ true ∷ false ∷ false ∷ true ∷ false ∷ false ∷ true ∷ false ∷ false ∷ true ∷ false ∷ false ∷ true ∷ false ∷ false ∷ true ∷ false
    ∷ true ∷ false ∷ true ∷ true ∷ false ∷ false ∷ []
names = refl

-- the 256th T, 1,024th P, 32nd I, 128th C and 8th L pass, and the next of each does not
last_lines : within_ceilings (above 255 0 0 0 0) type_line (row type_line 0 0 0)
    ∷ within_ceilings (above 0 1023 0 0 0) pattern_line (row pattern_line 0 0 0)
    ∷ within_ceilings (above 0 0 31 0 0) iso_line (row iso_line 0 0 0)
    ∷ within_ceilings (above 0 0 0 127 0) clause_line (row clause_line 0 0 0)
    ∷ within_ceilings (above 0 0 0 0 7) let_line (row let_line 0 0 0)
    ∷ []
    ≡ true ∷ true ∷ true ∷ true ∷ true ∷ []
last_lines = refl

first_too_many : within_ceilings (above 256 0 0 0 0) type_line (row type_line 0 0 0)
    ∷ within_ceilings (above 0 1024 0 0 0) pattern_line (row pattern_line 0 0 0)
    ∷ within_ceilings (above 0 0 32 0 0) iso_line (row iso_line 0 0 0)
    ∷ within_ceilings (above 0 0 0 128 0) clause_line (row clause_line 0 0 0)
    ∷ within_ceilings (above 0 0 0 0 8) let_line (row let_line 0 0 0)
    ∷ []
    ≡ false ∷ false ∷ false ∷ false ∷ false ∷ []
first_too_many = refl

-- "32 C in an iso" (128 since request 13); "8 L in a clause": an I line begins the count of C lines anew, a C line that of L lines, and no other line does
clauses_anew : map (λ s. within_ceilings s clause_line (row clause_line 0 0 0))
    (after (above 0 0 1 128 8) (row iso_line 0 0 0) ∷ after (above 0 0 1 127 8) (row clause_line 0 0 0) ∷ after (above 0 0 1 128 7) (row let_line 0 0 0) ∷ [])
    ≡ true ∷ false ∷ false ∷ []
clauses_anew = refl

lets_anew : map (λ s. within_ceilings s let_line (row let_line 0 0 0)) (after (above 0 0 1 1 8) (row clause_line 0 0 0) ∷ after (above 0 0 1 1 7) (row let_line 0 0 0) ∷ []) ≡ true ∷ false ∷ []
lets_anew = refl

-- "nodes in an unfolded T or P": each unit, variable, left, right, sum, product and pair is one
node_counts : type_nodes tunit ∷ type_nodes (tsum tunit tunit) ∷ type_nodes (tprod tunit tunit) ∷ nodes (pleaf unit_leaf) ∷ nodes (pvar 0) ∷ nodes (pinj left (pleaf unit_leaf)) ∷ nodes
    (pinj right (pleaf unit_leaf)) ∷ nodes
    (pnode pair_node (pleaf unit_leaf) (pleaf unit_leaf)) ∷ []
    ≡ 1 ∷ 3 ∷ 3 ∷ 1 ∷ 1 ∷ 2 ∷ 2 ∷ 3 ∷ []
node_counts = refl

-- "One unit and products of each line with itself: the seventh T has 127 nodes and passes, the eighth has 255: `7,8`"
-- (with an iso that uses it: request 11)
doubled : desk (bytes "T,0,0,0\nT,2,0,0\nT,2,1,1\nT,2,2,2\nT,2,3,3\nT,2,4,4\nT,2,5,5\nP,1,0,0\nI,6,6\nC,0,0\n") ≡ bytes "0,0\n"
unfolding desk
doubled = refl

doubled_again : desk (bytes "T,0,0,0\nT,2,0,0\nT,2,1,1\nT,2,2,2\nT,2,3,3\nT,2,4,4\nT,2,5,5\nT,2,6,6\n") ≡ bytes "7,8\n"
unfolding desk
doubled_again = refl

-- request 11: a line that no I, C or L line reaches, a line that only such a line names, and the first of several; 3 to 7 of a later line come first, and the empty
-- file has none
idle_lines : map desk
    (bytes "T,0,0,0\n" ∷ bytes "T,0,0,0\nT,1,0,0\nT,2,0,0\nP,0,0,0\nI,0,0\nC,0,0\n" ∷ bytes "T,0,0,0\nP,1,0,0\nP,2,0,0\nP,3,1,0\nI,0,0\nC,0,0\n"
    ∷ bytes "T,0,0,0\nI,1,1\n" ∷ bytes "T,0,0,0\nP,0,0,0\nP,1,0,0\nI,0,0\nC,1,0\n" ∷ bytes "T,0,0,0\nP,0,0,0\nP,1,0,0\nI,0,0\nC,1,1\n" ∷ [] ∷ [])
    ≡ bytes "21,1\n" ∷ bytes "21,2\n" ∷ bytes "21,3\n" ∷ bytes "6,2\n" ∷ bytes "8,5\n" ∷ bytes "21,2\n" ∷ bytes "0,0\n" ∷ []
unfolding desk
idle_lines = refl

-- request 11: each field that names a line reaches it, where nothing else does: the parts of a sum and of a product, of a left, of a right and of a pair, both types of an I
-- line, both sides of a C line, p and q of an L line
idle_named : map desk
    (bytes "T,0,0,0\nT,0,0,0\nT,1,0,1\nP,1,0,0\nI,2,2\nC,0,0\n" ∷ bytes "T,0,0,0\nT,0,0,0\nT,2,0,1\nP,1,0,0\nI,2,2\nC,0,0\n"
    ∷ bytes "T,0,0,0\nT,1,0,0\nP,0,0,0\nP,0,0,0\nP,2,0,0\nP,3,1,0\nI,1,1\nC,2,3\nC,3,2\n" ∷ bytes "T,0,0,0\nT,2,0,0\nP,1,0,0\nP,1,1,0\nP,4,0,1\nI,1,1\nC,2,2\n"
    ∷ bytes "T,0,0,0\nT,0,0,0\nP,0,0,0\nP,0,0,0\nI,0,1\nC,0,1\n"
    ∷ bytes "T,0,0,0\nP,1,0,0\nP,1,1,0\nP,1,1,0\nP,1,0,0\nI,0,0\nC,0,0\nI,0,0\nC,0,2\nL,1,0,3\n" ∷ [])
    ≡ bytes "0,0\n" ∷ bytes "0,0\n" ∷ bytes "0,0\n" ∷ bytes "0,0\n" ∷ bytes "0,0\n" ∷ bytes "0,0\n" ∷ []
unfolding desk
idle_named = refl

-- request 10: "0 for other letters"
other_sizes : map (λ k. size_of k (above 1 1 1 1 1) (row k 0 0 0)) (type_line ∷ pattern_line ∷ iso_line ∷ clause_line ∷ let_line ∷ []) ≡ 1 ∷ 1 ∷ 0 ∷ 0 ∷ 0 ∷ []
other_sizes = refl

-- "T and P lines as they were, I lines with their types exchanged, C lines with their sides exchanged, the L lines … with p and q exchanged"
exchanged_rows : map (λ r. exchange r.kind r) (row type_line 1 2 3 ∷ row pattern_line 1 2 3 ∷ row iso_line 1 2 3 ∷ row clause_line 1 2 3 ∷ row let_line 1 2 3 ∷ [])
    ≡ row type_line 1 2 3 ∷ row pattern_line 1 2 3 ∷ row iso_line 2 1 3 ∷ row clause_line 2 1 3 ∷ row let_line 3 2 1 ∷ []
exchanged_rows = refl

-- "the L lines of each clause last to first", behind the line above them, and before the next line
turned_lets : map (λ k. turn_rows (row k 0 0 0 ∷ row let_line 1 0 2 ∷ row let_line 3 0 4 ∷ row k 0 0 0 ∷ [])) (type_line ∷ pattern_line ∷ iso_line ∷ clause_line ∷ [])
    ≡ map (λ k. row k 0 0 0 ∷ row let_line 4 0 3 ∷ row let_line 2 0 1 ∷ row k 0 0 0 ∷ []) (type_line ∷ pattern_line ∷ iso_line ∷ clause_line ∷ [])
unfolding turn_rows
turned_lets = refl

first_lets : turn_rows (row let_line 1 0 2 ∷ row let_line 3 0 4 ∷ row clause_line 0 0 0 ∷ []) ≡ row let_line 4 0 3 ∷ row let_line 2 0 1 ∷ row clause_line 0 0 0 ∷ []
unfolding turn_rows
first_lets = refl

-- n left nodes
abbrev lefts : ℕ → Pat
lefts zero = pleaf unit_leaf
lefts (suc n) = pinj left (lefts n)

abbrev seen : Pat → Seen
seen p = record { above = none; types = []; patterns = p ∷ []; isos = 0; clauses = 0; lets = 0 }

-- 40 left and right nodes pass, 41 do not
tags : within_ceilings (seen (lefts 39)) pattern_line (row pattern_line 3 0 0) ∷ within_ceilings (seen (lefts 40)) pattern_line (row pattern_line 3 0 0) ∷ [] ≡ true ∷ false ∷ []
tags = refl

-- n pairs: 2n + 1 nodes
abbrev pairs : ℕ → Pat
pairs zero = pleaf unit_leaf
pairs (suc n) = pnode pair_node (pleaf unit_leaf) (pairs n)

-- 127 nodes of a P pass, 128 do not
pattern_nodes : within_ceilings (seen (pairs 31)) pattern_line (row pattern_line 4 0 0) ∷ within_ceilings (seen (pairs 63)) pattern_line (row pattern_line 2 0 0) ∷ [] ≡ true ∷ false ∷ []
pattern_nodes = refl

-- ---- values, queries and sheets

-- "the letters U (unit), L, R, P (pair)", and of lists N (empty) and K (an element in front)
value_letters : letters (vnode pair_node (vinj left (vleaf unit_leaf)) (vnode element_node (vinj right (vleaf unit_leaf)) (vleaf empty_leaf))) ≡ bytes "PLUKRUN"
value_letters = refl

-- "its iso is 0 to 65,535, its direction 0 or 1, its budget as above, all written as the file's numbers are"
queries : map (λ l. is_some (query_of l))
    (bytes "Q,65535,0,0,\n" ∷ bytes "Q,65536,0,0,\n" ∷ bytes "Q,0,1,0,\n" ∷ bytes "Q,0,2,0,\n" ∷ bytes "Q,0,0,4294967295,\n" ∷ bytes "Q,0,0,4294967296,\n" ∷ bytes "Q,0,0,01,\n"
    ∷ bytes "Q,0,0,0\n" ∷ bytes "q,0,0,0,\n" ∷ [])
    ≡ true ∷ false ∷ true ∷ false ∷ true ∷ false ∷ false ∷ false ∷ false ∷ []
unfolding query_of
queries = refl

-- "over 200 bytes with its line feed, is refused 3"
two_hundred : map (λ n. is_some (query_of (bytes "Q,0,0,0," ++ (replicate n 85 ++ bytes "\n")))) (191 ∷ 192 ∷ []) ≡ true ∷ false ∷ []
unfolding query_of
two_hundred = refl

-- "over 600 queries is 2"
six_hundred : map (λ n. sheet_verdict n (accepted [])) (600 ∷ 601 ∷ []) ≡ accepted [] ∷ refused too_long 0 ∷ []
six_hundred = refl

-- ---- units and scripts

-- `S,unit,iso,direction`: numbers 0 to 65,535 as the file writes them, a direction 0 or 1, either ending
visits : map (λ l. is_some (planned_of l))
    (bytes "S,65535,65535,1\n" ∷ bytes "S,0,0,0\r\n" ∷ bytes "S,65536,0,0\n" ∷ bytes "S,0,65536,0\n" ∷ bytes "S,0,0,2\n" ∷ bytes "S,00,0,0\n" ∷ bytes "s,0,0,0\n" ∷ bytes "S,0,0\n"
    ∷ bytes "S,0,0,0,0\n" ∷ bytes "S,0,0,0 \n" ∷ bytes "S,0,0,0" ∷ bytes "\n" ∷ [])
    ≡ true ∷ true ∷ false ∷ false ∷ false ∷ false ∷ false ∷ false ∷ false ∷ false ∷ false ∷ false ∷ []
unfolding planned_of
visits = refl

-- unit first, then iso, then direction
visit_fields : planned_of (bytes "S,1,2,1\n") ≡ some (record { unit = 1; iso = 2; back = true })
unfolding planned_of
visit_fields = refl

-- "over 1,000 units or 4,096 lines 2"
thousand : map (λ n. play_verdict (record { types = replicate n 0; settings = [] }) [] (accepted [])) (1000 ∷ 1001 ∷ []) ≡ accepted [] ∷ refused too_long 0 ∷ []
thousand = refl

script_lines : map (λ n. play_verdict (record { types = []; settings = [] }) (replicate n 10) (accepted [])) (4096 ∷ 4097 ∷ []) ≡ accepted [] ∷ refused too_long 0 ∷ []
script_lines = refl

-- ---- a setting that shows the fault

abbrev bit : Ty
bit = tsum tunit tunit

-- request 09: the least value that a pair matches, each part in its place
least_pair : letters (least_in (pnode pair_node (pinj right (pvar 0)) (pinj left (pvar 1))) (tprod bit bit)) ≡ bytes "PRULU"
least_pair = refl

-- a pair whose first part is a sum of unlike parts: each right first is matched, and a left first with a left behind it
abbrev unlike : Ty
unlike = tprod (tsum (tsum tunit (tprod tunit tunit)) tunit) (tsum tunit bit)

abbrev matching : List Pat
matching = pnode pair_node (pinj right (pvar 0)) (pvar 1) ∷ pnode pair_node (pinj left (pvar 0)) (pinj left (pvar 1)) ∷ []

-- the first gap: after a letter the values that follow it stand before the rest
gap_in_pair : (gap_in unlike matching ≡ some (bytes "PLLURLU")) × (gap_word 7 (unlike ∷ []) (alone matching) ≡ bytes "PLLURLU")
gap_in_pair = (refl, refl)

-- "for the iso and side refused": 13 of an iso from 1 + 1 to 1 is shown by a value of the from-type
gap_of_left : letters_of? (shown_by 13 (record { line = 1; from = bit; to = tunit; clauses = record { line = 2; lhs = pinj left (pleaf unit_leaf); lets = []; rhs = (pleaf unit_leaf) } ∷ [] })) ≡
    bytes "RU"
unfolding setting
gap_of_left = refl

-- ---- endings, and clauses in any order

-- request 06: "with its carriage returns taken out", each that stands directly before a line feed
feeds_alone_lem : map feeds_alone (bytes "a\r\nb\n" ∷ bytes "a\rb\r\r\n" ∷ bytes "\r" ∷ bytes "ab" ∷ []) ≡ bytes "a\nb\n" ∷ bytes "a\rb\r\n" ∷ bytes "\r" ∷ bytes "ab" ∷ []
feeds_alone_lem = refl

-- "either ending on each line": a text with the one ending or the other; a text that ends in a carriage return has both bytes in any case
endings : map (with_ending true) ([] ∷ bytes "a" ∷ bytes "a\r" ∷ []) ∷ map (with_ending false) ([] ∷ bytes "a" ∷ bytes "a\r" ∷ bytes "\ra" ∷ []) ∷ []
    ≡ (bytes "\r\n" ∷ bytes "a\r\n" ∷ bytes "a\r\r\n" ∷ []) ∷ (bytes "\n" ∷ bytes "a\n" ∷ bytes "a\r\r\n" ∷ bytes "\ra\n" ∷ []) ∷ []
endings = refl

saved_again : resave (true ∷ false ∷ true ∷ []) (bytes "a\nb\r\nc\nd\ne") ∷ resave (true ∷ true ∷ []) (bytes "a") ∷ [] ≡ bytes "a\r\nb\nc\r\nd\ne" ∷ bytes "a" ∷ []
saved_again = refl

-- "a query's 200 bytes count both bytes of the ending"
fitting : map (λ n. fits (replicate n 85)) (200 ∷ 201 ∷ []) ≡ true ∷ false ∷ []
fitting = refl

-- request 08: a clause as it stands in a file, a C line and L lines under it; lines that stay where they are; what `rules` reads behind a file
blocks : map is_block
    ([] ∷ (bytes "C,0,0" ∷ []) ∷ (bytes "C,0,0" ∷ bytes "L,0,0,0" ∷ bytes "L,1,0,0" ∷ []) ∷ (bytes "L,0,0,0" ∷ []) ∷ (bytes "C,0,0" ∷ bytes "L,0,0,0" ∷ bytes "C,0,0" ∷ []) ∷ ([] ∷ []) ∷ [])
    ≡ false ∷ true ∷ true ∷ false ∷ false ∷ false ∷ []
blocks = refl

whole_blocks : map is_whole ([] ∷ (bytes "C,0,0" ∷ []) ∷ (bytes "L,0,0,0" ∷ []) ∷ ([] ∷ []) ∷ []) ≡ true ∷ true ∷ false ∷ true ∷ []
whole_blocks = refl

moved_lines : map (λ l. is_clause l ∷ is_let l ∷ stays l ∷ []) (bytes "C,0,0" ∷ bytes "L,0,0,0" ∷ bytes "I,0,0" ∷ [] ∷ [])
    ≡ (true ∷ false ∷ false ∷ []) ∷ (false ∷ true ∷ false ∷ []) ∷ (false ∷ false ∷ true ∷ []) ∷ (false ∷ false ∷ true ∷ []) ∷ []
moved_lines = refl

behind_files : map begins_queries ([] ∷ bytes "Q" ∷ bytes "T" ∷ []) ≡ true ∷ true ∷ false ∷ []
behind_files = refl

-- a clause without its place in the file: two that stand at different lines are alike
without_place : map bare (record { line = 7; lhs = pvar 0; lets = []; rhs = pvar 1 } ∷ []) ≡ record { line = 0; lhs = pvar 0; lets = []; rhs = pvar 1 } ∷ []
without_place = refl

-- ---- the lengths of the areas, for any areas

-- "a table area of at least 16,384 numbers" (20,480 since request 10) "and a work area of at least 65,536 bytes"; "over 65,536 bytes or 4,096 lines"
short_areas : (t w : List ℕ) → short t w ≡ (ltb (length t) 20480 || ltb (length w) 65536)
short_areas t w = refl

long_files : (bs : List ℕ) → over bs ≡ (ltb 65536 (length bs) || ltb 4096 (length (lines bs)))
unfolding over
long_files bs = refl

-- "zeros fill the rest of the first 16,384", "The first 65,536 bytes of the work area are zero", with and without a refusal
left_areas : (rs : List Row) (a : List ℕ)
    → (table_after (accepted rs) a ≡ filled 20480 (table_of rs) a) × (table_after (refused bad_line 1) a ≡ filled 20480 [] a)
    × (work_after (accepted rs) a ≡ filled 65536 [] a) × (work_after (refused bad_line 1) a ≡ filled 65536 [] a)
left_areas rs a = (refl, refl, refl, refl)

-- Turn: "Its area must be as long as the file"; Run: "its result area must have 127 bytes"; what each is asked for
turn_call : (file t w o : List ℕ) → turn file t w o ≡ output_by o (serve (short t w || ltb (length o) (length file)) (verdict file) turned_rows t w)
unfolding turn
turn_call file t w o = refl

run_call_lem : (file t w x r : List ℕ) (i budget : ℕ) (back : Bool)
    → run_service file t w i back budget x r ≡ ran_by r (serve (short t w || ltb (length r) 127) (verdict file) (run_on i back budget x) t w)
unfolding run_service
run_call_lem file t w x r i budget back = refl

-- request 02: "letters written into 127 lent bytes"
number_call_lem : (file t w x : List ℕ) (i : ℕ) → number_service file t w i x ≡ numbered_by (serve (short t w) (verdict file) (number_rows i x) t w)
unfolding number_service
number_call_lem file t w x i = refl

setting_call_lem : (file t w r : List ℕ) (i n : ℕ) → setting_service file t w i n r ≡ lettered_by r (serve (short t w || ltb (length r) 127) (verdict file) (setting_rows i n) t w)
unfolding setting_service
setting_call_lem file t w r i n = refl

-- request 07: "into an area of 40,960 bytes", "into an area of 65,536 bytes"; the from-type's T line first
export_call : (file t w o : List ℕ) (i budget : ℕ)
    → export_service file t w i budget o ≡ output_by o (serve (short t w || ltb (length o) 40960) (verdict file) (λ rs. export_rows rs i budget) t w)
unfolding export_service
export_call file t w o i budget = refl

import_call : (file t w list o : List ℕ) (i j : ℕ)
    → import_service file t w i j list o ≡ output_by o (serve (short t w || ltb (length o) 65536) (verdict file) (λ rs. import_rows rs i j list) t w)
unfolding import_service
import_call file t w list o i j = refl

-- request 09: "it goes into 127 lent bytes"; request 12: "Unit areas of unequal length are 1"
show_call : (file t w r : List ℕ) → (show_service file t w r).answer ≡ answer_of (unless (short t w || ltb (length r) 127) (measured (verdict file) (showing file)))
unfolding show_service
show_call file t w r = refl

play_call : (file t w script : List ℕ) (us : Units) (budget : ℕ) (n : Tally)
    → play_service file t w us script budget n ≡ play_by us n (serve (short t w || unequal us) (play_verdict us script (verdict file)) (play_rows us script budget) t w)
unfolding play_service
play_call file t w script us budget n = refl

-- request 12, the three calls of a visit: the letters of number n of T line i, the run of these letters by the line's iso and direction, the number that they then have in T line j
visit_calls : (file : List ℕ) (a : Lent) (p : Planned) (i n j budget : ℕ) (s : Lettered) (r : RunResult)
    → (setting_call file a i n ≡ setting_service file a.table a.work i n a.result)
    × (run_call file a p budget s ≡ run_service file a.table a.work p.iso p.back budget (take s.length s.result) a.result)
    × (number_call file a j r ≡ number_service file a.table a.work j (take r.length r.result))
visit_calls file a p i n j budget s r = (refl, refl, refl)
