-- Every number that document 01 states, once. "Ceilings", the lengths of the lent areas, and the codes of letters.
use Rattle.std.specs.Prelude.{ℕ, suc, ◌+◌, ◌*◌}

-- the longest file, in bytes and in lines
abbrev pub max_bytes : ℕ
max_bytes = 65536

abbrev pub max_lines : ℕ
max_lines = 4096

-- how many T, P and I lines a file holds, C lines an iso (request 13: 128 instead of 32), L lines a clause
abbrev pub max_types : ℕ
max_types = 256

abbrev pub max_patterns : ℕ
max_patterns = 1024

abbrev pub max_isos : ℕ
max_isos = 32

abbrev pub max_clauses : ℕ
max_clauses = 128

abbrev pub max_lets : ℕ
max_lets = 8

-- the nodes of an unfolded T or P line, and the left and right nodes of an unfolded P line
abbrev pub max_nodes : ℕ
max_nodes = 127

abbrev pub max_tags : ℕ
max_tags = 40

-- what stands for more of either where nodes are counted
abbrev pub many_nodes : ℕ
many_nodes = suc max_nodes

abbrev pub many_tags : ℕ
many_tags = suc max_tags

-- variables are numbered below this, the numbers of a line stand below that, a budget below the last
abbrev pub variables : ℕ
variables = 32

abbrev pub field_bound : ℕ
field_bound = 65536

abbrev pub budget_bound : ℕ
budget_bound = 4294967296

-- "numbers of 16 bits", as the table has them, stand below this; "numbers of 32 bits" (request 01) are at most that
abbrev pub word_bound : ℕ
word_bound = 65536

abbrev pub max_number : ℕ
max_number = 4294967295

-- numbers of at most ten digits, as every number of these papers is, stand below this
abbrev pub numeral_bound : ℕ
numeral_bound = 10000000000

-- the numbers that a line takes in the table (request 10: its size is the fifth), and the lengths of the lent areas
abbrev pub row_width : ℕ
row_width = 5

abbrev pub table_length : ℕ
table_length = max_lines * row_width

abbrev pub work_length : ℕ
work_length = 65536

abbrev pub result_length : ℕ
result_length = max_nodes

-- a value has fewer letters than this
abbrev pub lengths : ℕ
lengths = suc max_nodes

-- request 14: "calls nested deeper than 40 (the outermost is 1)", and the most letters of an argument or a result
abbrev pub max_depth : ℕ
max_depth = 40

abbrev pub max_letters : ℕ
max_letters = 127

-- the letters that one application keeps: its argument, the results of its let steps and its own result; and the part of the work area
-- that the frames of a run fill, one for each call of those nested
abbrev pub frame : ℕ
frame = (max_lets + 2) * lengths

abbrev pub run_room : ℕ
run_room = max_depth * frame

-- a query's bytes, its ending included
abbrev pub query_length : ℕ
query_length = 200

-- request 01: "over 600 queries is 2"
abbrev pub max_queries : ℕ
max_queries = 600

-- request 02: "18 "too many values", a count above 4,294,967,295"
abbrev pub max_values : ℕ
max_values = max_number

-- request 05: "Both stop at 4,294,967,295"
abbrev pub max_count : ℕ
max_count = max_number

-- request 07: the most values of a type whose pairs are listed, and the lengths of the areas for a list and for a file
abbrev pub max_pairs : ℕ
max_pairs = 4096

abbrev pub export_length : ℕ
export_length = 40960

abbrev pub import_length : ℕ
import_length = max_bytes

-- request 12: "Up to 1,000 units"
abbrev pub max_units : ℕ
max_units = 1000

abbrev pub line_feed : ℕ
line_feed = 10

-- request 06: the first byte of the other ending
abbrev pub carriage_return : ℕ
carriage_return = 13

abbrev pub comma : ℕ
comma = 44

-- the digit 0
abbrev pub digit_zero : ℕ
digit_zero = 48

abbrev pub letter_q : ℕ
letter_q = 81

-- request 12: the letter of a script's lines
abbrev pub letter_s : ℕ
letter_s = 83
