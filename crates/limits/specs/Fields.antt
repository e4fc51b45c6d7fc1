-- The numbers of a table's row by name, as `codes` has them for the code. "the letter's ASCII code, then the fields, padded with 0", and
-- its size (request 10).
use Rattle.std.specs.Prelude.{ℕ}

-- its letter
abbrev pub letter_field : ℕ
letter_field = 0

-- "T: kind, a, b", "P: kind, a, b"
abbrev pub kind_field : ℕ
kind_field = 1

abbrev pub first_field : ℕ
first_field = 2

abbrev pub second_field : ℕ
second_field = 3

-- "I: from-type, to-type"
abbrev pub iso_from : ℕ
iso_from = 1

abbrev pub iso_to : ℕ
iso_to = 2

-- "C: left pattern, right pattern"
abbrev pub clause_left : ℕ
clause_left = 1

abbrev pub clause_right : ℕ
clause_right = 2

-- "L: p, i, q"
abbrev pub let_p : ℕ
let_p = 1

abbrev pub let_iso : ℕ
let_iso = 2

abbrev pub let_q : ℕ
let_q = 3

-- request 10: "the fifth the unfolded size of a T or P line"
abbrev pub size_field : ℕ
size_field = 4
