-- The refusals of document 01 and of requests 02 (18, 19), 07 (20), 11 (21), 12 (22) and 14 (23, 24), each with its number. A case holds
-- the kind of the faulty line: any for 4 to 7, a C line for 8 to 10, an I line for 11 to 14, a T or P line for 21, a C or I line for 23.
-- Refusal 3 has none to hold, its line being of none of the five forms, and the others name no line.
use Rattle.std.specs.Prelude.{ℕ}
use Rattle.calculus.specs.Trees.{Tag, left, right}

-- the five line forms T, P, I, C, L
pub data Kind : Type 0 where
  type_line pattern_line iso_line clause_line let_line : Kind

pub data Refusal : Type 0 where
  short_area too_long bad_line : Refusal
  misplaced bad_field bad_name ceiling : Kind → Refusal
  variable let_shape bad_type : Kind → Refusal
  overlap gap : Kind → Tag → Refusal
  no_iso no_value spent : Refusal
  too_many too_high : Refusal
  bad_list : Refusal
  idle : Kind → Refusal
  bad_script : Refusal
  recursion : Kind → Refusal
  too_large : Refusal

-- the column "number" of document 01's table
abbrev pub number : Refusal → ℕ
number short_area = 1
number too_long = 2
number bad_line = 3
number (misplaced k) = 4
number (bad_field k) = 5
number (bad_name k) = 6
number (ceiling k) = 7
number (variable k) = 8
number (let_shape k) = 9
number (bad_type k) = 10
number (overlap k left) = 11
number (overlap k right) = 12
number (gap k left) = 13
number (gap k right) = 14
number no_iso = 15
number no_value = 16
number spent = 17
number too_many = 18
number too_high = 19
number bad_list = 20
number (idle k) = 21
number bad_script = 22
number (recursion k) = 23
number too_large = 24
