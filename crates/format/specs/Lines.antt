-- "Lines of the file": how bytes are lines, which lines are of one of the five forms, and how a row is written.
use Rattle.std.specs.Prelude.{ℕ, zero, suc, ◌+◌, ◌*◌, ◌-◌, ◌/◌, ◌%◌, Bool, false, cond, ◌&&◌, List, [], ◌∷◌, ◌++◌, map, leb, ltb, eqb, get_or, take}
use Rattle.std.proofs.Math.Option.{Option, none, some}
use Rattle.limits.specs.Limits.{field_bound, line_feed, carriage_return, comma, digit_zero}
use Rattle.calculus.specs.Tools.{◌>>=◌, guard, concat}
use Rattle.calculus.specs.Refusals.{Kind, type_line, pattern_line, iso_line, clause_line, let_line}

-- a line as the table holds it: the letter and three fields, a missing third one being 0
pub record Row : Type 0 where
  pub kind : Kind
  pub x : ℕ
  pub y : ℕ
  pub z : ℕ

-- "Five line forms exist": the letter's code and the number of fields after the letter
abbrev pub form : Kind → ℕ × ℕ
form type_line = (84, 3)
form pattern_line = (80, 3)
form iso_line = (73, 2)
form clause_line = (67, 2)
form let_line = (76, 3)

abbrev pub letter : Kind → ℕ
letter k = (form k).0

abbrev pub field_count : Kind → ℕ
field_count k = (form k).1

-- the kind whose letter has this code
abbrev pub kind_among : List Kind → ℕ → Option Kind
kind_among [] b = none
kind_among (k ∷ ks) b = cond (eqb b (letter k)) (some k) (kind_among ks b)

abbrev pub kind_of : ℕ → Option Kind
kind_of b = kind_among (type_line ∷ pattern_line ∷ iso_line ∷ clause_line ∷ let_line ∷ []) b

-- The lines of some bytes, each with its line feed: "a last line without a line feed counts as a line".
abbrev pub onto_first : ℕ → List (List ℕ) → List (List ℕ)
onto_first b [] = (b ∷ []) ∷ []
onto_first b (l ∷ ls) = (b ∷ l) ∷ ls

abbrev pub lines : List ℕ → List (List ℕ)
lines [] = []
lines (b ∷ bs) = cond (eqb b line_feed) ((b ∷ []) ∷ lines bs) (onto_first b (lines bs))

-- Request 06: "lines with carriage return and line feed (bytes 13, 10). The line reader takes either ending on each line".
abbrev pub is_ending : List ℕ → Bool
is_ending [] = false
is_ending (b ∷ []) = eqb b line_feed
is_ending (b ∷ c ∷ []) = eqb b carriage_return && eqb c line_feed
is_ending (b ∷ c ∷ d ∷ bs) = false

-- what stands before a line's ending, nothing where there is none: of two carriage returns the first is no part of the ending
abbrev pub text : List ℕ → Option (List ℕ)
text [] = none
text (b ∷ bs) = cond (is_ending (b ∷ bs)) (some []) (text bs >>= λ t. some (b ∷ t))

-- "with its carriage returns taken out"
abbrev pub without_returns : List ℕ → List ℕ
without_returns [] = []
without_returns (b ∷ bs) = cond (eqb b carriage_return) (without_returns bs) (b ∷ without_returns bs)

abbrev pub is_digit : ℕ → Bool
is_digit b = leb digit_zero b && ltb b (digit_zero + 10)

-- the number that the digits ahead carry on from `n`, which stays below `bound`, and the bytes behind them
abbrev pub digits : ℕ → ℕ → List ℕ → Option (ℕ × List ℕ)
digits bound n [] = some (n, [])
digits bound n (b ∷ bs) =
    cond (is_digit b)
    (guard (ltb (n * 10 + (b - digit_zero)) bound) >>= λ _. digits bound (n * 10 + (b - digit_zero)) bs)
    (some (n, b ∷ bs))

-- "decimal numbers … without leading zeros": a 0 stands alone, so that a digit behind it is a wrong byte
abbrev pub numeral : ℕ → List ℕ → Option (ℕ × List ℕ)
numeral bound [] = none
numeral bound (b ∷ bs) = cond (eqb b digit_zero) (some (0, bs)) (guard (is_digit b) >>= λ _. digits bound 0 (b ∷ bs))

-- one given byte, and the bytes behind it
abbrev pub skip : ℕ → List ℕ → Option (List ℕ)
skip c [] = none
skip c (b ∷ bs) = guard (eqb b c) >>= λ _. some bs

-- "commas part them": a comma and a number, for each bound in the list
abbrev pub fields : List ℕ → List ℕ → Option (List ℕ × List ℕ)
fields [] bs = some ([], bs)
fields (bound ∷ bounds) bs =
    skip comma bs >>= λ cs. numeral bound cs >>= λ r. fields bounds r.1 >>= λ s. some (r.0 ∷ s.0, s.1)

-- nothing is left
abbrev pub ended : List ℕ → Option (Unit {0})
ended [] = some tt
ended (b ∷ bs) = none

-- the bound of each field of a line of this kind
abbrev pub field_bounds : Kind → List ℕ
field_bounds k = take (field_count k) (field_bound ∷ field_bound ∷ field_bound ∷ [])

abbrev pub to_row : Kind → List ℕ → Row
to_row k ns = record { kind = k; x = get_or ns 0 0; y = get_or ns 1 0; z = get_or ns 2 0 }

-- the row of a text that is of one of the five forms
abbrev pub row_in : List ℕ → Option Row
row_in [] = none
row_in (b ∷ bs) =
    kind_of b >>= λ k. fields (field_bounds k) bs >>= λ r. ended r.1 >>= λ _. some (to_row k r.0)

-- the row of a line
abbrev pub row_of : List ℕ → Option Row
row_of l = text l >>= λ t. row_in t

-- A number's digits; ten are enough for every number below 10,000,000,000.
abbrev pub decimal_of : ℕ → ℕ → List ℕ
decimal_of zero n = []
decimal_of (suc d) n = cond (ltb n 10) ((digit_zero + n) ∷ []) (decimal_of d (n / 10) ++ ((digit_zero + n % 10) ∷ []))

unfoldable pub decimal : ℕ → List ℕ
decimal n = decimal_of 10 n

-- a row as a line of the file
abbrev pub print_field : ℕ → List ℕ
print_field n = comma ∷ decimal n

unfoldable pub print : Row → List ℕ
unfolding decimal
print r = letter r.kind ∷ concat (map print_field (take (field_count r.kind) (r.x ∷ r.y ∷ r.z ∷ []))) ++ (line_feed ∷ [])

unfoldable pub print_rows : List Row → List ℕ
unfolding print
print_rows rs = concat (map print rs)
