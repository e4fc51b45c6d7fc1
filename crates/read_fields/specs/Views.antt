-- What the answers of the cursor's methods mean, as the definitions of the model have it: a number and the bytes behind it, or nothing;
-- and where a line ends.
use Rattle.std.specs.Prelude.{ℕ, ◌-◌, ◌≤◌, ◌<◌, ◌≡◌, cond, List, [], ◌∷◌, eqb, length, take, drop}
use Rattle.std.specs.Prelude as P
use Rattle.std.specs.Prelude.{Some, None}
use Rattle.std.proofs.Math.Option.{Option, none, some}
use Rattle.limits.specs.Limits.{line_feed, carriage_return, comma, digit_zero}
use Rattle.calculus.specs.Tools.{◌>>=◌, guard}
use Rattle.format.specs.Lines.{lines, is_digit, skip, numeral, ended}
use Rattle.read_fields.specs.declared.Cursor as C

abbrev pub as_skipped : List ℕ → P.Option C.Cursor → Option (List ℕ)
as_skipped s (Some c) = some (drop c.at s)
as_skipped s None = none

-- a cursor at the end of a line's text
abbrev pub as_text : List ℕ → P.Option C.Cursor → Option (List ℕ)
as_text s (Some c) = some (take c.at s)
as_text s None = none

abbrev pub as_number : List ℕ → P.Option (ℕ × C.Cursor) → Option (ℕ × List ℕ)
as_number s (Some (n, c)) = some (n, drop c.at s)
as_number s None = none

-- the digit that a byte is, 10 where it is none
abbrev pub digit_of : ℕ → ℕ
digit_of b = cond (is_digit b) (b - digit_zero) 10

-- a comma and a number
abbrev pub as_field : ℕ → List ℕ → Option (ℕ × List ℕ)
as_field bound bs = skip comma bs >>= λ cs. numeral bound cs

-- nothing is left, and the cursor stays
abbrev pub as_end : List ℕ → Option (List ℕ)
as_end bs = ended bs >>= λ _. some bs

-- the bytes behind a line's ending that stands here, "carriage return and line feed" or a line feed alone
abbrev pub past_ending : List ℕ → Option (List ℕ)
past_ending [] = none
past_ending (b ∷ bs) = cond (eqb b line_feed) (some bs) (guard (eqb b carriage_return) >>= λ _. skip line_feed bs)

-- `end` is where the line that begins at `from` ends: the lines from `from` on are the bytes up to `end` and the lines from `end` on;
-- where no line begins, it is `from`
pub record LineEnd (s : List ℕ) (from end : ℕ) : Type 0 where
  pub further : from < length s → from < end
  pub within : from < length s → end ≤ length s
  pub splits : from < length s → lines (drop from s) ≡ take (end - from) (drop from s) ∷ lines (drop end s)
  pub stays : length s ≤ from → end ≡ from
