-- The desk program as a machine that takes its input byte by byte and keeps no more than the file, its rows and one line.
use Rattle.std.specs.Prelude.{ℕ, Bool, true, false, cond, ◌&&◌, List, [], ◌∷◌, ◌++◌, eqb, ltb, length}
use Rattle.limits.specs.Limits.{line_feed, letter_q, max_bytes}
use Rattle.format.specs.Lines.{Row}
use Rattle.model.specs.Services.{Verdict, accepted, refused, verdict, answer_of, answer_of_run}
use Rattle.model.specs.Desk.{query_of, answer_to, query_line, file_line}

-- The bytes of the file so far; or an accepted file's rows and the bytes of the query's line so far; or a refused file is answered.
pub data State : Type 0 where
  collecting : List ℕ → State
  asking : List Row → List ℕ → State
  stopped : State

-- the state after some bytes, and what they print
pub record Step : Type 0 where
  pub next : State
  pub prints : List ℕ

-- whether a line begins behind these bytes, where `o` says whether one begins before them
abbrev pub opens_from : Bool → List ℕ → Bool
opens_from o [] = o
opens_from o (b ∷ bs) = opens_from (eqb b line_feed) bs

-- whether a line begins behind these bytes: they are empty or end with a line feed
abbrev pub opens : List ℕ → Bool
opens bs = opens_from true bs

-- the state behind the letter of the first Q line
abbrev pub begun : Verdict → State
begun (accepted rs) = asking rs (letter_q ∷ [])
begun (refused f n) = stopped

-- the first Q line begins: the file is answered
abbrev pub close : List ℕ → Step
close bs = record { next = begun (verdict bs); prints = file_line (answer_of (verdict bs)) }

-- the line that answers a query's line
abbrev pub answered : List Row → List ℕ → List ℕ
answered rs l = query_line (answer_of_run (answer_to (accepted rs) (query_of l)))

-- one byte
abbrev pub step : State → ℕ → Step
step (collecting bs) b = cond (opens bs && eqb b letter_q) (close bs) (record { next = collecting (bs ++ (b ∷ [])); prints = [] })
step (asking rs l) b =
    cond (eqb b line_feed)
    (record { next = asking rs []; prints = answered rs (l ++ (b ∷ [])) })
    (record { next = asking rs (l ++ (b ∷ [])); prints = [] })
step stopped b = record { next = stopped; prints = [] }

-- the end of the input: a last line need not end with a line feed
abbrev pub finish : State → List ℕ
finish (collecting bs) = file_line (answer_of (verdict bs))
finish (asking rs []) = []
finish (asking rs (b ∷ l)) = answered rs (b ∷ l)
finish stopped = []

-- what was printed before a step
abbrev pub behind : List ℕ → Step → Step
behind ps s = record { next = s.next; prints = ps ++ s.prints }

-- some bytes, one after the other
abbrev pub steps : State → List ℕ → Step
steps s [] = record { next = s; prints = [] }
steps s (b ∷ bs) = behind (step s b).prints (steps (step s b).next bs)

-- all that is printed from a state on
abbrev pub output : State → List ℕ → List ℕ
output s bs = (steps s bs).prints ++ finish (steps s bs).next

-- whether the bytes that follow can change nothing of what is still printed: the file has too many bytes, or a refused file is answered
abbrev pub settled : State → Bool
settled (collecting bs) = ltb max_bytes (length bs)
settled (asking rs l) = false
settled stopped = true
