-- The words of the demands, as document 01 has them: areas, accepted, turned, and what a run gives.
use Rattle.std.specs.Prelude.{ℕ, ◌≤◌, ◌≡◌, ◌⊎◌, List, length, take}
use Rattle.model.specs.Services.{Answer, check, turn, RunResult, RunAnswer}

-- "All three take … a table area of at least 16,384 numbers of 16 bits, and a work area of at least 65,536 bytes." Request
-- 10: "in an area of 20,480 … what 01 says of 16,384 holds for 20,480."
pub record Areas (table work : List ℕ) : Type 0 where
  pub long : 20480 ≤ length table
  pub wide : 65536 ≤ length work

-- a refusal of the file, in areas that are long enough and for a file that is not too long: 3 to 14, request 11's 21 and request 14's 23
abbrev pub OfFile : ℕ → Type 0
OfFile n = ((3 ≤ n) × (n ≤ 14)) ⊎ ((n ≡ 21) ⊎ (n ≡ 23))

-- "`0,0` when accepted"
abbrev pub yes : Answer
yes = record { number = 0; line = 0 }

-- "Accepted: Check gives `0,0`", in some areas. Which ones does not matter (`accepted_anywhere`).
pub record Accepted (file : List ℕ) : Type 0 where
  pub table : List ℕ
  pub work : List ℕ
  pub says : (check file table work).answer ≡ yes

-- "Turned: the bytes that Turn writes, which Check and Run then get unaltered as their file." Of its output area they are the first, as many as
-- the length that it gives.
abbrev pub turned_bytes : List ℕ → List ℕ → List ℕ → List ℕ → List ℕ
turned_bytes file table work output = take (turn file table work output).length (turn file table work output).output

-- what a call to Run answers: refusal, number, count, and "the bytes of its result area up to the result's length"
abbrev pub shown : RunResult → RunAnswer
shown r = record { refusal = r.refusal; number = r.number; count = r.count; letters = take r.length r.result }

-- "When its number is 0, it gives the bytes of its result area up to the result's length; otherwise it gives nothing": y, with the count k
pub record Gives (r : RunResult) (k : ℕ) (y : List ℕ) : Type 0 where
  pub number : r.number ≡ 0
  pub count : r.count ≡ k
  pub bytes : take r.length r.result ≡ y
