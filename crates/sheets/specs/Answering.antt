-- What one query, and all of them, leave in the lent areas.
use Rattle.std.specs.Prelude.{ℕ, ◌*◌, ◌≤◌, ◌≡◌, List, ◌++◌, length, take, drop}
use Rattle.std.proofs.lemmas.List.Edits.{sets}
use Rattle.limits.specs.Limits.{result_length}
use Rattle.format.specs.Lines.{Row, lines}
use Rattle.model.specs.Services.{accepted, RunAnswer, written}
use Rattle.model.specs.Sheet.{answers_to, three, numbers_after, letters_after}

-- an area with other bytes for its k-th 127
abbrev pub with_part : ℕ → List ℕ → List ℕ → List ℕ
with_part k bs o = take (k * result_length) o ++ (bs ++ drop result_length (drop (k * result_length) o))

-- three numbers and 127 bytes for each of n queries
abbrev pub SheetRoom : ℕ → List ℕ → List ℕ → Type 0
SheetRoom n numbers letters = (n * 3 ≤ length numbers) × (n * result_length ≤ length letters)

-- query k has this answer: its three numbers, and its letters at the front of its 127 bytes; n and o are the areas at entry, n' and o' at exit
pub record OneAnswered (a : RunAnswer) (k : ℕ) (n o n' o' : List ℕ) : Type 0 where
  pub fits : length a.letters ≤ result_length
  pub numbers : n' ≡ sets n (k * 3) (three a)
  pub letters : o' ≡ with_part k (written a.letters (take result_length (drop (k * result_length) o))) o

-- all queries are answered on an accepted file's rows
pub record AllAnswered (rs : List Row) (queries n o n' o' : List ℕ) : Type 0 where
  pub numbers : n' ≡ numbers_after (answers_to (accepted rs) (lines queries)) n
  pub letters : o' ≡ letters_after (answers_to (accepted rs) (lines queries)) o
