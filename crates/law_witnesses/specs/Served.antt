-- What is promised of request 09's service, by what it answers and leaves.
use Rattle.std.specs.Prelude.{ℕ, ◌≡◌, Bool, ◌&&◌, List, leb, length}
use Rattle.calculus.specs.Refusals.{Refusal, number}
use Rattle.format.specs.Lines.{Row}
use Rattle.format.specs.Unfold.{isos_of}
use Rattle.model.specs.Services.{Answer, written, check}
use Rattle.model.specs.Answers.{InForm}
use Rattle.law_witnesses.specs.Showing.{Shows, TooLarge, Shown}

-- the answer is one of 11 to 14
abbrev pub side_answer : Answer → Bool
side_answer a = leb 11 a.number && leb a.number 14

-- the letters of the least value that shows the fault of the iso and side refused, their number, and they stand in the result area
pub record Given (file r : List ℕ) (s : Shown) : Type 0 where
  pub rows : List Row
  pub form : InForm file rows
  pub refusal : Refusal
  pub number : s.answer.number ≡ number refusal
  pub letters : List ℕ
  pub shows : Shows (isos_of rows) s.answer.line letters refusal
  pub length : s.length ≡ length letters
  pub result : s.result ≡ written letters r

-- 24: Check's answer is one of 11 to 14, and the least value that shows the fault has over 127 letters
pub record Unseen (file t w : List ℕ) : Type 0 where
  pub rows : List Row
  pub form : InForm file rows
  pub refusal : Refusal
  pub number : (check file t w).answer.number ≡ number refusal
  pub large : TooLarge (isos_of rows) (check file t w).answer.line refusal

-- `24,0`
abbrev pub large_answer : Answer
large_answer = record { number = 24; line = 0 }
