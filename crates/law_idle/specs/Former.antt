-- The verdict before request 11: all as it is today, but no line is idle. And the setting that then showed the fault.
use Rattle.std.specs.Prelude.{ℕ, ◌≡◌, cond, List, []}
use Rattle.calculus.specs.Refusals.{Refusal, too_long}
use Rattle.calculus.specs.Clauses.{fault, sigs_of, iso_fault}
use Rattle.format.specs.Lines.{Row, lines}
use Rattle.format.specs.Judge.{Reading, rows, faulty, start, judge, read_from}
use Rattle.format.specs.Unfold.{isos_of}
use Rattle.format.specs.Idle.{NoneIdle, FirstIdle}
use Rattle.model.specs.Services.{Verdict, refused, judged, over}
use Rattle.law_witnesses.specs.Showing.{setting, shown_first, letters_of?}

abbrev pub after_reading : Reading → Verdict
after_reading (faulty f n) = refused f n
after_reading (rows rs) = judged rs (fault (isos_of rs))

unfoldable pub former : List ℕ → Verdict
unfolding over start judge isos_of fault
former bs = cond (over bs) (refused too_long 0) (after_reading (read_from start 1 (lines bs)))

-- request 09's letters
abbrev pub shown_after : Reading → List ℕ
shown_after (faulty f n) = []
shown_after (rows rs) = letters_of? (shown_first (sigs_of (isos_of rs)) 0 (isos_of rs))

unfoldable pub former_showing : List ℕ → List ℕ
unfolding over start judge isos_of iso_fault setting
former_showing bs = cond (over bs) [] (shown_after (read_from start 1 (lines bs)))

-- "Files without idle lines": one whose lines are refused 3 to 7 has none either
abbrev pub WithoutIdle : List ℕ → Type 0
WithoutIdle bs = (rs : List Row) → read_from start 1 (lines bs) ≡ rows rs → NoneIdle rs

-- "at the first such line": the first idle line of a file whose lines pass 3 to 7
pub record IdleAt (bs : List ℕ) (f : Refusal) (n : ℕ) : Type 0 where
  pub read : List Row
  pub reads : read_from start 1 (lines bs) ≡ rows read
  pub first : FirstIdle read f n
