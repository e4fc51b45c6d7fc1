-- A count that stops at the highest number of 32 bits, a visit added to the record, the marks of visits, and what counting them leaves.
use Rattle.std.specs.Prelude.{ℕ, zero, suc, ◌+◌, min, Bool, cond, List, get_or, set}
use Rattle.limits.specs.Limits.{max_lines, run_room, max_number}
use Rattle.unit_tally.specs.declared.Tally.{Tally}
use Rattle.unit_tally.specs.declared.Visit.{Visit}
use Rattle.unit_tally.specs.declared.Visit.TheVariants.{Done, Skipped, Spent}

abbrev pub up_of : ℕ → ℕ
up_of n = min (n + 1) max_number

-- the one count of the visit's kind grows by one, and the others stay
abbrev pub added_of : Tally → Visit → Tally
added_of t Done = record { done = up_of t.done; skipped = t.skipped; spent = t.spent }
added_of t Skipped = record { done = t.done; skipped = up_of t.skipped; spent = t.spent }
added_of t Spent = record { done = t.done; skipped = t.skipped; spent = up_of t.spent }

abbrev pub zeros : Tally
zeros = record { done = 0; skipped = 0; spent = 0 }

abbrev pub begun_of : Tally → Bool → Tally
begun_of t played = cond played zeros t

-- where the mark of visit k stands: behind the room of a run
abbrev pub place_of : ℕ → ℕ
place_of k = run_room + min k max_lines

abbrev pub mark_of : Visit → ℕ
mark_of Done = 0
mark_of Skipped = 1
mark_of Spent = 2

abbrev pub visit_of : ℕ → Visit
visit_of zero = Done
visit_of (suc zero) = Skipped
visit_of (suc (suc n)) = Spent

-- a record with m marks of a work area added, from visit k on, each mark taken away
abbrev pub tallied : ℕ → ℕ → List ℕ → Tally → Tally
tallied zero k w t = t
tallied (suc m) k w t = tallied m (suc k) (set w (place_of k) 0) (added_of t (visit_of (get_or w (place_of k) 0)))

-- and the work area without them
abbrev pub emptied : ℕ → ℕ → List ℕ → List ℕ
emptied zero k w = w
emptied (suc m) k w = emptied m (suc k) (set w (place_of k) 0)
