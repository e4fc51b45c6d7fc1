-- The three demands, sentence by sentence. Each is a statement about what the services answer and leave: `Services.check`, `turn` and `run_service`, which the
-- contracts of `checker::check`, `turner::turn`, `runner::run::run` and of `rulefile_check`, `rulefile_turn` and `rulefile_run` cite for every number and every
-- element of every lent area. What is assumed is that areas have the stated lengths and that the file is accepted; nothing else.
use Rattle.std.specs.Prelude.{ℕ, ◌-◌, ◌≤◌, ◌<◌, ◌≡◌, ◌↔◌, ◌⊎◌, Bool, true, false, List, ◌++◌, length, take, drop, replicate}
use Rattle.std.proofs.Math.Option.{some}
use Rattle.std.proofs.Math.ListN.{get_elem?}
use Rattle.calculus.specs.Trees.{Val, Iso}
use Rattle.calculus.specs.Refusals.{Refusal, number}
use Rattle.format.specs.Lines.{Row}
use Rattle.format.specs.Table.{table_of}
use Rattle.calculus.specs.Clauses.{sigs_of}
use Rattle.format.specs.Unfold.{isos_of}
use Rattle.calculus.specs.Letters.{letters}
use Rattle.model.specs.Services.{check, turn, Ran, RunAnswer, answer_of_run, RunResult, run_service, toward}
use Rattle.calculus.specs.Paper.{Of, FileOk, ExactlyOne, NoneCalls, Ending}
use Rattle.calculus.specs.Lists.{ListFree}
use Rattle.calculus.specs.Terms.{Term, eapp, val_term, Steps}
use Rattle.calculus.specs.Faulty.{FirstIso, Ends}
use Rattle.model.specs.Answers.{InForm, RunIs}
use Rattle.demands.specs.Words.{Areas, yes, Accepted, OfFile, turned_bytes, shown, Gives}
use Rattle.calculus.specs.Next.{Next}

-- ---- demand 1: "Any caller, any bytes, numbers and lent areas: an answer or a numbered refusal, the call ends, and document 01 says what every lent area
-- then holds." That a call ends and answers just what `check`, `turn` and `run_service` say is in the contracts, which ask nothing of a caller; here is what these
-- say of every lent area, in document 01's words.

abbrev pub OneOrTwo : ℕ → Type 0
OneOrTwo n = (n ≡ 1) ⊎ (n ≡ 2)

-- What a call that answers n for a file leaves of a table t and a work area w: "After a call the table holds, if the file is accepted, four numbers a line …; zeros
-- fill the rest of the first 16,384. On refusals 3 to 14 those are all zero. The first 65,536 bytes of the work area are zero. Refusals 1 and 2 change nothing. Bytes
-- beyond these lengths … keep their contents." Request 10: "A table line becomes five numbers …, in an area of 20,480. … what 01 says of 16,384 holds for 20,480."
-- Request 11: 21 "with the table all zero"; so with request 14's 23.
pub record Left (n : ℕ) (file t w t' w' : List ℕ) : Type 0 where
  pub rows : (OneOrTwo n → ⊥) → (rs : List Row) → InForm file rs → FileOk (isos_of rs)
      → take 20480 t' ≡ table_of rs ++ replicate (20480 - length (table_of rs)) 0
  pub zeros : OfFile n → take 20480 t' ≡ replicate 20480 0
  pub cleared : (OneOrTwo n → ⊥) → take 65536 w' ≡ replicate 65536 0
  pub unchanged : OneOrTwo n → (t' ≡ t) × (w' ≡ w)
  pub beyond : (drop 20480 t' ≡ drop 20480 t) × (drop 65536 w' ≡ drop 65536 w)
  pub lengths : (length t' ≡ length t) × (length w' ≡ length w)

-- What a call that answers n and the length m leaves of an output area o: "Any refusal gives … length 0, and leaves the output area untouched"; "an output
-- area past what was written" keeps its contents.
pub record Written (n m : ℕ) (o o' : List ℕ) : Type 0 where
  pub untouched : 0 < n → (m ≡ 0) × (o' ≡ o)
  pub within : m ≤ length o
  pub beyond : drop m o' ≡ drop m o
  pub lengths : length o' ≡ length o

abbrev pub CheckLeaves : Type 0
CheckLeaves = (file t w : List ℕ) → Left (check file t w).answer.number file t w (check file t w).table (check file t w).work

abbrev pub TurnLeaves : Type 0
TurnLeaves =
    (file t w output : List ℕ)
    → Left (turn file t w output).answer.number file t w (turn file t w output).table (turn file t w output).work
    × Written (turn file t w output).answer.number (turn file t w output).length output (turn file t w output).output

-- "Any refusal gives count 0"
abbrev pub RunLeaves : Type 0
RunLeaves =
    (file t w : List ℕ) (i : ℕ) (back : Bool) (budget : ℕ) (value result : List ℕ) (r : RunResult) → r ≡ run_service file t w i back budget value result
    → Left r.number file t w r.table r.work × Written r.number r.length result r.result × (0 < r.number → r.count ≡ 0)

-- ---- demand 2: "A file is accepted exactly when the typing rules of the paper, as document 01 amends them, accept it; a run is refused exactly where
-- document 01 says, and otherwise gives the value and the application count of the paper's reduction."

-- "A file is accepted exactly when the typing rules of the paper, as document 01 amends them, accept it": its lines are in form, no T or P line among them idle (request
-- 11), and the judgements of the paper hold of the isos that they unfold to.
abbrev pub AcceptedExactly : Type 0
AcceptedExactly = (file t w : List ℕ) → Areas t w → ((check file t w).answer ≡ yes) ↔ ((rs : List Row) × InForm file rs × FileOk (isos_of rs))

-- "Accepted: Check gives `0,0`": in all areas of the stated lengths, or in none
abbrev pub AcceptedAnywhere : Type 0
AcceptedAnywhere = (file : List ℕ) → Accepted file → (t w : List ℕ) → Areas t w → (check file t w).answer ≡ yes

-- A file in form that is not accepted: each of 8 to 14 and 23 at its line, exactly when its condition is the first that fails.
abbrev pub RefusedExactly : Type 0
RefusedExactly =
    (file : List ℕ) (rs : List Row) → InForm file rs → (t w : List ℕ) → Areas t w → (n m : ℕ) → 0 < n
    → ((check file t w).answer ≡ record { number = n; line = m }) ↔ ((f : Refusal) × (number f ≡ n) × FirstIso (sigs_of (isos_of rs)) 0 (isos_of rs) f m)

-- "a run is refused exactly where document 01 says, and otherwise gives the value and the application count of the paper's reduction": what a
-- call to Run shows, refusal, number, count and letters, is what the judgement says, and nothing else. "A run back is a run forward of the turned file."
abbrev pub RunExactly : Type 0
RunExactly =
    (file : List ℕ) → Accepted file → (rs : List Row) → InForm file rs → (t w result : List ℕ) → Areas t w → 127 ≤ length result
    → (i : ℕ) (back : Bool) (budget : ℕ) (value : List ℕ) (a : RunAnswer)
    → (shown (run_service file t w i back budget value result) ≡ a)
    ↔ ((r : Ran) × (answer_of_run r ≡ a) × RunIs (isos_of (toward back rs)) i budget value r)

-- ---- demand 3: "A turned file is accepted and runs exactly backwards, same count, same budget; exactly one clause matches at each application; every
-- value of the to-type is reached from exactly one value of the from-type."

-- "A turned file is accepted": Turn answers `0,0`, and so does Check for the bytes that it wrote.
abbrev pub TurnedAccepted : Type 0
TurnedAccepted =
    (file : List ℕ) → Accepted file → (t w output : List ℕ) → Areas t w → length file ≤ length output
    → ((turn file t w output).answer ≡ yes) × ((t₂ w₂ : List ℕ) → Areas t₂ w₂ → (check (turned_bytes file t w output) t₂ w₂).answer ≡ yes)

-- "and runs exactly backwards, same count, same budget": for every iso, direction, budget, count and any two byte strings, in any areas of the stated
-- lengths, others for each call, the file's run gives y for x with that count exactly when the turned file's gives x for y with that count.
abbrev pub RunsBackwards : Type 0
RunsBackwards =
    (file : List ℕ) → Accepted file → (t w output : List ℕ) → Areas t w → length file ≤ length output
    → (i : ℕ) (back : Bool) (budget k : ℕ) (x y : List ℕ)
    → (t₁ w₁ result₁ t₂ w₂ result₂ : List ℕ) → Areas t₁ w₁ → 127 ≤ length result₁ → Areas t₂ w₂ → 127 ≤ length result₂
    → Gives (run_service file t₁ w₁ i back budget x result₁) k y
    ↔ Gives (run_service (turned_bytes file t w output) t₂ w₂ i back budget y result₂) k x

-- "A run back is a run forward of the turned file": what the one call shows, refusals included, the other shows for the bytes that Turn wrote.
abbrev pub RunBack : Type 0
RunBack =
    (file : List ℕ) → Accepted file → (t w output : List ℕ) → Areas t w → length file ≤ length output → (i budget : ℕ) (x : List ℕ)
    → (t₁ w₁ result₁ t₂ w₂ result₂ : List ℕ) → Areas t₁ w₁ → 127 ≤ length result₁ → Areas t₂ w₂ → 127 ≤ length result₂
    → shown (run_service file t₁ w₁ i true budget x result₁) ≡ shown (run_service (turned_bytes file t w output) t₂ w₂ i false budget x result₂)

-- "exactly one clause matches at each application": wherever the steps of Table 3 lead from iso i and a closed value of its from-type, in either direction, if
-- the next application is iso j and w, then iso j is there, w is of its from-type, and exactly one of its clauses matches w. No budget bounds the steps: "also
-- those that a spent run does not reach".
abbrev pub OneClause : Type 0
OneClause =
    (file : List ℕ) → Accepted file → (rs : List Row) → InForm file rs → (back : Bool) (i : ℕ) (o : Iso) → get_elem? (isos_of (toward back rs)) i ≡ some o
    → (v : Val) → Of v o.from → (u : Term) (k : ℕ) → Steps (isos_of (toward back rs)) (eapp i (val_term v)) u k → (j : ℕ) (w : Val) → Next j w u
    → (n : Iso) × (get_elem? (isos_of (toward back rs)) j ≡ some n) × Of w n.from × ExactlyOne n.clauses w

-- "every value of the to-type is reached from exactly one value of the from-type": a closed value w of the to-type is what some closed value of the
-- from-type reduces to, with k applications; every call to Run with a budget of k or more gives it, or is 24 (request 14); and any bytes for which some call
-- gives w are that value.
pub record ReachedFrom (file : List ℕ) (rs : List Row) (back : Bool) (i : ℕ) (o : Iso) (w : Val) : Type 0 where
  pub source : Val
  pub typed : Of source o.from
  pub count : ℕ
  pub reduces : Steps (isos_of (toward back rs)) (eapp i (val_term source)) (val_term w) count
  pub one : (v : Val) (k : ℕ) → Of v o.from → Steps (isos_of (toward back rs)) (eapp i (val_term v)) (val_term w) k → v ≡ source
  pub given : (table work result : List ℕ) (budget : ℕ) → Areas table work → 127 ≤ length result → count ≤ budget
      → Gives (run_service file table work i back budget (letters source) result) count (letters w)
      ⊎ ((run_service file table work i back budget (letters source) result).number ≡ 24)
  pub one_given : (table work result : List ℕ) (budget k : ℕ) (x : List ℕ)
      → Gives (run_service file table work i back budget x result) k (letters w) → (x ≡ letters source) × (k ≡ count)

-- Request 14: "that each to-value is reached is kept for files where no iso calls itself". Where no list is reached no call is 24 (`NeverLarge`).
abbrev pub ReachedOnce : Type 0
ReachedOnce =
    (file : List ℕ) → Accepted file → (rs : List Row) → InForm file rs → NoneCalls (isos_of rs) → (back : Bool) (i : ℕ) (o : Iso)
    → get_elem? (isos_of (toward back rs)) i ≡ some o → (w : Val) → Of w o.to → ReachedFrom file rs back i o w

-- ---- request 14, of the three services: "Where an iso and all it reaches meet the rule in one direction (those that never call themselves meet it in both), the
-- reduction that way ends; elsewhere it may be 17 or 24 under every budget." (`Zones.under_every_budget` of `model` has such a case.)

-- the steps of Table 3 lead to a closed value of the to-type; and a call to Run with a budget that holds their number gives it, or is 24
abbrev pub EndsThatWay : Type 0
EndsThatWay =
    (file : List ℕ) → Accepted file → (rs : List Row) → InForm file rs → (back : Bool) (i : ℕ) (o : Iso) → get_elem? (isos_of (toward back rs)) i ≡ some o
    → Ending (isos_of (toward back rs)) i → (v : Val) → Of v o.from
    → (e : Ends (isos_of (toward back rs)) i o v)
    × ((table work result : List ℕ) (budget : ℕ) → Areas table work → 127 ≤ length result → e.count ≤ budget
    → Gives (run_service file table work i back budget (letters v) result) e.count (letters e.result) ⊎ ((run_service file table work i back budget (letters v) result).number ≡ 24))

-- where no type of an iso, and none of one that it reaches, holds a list, no call is 24: such isos answer as before the request
abbrev pub NeverLarge : Type 0
NeverLarge =
    (file : List ℕ) → Accepted file → (rs : List Row) → InForm file rs → (back : Bool) (i : ℕ) → ListFree (isos_of (toward back rs)) i
    → (table work value result : List ℕ) (budget : ℕ) → (run_service file table work i back budget value result).number ≡ 24 → ⊥
