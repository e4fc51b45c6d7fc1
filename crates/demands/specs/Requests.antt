-- Promises of the requests that speak of more than one call, each of which gets areas of its own, and request 12's. What else the requests promise is said of one service, in the crates
-- `model` (`Sheets`), `check_overlap` and those whose names begin with `law_`.
use Rattle.std.specs.Prelude.{ℕ, ◌+◌, ◌*◌, ◌≤◌, ◌<◌, ◌≡◌, ◌↔◌, ◌⊎◌, Bool, true, false, List, [], ◌∷◌, ◌++◌, length, take, drop, get_or}
use Rattle.std.proofs.Math.Option.{some}
use Rattle.std.proofs.Math.ListN.{get_elem?}
use Rattle.calculus.specs.Trees.{Ty, tunit, type_nodes, Iso, pleaf, unit_leaf, nodes}
use Rattle.calculus.specs.Lists.{Finite, ListFree}
use Rattle.calculus.specs.Refusals.{Refusal, number, type_line, pattern_line}
use Rattle.calculus.specs.Paper.{FileOk}
use Rattle.format.specs.Lines.{Row, lines, without_returns}
use Rattle.format.specs.Judge.{start, after_all}
use Rattle.format.specs.Unfold.{isos_of}
use Rattle.model.specs.Services.{check, turn, RunResult, run_service, Output}
use Rattle.model.specs.Answers.{InForm}
use Rattle.model.specs.Desk.{Query, query_of}
use Rattle.model.specs.Sheet.{sheet}
use Rattle.law_costs.specs.Bounds.{bounds_service}
use Rattle.law_ranking.specs.Numbering.{number_service, setting_service}
use Rattle.law_witnesses.specs.Showing.{show_service}
use Rattle.law_ranking.specs.Numbering.{types_of, number_service, setting_service}
use Rattle.law_witnesses.specs.Served.{side_answer, Given, Unseen}
use Rattle.law_pairlists.specs.PairLists.{import_service, export_service}
use Rattle.law_units.specs.Units.{Units, Holds, Tally, nothing_yet, Play, play_service}
use Rattle.law_units.specs.Backward.{Backward, Alike}
use Rattle.law_units.specs.Apart.{Apart, Exchanged}
use Rattle.law_units.specs.Faults.{FirstLine, FirstUnit, PlayFault}
use Rattle.law_units.specs.Calls.{PlayServed}
use Rattle.law_reordering.specs.Reordered.{SameButOrder}
use Rattle.demands.specs.Words.{Areas, yes, Accepted, turned_bytes, Gives}

-- Request 01: "For each query come back number, count and length, three numbers of 32 bits in a lent area, in the same order and equal to those of a lone run, and its
-- letters stand in 127 bytes of its own in one lent area": up to 600 queries of an accepted file, in areas with room for them.
abbrev pub SheetOfLoneRuns : Type 0
SheetOfLoneRuns =
    (file : List ℕ) → Accepted file → (t w queries numbers letters : List ℕ) → Areas t w → length (lines queries) ≤ 600
    → length (lines queries) * 3 ≤ length numbers → length (lines queries) * 127 ≤ length letters
    → ((sheet file t w queries numbers letters).answer ≡ yes)
    × ((k : ℕ) (l : List ℕ) (q : Query) → get_elem? (lines queries) k ≡ some l → query_of l ≡ some q
    → (t₂ w₂ : List ℕ) → Areas t₂ w₂
    → (r : RunResult) → r ≡ run_service file t₂ w₂ q.iso q.back q.budget q.letters (take 127 (drop (k * 127) letters))
    → (take 3 (drop (k * 3) (sheet file t w queries numbers letters).numbers) ≡ r.number ∷ (r.count ∷ (r.length ∷ [])))
    × (take 127 (drop (k * 127) (sheet file t w queries numbers letters).letters) ≡ r.result))

-- Request 05: the bounds of an iso are those of the turned file's, so that they hold of runs back as they do of runs forward.
abbrev pub BoundsOfTurned : Type 0
BoundsOfTurned =
    (file : List ℕ) → Accepted file → (t w output : List ℕ) → Areas t w → length file ≤ length output
    → (t₂ w₂ : List ℕ) (i : ℕ) → (bounds_service (turned_bytes file t w output) t₂ w₂ i).bounds ≡ (bounds_service file t₂ w₂ i).bounds

-- Request 06: "Turned files are written with line feed alone, so turning twice gives the first file with its carriage returns taken out."
abbrev pub TurnedWithFeeds : Type 0
TurnedWithFeeds =
    (file : List ℕ) → Accepted file → (t w output : List ℕ) → Areas t w → length file ≤ length output
    → without_returns (turned_bytes file t w output) ≡ turned_bytes file t w output

abbrev pub TurnedTwice : Type 0
TurnedTwice =
    (file : List ℕ) → Accepted file → (t w output t₂ w₂ output₂ : List ℕ) → Areas t w → length file ≤ length output → Areas t₂ w₂ → length file ≤ length output₂
    → turned_bytes (turned_bytes file t w output) t₂ w₂ output₂ ≡ without_returns file

-- Request 07, what Import wrote: of its output area the first bytes, as many as the length that it gives; and what Export wrote.
abbrev pub imported_bytes : Output → List ℕ
imported_bytes r = take r.length r.output

-- an import that is not refused is a file that Check accepts
abbrev pub ImportAccepted : Type 0
ImportAccepted =
    (file t w : List ℕ) (i j : ℕ) (list output : List ℕ) → (import_service file t w i j list output).answer ≡ yes
    → (t₂ w₂ : List ℕ) → Areas t₂ w₂ → (check (imported_bytes (import_service file t w i j list output)) t₂ w₂).answer ≡ yes

-- "Exporting an imported list with a budget of 1 or more gives the list without its carriage returns."
abbrev pub ExportOfImport : Type 0
ExportOfImport =
    (file t w : List ℕ) (i j : ℕ) (list output : List ℕ) → (r : Output) → r ≡ import_service file t w i j list output → r.answer ≡ yes
    → (budget : ℕ) → 1 ≤ budget → (t₂ w₂ output₂ : List ℕ) → Areas t₂ w₂ → 40960 ≤ length output₂
    → ((export_service (imported_bytes r) t₂ w₂ 0 budget output₂).answer ≡ yes)
    × (imported_bytes (export_service (imported_bytes r) t₂ w₂ 0 budget output₂) ≡ without_returns list)

-- Request 09: "A service of its own answers as Check does", in the same areas; with a short result area it is 1. Request 14: where Check answers with a side (11 to
-- 14), and the value to give has over 127 letters, it is 24 with the line 0.
abbrev pub ShowsAsCheck : Type 0
ShowsAsCheck =
    (file t w result : List ℕ) → 127 ≤ length result
    → (((show_service file t w result).answer ≡ (check file t w).answer)
    ⊎ (((show_service file t w result).answer ≡ record { number = 24; line = 0 }) × (side_answer (check file t w).answer ≡ true)))
    × ((show_service file t w result).table ≡ (check file t w).table)
    × ((show_service file t w result).work ≡ (check file t w).work)

-- "and gives, for the iso and side refused, the value …, with the fewest letters, the first in byte order among those. Its length is given, and it
-- goes into 127 lent bytes; for other answers no value is given and the bytes stay unchanged."
abbrev pub ShowsFault : Type 0
ShowsFault =
    (file t w result : List ℕ)
    → (side_answer (show_service file t w result).answer ≡ true → Given file result (show_service file t w result))
    × (side_answer (show_service file t w result).answer ≡ false
    → ((show_service file t w result).length ≡ 0) × ((show_service file t w result).result ≡ result))

-- Request 14: "09's value may have over 127 letters: 24". It is 24 only there.
abbrev pub ShowsLarge : Type 0
ShowsLarge =
    (file t w result : List ℕ) → Areas t w → 127 ≤ length result → (show_service file t w result).answer ≡ record { number = 24; line = 0 } → Unseen file t w

-- Request 14: "02, 05, 07 and 12 refuse 18 where a type they are given, or a type of the iso or of one it reaches, holds a list": a T line of an accepted file …
abbrev pub ListTypesRefused : Type 0
ListTypesRefused =
    (file : List ℕ) → Accepted file → (rs : List Row) → InForm file rs → (i : ℕ) (a : Ty) → get_elem? (types_of rs) i ≡ some a → (Finite a → ⊥)
    → (t w value result : List ℕ) (n : ℕ) → Areas t w → 127 ≤ length result
    → ((number_service file t w i value).number ≡ 18) × ((setting_service file t w i n result).number ≡ 18)

-- … two of them …
abbrev pub ListImportRefused : Type 0
ListImportRefused =
    (file : List ℕ) → Accepted file → (rs : List Row) → InForm file rs → (i j : ℕ) (a b : Ty) → get_elem? (types_of rs) i ≡ some a → get_elem? (types_of rs) j ≡ some b
    → ((Finite a → ⊥) ⊎ (Finite b → ⊥)) → (t w list output : List ℕ) → Areas t w → 65536 ≤ length output
    → (import_service file t w i j list output).answer.number ≡ 18

-- … and an iso
abbrev pub ListIsosRefused : Type 0
ListIsosRefused =
    (file : List ℕ) → Accepted file → (rs : List Row) → InForm file rs → (i : ℕ) (o : Iso) → get_elem? (isos_of rs) i ≡ some o → (ListFree (isos_of rs) i → ⊥)
    → (t w output : List ℕ) (budget : ℕ) → Areas t w → 40960 ≤ length output
    → ((bounds_service file t w i).bounds.number ≡ 18) × ((export_service file t w i budget output).answer.number ≡ 18)

-- Request 08: "Two files that differ only in the order of clauses within isos … are both accepted or both refused, and if accepted answer every query alike": one gives y
-- for x with a count exactly when the other does; and so it is with the turned files.
abbrev pub BothAccepted : Type 0
BothAccepted = (file other : List ℕ) → SameButOrder file other → Accepted file ↔ Accepted other

abbrev pub AnswerAlike : Type 0
AnswerAlike =
    (file other : List ℕ) → SameButOrder file other → Accepted file → (i : ℕ) (back : Bool) (budget k : ℕ) (x y : List ℕ)
    → (t w result t₂ w₂ result₂ : List ℕ) → Areas t w → 127 ≤ length result → Areas t₂ w₂ → 127 ≤ length result₂
    → Gives (run_service file t w i back budget x result) k y ↔ Gives (run_service other t₂ w₂ i back budget x result₂) k y

abbrev pub TurnedAlike : Type 0
TurnedAlike =
    (file other : List ℕ) → SameButOrder file other → Accepted file → (t w output t₂ w₂ output₂ : List ℕ)
    → Areas t w → length file ≤ length output → Areas t₂ w₂ → length other ≤ length output₂
    → SameButOrder (turned_bytes file t w output) (turned_bytes other t₂ w₂ output₂)

-- Request 10: "A table line becomes five numbers, the fifth the unfolded size of a T or P line and 0 for other letters". T line i stands in row i, P line j in row j behind
-- the T lines; the trees are those that `isos_of` takes the isos' types and patterns from.
pub record Sizes (rs : List Row) (t : List ℕ) : Type 0 where
  pub types : (i : ℕ) → i < length (after_all start rs).types → get_or t (i * 5 + 4) 0 ≡ type_nodes (get_or (after_all start rs).types i tunit)
  pub patterns : (j : ℕ) → j < length (after_all start rs).patterns
      → get_or t ((length (after_all start rs).types + j) * 5 + 4) 0 ≡ nodes (get_or (after_all start rs).patterns j (pleaf unit_leaf))
  pub others : (k : ℕ) (r : Row) → get_elem? rs k ≡ some r → (r.kind ≡ type_line → ⊥) → (r.kind ≡ pattern_line → ⊥) → get_or t (k * 5 + 4) 0 ≡ 0

-- "Every service keeps it": after Check, Turn and Run with an accepted file, whatever a run answers
abbrev pub SizesLeft : Type 0
SizesLeft =
    (file t w : List ℕ) → Areas t w → (rs : List Row) → InForm file rs → FileOk (isos_of rs)
    → Sizes rs (check file t w).table
    × ((output : List ℕ) → length file ≤ length output → Sizes rs (turn file t w output).table)
    × ((i : ℕ) (back : Bool) (budget : ℕ) (value result : List ℕ) → 127 ≤ length result → Sizes rs (run_service file t w i back budget value result).table)

-- … and every other service, the overlap of two P lines aside, which `overlaps` has: in areas of the stated lengths each leaves the table as Check does, whatever it answers
abbrev pub TablesLeft : Type 0
TablesLeft =
    (file t w kept : List ℕ) → (check file t w).table ≡ kept
    → ((output : List ℕ) → length file ≤ length output → (turn file t w output).table ≡ kept)
    × ((i : ℕ) (back : Bool) (budget : ℕ) (value result : List ℕ) → 127 ≤ length result → (run_service file t w i back budget value result).table ≡ kept)
    × ((queries numbers letters : List ℕ) → length (lines queries) ≤ 600 → length (lines queries) * 3 ≤ length numbers → length (lines queries) * 127 ≤ length letters
    → (sheet file t w queries numbers letters).table ≡ kept)
    × ((i : ℕ) (value : List ℕ) → (number_service file t w i value).table ≡ kept)
    × ((i n : ℕ) (result : List ℕ) → 127 ≤ length result → (setting_service file t w i n result).table ≡ kept)
    × ((i : ℕ) → (bounds_service file t w i).table ≡ kept)
    × ((i j : ℕ) (list output : List ℕ) → 65536 ≤ length output → (import_service file t w i j list output).table ≡ kept)
    × ((i budget : ℕ) (output : List ℕ) → 40960 ≤ length output → (export_service file t w i budget output).table ≡ kept)
    × ((result : List ℕ) → 127 ≤ length result → (show_service file t w result).table ≡ kept)
    × ((us : Units) (script : List ℕ) (budget : ℕ) (tally : Tally) → length us.types ≡ length us.settings → length us.types ≤ 1000 → length (lines script) ≤ 4096
    → (play_service file t w us script budget tally).table ≡ kept)

-- Request 12: "A visit whose type does not match the unit is skipped, and one over budget is spent; both leave the unit. Any other is done: the unit then holds the T line that
-- the iso's I line names at the other end, and the number of the setting that the run gives": line by line what a call for the unit's letters, a call to Run and a call for their number
-- give one after the other, "counted from 0 in each play".
abbrev pub PlayOfCalls : Type 0
PlayOfCalls =
    (file t w : List ℕ) (us : Units) (script : List ℕ) (budget : ℕ) (tally : Tally) (p : Play) → p ≡ play_service file t w us script budget tally → p.answer ≡ yes
    → (rs : List Row) → InForm file rs → PlayServed file rs budget (lines script) us nothing_yet p.units p.tally

-- "One record of visits done, skipped and spent": one for each line
abbrev pub PlayCounts : Type 0
PlayCounts =
    (file t w : List ℕ) (us : Units) (script : List ℕ) (budget : ℕ) (tally : Tally) (p : Play) → p ≡ play_service file t w us script budget tally → p.answer ≡ yes
    → p.tally.done + p.tally.skipped + p.tally.spent ≡ length (lines script)

-- every unit is left as one that passes the tests
abbrev pub PlayGood : Type 0
PlayGood =
    (file t w : List ℕ) (us : Units) (script : List ℕ) (budget : ℕ) (tally : Tally) (p : Play) → p ≡ play_service file t w us script budget tally → p.answer ≡ yes
    → (rs : List Row) → InForm file rs → (k : ℕ) → k < length us.types → Holds rs (get_or p.units.types k 0) (get_or p.units.settings k 0)

-- "If none was skipped or spent, playing the script last line first with directions exchanged, under the same budget, restores each type tree and number."
abbrev pub PlayRestores : Type 0
PlayRestores =
    (file t w : List ℕ) (us : Units) (script : List ℕ) (budget : ℕ) (tally : Tally) (p : Play) → p ≡ play_service file t w us script budget tally → p.answer ≡ yes
    → p.tally.skipped ≡ 0 → p.tally.spent ≡ 0 → (other : List ℕ) → Backward script other → (t₂ w₂ : List ℕ) (tally₂ : Tally) → Areas t₂ w₂
    → (q : Play) → q ≡ play_service file t₂ w₂ p.units other budget tally₂ → (rs : List Row) → InForm file rs
    → (q.answer ≡ yes) × Alike rs us q.units × (q.tally ≡ record { done = length (lines script); skipped = 0; spent = 0 })

-- "a refusal leaves units and record unchanged"
abbrev pub PlayRefused : Type 0
PlayRefused =
    (file t w : List ℕ) (us : Units) (script : List ℕ) (budget : ℕ) (tally : Tally) (p : Play) → p ≡ play_service file t w us script budget tally → 0 < p.answer.number
    → (p.units ≡ us) × (p.tally ≡ tally)

-- number and line of each refusal, exactly where it is judged: 1, 2, Check's own, "the units in order and then the script"
abbrev pub PlayRefusedExactly : Type 0
PlayRefusedExactly =
    (file t w : List ℕ) (us : Units) (script : List ℕ) (budget : ℕ) (tally : Tally) (n m : ℕ) → 0 < n
    → ((play_service file t w us script budget tally).answer ≡ record { number = n; line = m }) ↔ PlayFault file t w us script n m

-- "Unit areas of unequal length are 1"
abbrev pub PlayShortExactly : Type 0
PlayShortExactly =
    (file t w : List ℕ) (us : Units) (script : List ℕ) (budget : ℕ) (tally : Tally)
    → ((play_service file t w us script budget tally).answer ≡ record { number = 1; line = 0 }) ↔ (Areas t w × (length us.types ≡ length us.settings) → ⊥)

-- "over 1,000 units or 4,096 lines 2", or a file that is too long
abbrev pub PlayLongExactly : Type 0
PlayLongExactly =
    (file t w : List ℕ) (us : Units) (script : List ℕ) (budget : ℕ) (tally : Tally) → Areas t w → length us.types ≡ length us.settings
    → ((play_service file t w us script budget tally).answer ≡ record { number = 2; line = 0 })
    ↔ (((1000 < length us.types) ⊎ (4096 < length (lines script))) ⊎ ((65536 < length file) ⊎ (4096 < length (lines file))))

-- "A starting unit with an absent T line is 15, a type too big to number 18, a number too high 19 … the units in order": everything before passes, and the first unit at fault is refused
pub record UnitAtFault (file t w : List ℕ) (us : Units) (script : List ℕ) (n : ℕ) : Type 0 where
  pub areas : Areas t w
  pub equal : length us.types ≡ length us.settings
  pub units : length us.types ≤ 1000
  pub visits : length (lines script) ≤ 4096
  pub rows : List Row
  pub form : InForm file rows
  pub ok : FileOk (isos_of rows)
  pub refusal : Refusal
  pub numbered : number refusal ≡ n
  pub first : FirstUnit rows us.types us.settings refusal

-- "All tests precede the first visit, the units in order and then the script"; request 14: "a script is tested line by line, on each 22 before 18": everything before passes, and
-- the first line at fault is refused
pub record ScriptAtFault (file t w : List ℕ) (us : Units) (script : List ℕ) (n : ℕ) : Type 0 where
  pub areas : Areas t w
  pub equal : length us.types ≡ length us.settings
  pub units : length us.types ≤ 1000
  pub visits : length (lines script) ≤ 4096
  pub rows : List Row
  pub form : InForm file rows
  pub ok : FileOk (isos_of rows)
  pub good : (k : ℕ) → k < length us.types → Holds rows (get_or us.types k 0) (get_or us.settings k 0)
  pub refusal : Refusal
  pub numbered : number refusal ≡ n
  pub first : FirstLine (length us.types) (isos_of rows) (lines script) refusal

-- 15 and 19 are of the units alone, 18 of a unit or of the script
abbrev pub UnitExactly : Type 0
UnitExactly =
    (file t w : List ℕ) (us : Units) (script : List ℕ) (budget : ℕ) (tally : Tally) (n : ℕ) → 15 ≤ n → n ≤ 19
    → ((play_service file t w us script budget tally).answer ≡ record { number = n; line = 0 })
    ↔ (UnitAtFault file t w us script n ⊎ ((n ≡ 18) × ScriptAtFault file t w us script 18))

-- "22 "bad script", a line of another form or naming an absent unit or iso, after 19"
abbrev pub BadScriptExactly : Type 0
BadScriptExactly =
    (file t w : List ℕ) (us : Units) (script : List ℕ) (budget : ℕ) (tally : Tally)
    → ((play_service file t w us script budget tally).answer ≡ record { number = 22; line = 0 }) ↔ ScriptAtFault file t w us script 22

-- two scripts that name different units, each ended by a line feed: in either order the same units and record, and the same answer, but that of a 22 and an 18 the first decides
abbrev pub PlaysExchange : Type 0
PlaysExchange =
    (file t w t₂ w₂ : List ℕ) (us : Units) (a b : List ℕ) (budget : ℕ) (tally : Tally) → Areas t w → Areas t₂ w₂ → Apart (a ++ (10 ∷ [])) (b ++ (10 ∷ []))
    → (p q : Play) → p ≡ play_service file t w us ((a ++ (10 ∷ [])) ++ (b ++ (10 ∷ []))) budget tally → q ≡ play_service file t₂ w₂ us ((b ++ (10 ∷ [])) ++ (a ++ (10 ∷ []))) budget tally
    → Exchanged p q
