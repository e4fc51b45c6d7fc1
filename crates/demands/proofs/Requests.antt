-- The promises of `specs/Requests.antt`, proved.
use Prim.Native.Nat.{ℕ, ◌+◌, ◌*◌, ◌-◌, ◌≤◌, ◌<◌}
use native.Mathlib.Omega.{arith}
use mathlib.Core.Path.{◌≡◌, refl, sym, ap, ap₂, ◌∙◌, subst}
use mathlib.Core.Logic.{◌⊎◌, inl, inr}
use mathlib.Core.Bool.{Bool, false, cond, not, ◌||◌, or-false}
use mathlib.Core.List.{List, [], ◌∷◌, ◌++◌}
use lib.Dec.{ltb}
use lib.ListN.{length, take, drop, replicate, get_or}
use lib.Seq.{take-append_seam}
use borrow.Author.Tests.{le-ltb}
use Rattle.limits.specs.Limits.{table_length, result_length, max_queries, max_values, max_pairs, export_length, import_length}
use Rattle.calculus.specs.Trees.{Ty, Iso}
use Rattle.calculus.specs.Lists.{Finite, list_free, is_free}
use Rattle.calculus.specs.Refusals.{Refusal, number, too_long, too_many}
use Rattle.calculus.proofs.Basic.{is_false}
use Rattle.calculus.proofs.Lists.{free_finite}
use Rattle.format.specs.Lines.{Row, lines, without_returns}
use Rattle.format.specs.Judge.{start, Passes}
use Rattle.format.specs.Table.{table_of}
use Rattle.format.specs.Unfold.{isos_of}
use Rattle.calculus.specs.Paper.{FileOk}
use Rattle.format.proofs.Printing.{read_rows}
use Rattle.format.proofs.Sizes.{type_size_at, pattern_size_at, no_size_at}
use Rattle.model.specs.Answers.{InForm}
use Rattle.model.specs.Services.{accepted, refused, verdict, written, table_after, short, unless, Answer, check, turn, turned, run_of, run, RunAnswer}
use Rattle.model.specs.Services.{answer_of_run, RunResult, run_service, fails, serve, answer_from, Output}
use Rattle.model.specs.Sheet.{three, sheet}
use Rattle.model.proofs.Files.{accepted_iff, turned_twice, turned_fits}
use Rattle.model.proofs.Sheets.{block, Room, as_check, each_query}
use Rattle.calculus.proofs.Basic.{eq_eqb, not_ltb, le_or_lt}
use Rattle.law_ranking.specs.Answers.{LineFault}
use Rattle.law_ranking.proofs.Services.{number_areas, setting_areas}
use Rattle.law_costs.specs.Bounds.{bounds_service}
use Rattle.law_costs.proofs.Served.{turned_same, list_iso, as_check as bounds_areas}
use Rattle.model.proofs.Runs.{accepted_good}
use Rattle.model.proofs.Sizes.{free_rows}
use Rattle.law_ranking.specs.Numbering.{count}
use Rattle.law_ranking.specs.Answers.{LineFault, NumberIs, SettingIs}
use Rattle.law_ranking.proofs.Numbering.{list_many}
use Rattle.law_ranking.proofs.Services.{number_answers, setting_answers}
use Rattle.law_endings.proofs.Feeds.{turned_returnless}
use Rattle.law_witnesses.proofs.Served.{as_check as as_shown, served_shows, served_silent, served_large}
use Rattle.law_pairlists.specs.PairLists.{export_rows, export_service, import_rows, import_service}
use Rattle.law_pairlists.proofs.Services.{import_areas, import_checks, import_exports, export_areas}
use Rattle.law_pairlists.proofs.Runs.{import_many, export_lists}
use Rattle.law_units.specs.Units.{Units, Holds, Tally, nothing_yet, Play, play_service}
use Rattle.law_units.specs.Backward.{Alike}
use Rattle.law_units.specs.Apart.{Exchanged}
use Rattle.law_units.specs.Faults.{UnitFault, FirstUnit, ScriptLine, FirstLine, Room as PlayRoom, Few as PlayFew, PlayFault}
use Rattle.law_units.specs.Calls.{PlayServed}
use Rattle.law_units.proofs.Playing.{AllHold}
use Rattle.law_units.proofs.Services.{play_refused, play_areas, file_rows, accepts, play_counts, play_many, play_holds, play_restores}
use Rattle.law_units.proofs.Calling.{play_served}
use Rattle.law_units.proofs.Faulting.{play_faults}
use Rattle.law_units.proofs.Exchanging.{lines_behind, plays_exchanged}
use Rattle.law_reordering.specs.Reordered.{SameButOrder}
use Rattle.law_reordering.proofs.Files.{reordered_sym}
use Rattle.law_reordering.proofs.Services.{check_both, run_same, turned_same as turned_order}
use Rattle.demands.specs.Words.{Areas, yes, Accepted, turned_bytes}
use Rattle.demands.specs.Requests.{SheetOfLoneRuns, BoundsOfTurned, TurnedWithFeeds, TurnedTwice, imported_bytes, ImportAccepted, ExportOfImport}
use Rattle.demands.specs.Requests.{ShowsAsCheck, ShowsFault, ShowsLarge, ListTypesRefused, ListImportRefused, ListIsosRefused, BothAccepted, AnswerAlike, TurnedAlike}
use Rattle.demands.specs.Requests.{Sizes, SizesLeft, TablesLeft, PlayOfCalls}
use Rattle.demands.specs.Requests.{PlayCounts, PlayGood, PlayRestores, PlayRefused, PlayRefusedExactly, PlayShortExactly, PlayLongExactly}
use Rattle.demands.specs.Requests.{UnitAtFault, UnitExactly, ScriptAtFault, BadScriptExactly, PlaysExchange}
use Rattle.demands.proofs.Serving.{not_short, not_tight, check_says, accepted_as, accepted_rows, same_rows, turn_writes, gives_run, run_gives, zero_says}
use Rattle.demands.specs.Faults.{Checks}
use Rattle.demands.proofs.Faults.{no_one, long_exactly, numbered_answers}
use Rattle.demands.proofs.Demands.{accepted_anywhere}

-- ---- request 01

-- the three numbers of a lone run
abbrev numbers_of : RunResult → List ℕ
numbers_of r = r.number ∷ (r.count ∷ (r.length ∷ []))

-- what a lone run answers and leaves of its result area does not depend on which table and work area it is lent
module _ (file : List ℕ) (i : ℕ) (back : Bool) (budget : ℕ) (value o : List ℕ) {t w t₂ w₂ : List ℕ} (a : Areas t w) (b : Areas t₂ w₂) where
  same_room : short t w ≡ short t₂ w₂
  same_room = not_short a ∙ sym (not_short b)

  same_answer : (numbers_of (run_service file t w i back budget value o) ≡ numbers_of (run_service file t₂ w₂ i back budget value o))
      × ((run_service file t w i back budget value o).result ≡ (run_service file t₂ w₂ i back budget value o).result)
  unfolding run_service run
  same_answer =
      let narrow : Bool → RunAnswer = λ b. answer_of_run (run_of (unless (b || ltb (length o) result_length) (verdict file)) i back budget value) in
      (ap (λ b. three (narrow b)) same_room, ap (λ b. written (narrow b).letters o) same_room)

pub sheet_of_lone_runs : SheetOfLoneRuns
sheet_of_lone_runs file a t w queries numbers letters areas few enough room =
    let r : Room t w queries numbers letters = record { table = areas.long; work = areas.wide; of_numbers = enough; of_letters = room } in
    let answered = (as_check file t w queries numbers letters r few).answer ∙ accepted_anywhere file a t w areas in (
      answered,
      (λ k l q there reads t₂ w₂ areas₂ lone e.
          let each = each_query file t w queries numbers letters (ap (λ x. x.number) answered) k l q there reads _ refl in
          let alike = same_answer file q.iso q.back q.budget q.letters (block k letters) areas areas₂ in
          (each.0 ∙ alike.0 ∙ ap numbers_of (sym e), each.1 ∙ alike.1 ∙ ap (λ x. x.result) (sym e))),
    )

-- ---- request 05

pub bounds_of_turned : BoundsOfTurned
bounds_of_turned file a t w output areas h t₂ w₂ i =
    let (rs, e) = accepted_rows a in
    ap (λ bs. (bounds_service bs t₂ w₂ i).bounds) (turn_writes file output areas h) ∙ turned_same file t₂ w₂ i rs e

-- ---- request 06

pub turned_with_feeds : TurnedWithFeeds
turned_with_feeds file a t w output areas h =
    let (rs, e) = accepted_rows a in
    let same = turn_writes file output areas h in
    ap without_returns same ∙ turned_returnless file rs e ∙ sym same

pub turned_twice_too : TurnedTwice
turned_twice_too file a t w output t₂ w₂ output₂ areas h areas₂ h₂ =
    let (rs, e) = accepted_rows a in
    let same = turn_writes file output areas h in
    let fits = turned_fits file rs e in
    ap (λ bs. turned_bytes bs t₂ w₂ output₂) same ∙ turn_writes (turned file) output₂ areas₂ (omega arith) ∙ turned_twice file rs e

-- ---- request 07

pub import_accepted : ImportAccepted
import_accepted file t w i j list output e t₂ w₂ areas =
    import_checks file t w i j list output (ap (λ x. x.number) e) t₂ w₂ areas.long areas.wide

pub export_of_import : ExportOfImport
export_of_import file t w i j list output r same e budget l t₂ w₂ output₂ areas room =
    let n = ap (λ (x : Output). x.answer.number) (sym same) ∙ ap (λ x. x.number) e in
    let x = import_exports file t w i j list output n budget t₂ w₂ output₂ l areas.long areas.wide room in
    subst (λ (y : Output). ((export_service (imported_bytes y) t₂ w₂ 0 budget output₂).answer ≡ yes) ×
    (imported_bytes (export_service (imported_bytes y) t₂ w₂ 0 budget output₂) ≡ without_returns list)) (sym same)
    (x.0, ap₂ take x.1 x.2 ∙ take-append_seam (without_returns list) (drop (length (without_returns list)) output₂))

-- ---- request 09

pub shows_as_check : ShowsAsCheck
shows_as_check file t w result room = as_shown file t w result (le-ltb (length result) result_length room)

pub shows_fault : ShowsFault
shows_fault file t w result = (served_shows file t w result, served_silent file t w result)

-- ---- request 14

pub shows_large : ShowsLarge
shows_large file t w result areas room e = served_large file t w result (not_tight result 127 areas room) e

-- a type that holds a list has more values than are numbered
many : (a : Ty) → (Finite a → ⊥) → max_values < count a
many a h = list_many a (is_false (list_free a) (λ e. h (free_finite a e)))

pub list_types_refused : ListTypesRefused
list_types_refused file a rs f i x there h t w value result n areas room =
    let e = accepted_as a rs f in
    let fault : LineFault rs i too_many = LineFault.many x there (many x h) in (
      ap (λ r. r.number) (number_answers file t w i value areas.long areas.wide rs e (fails too_many) (NumberIs.faulty too_many fault)),
      ap (λ r. r.number) (setting_answers file t w i n result room areas.long areas.wide rs e (fails too_many) (SettingIs.faulty too_many fault)),
    )

pub list_import_refused : ListImportRefused
unfolding import_service
list_import_refused file acc rs f i j a b p q h t w list output areas room =
    ap (λ c. (answer_from (serve c (verdict file) (λ rs. import_rows rs i j list) t w)).number) (not_tight output import_length areas room)
    ∙ ap (λ v. (answer_from (serve false v (λ rs. import_rows rs i j list) t w)).number) (accepted_as acc rs f)
    ∙ ap (λ x. (answer_from (serve false (accepted rs) (λ _. x) t w)).number) (import_many rs i j list a b p q (over h))
  where
    over : ((Finite a → ⊥) ⊎ (Finite b → ⊥)) → (max_pairs < count a) ⊎ (max_pairs < count b)
    over (inl x) = inl (let m = many a x in omega (arith, m))
    over (inr x) = inr (let m = many b x in omega (arith, m))

pub list_isos_refused : ListIsosRefused
unfolding export_service
list_isos_refused file acc rs f i o known h t w output budget areas room =
    let e = accepted_as acc rs f in
    let n = is_false (is_free (isos_of rs) i) (λ x. h (free_rows rs (accepted_good file rs e) i o known x)) in (
      ap (λ r. r.number) (list_iso file t w i rs o e (ap (λ x. x.number) (accepted_anywhere file acc t w areas)) known n),
      ap (λ c. (answer_from (serve c (verdict file) (λ rs. export_rows rs i budget) t w)).number) (not_tight output export_length areas room)
          ∙ ap (λ v. (answer_from (serve false v (λ rs. export_rows rs i budget) t w)).number) e
          ∙ ap (λ x. (answer_from (serve false (accepted rs) (λ _. x) t w)).number) (export_lists rs i budget o known n),
    )

-- ---- request 08

accepted_other : (file other : List ℕ) → SameButOrder file other → Accepted file → Accepted other
accepted_other file other order a =
    let n = (check_both file other order a.table a.work).0 (ap (λ x. x.number) a.says) in
    record { table = a.table; work = a.work; says = zero_says other a.table a.work n }

pub both_accepted : BothAccepted
both_accepted file other order = (accepted_other file other order, accepted_other other file (reordered_sym order))

pub answer_alike : AnswerAlike
answer_alike file other order a i back budget k x y t w result t₂ w₂ result₂ areas h areas₂ h₂ =
    let e = run_same file other order a.table a.work (ap (λ z. z.number) a.says) i back budget x in (
      (λ g. run_gives other result₂ i back budget x k y areas₂ h₂ (sym e ∙ gives_run file t w result i back budget x k y g)),
      (λ g. run_gives file result i back budget x k y areas h (e ∙ gives_run other t₂ w₂ result₂ i back budget x k y g)),
    )

pub turned_alike : TurnedAlike
turned_alike file other order a t w output t₂ w₂ output₂ areas h areas₂ h₂ =
    subst (λ bs. SameButOrder bs (turned_bytes other t₂ w₂ output₂)) (sym (turn_writes file output areas h))
    (subst (λ bs. SameButOrder (turned file) bs) (sym (turn_writes other output₂ areas₂ h₂))
    (turned_order file other order a.table a.work (ap (λ x. x.number) a.says)))

-- ---- request 10

sizes_in : {rs : List Row} → Passes start rs → (rest : List ℕ) → Sizes rs (table_of rs ++ rest)
sizes_in {rs} p rest = record { types = type_size_at p rest; patterns = pattern_size_at p rest; others = no_size_at rs rest }

-- the table of a call by this verdict, no area being short
sizes_after : (file t : List ℕ) (rs : List Row) → InForm file rs → FileOk (isos_of rs) → {narrow : Bool} → narrow ≡ false
    → Sizes rs (table_after (unless narrow (verdict file)) t)
sizes_after file t rs f ok e =
    subst (λ b. Sizes rs (table_after (unless b (verdict file)) t)) (sym e)
    (subst (λ v. Sizes rs (table_after v t)) (sym ((accepted_iff file rs).1 (f, ok)))
    (sizes_in (read_rows start 1 (lines file) rs f.reads).2 (replicate (table_length - length (table_of rs)) 0 ++ drop table_length t)))

pub sizes_left : SizesLeft
unfolding check turn run_service
sizes_left file t w areas rs f ok = (
  sizes_after file t rs f ok (not_short areas),
  (λ output h. sizes_after file t rs f ok (not_tight output (length file) areas h)),
  (λ i back budget value result h. sizes_after file t rs f ok (not_tight result result_length areas h)),
)

-- another area of the stated length counts for nothing
roomy : (t w o : List ℕ) (n : ℕ) → n ≤ length o → (short t w || ltb (length o) n) ≡ short t w
roomy t w o n h = ap (λ b. short t w || b) (not_ltb {m = length o} {n = n} h) ∙ or-false (short t w)

pub tables_left : TablesLeft
unfolding check turn run_service sheet
tables_left file t w kept e = (
  (λ output h. ap (λ b. table_after (unless b (verdict file)) t) (roomy t w output (length file) h) ∙ e),
  (λ i back budget value result h. ap (λ b. table_after (unless b (verdict file)) t) (roomy t w result result_length h) ∙ e),
  (λ queries numbers letters few enough room.
      ap₂ (λ b v. table_after (unless b v) t)
      (ap₂ (λ b c. short t w || (b || c)) (not_ltb {m = length numbers} {n = length (lines queries) * 3} enough) (not_ltb {m = length letters} {n = length (lines queries) * result_length} room)
      ∙ or-false (short t w))
      (ap (λ b. cond b (refused too_long 0) (verdict file)) (not_ltb {m = max_queries} {n = length (lines queries)} few))
      ∙ e),
  (λ i value. (number_areas file t w i value).0 ∙ e),
  (λ i n result h. (setting_areas file t w i n result h).0 ∙ e),
  (λ i. (bounds_areas file t w i).0 ∙ e),
  (λ i j list output h. (import_areas file t w i j list output h).0 ∙ e),
  (λ i budget output h. (export_areas file t w i budget output h).0 ∙ e),
  (λ result h. (as_shown file t w result (le-ltb (length result) result_length h)).1 ∙ e),
  (λ us script budget tally same few short_enough. (play_areas file t w us script budget tally (ap not (eq_eqb same)) few short_enough).0 ∙ e),
)

-- ---- request 12

module _ (file t w : List ℕ) (us : Units) (script : List ℕ) (budget : ℕ) (tally : Tally) where
  abbrev playing : Play
  playing = play_service file t w us script budget tally

  -- a play that is not refused has the rows that the file's lines are
  module _ (ok : playing.answer.number ≡ 0) (rs : List Row) (f : InForm file rs) where
    own_rows : file_rows file t w us script budget tally ok ≡ rs
    own_rows = same_rows (accepts file t w us script budget tally ok) rs f

    served_rows : PlayServed file rs budget (lines script) us nothing_yet playing.units playing.tally
    served_rows = subst (λ z. PlayServed file z budget (lines script) us nothing_yet playing.units playing.tally) own_rows (play_served file t w us script budget tally ok)

    good_after : AllHold rs playing.units
    good_after = subst (λ z. AllHold z playing.units) own_rows (play_holds file t w us script budget tally ok)

pub play_of_calls : PlayOfCalls
play_of_calls file t w us script budget tally p e ok rs f =
    subst (λ (q : Play). PlayServed file rs budget (lines script) us nothing_yet q.units q.tally) (sym e)
    (served_rows file t w us script budget tally (ap (λ (q : Play). q.answer.number) (sym e) ∙ ap (λ (a : Answer). a.number) ok) rs f)

pub play_counts_lines : PlayCounts
play_counts_lines file t w us script budget tally p e ok =
    ap (λ (q : Play). q.tally.done + q.tally.skipped + q.tally.spent) e
    ∙ play_counts file t w us script budget tally (ap (λ (q : Play). q.answer.number) (sym e) ∙ ap (λ (a : Answer). a.number) ok)

pub play_leaves_good : PlayGood
play_leaves_good file t w us script budget tally p e ok rs f k h =
    let zero = ap (λ (q : Play). q.answer.number) (sym e) ∙ ap (λ (a : Answer). a.number) ok in
    let many = play_many file t w us script budget tally zero in
    subst (λ (q : Play). Holds rs (get_or q.units.types k 0) (get_or q.units.settings k 0)) (sym e)
    ((good_after file t w us script budget tally zero rs f).each k (omega (arith, h, many)))

pub play_back : PlayRestores
play_back file t w us script budget tally p e ok none_skipped none_spent other back t₂ w₂ tally₂ areas q e₂ rs f =
    let zero = ap (λ (x : Play). x.answer.number) (sym e) ∙ ap (λ (a : Answer). a.number) ok in
    let r = play_restores file t w us script budget tally zero (ap (λ (x : Play). x.tally.skipped) (sym e) ∙ none_skipped) (ap (λ (x : Play). x.tally.spent) (sym e) ∙ none_spent) other back
    t₂ w₂ tally₂ areas.long areas.wide in
    let same : play_service file t₂ w₂ (play_service file t w us script budget tally).units other budget tally₂ ≡ q =
    ap (λ (x : Play). play_service file t₂ w₂ x.units other budget tally₂) (sym e) ∙ sym e₂ in
    subst (λ (x : Play). (x.answer ≡ yes) × Alike rs us x.units × (x.tally ≡ record { done = length (lines script); skipped = 0; spent = 0 })) same (
      r.0,
      subst (λ z. Alike z us (play_service file t₂ w₂ (play_service file t w us script budget tally).units other budget tally₂).units)
          (own_rows file t w us script budget tally zero rs f) r.1,
      r.2,
    )

pub play_refused_leaves : PlayRefused
play_refused_leaves file t w us script budget tally p e h =
    subst (λ (q : Play). (q.units ≡ us) × (q.tally ≡ tally)) (sym e) (play_refused file t w us script budget tally (subst (λ (q : Play). 0 < q.answer.number) e h))

-- ---- each refusal of a play

pub play_refused_exactly : PlayRefusedExactly
play_refused_exactly = play_faults

-- the numbers of a unit at fault
unit_number : {rs : List Row} {i n : ℕ} {f : Refusal} → UnitFault rs i n f → (15 ≤ number f) × (number f ≤ 19)
unit_number (UnitFault.line f (LineFault.absent e)) = (omega arith, omega arith)
unit_number (UnitFault.line f (LineFault.many a e h)) = (omega arith, omega arith)
unit_number (UnitFault.high a l k) = (omega arith, omega arith)

first_number : {rs : List Row} {is ns : List ℕ} {f : Refusal} → FirstUnit rs is ns f → (15 ≤ number f) × (number f ≤ 19)
first_number (FirstUnit.here u) = unit_number u
first_number (FirstUnit.later h u) = first_number u

-- those of a line at fault
script_number : {units : ℕ} {os : List Iso} {ls : List (List ℕ)} {f : Refusal} → FirstLine units os ls f → (number f ≡ 22) ⊎ (number f ≡ 18)
script_number (FirstLine.here (ScriptLine.bad b)) = inl refl
script_number (FirstLine.here (ScriptLine.lists p n h)) = inr refl
script_number (FirstLine.later h s) = script_number s

-- a number that is no answer of Check
not_checked : (file t w : List ℕ) (n : ℕ) → 15 ≤ n → (n ≡ 21 → ⊥) → (n ≡ 23 → ⊥) → (check file t w).answer.number ≡ n → ⊥
not_checked file t w n h k l e = go (numbered_answers file t w).0
  where
    go : Checks (check file t w).answer.number → ⊥
    go (inl m) = absurd (omega (arith, h, e, m))
    go (inr (inl m)) = k (sym e ∙ m)
    go (inr (inr m)) = l (sym e ∙ m)

module _ (file t w : List ℕ) (us : Units) (script : List ℕ) where
  areas_of : PlayRoom t w us → Areas t w
  areas_of r = record { long = r.table; wide = r.work }

  -- 1 is of the areas
  fault_one : {n m : ℕ} → PlayFault file t w us script n m → n ≡ 1 → PlayRoom t w us → ⊥
  fault_one (PlayFault.area h) e r = h r
  fault_one (PlayFault.long r h) e room = absurd (omega (arith, e))
  fault_one (PlayFault.file n m r s h says) e room =
      no_one file (verdict file) refl (ap (λ (a : Answer). a.number) (sym (check_says file (areas_of room)) ∙ says) ∙ e)
  fault_one (PlayFault.unit rs f r s form ok u) e room = let b = first_number u in absurd (omega (arith, e, b.0))
  fault_one (PlayFault.script rs f r s form ok holds first) e room = absurd (either (script_number first))
    where
      either : (number f ≡ 22) ⊎ (number f ≡ 18) → ⊥
      either (inl k) = absurd (omega (arith, e, k))
      either (inr k) = absurd (omega (arith, e, k))

  -- 2 is of the units, the script or the file
  fault_two : {n m : ℕ} → PlayFault file t w us script n m → n ≡ 2 → m ≡ 0
      → ((1000 < length us.types) ⊎ (4096 < length (lines script))) ⊎ ((65536 < length file) ⊎ (4096 < length (lines file)))
  fault_two (PlayFault.area h) e z = absurd (omega (arith, e))
  fault_two (PlayFault.long r h) e z = inl h
  fault_two (PlayFault.file n m r s h says) e z =
      inr ((long_exactly file t w (areas_of r)).0 (says ∙ ap₂ (λ x y. record { number = x; line = y }) e z))
  fault_two (PlayFault.unit rs f r s form ok u) e z = let b = first_number u in absurd (omega (arith, e, b.0))
  fault_two (PlayFault.script rs f r s form ok holds first) e z = absurd (either (script_number first))
    where
      either : (number f ≡ 22) ⊎ (number f ≡ 18) → ⊥
      either (inl k) = absurd (omega (arith, e, k))
      either (inr k) = absurd (omega (arith, e, k))

  two_fault : PlayRoom t w us → ((1000 < length us.types) ⊎ (4096 < length (lines script))) ⊎ ((65536 < length file) ⊎ (4096 < length (lines file))) → PlayFault file t w us script 2 0
  two_fault r (inl h) = PlayFault.long r h
  two_fault r (inr h) = go (le_or_lt (length us.types) 1000) (le_or_lt (length (lines script)) 4096)
    where
      go : (length us.types ≤ 1000) ⊎ (1000 < length us.types) → (length (lines script) ≤ 4096) ⊎ (4096 < length (lines script)) → PlayFault file t w us script 2 0
      go (inr l) y = PlayFault.long r (inl l)
      go (inl l) (inr m) = PlayFault.long r (inr m)
      go (inl l) (inl m) = PlayFault.file 2 0 r (record { units = l; visits = m }) (omega arith) ((long_exactly file t w (areas_of r)).1 h)

  -- a line at fault, all before it passing
  at_script : (rs : List Row) (f : Refusal) → PlayRoom t w us → PlayFew us script → InForm file rs → FileOk (isos_of rs)
      → ((k : ℕ) → k < length us.types → Holds rs (get_or us.types k 0) (get_or us.settings k 0))
      → FirstLine (length us.types) (isos_of rs) (lines script) f → {n : ℕ} → number f ≡ n → ScriptAtFault file t w us script n
  at_script rs f r s form ok holds first e =
      record {
        areas = areas_of r;
        equal = r.equal;
        units = s.units;
        visits = s.visits;
        rows = rs;
        form = form;
        ok = ok;
        good = holds;
        refusal = f;
        numbered = e;
        first = first;
      }

  -- 15 and 19 are of the units, 18 of a unit or of the script
  fault_unit : {n m : ℕ} → PlayFault file t w us script n m → 15 ≤ n → n ≤ 19 → UnitAtFault file t w us script n ⊎ ((n ≡ 18) × ScriptAtFault file t w us script 18)
  fault_unit (PlayFault.area h) a b = absurd (omega (arith, a))
  fault_unit (PlayFault.long r h) a b = absurd (omega (arith, a))
  fault_unit (PlayFault.file n m r s h says) a b = absurd (not_checked file t w n a (λ q. absurd (omega (arith, b, q))) (λ q. absurd (omega (arith, b, q))) (ap (λ (x : Answer). x.number) says))
  fault_unit (PlayFault.unit rs f r s form ok u) a b =
      inl (record {
        areas = areas_of r;
        equal = r.equal;
        units = s.units;
        visits = s.visits;
        rows = rs;
        form = form;
        ok = ok;
        refusal = f;
        numbered = refl;
        first = u;
      })
  fault_unit (PlayFault.script rs f r s form ok holds first) a b = either (script_number first)
    where
      either : (number f ≡ 22) ⊎ (number f ≡ 18) → UnitAtFault file t w us script (number f) ⊎ ((number f ≡ 18) × ScriptAtFault file t w us script 18)
      either (inl k) = absurd (omega (arith, b, k))
      either (inr k) = inr (k, at_script rs f r s form ok holds first k)

  -- 22 is of the script
  fault_script : {n m : ℕ} → PlayFault file t w us script n m → n ≡ 22 → ScriptAtFault file t w us script 22
  fault_script (PlayFault.area h) e = absurd (omega (arith, e))
  fault_script (PlayFault.long r h) e = absurd (omega (arith, e))
  fault_script (PlayFault.file n m r s h says) e =
      absurd (not_checked file t w 22 (omega arith) (λ q. absurd (omega (arith, q))) (λ q. absurd (omega (arith, q))) (ap (λ (a : Answer). a.number) says ∙ e))
  fault_script (PlayFault.unit rs f r s form ok u) e = let b = first_number u in absurd (omega (arith, e, b.1))
  fault_script (PlayFault.script rs f r s form ok holds first) e = at_script rs f r s form ok holds first e

  -- the refusal of a script that is at fault so
  script_fault : {n : ℕ} → ScriptAtFault file t w us script n → PlayFault file t w us script n 0
  script_fault b =
      subst (λ k. PlayFault file t w us script k 0) b.numbered
      (PlayFault.script b.rows b.refusal (record { table = b.areas.long; work = b.areas.wide; equal = b.equal }) (record { units = b.units; visits = b.visits })
      b.form b.ok b.good b.first)

abbrev room_of : {t w : List ℕ} {us : Units} → Areas t w → length us.types ≡ length us.settings → PlayRoom t w us
room_of a e = record { table = a.long; work = a.wide; equal = e }

pub play_short_exactly : PlayShortExactly
play_short_exactly file t w us script budget tally =
    let f = play_faults file t w us script budget tally 1 0 (omega arith) in (
      (λ e (a, same). fault_one file t w us script (f.0 e) refl (room_of a same)),
      (λ h. f.1 (PlayFault.area (λ r. h (areas_of file t w us script r, r.equal)))),
    )

pub play_long_exactly : PlayLongExactly
play_long_exactly file t w us script budget tally a same =
    let f = play_faults file t w us script budget tally 2 0 (omega arith) in (
      (λ e. fault_two file t w us script (f.0 e) refl refl),
      (λ h. f.1 (two_fault file t w us script (room_of a same) h)),
    )

pub unit_exactly : UnitExactly
unit_exactly file t w us script budget tally n low high =
    let f = play_faults file t w us script budget tally n 0 (omega (arith, low)) in (
      (λ e. fault_unit file t w us script (f.0 e) low high),
      (λ x. f.1 (judged x)),
    )
  where
    judged : UnitAtFault file t w us script n ⊎ ((n ≡ 18) × ScriptAtFault file t w us script 18) → PlayFault file t w us script n 0
    judged (inl u) =
        subst (λ k. PlayFault file t w us script k 0) u.numbered
        (PlayFault.unit u.rows u.refusal (room_of u.areas u.equal) (record { units = u.units; visits = u.visits }) u.form u.ok u.first)
    judged (inr x) = subst (λ k. PlayFault file t w us script k 0) (sym x.0) (script_fault file t w us script x.1)

pub bad_script_exactly : BadScriptExactly
bad_script_exactly file t w us script budget tally =
    let f = play_faults file t w us script budget tally 22 0 (omega arith) in (
      (λ e. fault_script file t w us script (f.0 e) refl),
      (λ b. f.1 (script_fault file t w us script b)),
    )

-- ---- two scripts exchanged

pub plays_exchange : PlaysExchange
plays_exchange file t w t₂ w₂ us a b budget tally areas areas₂ apart p q e e₂ =
    let c : List ℕ = a ++ (10 ∷ []) in
    let d : List ℕ = b ++ (10 ∷ []) in
    subst (λ x. Exchanged x q) (sym e)
    (subst (Exchanged (play_service file t w us (c ++ d) budget tally)) (sym e₂)
    (plays_exchanged us budget c d (c ++ d) (d ++ c) (lines_behind a d) (lines_behind b c) apart file t w t₂ w₂ tally areas.long areas.wide areas₂.long areas₂.wide))
