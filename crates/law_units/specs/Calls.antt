-- "each visit": what `rulefile_setting_of`, `rulefile_run` and `rulefile_number_of` give one after the other, each call with areas of its own.
use Rattle.std.specs.Prelude.{ℕ, ◌-◌, ◌≤◌, ◌<◌, ◌≡◌, cond, List, [], ◌∷◌, length, take, get_or}
use Rattle.std.proofs.Math.Option.{some}
use Rattle.std.proofs.Math.ListN.{get_elem?}
use Rattle.limits.specs.Limits.{table_length, work_length, result_length}
use Rattle.calculus.specs.Trees.{Iso}
use Rattle.format.specs.Lines.{Row}
use Rattle.format.specs.Unfold.{isos_of}
use Rattle.model.specs.Services.{RunResult, run_service, toward}
use Rattle.law_ranking.specs.Numbering.{Numbered, number_service, Lettered, setting_service}
use Rattle.law_units.specs.Units.{Planned, Units, Visited, done, skipped, spent, moved, Tally, with_visit}
use Rattle.law_units.specs.Backward.{tree_at}
use Rattle.law_units.specs.Faults.{VisitLine}

-- areas of the stated lengths, lent to one call
pub record Lent : Type 0 where
  pub table : List ℕ
  pub work : List ℕ
  pub result : List ℕ
  pub long : table_length ≤ length table
  pub wide : work_length ≤ length work
  pub room : result_length ≤ length result

-- number to letters, for a unit that holds number n of T line i
abbrev pub setting_call : List ℕ → Lent → ℕ → ℕ → Lettered
setting_call file a i n = setting_service file a.table a.work i n a.result

-- the run, of the letters that stand in the first call's result area
abbrev pub run_call : List ℕ → Lent → Planned → ℕ → Lettered → RunResult
run_call file b p budget s = run_service file b.table b.work p.iso p.back budget (take s.length s.result) b.result

-- letters to number, of the letters that stand in the run's
abbrev pub number_call : List ℕ → Lent → ℕ → RunResult → Numbered
number_call file c j r = number_service file c.table c.work j (take r.length r.result)

-- all three give something, the last the number m of T line j
pub record DoneBy (file : List ℕ) (budget : ℕ) (p : Planned) (i n j m : ℕ) : Type 0 where
  pub setting : (a : Lent) → (setting_call file a i n).number ≡ 0
  pub run : (a b : Lent) → (run_call file b p budget (setting_call file a i n)).number ≡ 0
  pub number : (a b c : Lent) → (number_call file c j (run_call file b p budget (setting_call file a i n))).number ≡ 0
  pub gives : (a b c : Lent) → (number_call file c j (run_call file b p budget (setting_call file a i n))).setting ≡ m

-- "one over budget": the run is refused 17
pub record SpentBy (file : List ℕ) (budget : ℕ) (p : Planned) (i n : ℕ) : Type 0 where
  pub setting : (a : Lent) → (setting_call file a i n).number ≡ 0
  pub run : (a b : Lent) → (run_call file b p budget (setting_call file a i n)).number ≡ 17

-- a visit by iso o to a unit that holds number n of T line i: "A visit whose type does not match the unit is skipped, and one over budget is spent … Any other is
-- done: the unit then holds the T line that the iso's I line names at the other end, and the number of the setting that the run gives."
pub data VisitServed (file : List ℕ) (rs : List Row) (budget : ℕ) (p : Planned) (i n : ℕ) (o : Iso) : Visited → Type 0 where
  skips : (tree_at rs i ≡ some o.from → ⊥) → VisitServed file rs budget p i n o skipped
  spends : tree_at rs i ≡ some o.from → SpentBy file budget p i n → VisitServed file rs budget p i n o spent
  does : (r : Row) (m : ℕ) → tree_at rs i ≡ some o.from → get_elem? rs (o.line - 1) ≡ some r → DoneBy file budget p i n (cond p.back r.x r.y) m
      → VisitServed file rs budget p i n o (done (cond p.back r.x r.y) m)

-- a whole script, line by line: from units and record to units and record
pub data PlayServed (file : List ℕ) (rs : List Row) (budget : ℕ) : List (List ℕ) → Units → Tally → Units → Tally → Type 0 where
  ends : {us vs : Units} {t t₂ : Tally} → us ≡ vs → t ≡ t₂ → PlayServed file rs budget [] us t vs t₂
  visits : {l : List ℕ} {ls : List (List ℕ)} {us vs : Units} {t t₂ : Tally} (p : Planned) (o : Iso) (v : Visited)
      → VisitLine l p → p.unit < length us.types → get_elem? (isos_of (toward p.back rs)) p.iso ≡ some o
      → VisitServed file rs budget p (get_or us.types p.unit 0) (get_or us.settings p.unit 0) o v
      → PlayServed file rs budget ls (moved v p.unit us) (with_visit v t) vs t₂ → PlayServed file rs budget (l ∷ ls) us t vs t₂
