-- Request 06, "Every reader of lines … follows": overlap, bounds, export, import and play answer alike for files whose lines have other endings, and so do import for
-- such a list and play for such a script, and each leaves the same in every lent area. `law_endings` has the other services.
use Prim.Native.Nat.{ℕ, ◌≤◌}
use mathlib.Core.Path.{◌≡◌, refl, ap, ap₂, ◌∙◌}
use mathlib.Core.Bool.{cond, ◌||◌}
use mathlib.Core.Option.{Option, none, some}
use mathlib.Core.List.{List, ◌∷◌}
use lib.Dec.{ltb}
use lib.ListN.{length}
use Rattle.limits.specs.Limits.{max_bytes, max_lines, export_length, import_length, max_units}
use Rattle.calculus.specs.Tools.{◌>>=◌, guard}
use Rattle.calculus.specs.Trees.{Iso}
use Rattle.calculus.specs.Refusals.{Refusal, too_long}
use Rattle.format.specs.Lines.{Row}
use Rattle.format.specs.Unfold.{isos_of}
use Rattle.model.specs.Services.{Verdict, accepted, refused, verdict, short, unless, gives, serve, served, go_on, output_by}
use Rattle.law_costs.specs.Bounds.{bounds_rows, bounds_by, bounds_service}
use Rattle.law_endings.specs.Resaved.{SameLine, SameLines, done, next, Resaved}
use Rattle.law_endings.proofs.Lines.{text_same, count_same}
use Rattle.law_endings.proofs.Alike.{verdict_alike}
use Rattle.law_pairlists.specs.PairLists.{export_rows, import_rows, export_service, import_service}
use Rattle.law_pairlists.proofs.Endings as Lists
use Rattle.law_units.specs.Units.{planned_in, planned_of, names, and_then, on_line, script_of, Units, units_fault, on_script, on_units, play_rows, unequal, play_verdict, Tally, play_by, play_service}
use Rattle.check_overlap.specs.Overlap.{overlap_rows, overlapped_by, overlap_service}

-- ---- a script

planned_alike : {l m : List ℕ} → SameLine l m → planned_of l ≡ planned_of m
unfolding planned_of
planned_alike h = ap (λ x. x >>= λ t. planned_in t) (text_same h)

script_alike : (units : ℕ) (os : List Iso) {ls ms : List (List ℕ)} → SameLines ls ms → script_of units os ls ≡ script_of units os ms
script_alike units os done = refl
script_alike units os (next h hs) =
    ap₂ (λ x y. and_then (on_line os (x >>= λ p. guard (names units (length os) p) >>= λ _. some p)) (λ p. and_then y (λ ps. gives (p ∷ ps)))) (planned_alike h) (script_alike units os hs)

units_alike : (rs : List Row) (budget : ℕ) (us : Units) (f : Option Refusal) {ls ms : List (List ℕ)} → SameLines ls ms → on_units rs budget us ls f ≡ on_units rs budget us ms f
units_alike rs budget us (some f) h = refl
units_alike rs budget us none h = ap (on_script rs budget us) (script_alike (length us.types) (isos_of rs) h)

rows_alike : (us : Units) (script other : List ℕ) (budget : ℕ) (rs : List Row) → Resaved script other → play_rows us script budget rs ≡ play_rows us other budget rs
unfolding play_rows
rows_alike us script other budget rs h = units_alike rs budget us (units_fault rs us.types us.settings) h

-- ---- the services

module _ (bs cs table work : List ℕ) (same : Resaved bs cs) (short_bs : length bs ≤ max_bytes) (short_cs : length cs ≤ max_bytes) where
  e : verdict bs ≡ verdict cs
  e = verdict_alike bs cs same short_bs short_cs

  pub overlap_alike : (i j : ℕ) → overlap_service bs table work i j ≡ overlap_service cs table work i j
  unfolding overlap_service
  overlap_alike i j = ap (λ v. overlapped_by (serve (short table work) v (overlap_rows i j) table work)) e

  pub bounds_alike : (i : ℕ) → bounds_service bs table work i ≡ bounds_service cs table work i
  unfolding bounds_service
  bounds_alike i = ap (λ v. bounds_by (serve (short table work) v (bounds_rows i) table work)) e

  pub export_alike : (i budget : ℕ) (output : List ℕ) → export_service bs table work i budget output ≡ export_service cs table work i budget output
  unfolding export_service
  export_alike i budget output =
      ap (λ v. output_by output (serve (short table work || ltb (length output) export_length) v (λ rs. export_rows rs i budget) table work)) e

  -- a file and a list with other endings
  pub import_alike : (i j : ℕ) (list other output : List ℕ) → Resaved list other → import_service bs table work i j list output ≡ import_service cs table work i j other output
  unfolding import_service
  import_alike i j list other output h =
      Lists.import_alike bs table work i j list other output h
      ∙ ap (λ v. output_by output (serve (short table work || ltb (length output) import_length) v (λ rs. import_rows rs i j other) table work)) e

  -- a file and a script with other endings
  pub play_alike : (us : Units) (script other : List ℕ) (budget : ℕ) (t : Tally) → Resaved script other
      → play_service bs table work us script budget t ≡ play_service cs table work us other budget t
  unfolding play_service
  play_alike us script other budget t h =
      let v : Verdict = unless (short table work || unequal us) (play_verdict us script (verdict bs)) in
      ap (play_by us t) (go v)
      ∙ ap (λ v. play_by us t (serve (short table work || unequal us) v (play_rows us other budget) table work)) (ap₂ limited (count_same h) e)
    where
      limited : ℕ → Verdict → Verdict
      limited n v = cond (ltb max_units (length us.types) || ltb max_lines n) (refused too_long 0) v

      go : (v : Verdict) → served v (go_on v (play_rows us script budget)) table work ≡ served v (go_on v (play_rows us other budget)) table work
      go (accepted rs) = ap (λ x. served (accepted rs) x table work) (rows_alike us script other budget rs h)
      go (refused f n) = refl
