-- Request 14, for all services at once: "files without lists and self-calls" answer every call as before. And what holds lists or calls of itself was refused before,
-- 5 or 6 at its line, and never met with a wrong setting; the checker before request 13 accepted none of it either.
use Prim.Native.Nat.{ℕ}
use mathlib.Core.Path.{◌≡◌, refl, sym, ap, ap₂, ◌∙◌, subst}
use mathlib.Core.Bool.{Bool, true, false, cond, ◌||◌}
use mathlib.Core.List.{List, []}
use lib.Dec.{ltb}
use lib.ListN.{length}
use Rattle.limits.specs.Limits.{result_length, export_length, max_units, max_lines}
use Rattle.calculus.specs.Tools.{or_else}
use Rattle.calculus.specs.Refusals.{Kind, Refusal, too_long}
use Rattle.calculus.specs.Paper.{NoneCalls}
use Rattle.calculus.specs.Lists.{is_free}
use Rattle.calculus.specs.Clauses.{sigs_of}
use Rattle.format.specs.Lines.{Row, lines}
use Rattle.format.specs.Judge.{Seen, start, within_ceilings, Reading, rows, faulty, read_from}
use Rattle.format.specs.Unfold.{isos_of}
use Rattle.format.specs.Idle.{idle_fault}
use Rattle.model.specs.Services.{Verdict, accepted, refused, judged, over, verdict, after_reading, short, Outcome, go_on, serve, served, unless, ran_by, run_on, toward, check, check_by}
use Rattle.model.specs.Services.{turn, turn_by, output_by, run_service}
use Rattle.model.proofs.Files.{passes_read, accepted_form, refused≢accepted, judged_accepted}
use Rattle.model.proofs.Runs.{accepted_good, good_toward}
use Rattle.law_ranking.specs.Numbering.{number_service, setting_service}
use Rattle.law_costs.specs.Bounds.{bounds_rows, bounds_by, bounds_service}
use Rattle.law_witnesses.specs.Showing.{shown_unless, letters_of?, shown_of, showing, measured, show_service}
use Rattle.law_witnesses.proofs.Listless.{as_verdict}
use Rattle.law_pairlists.specs.PairLists.{export_rows, export_service, import_service}
use Rattle.law_units.specs.Units.{Units, play_rows, play_by, play_verdict, unequal, play_service}
use Rattle.check_overlap.specs.Overlap.{overlap_service}
use Rattle.law_refused.specs.ByVerdict.{number_with, setting_with, overlap_with, import_with}
use Rattle.law_zoned.specs.Before.{judged_before, read_before, fault_before, before, shown_reading, showing_before, show_before, run_before, bounds_before, export_before, play_before}
use Rattle.law_zoned.specs.AsBefore.{AsBefore}
use Rattle.law_zoned.specs.Unzoned.{Plain, WithoutZones, FirstZoned}
use Rattle.law_zoned.proofs.Reading.{same_read, plain_rows, before_plain, first_zoned}
use Rattle.law_zoned.proofs.Listless.{isos_finite, toward_free, is_free_lem, isos_quiet}
use Rattle.law_zoned.proofs.Asked.{same_fault, same_first, same_run, same_bounds, same_export, same_play}

-- ---- the verdict

same_after : (r : Reading) → ((rs : List Row) → r ≡ rows rs → NoneCalls (isos_of rs)) → after_reading r ≡ judged_before r
same_after (faulty f n) h = refl
same_after (rows rs) h = ap (λ o. judged rs (or_else (idle_fault rs) o)) (same_fault (isos_of rs) (h rs refl))

same_letters : (r : Reading) → ((rs : List Row) → r ≡ rows rs → NoneCalls (isos_of rs)) → shown_of r ≡ shown_reading r
same_letters (faulty f n) h = refl
same_letters (rows rs) h = ap (λ o. shown_unless (idle_fault rs) (letters_of? o)) (same_first (isos_of rs) (h rs refl))

module _ (bs : List ℕ) (z : WithoutZones bs) where
  plain : (rs : List Row) → read_from start 1 (lines bs) ≡ rows rs → Plain start rs
  plain rs e = plain_rows 1 z rs e

  quiet : (rs : List Row) → read_from start 1 (lines bs) ≡ rows rs → NoneCalls (isos_of rs)
  quiet rs e = isos_quiet (passes_read bs rs e) (plain rs e)

  pub same_verdict : verdict bs ≡ before within_ceilings bs
  unfolding verdict before
  same_verdict =
      ap (cond (over bs) (refused too_long 0)) (same_after (read_from start 1 (lines bs)) quiet)
      ∙ ap (λ r. cond (over bs) (refused too_long 0) (judged_before r)) (sym (same_read 1 z))

  pub same_showing : showing bs ≡ showing_before within_ceilings bs
  unfolding showing showing_before
  same_showing =
      ap (cond (over bs) []) (same_letters (read_from start 1 (lines bs)) quiet) ∙ ap (λ r. cond (over bs) [] (shown_reading r)) (sym (same_read 1 z))

  -- request 09 has no 24
  pub same_measured : measured (verdict bs) (showing bs) ≡ before within_ceilings bs
  same_measured = as_verdict bs (λ rs f. isos_finite (plain rs f.reads)) ∙ same_verdict

-- ---- what goes by the verdict and by what is asked of the rows

asked_same : {A : Type 0} (b : Bool) (v w : Verdict) (f g : List Row → Outcome A) (t u : List ℕ) → v ≡ w → ((rs : List Row) → v ≡ accepted rs → f rs ≡ g rs)
    → serve b v f t u ≡ serve b w g t u
asked_same b v w f g t u e h = ap (λ o. served (unless b v) o t u) (go b v h) ∙ ap (λ x. serve b x g t u) e
  where
    go : (b : Bool) (v : Verdict) → ((rs : List Row) → v ≡ accepted rs → f rs ≡ g rs) → go_on (unless b v) f ≡ go_on (unless b v) g
    go true v h = refl
    go false (refused r n) h = refl
    go false (accepted rs) h = h rs refl

-- ---- every service

module _ (bs : List ℕ) (z : WithoutZones bs) where
  same : verdict bs ≡ before within_ceilings bs
  same = same_verdict bs z

  row_plain : (rs : List Row) → verdict bs ≡ accepted rs → Plain start rs
  row_plain rs e = plain bs z rs (accepted_form bs rs e).0.reads

  row_free : (rs : List Row) → verdict bs ≡ accepted rs → (i : ℕ) → is_free (isos_of rs) i ≡ true
  row_free rs e = is_free_lem (row_plain rs e)

  row_runs : (rs : List Row) → verdict bs ≡ accepted rs → (i : ℕ) (back : Bool) (budget : ℕ) (value : List ℕ)
      → run_on i back budget value rs ≡ run_before (toward back rs) i budget value
  row_runs rs e i back budget value =
      let g = accepted_good bs rs e in same_run (toward back rs) (good_toward back rs g) (toward_free back rs g (row_plain rs e)) i budget value

  -- the verdict of a play, which is refused 2 before its file is
  planned : (us : Units) (script : List ℕ) (rs : List Row) → play_verdict us script (verdict bs) ≡ accepted rs → verdict bs ≡ accepted rs
  planned us script rs = go (ltb max_units (length us.types) || ltb max_lines (length (lines script)))
    where
      go : (b : Bool) → cond b (refused too_long 0) (verdict bs) ≡ accepted rs → verdict bs ≡ accepted rs
      go true e = absurd (refused≢accepted e)
      go false e = e

  pub as_before : AsBefore bs
  unfolding check turn run_service number_service setting_service overlap_service bounds_service export_service import_service show_service play_service
  as_before =
      record {
        checks = λ t w. ap (λ x. check_by x t w) same;
        turns = λ t w output. ap (λ x. turn_by x (length bs) t w output) same;
        runs = λ t w i back budget value result. ap (ran_by result)
            (asked_same (short t w || ltb (length result) result_length) (verdict bs) (before within_ceilings bs) (run_on i back budget value) (λ rs. run_before (toward back rs) i budget value)
            t w same (λ rs e. row_runs rs e i back budget value));
        queries = row_runs;
        numbers = λ t w i value. ap (λ x. number_with x t w i value) same;
        settings = λ t w i n result. ap (λ x. setting_with x t w i n result) same;
        overlaps = λ t w i j. ap (λ x. overlap_with x t w i j) same;
        bounds = λ t w i. ap bounds_by
            (asked_same (short t w) (verdict bs) (before within_ceilings bs) (bounds_rows i) (bounds_before i) t w same (λ rs e. same_bounds rs (row_free rs e) i));
        exports = λ t w i budget output. ap (output_by output)
            (asked_same (short t w || ltb (length output) export_length) (verdict bs) (before within_ceilings bs) (λ rs. export_rows rs i budget) (λ rs. export_before rs i budget) t w same
            (λ rs e. same_export rs (row_free rs e) i budget));
        imports = λ t w i j list output. ap (λ x. import_with x t w i j list output) same;
        shows = λ t w result. ap₂ (λ x ls. show_before x ls t w result) (same_measured bs z) (same_showing bs z);
        plays = λ t w us script budget tally. ap (play_by us tally)
            (asked_same (short t w || unequal us) (play_verdict us script (verdict bs)) (play_verdict us script (before within_ceilings bs)) (play_rows us script budget)
            (play_before us script budget) t w
            (ap (play_verdict us script) same) (λ rs e. same_play rs (row_free rs (planned us script rs e)) us script budget));
      }

-- ---- what the checkers before the request made of lists and self-calls

-- 5 at the first line of lists, 6 at the first L line that names its own iso, where all lines pass today
pub was_refused : (bs : List ℕ) (rs : List Row) → over bs ≡ false → read_from start 1 (lines bs) ≡ rows rs → (f : Refusal) (n : ℕ) → FirstZoned start 1 rs f n
    → before within_ceilings bs ≡ refused f n
unfolding before
was_refused bs rs fits reads f n first =
    ap (λ b. cond b (refused too_long 0) (judged_before (read_before within_ceilings start 1 (lines bs)))) fits ∙ ap judged_before (first_zoned first (lines bs) reads)

-- with 128 clauses an iso or with 32, as before request 13: rows that were accepted hold none
pub was_plain : (ceilings : Seen → Kind → Row → Bool) (bs : List ℕ) (rs : List Row) → before ceilings bs ≡ accepted rs → Plain start rs
unfolding before
was_plain ceilings bs rs = go (over bs) (read_before ceilings start 1 (lines bs)) refl
  where
    go : (b : Bool) (r : Reading) → read_before ceilings start 1 (lines bs) ≡ r → cond b (refused too_long 0) (judged_before r) ≡ accepted rs → Plain start rs
    go true r q e = absurd (refused≢accepted e)
    go false (faulty f n) q e = absurd (refused≢accepted e)
    go false (rows qs) q e =
        subst (Plain start) (judged_accepted qs rs (or_else (idle_fault qs) (fault_before (sigs_of (isos_of qs)) (isos_of qs))) e).0 (before_plain ceilings start 1 (lines bs) qs q)
