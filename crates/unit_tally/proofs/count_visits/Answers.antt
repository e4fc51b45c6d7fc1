use Rattle.std.proofs.Common.{◌≡◌, ℕ, suc, ◌+◌, ◌-◌, ◌<◌, List, get_or, set, ap, ◌∙◌, arith}
use Rattle.unit_tally.specs.Count.{added_of, place_of, visit_of, tallied, emptied}
use Rattle.unit_tally.specs.declared.Tally.{Tally}
use Rattle.unit_tally.proofs.count_visits.Goals as goal

-- one mark taken
emptied_step : (n i : ℕ) (w : List ℕ) → i < n → emptied (n - (i + 1)) (i + 1) (set w (place_of i) 0) ≡ emptied (n - i) i w
emptied_step n i w h =
    let left : suc (n - (i + 1)) ≡ n - i = omega arith in
    let next : i + 1 ≡ suc i = omega arith in
    ap (λ k. emptied (n - (i + 1)) k (set w (place_of i) 0)) next ∙ ap (λ m. emptied m i w) left

tallied_step : (n i : ℕ) (w : List ℕ) (t : Tally) → i < n
    → tallied (n - (i + 1)) (i + 1) (set w (place_of i) 0) (added_of t (visit_of (get_or w (place_of i) 0))) ≡ tallied (n - i) i w t
tallied_step n i w t h =
    let left : suc (n - (i + 1)) ≡ n - i = omega arith in
    let next : i + 1 ≡ suc i = omega arith in
    ap (λ k. tallied (n - (i + 1)) k (set w (place_of i) 0) (added_of t (visit_of (get_or w (place_of i) 0)))) next
    ∙ ap (λ m. tallied m i w t) left

pub loop-i-preserved : goal.loop-i-preserved
loop-i-preserved c =
    record {
      within = omega arith;
      left = ap (emptied (c.args.n - (c.loop-i.i + 1)) (c.loop-i.i + 1)) c.take_mark-v.ensures.1 ∙ emptied_step c.args.n c.loop-i.i c.loop-i.work c.loop-i-test.true ∙ c.loop-i.invariant.left;
      counted =
          ap (λ w. tallied (c.args.n - (c.loop-i.i + 1)) (c.loop-i.i + 1) w c.add_visit.new.t) c.take_mark-v.ensures.1
          ∙ ap (tallied (c.args.n - (c.loop-i.i + 1)) (c.loop-i.i + 1) (set c.loop-i.work (place_of c.loop-i.i) 0)) (c.add_visit.ensures ∙ ap (added_of c.loop-i.tally) c.take_mark-v.ensures.0)
          ∙ tallied_step c.args.n c.loop-i.i c.loop-i.work c.loop-i.tally c.loop-i-test.true ∙ c.loop-i.invariant.counted;
    }
