-- The marks in the work area, counted and taken away.
use Prim.Native.Nat.{ℕ, zero, suc, ◌+◌, ◌-◌, ◌≤◌, ◌<◌, min}
use native.Mathlib.Nat.{not-suc-le-zero, le_of_suc-le-suc, sub-zero}
use native.Mathlib.Omega.{arith}
use mathlib.Core.Path.{◌≡◌, refl, sym, ap, ap₂, ◌∙◌}
use mathlib.Core.List.{List, [], ◌∷◌, ◌++◌, append-nil, append_assoc, map}
use lib.ListN.{length, take, drop, get_or, set, replicate, length-append, length-map, length-replicate, take-append-drop}
use lib.Seq.{set_at, get_or_at}
use Rattle.limits.specs.Limits.{run_room, work_length, max_lines}
use Rattle.law_units.specs.Units.{Visited, done, skipped, spent, Tally, with_visit, counted}
use Rattle.unit_tally.specs.declared.Tally as T
use Rattle.unit_tally.specs.Count.{up_of, added_of, zeros, place_of, visit_of, tallied, emptied}
use Rattle.unit_visits.specs.Visiting.{marked}
use Rattle.unit_plays.specs.Playing.{with_marks}
use Rattle.planner.specs.PlaySays.{tally_view}

-- ---- taking marks

abbrev counting : List ℕ → T.Tally → T.Tally
counting [] t = t
counting (m ∷ ms) t = counting ms (added_of t (visit_of m))

module _ (post : List ℕ) where
  -- the mark at the seam
  at_seam : (pre : List ℕ) (k : ℕ) → length pre ≡ run_room + k → k < max_lines → length pre ≡ place_of k
  at_seam pre k e h = let least : min k max_lines ≡ k = omega arith in e ∙ ap (λ n. run_room + n) (sym least)

  more : (pre : List ℕ) (k : ℕ) → length pre ≡ run_room + k → length (pre ++ (0 ∷ [])) ≡ run_room + suc k
  more pre k e = omega (arith, length-append pre (0 ∷ []), e)

  taken : (pre : List ℕ) (k m : ℕ) (ms : List ℕ) → length pre ≡ run_room + k → k < max_lines
      → set (pre ++ ((m ∷ ms) ++ post)) (place_of k) 0 ≡ (pre ++ (0 ∷ [])) ++ (ms ++ post)
  taken pre k m ms e h = set_at pre m (ms ++ post) 0 (place_of k) (at_seam pre k e h) ∙ sym (append_assoc pre (0 ∷ []) (ms ++ post))

  pub tallied_marks : (ms pre : List ℕ) (k : ℕ) (t : T.Tally) → length pre ≡ run_room + k → k + length ms ≤ max_lines → tallied (length ms) k (pre ++ (ms ++ post)) t ≡ counting ms t
  tallied_marks [] pre k t e h = refl
  tallied_marks (m ∷ ms) pre k t e h =
      ap₂ (λ w x. tallied (length ms) (suc k) w (added_of t (visit_of x))) (taken pre k m ms e (omega arith)) (get_or_at pre m (ms ++ post) 0 (place_of k) (at_seam pre k e (omega arith)))
      ∙ tallied_marks ms (pre ++ (0 ∷ [])) (suc k) (added_of t (visit_of m)) (more pre k e) (omega arith)

  pub emptied_marks : (ms pre : List ℕ) (k : ℕ) → length pre ≡ run_room + k → k + length ms ≤ max_lines → emptied (length ms) k (pre ++ (ms ++ post)) ≡ pre ++ (replicate (length ms) 0 ++ post)
  emptied_marks [] pre k e h = refl
  emptied_marks (m ∷ ms) pre k e h =
      ap (emptied (length ms) (suc k)) (taken pre k m ms e (omega arith)) ∙ emptied_marks ms (pre ++ (0 ∷ [])) (suc k) (more pre k e) (omega arith)
      ∙ append_assoc pre (0 ∷ []) (replicate (length ms) 0 ++ post)

-- ---- zeros

pub take_zeros : (n k : ℕ) (r : List ℕ) → n ≤ k → take n (replicate k 0 ++ r) ≡ replicate n 0
take_zeros zero k r h = refl
take_zeros (suc n) zero r h = absurd (not-suc-le-zero h)
take_zeros (suc n) (suc k) r h = ap (λ l. 0 ∷ l) (take_zeros n k r (le_of_suc-le-suc h))

drop_zeros : (n k : ℕ) (r : List ℕ) → n ≤ k → drop n (replicate k 0 ++ r) ≡ replicate (k - n) 0 ++ r
drop_zeros zero k r h = ap (λ m. replicate m 0 ++ r) (sym (sub-zero k))
drop_zeros (suc n) zero r h = absurd (not-suc-le-zero h)
drop_zeros (suc n) (suc k) r h =
    let e : suc k - suc n ≡ k - n = omega arith in drop_zeros n k r (le_of_suc-le-suc h) ∙ ap (λ m. replicate m 0 ++ r) (sym e)

-- a work area of zeros, with marks that were taken away
pub zeros_again : (n b k : ℕ) (r : List ℕ) → b ≤ k → n ≤ k - b
    → take b (replicate k 0 ++ r) ++ (replicate n 0 ++ drop n (drop b (replicate k 0 ++ r))) ≡ replicate k 0 ++ r
zeros_again n b k r h l =
    let w : List ℕ = replicate k 0 ++ r in
    ap (λ z. take b w ++ (z ++ drop n (drop b w))) (sym (ap (take n) (drop_zeros b k r h) ∙ take_zeros n (k - b) r l))
    ∙ ap (λ z. take b w ++ z) (take-append-drop n (drop b w)) ∙ take-append-drop b w

-- ---- the counts

-- no count is near the highest number of 32 bits
pub record Low (t : T.Tally) (n : ℕ) : Type 0 where
  pub one : t.done + n < 4294967295
  pub two : t.skipped + n < 4294967295
  pub three : t.spent + n < 4294967295

same : {a b c a' b' c' : ℕ} → a ≡ a' → b ≡ b' → c ≡ c' → ◌≡◌ {A = Tally} (record { done = a; skipped = b; spent = c }) (record { done = a'; skipped = b'; spent = c' })
same p q r = λ i. record { done = p i; skipped = q i; spent = r i }

pub counts : (vs : List Visited) (t : T.Tally) → Low t (length vs) → tally_view (counting (map marked vs) t) ≡ counted vs (tally_view t)
counts [] t l = refl
counts (done j m ∷ vs) t l =
    let a = l.one in
    let b = l.two in
    let c = l.three in
    counts vs (added_of t (visit_of 0)) (record { one = omega (arith, a); two = omega (arith, b); three = omega (arith, c) })
    ∙ ap (counted vs) (same (omega (arith, a)) refl refl)
counts (skipped ∷ vs) t l =
    let a = l.one in
    let b = l.two in
    let c = l.three in
    counts vs (added_of t (visit_of 1)) (record { one = omega (arith, a); two = omega (arith, b); three = omega (arith, c) })
    ∙ ap (counted vs) (same refl (omega (arith, b)) refl)
counts (spent ∷ vs) t l =
    let a = l.one in
    let b = l.two in
    let c = l.three in
    counts vs (added_of t (visit_of 2)) (record { one = omega (arith, a); two = omega (arith, b); three = omega (arith, c) })
    ∙ ap (counted vs) (same refl refl (omega (arith, c)))

pub low_zeros : (n : ℕ) → n ≤ 4096 → Low zeros n
low_zeros n h = record { one = omega arith; two = omega arith; three = omega arith }
