-- How many I and C lines a file has at most: an I line and its C lines for each iso.
use Prim.Native.Nat.{ℕ, zero, suc, ◌+◌, ◌*◌, ◌-◌, ◌≤◌, ◌<◌}
use native.Mathlib.Omega.{arith}
use mathlib.Core.Path.{◌≡◌, ap}
use mathlib.Core.Option.{some}
use mathlib.Core.List.{List, [], ◌∷◌}
use lib.ListN.{get_elem?, take}
use Rattle.limits.specs.Limits.{max_isos, max_clauses}
use Rattle.calculus.specs.Refusals.{Kind, type_line, pattern_line, iso_line, clause_line, let_line}
use Rattle.format.specs.Lines.{Row}
use Rattle.format.specs.Judge.{Seen, start, stage, after_kind}
use Rattle.calculus.proofs.Basic.{none≢some, some_inj, leb_le}
use Rattle.format.proofs.Passing.{Passes, done, next, Fit, judge_fit, iso_fit, clause_fit}
use Rattle.run_index.specs.Indexed.{places_of, places}

-- m places of the rows that `s` tells of: one for each iso, and one for each of its clauses, which are most of all above the last iso
record Counted (s : Seen) (m : ℕ) : Type 0 where
  owned : 2 ≤ stage s.above → 0 < s.isos
  isos : s.isos ≤ max_isos
  clauses : s.clauses ≤ max_clauses
  whole : m ≤ suc max_clauses * s.isos
  last : m ≤ (suc max_clauses * s.isos - max_clauses) + s.clauses

-- with one row more
counted_row : (s : Seen) (k : Kind) (r : Row) → Fit s k r → {m : ℕ} → Counted s m → Counted (after_kind k s r) (m + places_of k)
counted_row s type_line r f h = record { owned = λ l. absurd (omega arith); isos = h.isos; clauses = h.clauses; whole = omega arith; last = omega arith }
counted_row s pattern_line r f h = record { owned = λ l. absurd (omega arith); isos = h.isos; clauses = h.clauses; whole = omega arith; last = omega arith }
counted_row s iso_line r f h = record { owned = λ l. omega arith; isos = (iso_fit s r f).2; clauses = omega arith; whole = omega arith; last = omega arith }
counted_row s clause_line r f h =
    let o = h.owned (leb_le 2 (stage s.above) f.order) in
    let g = (clause_fit s r f).2 in
    record { owned = λ l. o; isos = h.isos; clauses = g; whole = omega arith; last = omega arith }
counted_row s let_line r f h =
    let o = leb_le 3 (stage s.above) f.order in
    record { owned = λ l. h.owned (omega arith); isos = h.isos; clauses = h.clauses; whole = omega arith; last = omega arith }

-- the rows below those that `s` tells of
places_few_from : {s : Seen} {rs : List Row} → Passes s rs → {m : ℕ} → Counted s m → m + places rs ≤ suc max_clauses * max_isos
places_few_from done h = omega (arith, h.whole, h.isos)
places_few_from (next {s = s} {r = r} j d) h = omega (arith, places_few_from d (counted_row s r.kind r (judge_fit s r j) h))

-- before the first row
counted_start : Counted start 0
unfolding start
counted_start = record { owned = λ l. absurd (omega arith); isos = omega arith; clauses = omega arith; whole = omega arith; last = omega arith }

-- the whole file
pub places_few : {rs : List Row} → Passes start rs → places rs ≤ suc max_clauses * max_isos
places_few d = omega (arith, places_few_from d counted_start)

-- one row more
pub places_step : (rs : List Row) (n : ℕ) {r : Row} → get_elem? rs n ≡ some r → places (take (suc n) rs) ≡ places (take n rs) + places_of r.kind
places_step [] n e = absurd (none≢some e)
places_step (q ∷ rs) zero e = let same = ap (λ (p : Row). places_of p.kind) (some_inj e) in omega arith
places_step (q ∷ rs) (suc n) e = omega (arith, places_step rs n e)
