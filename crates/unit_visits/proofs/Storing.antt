-- What a visit leaves: the unit's two numbers, and its mark.
use Prim.Native.Nat.{ℕ, ◌+◌, ◌<◌, min}
use native.Mathlib.Omega.{arith}
use mathlib.Core.Path.{◌≡◌, refl, sym, ap, ap₂, ◌∙◌, subst}
use mathlib.Core.List.{List}
use lib.ListN.{drop, set, get_or}
use lib.Seq.{drop-set-add}
use Rattle.limits.specs.Limits.{max_lines, run_room}
use Rattle.format.specs.Lines.{Row}
use Rattle.law_units.specs.Units.{Planned, Units, Holds, Visited, visit, visit_to, moved}
use Rattle.unit_tally.specs.Count.{place_of}
use Rattle.unit_visits.specs.Visiting.{marked, Spared, Played}

-- a mark behind the room of a run
mark_behind : (w w₁ : List ℕ) {w' : List ℕ} (k m : ℕ) → k < 4096 → Spared w w₁ → w' ≡ set w₁ (place_of k) m → drop run_room w' ≡ set (drop run_room w) k m
mark_behind w w₁ k m h s e =
    let least : min k max_lines ≡ k = omega arith in
    ap (drop run_room) (e ∙ ap (λ n. set w₁ (run_room + n) m) least) ∙ drop-set-add run_room w₁ k m ∙ ap (λ l. set l k m) s.behind

pub played : (rs : List Row) (budget : ℕ) (p : Planned) (k : ℕ) (w is ns w₁ : List ℕ) {w' is' ns' : List ℕ} (v : Visited) {i n m : ℕ} → k < 4096
    → i ≡ get_or is p.unit 0 → n ≡ get_or ns p.unit 0 → v ≡ visit rs budget p i n → Spared w w₁ → w' ≡ set w₁ (place_of k) m → m ≡ marked v
    → is' ≡ (moved v p.unit (record { types = is; settings = ns })).types → ns' ≡ (moved v p.unit (record { types = is; settings = ns })).settings
    → Played rs budget p k w is ns w' is' ns'
played rs budget p k w is ns w₁ v {i} {n} {m} h ei en ev s ew em et es =
    let us : Units = record { types = is; settings = ns } in
    let e : v ≡ visit_to rs budget us p = ev ∙ ap₂ (visit rs budget p) ei en in
    record {
      types = et ∙ ap (λ u. (moved u p.unit us).types) e;
      settings = es ∙ ap (λ u. (moved u p.unit us).settings) e;
      marks = mark_behind w w₁ k m h s ew ∙ ap (set (drop run_room w) k) (em ∙ ap marked e);
    }

-- a unit that passes, by the numbers that were read
pub held : {rs : List Row} {i n j m : ℕ} → Holds rs i n → j ≡ i → m ≡ n → Holds rs j m
held {rs} {i} {n} {j} {m} h ej em = subst (λ a. Holds rs a m) (sym ej) (subst (Holds rs i) (sym em) h)
