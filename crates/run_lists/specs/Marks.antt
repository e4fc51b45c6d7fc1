-- The marks of isos that have to do with lists, as an area holds them: each other iso has 0.
use Rattle.std.specs.Prelude.{ℕ, ◌-◌, ◌≤◌, ◌≡◌, Bool, true, List, [], eqb, length, get_or}
use Rattle.limits.specs.Limits.{max_isos}
use Rattle.calculus.specs.Tools.{all}
use Rattle.calculus.specs.Lists.{free_iso, free_from}
use Rattle.table_walks.specs.InTable.{lets_in}
use Rattle.run_index.specs.Index.{clauses_at, iso_between, isos_at}

abbrev pub Holds : List ℕ → List Bool → Type 0
Holds marks known = (j : ℕ) → eqb (get_or marks j 0) 0 ≡ get_or known j true

-- what is told of L rows, of clauses and of an iso, by the marks of the isos known, wherever the P lines begin
abbrev pub LetsTold : List ℕ → List ℕ → ℕ → ℕ → Bool → Type 0
LetsTold t marks row end r = (base : ℕ) (known : List Bool) → Holds marks known → r ≡ all (λ l. get_or known l.iso true) (lets_in t base row (end - row))

abbrev pub ClausesTold : List ℕ → List ℕ → List ℕ → ℕ → ℕ → Bool → Type 0
ClausesTold t marks index m end r =
    (base : ℕ) (known : List Bool) → Holds marks known → r ≡ all (λ c. all (λ l. get_or known l.iso true) c.lets) (clauses_at t base index m (end - m))

abbrev pub IsoTold : List ℕ → List ℕ → List ℕ → ℕ → ℕ → Bool → Type 0
IsoTold t marks index m end r = (base : ℕ) (known : List Bool) → Holds marks known → r ≡ free_iso known (iso_between t base index m end)

-- the marks of all isos, in an area of zeros
abbrev pub AllMarked : List ℕ → List ℕ → ℕ → List ℕ → List ℕ → Type 0
AllMarked t index isos marks marks' = (base : ℕ) → isos ≤ length marks → Holds marks [] → Holds marks' (free_from [] (isos_at t base index 0 isos))

-- whether one of them has none
abbrev pub FreeTold : List ℕ → List ℕ → ℕ → ℕ → Bool → Type 0
FreeTold t index isos i r = (base : ℕ) → isos ≤ max_isos → r ≡ get_or (free_from [] (isos_at t base index 0 isos)) i true
