-- Files in form, and what a run answers (15 to 17, 24), as judgements.
use Rattle.std.specs.Prelude.{ℕ, ◌≤◌, ◌<◌, ◌≡◌, false, List}
use Rattle.std.proofs.Math.Option.{Option, none, some}
use Rattle.std.proofs.Math.ListN.{get_elem?}
use Rattle.limits.specs.Limits.{max_depth}
use Rattle.calculus.specs.Trees.{Val, Iso}
use Rattle.calculus.specs.Refusals.{no_iso, no_value, spent, too_large}
use Rattle.format.specs.Lines.{Row, lines}
use Rattle.format.specs.Judge.{start, Passes, rows, read_from}
use Rattle.format.specs.Unfold.{isos_of}
use Rattle.format.specs.Idle.{NoneIdle}
use Rattle.calculus.specs.Letters.{letters}
use Rattle.model.specs.Services.{over, Ran, gives, fails}
use Rattle.calculus.specs.Terms.{Steps, eapp, val_term}
use Rattle.calculus.specs.Paper.{Of, FileOk, Stops}
use Rattle.calculus.specs.Reduction.{small}

-- the lines of a file are in form: not too long, read as rows that pass 3 to 7, and (request 11: "demand 2's line form now asks it") no T or P line idle
pub record InForm (bs : List ℕ) (rs : List Row) : Type 0 where
  pub fits : over bs ≡ false
  pub reads : read_from start 1 (lines bs) ≡ rows rs
  pub used : NoneIdle rs

-- the rows of an accepted file, as they are or turned
pub record GoodRows (rs : List Row) : Type 0 where
  pub passes : Passes start rs
  pub ok : FileOk (isos_of rs)

-- How the reduction of a run comes to its end, and the number of applications that it has made then: the steps of Table 3 lead to a closed value and
-- nothing too large is met on the way, or it stops at the first that is ("An argument or result of over 127 letters, or calls nested deeper than 40").
pub data Halts (os : List Iso) (i : ℕ) (v : Val) : Option Val → ℕ → Type 0 where
  reaches : {w : Val} {k : ℕ} → Steps os (eapp i (val_term v)) (val_term w) k → ((m : ℕ) → Stops os small max_depth i v m → ⊥) → Halts os i v (some w) k
  stops : {k : ℕ} → Stops os small max_depth i v k → Halts os i v none k

-- A run of iso i with a budget on some bytes. "For a run, 15, 16, 17 follow", and 24: the iso is there or not; the bytes are exactly one closed
-- value of the starting type or not; the count of the reduction, to its end or to what is too large, passes the budget or not; it has met what is too
-- large or not.
pub data RunIs (os : List Iso) (i budget : ℕ) (bs : List ℕ) : Ran → Type 0 where
  absent : get_elem? os i ≡ none → RunIs os i budget bs (fails no_iso)
  strange : (o : Iso) → get_elem? os i ≡ some o → ((v : Val) → bs ≡ letters v → Of v o.from → ⊥) → RunIs os i budget bs (fails no_value)
  passed : (o : Iso) (v : Val) (x : Option Val) (k : ℕ) → get_elem? os i ≡ some o → bs ≡ letters v → Of v o.from
      → Halts os i v x k → budget < k → RunIs os i budget bs (fails spent)
  large : (o : Iso) (v : Val) (k : ℕ) → get_elem? os i ≡ some o → bs ≡ letters v → Of v o.from
      → Halts os i v none k → k ≤ budget → RunIs os i budget bs (fails too_large)
  done : (o : Iso) (v w : Val) (k : ℕ) → get_elem? os i ≡ some o → bs ≡ letters v → Of v o.from
      → Halts os i v (some w) k → k ≤ budget → RunIs os i budget bs (gives (k, letters w))
