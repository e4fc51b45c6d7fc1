-- What finding the tos of an iso's pairs comes to.
use Rattle.std.specs.Prelude.{ℕ, ◌≤◌, ◌<◌, ◌≡◌, Bool, true, false, cond, List, length, take, set}
use Rattle.std.proofs.Math.Option.{Option, none, some}
use Rattle.std.proofs.Math.ListN.{get_elem?}
use Rattle.limits.specs.Limits.{max_pairs}
use Rattle.calculus.specs.Trees.{Iso}
use Rattle.calculus.specs.Tools.{is_some}
use Rattle.calculus.specs.Lists.{is_free}
use Rattle.calculus.specs.Letters.{letters}
use Rattle.format.specs.Lines.{Row}
use Rattle.format.specs.Unfold.{isos_of}
use Rattle.law_ranking.specs.Numbering.{count, unrank}
use Rattle.law_pairlists.specs.PairLists.{to_from, upwards}
use Rattle.runner.specs.RunSays.{Prepared, InRoom, answer_for, RanInto}
use Rattle.runner.specs.declared.run.Ran as R

-- iso i of a checked table, which has nothing to do with lists and whose from-type has few enough values for a pair list
pub record Runnable (t : List ℕ) (base : ℕ) (index : List ℕ) (isos : ℕ) (rs : List Row) (i : ℕ) (o : Iso) : Type 0 where
  pub prepared : Prepared t base index isos rs
  pub there : get_elem? (isos_of rs) i ≡ some o
  pub free : is_free (isos_of rs) i ≡ true
  pub few : count o.from ≤ max_pairs

-- numbers with the to of pair k among them, if it has one
abbrev pub with_to : Option ℕ → ℕ → List ℕ → List ℕ
with_to none k l = l
with_to (some t) k l = set l k t

-- whether there is a to, and the numbers with it; l are the numbers at entry, l' at exit
pub record Stores (to : Option ℕ) (k : ℕ) (l l' : List ℕ) (r : Bool) : Type 0 where
  pub given : r ≡ is_some to
  pub numbers : l' ≡ with_to to k l

-- whether each of the first n pairs of an iso has a to within the budget, one for each pair, and these are the first n numbers
pub record Found (rs : List Row) (i : ℕ) (o : Iso) (budget n : ℕ) (l : List ℕ) (r : Bool) : Type 0 where
  pub tos : upwards (to_from (isos_of rs) i o budget) 0 n ≡ cond r (some (take n l)) none

-- ---- contracts, for whatever file the table holds

-- what holds of iso i's pair k, where the work area is the room of a run
abbrev pub OnPair : List ℕ → ℕ → List ℕ → ℕ → ℕ → ℕ → List ℕ → (List Row → Iso → Type 0) → Type 0
OnPair t base index isos i k work P =
    (rs : List Row) (o : Iso) → Runnable t base index isos rs i o → k < count o.from → InRoom (length work) (P rs o)

-- the run of iso i on its setting k
abbrev pub SettingRan : List Row → ℕ → Iso → ℕ → ℕ → List ℕ → List ℕ → R.Ran → Type 0
SettingRan rs i o k budget x x' r = RanInto (answer_for rs i false budget (letters (unrank o.from k))) x x' r

-- all of the first n pairs of iso i, in an area with room for their tos
abbrev pub AllFound : List ℕ → ℕ → List ℕ → ℕ → ℕ → ℕ → ℕ → List ℕ → List ℕ → List ℕ → Bool → Type 0
AllFound t base index isos i n budget work l l' r =
    (rs : List Row) (o : Iso) → Runnable t base index isos rs i o → n ≤ count o.from → n ≤ length l
    → InRoom (length work) (Found rs i o budget n l' r)
