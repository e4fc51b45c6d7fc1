-- What the two services answer for an accepted file's rows, as judgements: for each refusal its condition, with all that stand before it not met, and else what is given.
use Rattle.std.specs.Prelude.{ℕ, ◌≤◌, ◌<◌, ◌≡◌, List}
use Rattle.std.proofs.Math.Option.{none, some}
use Rattle.std.proofs.Math.ListN.{get_elem?}
use Rattle.limits.specs.Limits.{max_values}
use Rattle.calculus.specs.Trees.{Ty, Val}
use Rattle.calculus.specs.Refusals.{Refusal, no_iso, no_value, too_many, too_high}
use Rattle.format.specs.Lines.{Row}
use Rattle.calculus.specs.Letters.{letters}
use Rattle.calculus.specs.Paper.{Of}
use Rattle.model.specs.Services.{Outcome, gives, fails}
use Rattle.law_ranking.specs.Numbering.{count, rank, types_of}

-- "An absent T line is 15"; "18 "too many values", a count above 4,294,967,295 …, after 15"
pub data LineFault (rs : List Row) (i : ℕ) : Refusal → Type 0 where
  absent : get_elem? (types_of rs) i ≡ none → LineFault rs i no_iso
  many : (a : Ty) → get_elem? (types_of rs) i ≡ some a → max_values < count a → LineFault rs i too_many

-- neither: T line i is there, a is its type, and its values are numbered
pub record LineOf (rs : List Row) (i : ℕ) (a : Ty) : Type 0 where
  pub there : get_elem? (types_of rs) i ≡ some a
  pub few : count a ≤ max_values

-- letters to number: 16, "not exactly one closed value" of the type, after 18; else the number of the value whose letters they are
pub data NumberIs (rs : List Row) (i : ℕ) (ls : List ℕ) : Outcome ℕ → Type 0 where
  faulty : (f : Refusal) → LineFault rs i f → NumberIs rs i ls (fails f)
  strange : (a : Ty) → LineOf rs i a → ((v : Val) → ls ≡ letters v → Of v a → ⊥) → NumberIs rs i ls (fails no_value)
  number : (a : Ty) (v : Val) → LineOf rs i a → ls ≡ letters v → Of v a → NumberIs rs i ls (gives (rank v a))

-- number to letters: "19 "number too high", not below the count, after 18"; else the letters of the value that has the number
pub data SettingIs (rs : List Row) (i n : ℕ) : Outcome (List ℕ) → Type 0 where
  faulty : (f : Refusal) → LineFault rs i f → SettingIs rs i n (fails f)
  high : (a : Ty) → LineOf rs i a → count a ≤ n → SettingIs rs i n (fails too_high)
  setting : (a : Ty) (v : Val) → LineOf rs i a → Of v a → rank v a ≡ n → SettingIs rs i n (gives (letters v))
