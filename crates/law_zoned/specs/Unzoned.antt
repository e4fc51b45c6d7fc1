-- "files without lists and self-calls": no line of a kind of lists, and no L line that names its own iso.
use Rattle.std.specs.Prelude.{ℕ, suc, ◌≡◌, true, false, List, [], ◌∷◌}
use Rattle.std.proofs.Math.Option.{none, some}
use Rattle.calculus.specs.Refusals.{Refusal, bad_field, bad_name}
use Rattle.format.specs.Lines.{Row, lines, row_of}
use Rattle.format.specs.Judge.{Seen, start, after}
use Rattle.law_zoned.specs.Before.{of_lists, calls_itself}

-- of rows, below those that `s` tells of
pub data Plain : Seen → List Row → Type 0 where
  ends : {s : Seen} → Plain s []
  next : {s : Seen} {r : Row} {rs : List Row} → of_lists r.kind r ≡ false → calls_itself s r.kind r ≡ false → Plain (after s r) rs → Plain s (r ∷ rs)

-- of lines; the first that is no row is refused 3, and nothing is read behind it
pub data Unzoned : Seen → List (List ℕ) → Type 0 where
  ends : {s : Seen} → Unzoned s []
  broken : {s : Seen} {l : List ℕ} {ls : List (List ℕ)} → row_of l ≡ none → Unzoned s (l ∷ ls)
  next : {s : Seen} {l : List ℕ} {ls : List (List ℕ)} (r : Row) → row_of l ≡ some r → of_lists r.kind r ≡ false → calls_itself s r.kind r ≡ false
      → Unzoned (after s r) ls → Unzoned s (l ∷ ls)

abbrev pub WithoutZones : List ℕ → Type 0
WithoutZones bs = Unzoned start (lines bs)

-- the first row that is of lists (5 before the request) or names its own iso (6), at line n
pub data FirstZoned : Seen → ℕ → List Row → Refusal → ℕ → Type 0 where
  lists : {s : Seen} {n m : ℕ} {r : Row} {rs : List Row} {f : Refusal} → of_lists r.kind r ≡ true → f ≡ bad_field r.kind → m ≡ n → FirstZoned s n (r ∷ rs) f m
  itself : {s : Seen} {n m : ℕ} {r : Row} {rs : List Row} {f : Refusal} → of_lists r.kind r ≡ false → calls_itself s r.kind r ≡ true → f ≡ bad_name r.kind
      → m ≡ n → FirstZoned s n (r ∷ rs) f m
  later : {s : Seen} {n m : ℕ} {r : Row} {rs : List Row} {f : Refusal} → of_lists r.kind r ≡ false → calls_itself s r.kind r ≡ false
      → FirstZoned (after s r) (suc n) rs f m → FirstZoned s n (r ∷ rs) f m
