-- Request 08, "Clauses in any order": two files that differ only in the order of clauses within isos, let steps moving with their clause.
use Rattle.std.specs.Prelude.{ℕ, ◌≡◌, Bool, true, false, not, ◌&&◌, List, [], ◌∷◌, ◌++◌, map, eqb}
use Rattle.calculus.specs.Tools.{all, concat}
use Rattle.calculus.specs.Trees.{Clause, Iso}
use Rattle.calculus.specs.Refusals.{clause_line, let_line}
use Rattle.format.specs.Lines.{lines, letter}

-- ---- files, by their lines

-- whether a line begins with a letter
abbrev pub begins_with : ℕ → List ℕ → Bool
begins_with b [] = false
begins_with b (c ∷ cs) = eqb c b

abbrev pub is_clause : List ℕ → Bool
is_clause l = begins_with (letter clause_line) l

abbrev pub is_let : List ℕ → Bool
is_let l = begins_with (letter let_line) l

-- a clause as it stands in a file: a C line and L lines under it, "let steps moving with their clause"
abbrev pub is_block : List (List ℕ) → Bool
is_block [] = false
is_block (l ∷ ls) = is_clause l && all is_let ls

-- no further L line of the clause above
abbrev pub is_whole : List (List ℕ) → Bool
is_whole [] = true
is_whole (l ∷ ls) = not (is_let l)

-- Two neighbouring clauses change places; every other line stays. Neighbours stand under one I line.
pub record Exchanged (xs ys : List (List ℕ)) : Type 0 where
  pub before : List (List ℕ)
  pub one : List (List ℕ)
  pub two : List (List ℕ)
  pub behind : List (List ℕ)
  pub one_block : is_block one ≡ true
  pub two_block : is_block two ≡ true
  pub whole : is_whole behind ≡ true
  pub here : xs ≡ before ++ (one ++ (two ++ behind))
  pub there : ys ≡ before ++ (two ++ (one ++ behind))

-- Any order of the clauses is reached by exchanging neighbours.
pub data Reordered : List (List ℕ) → List (List ℕ) → Type 0 where
  same : {xs ys : List (List ℕ)} → xs ≡ ys → Reordered xs ys
  exchange : {xs ys zs : List (List ℕ)} → Exchanged xs ys → Reordered ys zs → Reordered xs zs

-- "Two files that differ only in the order of clauses within isos"
abbrev pub SameButOrder : List ℕ → List ℕ → Type 0
SameButOrder file other = Reordered (lines file) (lines other)

-- in any order
pub data Permuted {A : Type 0} : List A → List A → Type 0 where
  empty : Permuted [] []
  keep : {x y : A} {xs ys : List A} → x ≡ y → Permuted xs ys → Permuted (x ∷ xs) (y ∷ ys)
  swap : {x y v w : A} {xs ys : List A} → x ≡ w → y ≡ v → xs ≡ ys → Permuted (x ∷ (y ∷ xs)) (v ∷ (w ∷ ys))
  then : {xs ys zs : List A} → Permuted xs ys → Permuted ys zs → Permuted xs zs

-- ---- the same, said of whole isos: it is reached by exchanges (`Orders.every_order`)

-- an iso as it stands in a file: its I line and its clauses
abbrev pub Section : Type 0
Section = List ℕ × List (List (List ℕ))

abbrev pub section_lines : Section → List (List ℕ)
section_lines s = s.0 ∷ concat s.1

-- the same I lines, under each its clauses in any order
pub data Shuffled : List Section → List Section → Type 0 where
  none : Shuffled [] []
  more : {i : List ℕ} {bs cs : List (List (List ℕ))} {ss ts : List Section} → is_let i ≡ false → all is_block bs ≡ true → Permuted bs cs → Shuffled ss ts
      → Shuffled ((i, bs) ∷ ss) ((i, cs) ∷ ts)

-- ---- the same of trees

-- a clause without its place in the file
abbrev pub bare : Clause → Clause
bare c = record { line = 0; lhs = c.lhs; lets = c.lets; rhs = c.rhs }

-- an iso at its place, its clauses in another order and at other places
pub record AlikeIso (o n : Iso) : Type 0 where
  pub line : o.line ≡ n.line
  pub from : o.from ≡ n.from
  pub to : o.to ≡ n.to
  pub clauses : Permuted (map bare o.clauses) (map bare n.clauses)

pub data Alike : List Iso → List Iso → Type 0 where
  none : Alike [] []
  more : {o n : Iso} {os ns : List Iso} → AlikeIso o n → Alike os ns → Alike (o ∷ os) (n ∷ ns)
