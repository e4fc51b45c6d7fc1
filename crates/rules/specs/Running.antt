-- What the program keeps between two reads, against the machine of `query_lines/specs/Stream`.
use Rattle.std.specs.Prelude.{ℕ, ◌≤◌, ◌≡◌, true, false, List, [], length, take}
use Rattle.query_lines.specs.Stream.{State, collecting, steps, settled}
use Rattle.desk.specs.DeskSays.{answer_room, Roomy, DeskAt}
use Rattle.desk.specs.declared.Desk as D
use Rattle.stdio.specs.declared.Input as I
use Rattle.stdio.specs.declared.Input.TheVariants as inputs
use Rattle.rules.specs.declared.Progress as P
use Rattle.rules.specs.declared.Progress.TheVariants as progress

-- the areas are as long as the desk wants them
pub record Lent (file line table work index out : List ℕ) : Type 0 where
  pub roomy : Roomy file line table work index
  pub room : answer_room ≤ length out

-- the state is that of the machine behind some bytes, all that were read so far
pub record Ready (d : D.Desk) (file line table work index out : List ℕ) : Type 0 where
  pub bytes : List ℕ
  pub desk : DeskAt d file line table index (steps (collecting []) bytes).next
  pub lent : Lent file line table work index out

-- a chunk is taken to its end, and more is read just where the rest of the input can change what is printed
abbrev pub TookAll : State → List ℕ → List ℕ → List ℕ → List ℕ → P.Progress → Type 0
TookAll s file line table index (progress.More d) = DeskAt d file line table index s × (settled s ≡ false)
TookAll s file line table index (progress.Done d) = DeskAt d file line table index s × (settled s ≡ true)
TookAll s file line table index progress.Failed = Unit {0}

-- a chunk in whatever state the machine is: it is taken to its end, as the machine's steps
abbrev pub ChunkSays : (d : D.Desk) (chunk file line table index file' line' table' index' : List ℕ) (r : P.Progress) → Type 0
ChunkSays d chunk file line table index file' line' table' index' r =
    (s : State) → DeskAt d file line table index s → TookAll (steps s chunk).next file' line' table' index' r

-- the desk's areas are as they were
pub record Kept (file line table index file' line' table' index' : List ℕ) : Type 0 where
  pub files : file' ≡ file
  pub lines : line' ≡ line
  pub tables : table' ≡ table
  pub indices : index' ≡ index

-- What a read gave into a chunk is answered so: just the bytes that came are fed; a read that a signal interrupted changes nothing and more is read; only the end of the
-- input is the end; after a read that failed nothing is answered.
abbrev pub InputSays : (d : D.Desk) (i : I.Input) (chunk file line table index file' line' table' index' : List ℕ) (r : P.Progress) → Type 0
InputSays d (inputs.Bytes n) chunk file line table index file' line' table' index' r =
    ChunkSays d (take n chunk) file line table index file' line' table' index' r
InputSays d inputs.Again chunk file line table index file' line' table' index' r = (r ≡ progress.More d) × Kept file line table index file' line' table' index'
InputSays d inputs.End chunk file line table index file' line' table' index' r = (r ≡ progress.Done d) × Kept file line table index file' line' table' index'
InputSays d inputs.Failed chunk file line table index file' line' table' index' r = r ≡ progress.Failed

-- the state behind a read, if none failed and no write did
abbrev pub Reached : List ℕ → List ℕ → List ℕ → List ℕ → List ℕ → List ℕ → P.Progress → Type 0
Reached file line table work index out (progress.More d) = Ready d file line table work index out
Reached file line table work index out (progress.Done d) = Ready d file line table work index out
Reached file line table work index out progress.Failed = Unit {0}
