-- Behind the index's numbers the area is as it was.
use Prim.Native.Nat.{ℕ, ◌<◌}
use mathlib.Core.Path.{◌≡◌, ap, ◌∙◌}
use mathlib.Core.List.{List}
use lib.ListN.{drop, set}
use lib.Seq.{drop-set-lt}
use Rattle.run_index.specs.Index.{index_length}

-- one number stored
pub tail_one : (index : List ℕ) (k v : ℕ) {index' : List ℕ} → k < index_length → index' ≡ set index k v → drop index_length index' ≡ drop index_length index
tail_one index k v h e = ap (drop index_length) e ∙ drop-set-lt index_length index k v h

-- two
pub tail_two : (index : List ℕ) (k v j u : ℕ) {index₁ index₂ : List ℕ} → k < index_length → index₁ ≡ set index k v → j < index_length → index₂ ≡ set index₁ j u
    → drop index_length index₂ ≡ drop index_length index
tail_two index k v j u {index₁} h e g f = tail_one index₁ j u g f ∙ tail_one index k v h e
