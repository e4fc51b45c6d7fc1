-- Sets of clauses in an area of words: bit k of a set's words says whether clause k is in it.
use Rattle.std.specs.Prelude.{ℕ, zero, suc, ◌+◌, ◌*◌, ◌/◌, ◌%◌, ◌<◌, ◌≡◌, Bool, true, false, cond, ◌||◌, List, eqb, ltb, length, get_or}
use Rattle.limits.specs.Limits.{max_clauses}

-- digit j of a number, written in base 2
abbrev pub bit : ℕ → ℕ → Bool
bit zero x = eqb (x % 2) 1
bit (suc j) x = bit j (x / 2)

-- the set that gathers, the sets of a half, the words of the area, and the clauses that are told apart
abbrev pub gatherer : ℕ
gatherer = 128

abbrev pub half : ℕ
half = suc gatherer

abbrev pub area : ℕ
area = 2 * half

abbrev pub members : ℕ
members = max_clauses

-- the word of set c that has clause k, and whether it does
abbrev pub word_of : ℕ → ℕ → ℕ
word_of c k = cond (ltb k 64) c (half + c)

abbrev pub has : List ℕ → ℕ → ℕ → Bool
has s c k = bit (k % 64) (get_or s (word_of c k) 0)

-- the gathering set is empty, and the others are as they were
pub record Emptied (s z : List ℕ) : Type 0 where
  pub long : length z ≡ length s
  pub kept : (c k : ℕ) → c < gatherer → k < members → has z c k ≡ has s c k
  pub gathers : (k : ℕ) → k < members → has z gatherer k ≡ false

-- the gathering set has those of set c too
pub record United (s z : List ℕ) (c : ℕ) : Type 0 where
  pub long : length z ≡ length s
  pub kept : (d k : ℕ) → d < gatherer → k < members → has z d k ≡ has s d k
  pub gathers : (k : ℕ) → k < members → has z gatherer k ≡ (has s gatherer k || has s c k)

-- set c has clause i too
pub record Joined (s z : List ℕ) (c i : ℕ) : Type 0 where
  pub long : length z ≡ length s
  pub mine : has z c i ≡ true
  pub kept : (d k : ℕ) → d < half → k < members → (d ≡ c → k ≡ i → ⊥) → has z d k ≡ has s d k

-- whether the k low digits are all 1
pub record Low (x k : ℕ) (r : Bool) : Type 0 where
  pub yes : r ≡ true → (j : ℕ) → j < k → bit j x ≡ true
  pub no : r ≡ false → (j : ℕ) × (j < k) × (bit j x ≡ false)

-- whether the gathering set has all clauses below i
pub record Full (s : List ℕ) (i : ℕ) (r : Bool) : Type 0 where
  pub yes : r ≡ true → (k : ℕ) → k < i → has s gatherer k ≡ true
  pub no : r ≡ false → (k : ℕ) × (k < i) × (has s gatherer k ≡ false)
