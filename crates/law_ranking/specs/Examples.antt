-- Request 02: examples that shut out wrong readings. Each holds by computation.
use Rattle.std.specs.Prelude.{ℕ, zero, suc, ◌≡◌, refl, true, false, List, [], ◌∷◌, map}
use Rattle.std.proofs.Math.Option.{none, some}
use Rattle.calculus.specs.Trees.{Ty, tunit, tlist, tsum, tprod, left, right, Val, vleaf, unit_leaf, empty_leaf, vinj, vnode, pair_node, element_node}
use Rattle.calculus.specs.Refusals.{no_iso, no_value, too_many, too_high}
use Rattle.calculus.specs.Letters.{value_of}
use Rattle.model.specs.Services.{Verdict, verdict, gives, fails}
use Rattle.model.specs.Cases.{bytes}
use Rattle.law_ranking.specs.Numbering.{count, rank, unrank, before, types_of, on_type, number_on, setting_on, number_from}

-- T line 1 has 2 values, 2 has 4, 3 has 16, 4 has 256, 5 has 65,536 and 6 has 4,294,967,296
abbrev squares : Verdict
squares = verdict (bytes "T,0,0,0\nT,1,0,0\nT,2,1,1\nT,2,2,2\nT,2,3,3\nT,2,4,4\nT,2,5,5\nP,1,0,0\nI,6,6\nC,0,0\n")

-- 18 stands before 16 and 19, whatever the letters and the number, and behind 15
number_refusals : (number_on squares 6 (bytes "X") ≡ fails too_many) × (number_on squares 2 (bytes "PLU") ≡ fails no_value) × (number_on squares 7 [] ≡ fails no_iso)
unfolding verdict types_of value_of
number_refusals = (refl, refl, refl)

setting_refusals : (setting_on squares 6 0 ≡ fails too_many) × (setting_on squares 2 4 ≡ fails too_high) × (setting_on squares 7 0 ≡ fails no_iso)
unfolding verdict types_of
setting_refusals = (refl, refl, refl)

-- the last number, and its letters
last_number : (setting_on squares 2 3 ≡ gives (bytes "PRURU")) × (number_on squares 2 (bytes "PRURU") ≡ gives 3)
unfolding verdict types_of value_of
last_number = (refl, refl)

-- byte order: the first letter that differs decides, and letters stand before those that go on behind them
byte_order : before [] (bytes "U") ∷ before (bytes "U") [] ∷ before (bytes "LU") (bytes "LUU") ∷ before (bytes "LR") (bytes "RL") ∷ before (bytes "U") (bytes "U") ∷ []
    ≡ true ∷ false ∷ true ∷ true ∷ false ∷ []
byte_order = refl

-- ---- case by case

abbrev bit : Ty
bit = tsum tunit tunit

abbrev three : Ty
three = tsum tunit bit

counts : map count (tunit ∷ bit ∷ three ∷ tprod bit three ∷ tsum three (tprod bit bit) ∷ []) ≡ 1 ∷ 2 ∷ 3 ∷ 6 ∷ 7 ∷ []
counts = refl

-- "Unit is 0; left keeps its number; right adds the left type's count of values; a pair is first times the second type's count, plus second", and back
abbrev pairs : List Val
pairs = vnode pair_node (vinj left (vleaf unit_leaf)) (vinj left (vleaf unit_leaf)) ∷ vnode pair_node (vinj left (vleaf unit_leaf)) (vinj right (vinj left (vleaf unit_leaf))) ∷ vnode pair_node
    (vinj left (vleaf unit_leaf)) (vinj right (vinj right (vleaf unit_leaf)))
    ∷ vnode pair_node (vinj right (vleaf unit_leaf)) (vinj left (vleaf unit_leaf)) ∷ vnode pair_node (vinj right (vleaf unit_leaf)) (vinj right (vinj left (vleaf unit_leaf))) ∷ vnode pair_node
    (vinj right (vleaf unit_leaf)) (vinj right (vinj right (vleaf unit_leaf))) ∷ []

ranks : map (λ v. rank v (tprod bit three)) pairs ≡ 0 ∷ 1 ∷ 2 ∷ 3 ∷ 4 ∷ 5 ∷ []
ranks = refl

unranks : map (unrank (tprod bit three)) (0 ∷ 1 ∷ 2 ∷ 3 ∷ 4 ∷ 5 ∷ []) ≡ pairs
unranks = refl

sum_ranks : map (λ v. rank v (tsum three bit))
    (vinj left (vinj left (vleaf unit_leaf)) ∷ vinj left (vinj right (vinj right (vleaf unit_leaf))) ∷ vinj right (vinj left (vleaf unit_leaf)) ∷ vinj right (vinj right (vleaf unit_leaf)) ∷ [])
    ≡ 0 ∷ 2 ∷ 3 ∷ 4 ∷ []
sum_ranks = refl

sum_unranks : map (unrank (tsum three bit)) (0 ∷ 2 ∷ 3 ∷ 4 ∷ [])
    ≡ vinj left (vinj left (vleaf unit_leaf)) ∷ vinj left (vinj right (vinj right (vleaf unit_leaf))) ∷ vinj right (vinj left (vleaf unit_leaf)) ∷ vinj right (vinj right (vleaf unit_leaf)) ∷ []
sum_unranks = refl

-- a value of another type has no number: 0 stands there
no_ranks : rank (vleaf unit_leaf) bit ∷ rank (vinj right (vleaf unit_leaf)) tunit ∷ rank (vinj right (vleaf unit_leaf)) (tprod bit bit) ∷ rank (vnode pair_node (vleaf unit_leaf) (vleaf unit_leaf))
    tunit ∷ rank (vnode pair_node (vleaf unit_leaf) (vleaf unit_leaf)) bit ∷ [] ≡ 0 ∷ 0 ∷ 0 ∷ 0 ∷ 0 ∷ []
no_ranks = refl

-- "With a refusal the setting number is 0"
numbers_from : number_from (gives 5) ∷ number_from (fails no_value) ∷ [] ≡ 5 ∷ 0 ∷ []
numbers_from = refl

-- 2^n values
abbrev wide : ℕ → Ty
wide zero = tunit
wide (suc n) = tprod bit (wide n)

-- 2^n - 1
abbrev less : ℕ → Ty
less zero = tunit
less (suc n) = tsum (less n) (wide (suc n))

-- "a count above 4,294,967,295": so many values are numbered, and one more is too many
most_values : on_type none gives ∷ on_type (some (less 31)) (λ a. gives tunit) ∷ on_type (some (wide 32)) (λ a. gives tunit) ∷ [] ≡ fails no_iso ∷ gives tunit ∷ fails too_many ∷ []
most_values = refl

-- request 14: a list has more values than are numbered, one more than the last number; where a number is asked all the same, 0 and the empty list stand
list_counts : (map count (tlist tunit ∷ tprod bit (tlist tunit) ∷ []) ≡ 4294967296 ∷ 8589934592 ∷ [])
    × (map (λ v. rank v (tlist bit)) (vleaf empty_leaf ∷ vinj right (vleaf unit_leaf) ∷ vnode element_node (vinj right (vleaf unit_leaf)) (vleaf empty_leaf) ∷ []) ≡ 0 ∷ 0 ∷ 0 ∷ [])
    × (map (unrank (tlist bit)) (0 ∷ 1 ∷ []) ≡ vleaf empty_leaf ∷ vleaf empty_leaf ∷ [])
list_counts = (refl, refl, refl)
