-- The definitions by example, each by computation: tables of their cases, which fail with the result of a case, a test or two arguments exchanged, and the order of refusals 8 to
-- 14.
use Rattle.std.specs.Prelude.{ℕ, zero, suc, ◌≡◌, refl, Bool, true, false, cond, List, [], ◌∷◌, ◌++◌, map, ltb}
use Rattle.std.proofs.Math.Option.{Option, none, some}
use Rattle.calculus.specs.Tools.{◌>>=◌, guard, is_some, all, concat, select, total, first_failing, or_else, first_of, stages}
use Rattle.calculus.specs.Trees.{Ty, tunit, tlist, tsum, tprod, unit_leaf, empty_leaf, left, right, pair_node, element_node, Pat, pleaf, pvar, pinj, pnode, Val, vleaf, vinj, vnode}
use Rattle.calculus.specs.Trees.{Let, Clause, Iso, same_leaf, same_tag, same_node, same_type, part, leaf_fits, beneath, type_nodes, nodes, tags, most_tags, vars, invert}
use Rattle.calculus.specs.Trees.{parts as types_in}
use Rattle.calculus.specs.Slots.{Slots, put, get, empty, all_empty, slot}
use Rattle.calculus.specs.Refusals.{clause_line, iso_line, variable, let_shape, bad_type, overlap, gap, recursion}
use Rattle.calculus.specs.Clauses.{Deed, binds, uses, Event, events, history, alternate, plain, let_shapes, learn, spend, type_lets, used, clash, apart}
use Rattle.calculus.specs.Clauses.{weight, full_weight, clause_fault, side_fault, zoned, shown, on_tail, tail_calls, tail_rule, shown_rule, recursion_fault, iso_fault, fault}
use Rattle.calculus.specs.Hits.{hit, hits}
use Rattle.calculus.specs.Paper.{fill}
use Rattle.calculus.specs.Reduction.{bind, build, going, ◌>>>◌, run_lets, only, small, reduce, reduce_free}
use Rattle.calculus.specs.Lists.{list_free, free_isos, is_free}
use Rattle.calculus.specs.Letters.{letters, value_of, inhabits}
use Rattle.calculus.specs.Terms.{eleaf, evar, einj, enode, eapp, elet, pat_term, val_term, chain, look, without, replace}

-- ---- functions on options and lists

options : (is_some (guard true) ∷ is_some (guard false) ∷ [] ≡ true ∷ false ∷ [])
    × (or_else {A = ℕ} none (some 1) ∷ or_else (some 2) (some 1) ∷ or_else (some 2) none ∷ [] ≡ some 1 ∷ some 2 ∷ some 2 ∷ [])
options = (refl, refl)

lists : (map (all (ltb 1)) ([] ∷ (2 ∷ 3 ∷ []) ∷ (1 ∷ 2 ∷ []) ∷ (2 ∷ 1 ∷ []) ∷ []) ≡ true ∷ true ∷ false ∷ false ∷ [])
    × (concat {A = ℕ} ((1 ∷ 2 ∷ []) ∷ [] ∷ (3 ∷ []) ∷ []) ≡ 1 ∷ 2 ∷ 3 ∷ [])
    × (select (ltb 1) (0 ∷ 2 ∷ 1 ∷ 3 ∷ []) ≡ 2 ∷ 3 ∷ [])
    × (total (3 ∷ 4 ∷ 5 ∷ []) ≡ 12)
lists = (refl, refl, refl, refl)

-- the first test that fails, and the first answer of several tests
abbrev over : ℕ → ℕ → Option ℕ
over n m = guard (ltb n m) >>= λ _. some n

firsts : (map (first_failing {A = ℕ}) ([] ∷ ((true, 1) ∷ (true, 2) ∷ []) ∷ ((true, 1) ∷ (false, 2) ∷ (false, 3) ∷ []) ∷ []) ≡ none ∷ none ∷ some 2 ∷ [])
    × (map (first_of {A = ℕ} (over 2)) ([] ∷ (1 ∷ 2 ∷ []) ∷ (1 ∷ 3 ∷ 4 ∷ []) ∷ []) ≡ none ∷ none ∷ some 2 ∷ [])
    × (map (stages (over 5 ∷ over 3 ∷ over 4 ∷ [])) (3 ∷ 4 ∷ 5 ∷ 6 ∷ []) ≡ none ∷ some 3 ∷ some 3 ∷ some 5 ∷ [])
firsts = (refl, refl, refl)

-- ---- types, patterns and values

abbrev bit : Ty
bit = tsum tunit tunit

same_tags : map (λ s. map (same_tag s) (left ∷ right ∷ [])) (left ∷ right ∷ []) ≡ (true ∷ false ∷ []) ∷ (false ∷ true ∷ []) ∷ []
same_tags = refl

-- "Two types are the same when their trees are equal": of seven trees each is the same as itself alone
abbrev trees : List Ty
trees = tunit ∷ bit ∷ tsum tunit bit ∷ tsum bit tunit ∷ tprod tunit tunit ∷ tprod tunit bit ∷ tprod bit tunit ∷ []

same_types : map (λ a. map (same_type a) trees) trees
    ≡ (true ∷ false ∷ false ∷ false ∷ false ∷ false ∷ false ∷ [])
    ∷ (false ∷ true ∷ false ∷ false ∷ false ∷ false ∷ false ∷ [])
    ∷ (false ∷ false ∷ true ∷ false ∷ false ∷ false ∷ false ∷ [])
    ∷ (false ∷ false ∷ false ∷ true ∷ false ∷ false ∷ false ∷ [])
    ∷ (false ∷ false ∷ false ∷ false ∷ true ∷ false ∷ false ∷ [])
    ∷ (false ∷ false ∷ false ∷ false ∷ false ∷ true ∷ false ∷ [])
    ∷ (false ∷ false ∷ false ∷ false ∷ false ∷ false ∷ true ∷ [])
    ∷ []
same_types = refl

parts : part left bit tunit ∷ part right bit tunit ∷ [] ≡ bit ∷ tunit ∷ []
parts = refl

-- "left and right nodes", and the most that a value of a type has: of a sum's parts the greater, of a product's both
tag_counts : map tags
    (pleaf unit_leaf ∷ pvar 3 ∷ pinj left (pvar 0) ∷ pinj right (pleaf unit_leaf) ∷ pnode pair_node (pinj left (pleaf unit_leaf)) (pinj right (pinj left (pleaf unit_leaf))) ∷ []) ≡ 0 ∷ 0 ∷ 1
    ∷ 1 ∷ 3 ∷ []
tag_counts = refl

most_tags_lem : map most_tags (tunit ∷ bit ∷ tsum bit tunit ∷ tsum tunit (tsum bit tunit) ∷ tprod bit (tsum bit tunit) ∷ []) ≡ 0 ∷ 1 ∷ 2 ∷ 3 ∷ 3 ∷ []
most_tags_lem = refl

variable_lists : map vars (pleaf unit_leaf ∷ pvar 3 ∷ pinj left (pvar 2) ∷ pnode pair_node (pnode pair_node (pvar 1) (pvar 4)) (pvar 2) ∷ []) ≡ [] ∷ (3 ∷ []) ∷ (2 ∷ []) ∷ (1 ∷ 4 ∷ 2 ∷ []) ∷ []
variable_lists = refl

-- section 3.2: types and sides exchanged, let steps last to first with p and q exchanged; clauses in their order
abbrev step : ℕ → ℕ → ℕ → Let
step p i q = record { p = pvar p; iso = i; q = pvar q }

abbrev clause : ℕ → ℕ → List Let → ℕ → Clause
clause n l ls r = record { line = n; lhs = pvar l; lets = ls; rhs = pvar r }

inverse : invert (record { line = 9; from = tunit; to = bit; clauses = clause 10 1 (step 2 3 4 ∷ step 5 6 7 ∷ []) 8 ∷ clause 13 0 [] 1 ∷ [] })
    ≡ record { line = 9; from = bit; to = tunit; clauses = clause 10 8 (step 7 6 5 ∷ step 4 3 2 ∷ []) 1 ∷ clause 13 1 [] 0 ∷ [] }
inverse = refl

-- ---- slots

abbrev three : Slots ℕ
three = none ∷ some 5 ∷ none ∷ []

puts : map (λ n. put n 7 three) (0 ∷ 1 ∷ 2 ∷ 3 ∷ []) ≡ some (some 7 ∷ some 5 ∷ none ∷ []) ∷ none ∷ some (none ∷ some 5 ∷ some 7 ∷ []) ∷ none ∷ []
puts = refl

gets : map (λ n. get n three) (0 ∷ 1 ∷ 2 ∷ 3 ∷ []) ≡ none ∷ some (5, none ∷ none ∷ none ∷ []) ∷ none ∷ none ∷ []
gets = refl

slots : (map (slot three) (0 ∷ 1 ∷ 2 ∷ 3 ∷ []) ≡ none ∷ some 5 ∷ none ∷ none ∷ [])
    × (map (all_empty {A = ℕ}) ([] ∷ (none ∷ none ∷ []) ∷ (some 1 ∷ none ∷ []) ∷ (none ∷ some 1 ∷ []) ∷ []) ≡ true ∷ true ∷ false ∷ false ∷ [])
slots = (refl, refl)

-- "variable number a, 0 to 31"
last_slot : map (λ n. is_some (put n tunit (empty Ty))) (31 ∷ 32 ∷ []) ≡ true ∷ false ∷ []
unfolding empty
last_slot = refl

-- ---- clauses and sides

abbrev event : Deed → ℕ → Event
event d n = record { deed = d; name = n }

-- "the left pattern binds its variables; each L in order uses those of q, then binds those of p; the right pattern uses the rest"
in_order_lem : events (clause 1 1 (step 2 0 3 ∷ step 4 0 5 ∷ []) 6) ≡ event binds 1 ∷ event uses 3 ∷ event binds 2 ∷ event uses 5 ∷ event binds 4 ∷ event uses 6 ∷ []
in_order_lem = refl

histories : map (λ n. history n (event binds 1 ∷ event uses 2 ∷ event uses 1 ∷ [])) (1 ∷ 2 ∷ 3 ∷ []) ≡ (binds ∷ uses ∷ []) ∷ (uses ∷ []) ∷ [] ∷ []
histories = refl

-- request 03: "A number must now not be live (bound and still unused) when it is bound; it may have been used up earlier in the clause"
alternating : map alternate
    ([] ∷ (uses ∷ []) ∷ (binds ∷ []) ∷ (binds ∷ binds ∷ []) ∷ (binds ∷ binds ∷ uses ∷ []) ∷ (binds ∷ uses ∷ []) ∷ (binds ∷ uses ∷ uses ∷ []) ∷ (binds ∷ uses ∷ binds ∷ [])
    ∷ (binds ∷ uses ∷ binds ∷ uses ∷ []) ∷ [])
    ≡ true ∷ false ∷ false ∷ false ∷ false ∷ true ∷ false ∷ false ∷ true ∷ []
alternating = refl

-- "Let patterns p and q hold only unit, variables and pairs"
plain_patterns : map plain
    (pleaf unit_leaf ∷ pvar 0 ∷ pinj left (pleaf unit_leaf) ∷ pinj right (pvar 0) ∷ pnode pair_node (pleaf unit_leaf) (pvar 0) ∷ pnode pair_node (pinj left (pleaf unit_leaf)) (pleaf unit_leaf) ∷
    pnode pair_node (pleaf unit_leaf) (pinj left (pleaf unit_leaf)) ∷ [])
    ≡ true ∷ true ∷ false ∷ false ∷ true ∷ false ∷ false ∷ []
plain_patterns = refl

let_shapes_lem : map (λ l. let_shapes (clause 1 0 (step 1 0 0 ∷ l ∷ []) 1))
    (step 1 0 1 ∷ record { p = pinj left (pvar 1); iso = 0; q = pvar 1 } ∷ record { p = pvar 1; iso = 0; q = pinj left (pvar 1) } ∷ [])
    ≡ true ∷ false ∷ false ∷ []
unfolding let_shapes
let_shapes_lem = refl

-- unit, left, right and pair against a unit, a sum and a product: which fit as patterns that bind and as patterns that use
abbrev closed : List Pat
closed = pleaf unit_leaf ∷ pinj left (pleaf unit_leaf) ∷ pinj right (pinj left (pleaf unit_leaf)) ∷ pnode pair_node (pleaf unit_leaf) (pinj left (pleaf unit_leaf)) ∷ []

abbrev three_types : List Ty
three_types = tunit ∷ tsum tunit bit ∷ tprod tunit bit ∷ []

abbrev fitting : List (List Bool)
fitting = (true ∷ false ∷ false ∷ []) ∷ (false ∷ true ∷ false ∷ []) ∷ (false ∷ true ∷ false ∷ []) ∷ (false ∷ false ∷ true ∷ []) ∷ []

learnt : map (λ p. map (λ a. is_some (learn p a [])) three_types) closed ≡ fitting
learnt = refl

spends : map (λ p. map (λ a. is_some (spend p a [])) three_types) closed ≡ fitting
spends = refl

-- the type of each variable: of a left that of the first part, of a right that of the second, of a pair each its own
bound_types : learn (pinj left (pvar 0)) (tsum bit tunit) (none ∷ none ∷ [])
    ∷ learn (pinj right (pvar 0)) (tsum bit tunit) (none ∷ none ∷ [])
    ∷ learn (pnode pair_node (pvar 0) (pvar 1)) (tprod bit tunit) (none ∷ none ∷ [])
    ∷ learn (pnode pair_node (pvar 0) (pvar 0)) (tprod bit bit) (none ∷ none ∷ [])
    ∷ []
    ≡ some (some bit ∷ none ∷ []) ∷ some (some tunit ∷ none ∷ []) ∷ some (some bit ∷ some tunit ∷ []) ∷ none ∷ []
bound_types = refl

used_types : spend (pinj left (pvar 0)) (tsum bit tunit) (some bit ∷ some tunit ∷ [])
    ∷ spend (pinj right (pvar 0)) (tsum bit tunit) (some bit ∷ some tunit ∷ [])
    ∷ spend (pnode pair_node (pvar 0) (pvar 1)) (tprod bit tunit) (some bit ∷ some tunit ∷ [])
    ∷ spend (pnode pair_node (pvar 1) (pvar 0)) (tprod bit tunit) (some bit ∷ some tunit ∷ [])
    ∷ []
    ≡ some (none ∷ some tunit ∷ []) ∷ none ∷ some (none ∷ none ∷ []) ∷ none ∷ []
used_types = refl

-- "each q and p the from- and to-type of its iso"
let_types : map (λ l. type_lets ((tunit, bit) ∷ (bit, tunit) ∷ []) (l ∷ []) (some tunit ∷ none ∷ [])) (step 1 0 0 ∷ step 0 0 0 ∷ step 1 1 0 ∷ step 1 2 0 ∷ step 0 0 1 ∷ [])
    ≡ some (none ∷ some bit ∷ []) ∷ some (some bit ∷ none ∷ []) ∷ none ∷ none ∷ none ∷ []
let_types = refl

-- all patterns fit, and no variable is live in the end
used_up : map used (none ∷ some (none ∷ none ∷ []) ∷ some (none ∷ some tunit ∷ []) ∷ []) ≡ false ∷ true ∷ false ∷ []
used_up = refl

-- section 2.2, orthogonality: a left against a right, at the top, under the same tag, in a first or in a second part; a unit, a variable or another form against anything is none
abbrev sample : List Pat
sample = pleaf unit_leaf ∷ pvar 0 ∷ pinj left (pleaf unit_leaf) ∷ pinj right (pleaf unit_leaf) ∷ pinj left (pinj right (pleaf unit_leaf)) ∷ pinj left (pinj left (pleaf unit_leaf)) ∷ pnode
    pair_node (pinj left (pleaf unit_leaf)) (pinj left (pleaf unit_leaf))
    ∷ pnode pair_node (pinj left (pleaf unit_leaf)) (pinj right (pleaf unit_leaf)) ∷ pnode pair_node (pinj right (pleaf unit_leaf)) (pvar 0) ∷ []

clashes : map (λ p. map (clash p) sample) sample
    ≡ (false ∷ false ∷ false ∷ false ∷ false ∷ false ∷ false ∷ false ∷ false ∷ [])
    ∷ (false ∷ false ∷ false ∷ false ∷ false ∷ false ∷ false ∷ false ∷ false ∷ [])
    ∷ (false ∷ false ∷ false ∷ true ∷ false ∷ false ∷ false ∷ false ∷ false ∷ [])
    ∷ (false ∷ false ∷ true ∷ false ∷ true ∷ true ∷ false ∷ false ∷ false ∷ [])
    ∷ (false ∷ false ∷ false ∷ true ∷ false ∷ true ∷ false ∷ false ∷ false ∷ [])
    ∷ (false ∷ false ∷ false ∷ true ∷ true ∷ false ∷ false ∷ false ∷ false ∷ [])
    ∷ (false ∷ false ∷ false ∷ false ∷ false ∷ false ∷ false ∷ true ∷ true ∷ [])
    ∷ (false ∷ false ∷ false ∷ false ∷ false ∷ false ∷ true ∷ false ∷ true ∷ [])
    ∷ (false ∷ false ∷ false ∷ false ∷ false ∷ false ∷ true ∷ true ∷ false ∷ [])
    ∷ []
clashes = refl

-- any two of a side
apart_sides : map apart
    ([] ∷ (pleaf unit_leaf ∷ []) ∷ (pinj left (pleaf unit_leaf) ∷ pinj right (pleaf unit_leaf) ∷ []) ∷
    (pinj left (pleaf unit_leaf) ∷ pinj right (pleaf unit_leaf) ∷ pinj right (pleaf unit_leaf) ∷ []) ∷
    (pinj left (pleaf unit_leaf) ∷ pinj right (pleaf unit_leaf) ∷ pinj left (pleaf unit_leaf) ∷ []) ∷ [])
    ≡ true ∷ true ∷ true ∷ false ∷ false ∷ []
apart_sides = refl

-- 2^40 for a pattern without left and right nodes, and half for each of them; a side covers where it weighs 2^40
weights : map weight (pvar 0 ∷ pinj left (pleaf unit_leaf) ∷ pnode pair_node (pinj left (pleaf unit_leaf)) (pinj right (pleaf unit_leaf)) ∷ []) ≡ 1099511627776 ∷ 549755813888 ∷ 274877906944 ∷ []
weights = refl

full_weights : map full_weight
    ([] ∷ (pvar 0 ∷ []) ∷ (pinj left (pleaf unit_leaf) ∷ []) ∷ (pinj left (pleaf unit_leaf) ∷ pinj right (pleaf unit_leaf) ∷ []) ∷ (pvar 0 ∷ pinj right (pleaf unit_leaf) ∷ []) ∷ [])
    ≡ false ∷ true ∷ false ∷ true ∷ false ∷ []
full_weights = refl

-- ---- values, matching and the reduction

-- unit, left, right and pairs: which values stand in which types, and which patterns match which values
abbrev values : List Val
values = vleaf unit_leaf ∷ vinj left (vleaf unit_leaf) ∷ vinj right (vleaf unit_leaf) ∷ vinj right (vinj left (vleaf unit_leaf)) ∷ vnode pair_node (vleaf unit_leaf) (vleaf unit_leaf) ∷ vnode
    pair_node (vleaf unit_leaf) (vinj left (vleaf unit_leaf)) ∷ vnode pair_node (vinj left (vleaf unit_leaf)) (vleaf unit_leaf) ∷ []

inhabited : map (λ a. map (λ v. inhabits v a) values) (tunit ∷ tsum tunit bit ∷ tprod tunit bit ∷ tprod bit tunit ∷ [])
    ≡ (true ∷ false ∷ false ∷ false ∷ false ∷ false ∷ false ∷ [])
    ∷ (false ∷ true ∷ false ∷ true ∷ false ∷ false ∷ false ∷ [])
    ∷ (false ∷ false ∷ false ∷ false ∷ false ∷ true ∷ false ∷ [])
    ∷ (false ∷ false ∷ false ∷ false ∷ false ∷ false ∷ true ∷ [])
    ∷ []
inhabited = refl

abbrev matching : List Pat
matching = pleaf unit_leaf ∷ pvar 0 ∷ pinj left (pleaf unit_leaf) ∷ pinj right (pleaf unit_leaf) ∷ pnode pair_node (pleaf unit_leaf) (pinj left (pleaf unit_leaf)) ∷ pnode pair_node
    (pinj left (pleaf unit_leaf)) (pleaf unit_leaf) ∷ []

hit_counts : map (λ p. map (hit p) values) matching
    ≡ (1 ∷ 0 ∷ 0 ∷ 0 ∷ 0 ∷ 0 ∷ 0 ∷ [])
    ∷ (1 ∷ 1 ∷ 1 ∷ 1 ∷ 1 ∷ 1 ∷ 1 ∷ [])
    ∷ (0 ∷ 1 ∷ 0 ∷ 0 ∷ 0 ∷ 0 ∷ 0 ∷ [])
    ∷ (0 ∷ 0 ∷ 1 ∷ 0 ∷ 0 ∷ 0 ∷ 0 ∷ [])
    ∷ (0 ∷ 0 ∷ 0 ∷ 0 ∷ 0 ∷ 1 ∷ 0 ∷ [])
    ∷ (0 ∷ 0 ∷ 0 ∷ 0 ∷ 0 ∷ 0 ∷ 1 ∷ [])
    ∷ []
hit_counts = refl

hits_of_all : map (hits matching) values ≡ 2 ∷ 2 ∷ 2 ∷ 1 ∷ 1 ∷ 2 ∷ 2 ∷ []
hits_of_all = refl

bindings : map (λ p. map (λ v. is_some (bind p v (none ∷ []))) values) matching
    ≡ (true ∷ false ∷ false ∷ false ∷ false ∷ false ∷ false ∷ [])
    ∷ (true ∷ true ∷ true ∷ true ∷ true ∷ true ∷ true ∷ [])
    ∷ (false ∷ true ∷ false ∷ false ∷ false ∷ false ∷ false ∷ [])
    ∷ (false ∷ false ∷ true ∷ false ∷ false ∷ false ∷ false ∷ [])
    ∷ (false ∷ false ∷ false ∷ false ∷ false ∷ true ∷ false ∷ [])
    ∷ (false ∷ false ∷ false ∷ false ∷ false ∷ false ∷ true ∷ [])
    ∷ []
bindings = refl

-- the variables' values, and the values put in
abbrev one_two : Pat
one_two = pnode pair_node (pvar 0) (pinj right (pvar 1))

bound_values : bind one_two (vnode pair_node (vleaf unit_leaf) (vinj right (vinj left (vleaf unit_leaf)))) (none ∷ none ∷ []) ≡ some (some (vleaf unit_leaf) ∷ some (vinj left (vleaf unit_leaf)) ∷ [])
bound_values = refl

built_values : build one_two (some (vleaf unit_leaf) ∷ some (vinj left (vleaf unit_leaf)) ∷ some (vleaf unit_leaf) ∷ []) ∷ build (pnode pair_node (pvar 1) (pleaf unit_leaf))
    (some (vleaf unit_leaf) ∷ none ∷ []) ∷ []
    ≡ some (vnode pair_node (vleaf unit_leaf) (vinj right (vinj left (vleaf unit_leaf))), none ∷ none ∷ some (vleaf unit_leaf) ∷ []) ∷ none ∷ []
built_values = refl

filled_in : map (fill (λ n. cond (ltb n 1) (vleaf unit_leaf) (vinj left (vleaf unit_leaf)))) (pleaf unit_leaf ∷ pvar 0 ∷ pvar 1 ∷ one_two ∷ [])
    ≡ vleaf unit_leaf ∷ vleaf unit_leaf ∷ vinj left (vleaf unit_leaf) ∷ vnode pair_node (vleaf unit_leaf) (vinj right (vinj left (vleaf unit_leaf))) ∷ []
filled_in = refl

-- "For each L line in order": a call that puts a left before its value and counts the iso's number
steps_in_order : run_lets (λ i v. (some (vinj left v), i)) (step 1 3 0 ∷ step 0 4 1 ∷ []) (some (vleaf unit_leaf) ∷ none ∷ []) ≡ (some (some (vinj left (vinj left (vleaf unit_leaf))) ∷ none ∷ []), 7)
steps_in_order = refl

only_one : map only ([] ∷ (clause 1 0 [] 0 ∷ []) ∷ (clause 1 0 [] 0 ∷ clause 2 0 [] 0 ∷ []) ∷ []) ≡ none ∷ some (clause 1 0 [] 0) ∷ none ∷ []
only_one = refl

-- "exactly one closed value": U, nothing, UU, L, PU, PLURU, PRULU and X
read_values : map value_of
    ((85 ∷ []) ∷ [] ∷ (85 ∷ 85 ∷ []) ∷ (76 ∷ []) ∷ (80 ∷ 85 ∷ []) ∷ (80 ∷ 76 ∷ 85 ∷ 82 ∷ 85 ∷ []) ∷ (80 ∷ 82 ∷ 85 ∷ 76 ∷ 85 ∷ []) ∷ (88 ∷ []) ∷ [])
    ≡ some (vleaf unit_leaf) ∷ none ∷ none ∷ none ∷ none ∷ some (vnode pair_node (vinj left (vleaf unit_leaf)) (vinj right (vleaf unit_leaf))) ∷ some
    (vnode pair_node (vinj right (vleaf unit_leaf)) (vinj left (vleaf unit_leaf))) ∷ none ∷ []
unfolding value_of
read_values = refl

-- the terms of section 3.1: a pattern and a value as terms, and a clause's right side, let p₁ = ω₁ q₁ in … in v
pattern_terms : map pat_term (pleaf unit_leaf ∷ pvar 3 ∷ pinj right (pvar 3) ∷ pnode pair_node (pvar 1) (pleaf unit_leaf) ∷ []) ≡ eleaf unit_leaf ∷ evar 3 ∷ einj right (evar 3) ∷ enode pair_node
    (evar 1) (eleaf unit_leaf) ∷ []
pattern_terms = refl

value_terms : map val_term (vleaf unit_leaf ∷ vinj right (vleaf unit_leaf) ∷ vnode pair_node (vinj left (vleaf unit_leaf)) (vleaf unit_leaf) ∷ []) ≡ eleaf unit_leaf ∷ einj right (eleaf unit_leaf) ∷
    enode pair_node
    (einj left (eleaf unit_leaf)) (eleaf unit_leaf) ∷ []
value_terms = refl

let_terms : chain (step 2 5 1 ∷ step 4 6 3 ∷ []) (pvar 7) ≡ elet (pvar 2) (eapp 5 (evar 1)) (elet (pvar 4) (eapp 6 (evar 3)) (evar 7))
let_terms = refl

-- σ(t): a variable's value, each other variable as it was, and behind a let the numbers of its p as they were
valued : map (look ((1, (vleaf unit_leaf)) ∷ (2, vinj left (vleaf unit_leaf)) ∷ (1, vinj right (vleaf unit_leaf)) ∷ [])) (1 ∷ 2 ∷ 3 ∷ []) ≡ some (vleaf unit_leaf) ∷ some
    (vinj left (vleaf unit_leaf)) ∷ none ∷ []
valued = refl

valued_without : map (without (2 ∷ 3 ∷ []) (λ n. some (vleaf unit_leaf))) (1 ∷ 2 ∷ 3 ∷ []) ≡ some (vleaf unit_leaf) ∷ none ∷ none ∷ []
valued_without = refl

replaced : map (replace (look ((1, vinj left (vleaf unit_leaf)) ∷ [])))
    (eleaf unit_leaf ∷ evar 1 ∷ evar 2 ∷ einj right (evar 1) ∷ enode pair_node (evar 1) (evar 2) ∷ eapp 4 (evar 1) ∷ elet (pvar 2) (evar 1) (enode pair_node (evar 2) (evar 1)) ∷ elet (pvar 1)
    (evar 1) (evar 1) ∷ [])
    ≡ eleaf unit_leaf ∷ einj left (eleaf unit_leaf) ∷ evar 2 ∷ einj right (einj left (eleaf unit_leaf)) ∷ enode pair_node (einj left (eleaf unit_leaf)) (evar 2) ∷ eapp 4 (einj left (eleaf unit_leaf))
    ∷ elet (pvar 2) (einj left (eleaf unit_leaf)) (enode pair_node (evar 2) (einj left (eleaf unit_leaf))) ∷ elet (pvar 1) (einj left (eleaf unit_leaf)) (evar 1) ∷ []
replaced = refl

-- ---- the order of refusals: "the isos in order: each clause in order, lowest of 8 to 10, then the iso, lowest of 11 to 14"

-- a clause at a line, without let steps and with one
abbrev plainly : ℕ → Pat → Pat → Clause
plainly n p q = record { line = n; lhs = p; lets = []; rhs = q }

abbrev stepping : Pat → Let → Pat → Clause
stepping p l q = record { line = 0; lhs = p; lets = l ∷ []; rhs = q }

abbrev iso_of : ℕ → Ty → Ty → List Clause → Iso
iso_of n a b cs = record { line = n; from = a; to = b; clauses = cs }

-- "lowest of 8 to 10", of a clause from unit to unit beside an iso from unit to unit: 8, 9 and 10; 9 and 10; 10; none
clause_order : map (clause_fault ((tunit, tunit) ∷ []) tunit tunit)
    (stepping (pvar 0) (record { p = pinj left (pvar 1); iso = 0; q = pvar 0 }) (pinj left (pvar 2))
    ∷ stepping (pvar 0) (record { p = pinj left (pvar 1); iso = 0; q = pvar 0 }) (pvar 1)
    ∷ stepping (pvar 0) (record { p = pnode pair_node (pvar 1) (pvar 2); iso = 0; q = pvar 0 }) (pnode pair_node (pvar 1) (pvar 2))
    ∷ stepping (pvar 0) (record { p = pvar 1; iso = 0; q = pvar 0 }) (pvar 1)
    ∷ [])
    ≡ some (variable clause_line) ∷ some (let_shape clause_line) ∷ some (bad_type clause_line) ∷ none ∷ []
unfolding clause_fault
clause_order = refl

-- "lowest of 11 to 14", of an iso on 1 + 1: both sides overlap; the right overlaps and the left has a gap; both have gaps; the right has a gap; none
side_order : map (λ cs. side_fault (iso_of 1 bit bit cs))
    ((plainly 2 (pinj left (pleaf unit_leaf)) (pinj left (pleaf unit_leaf)) ∷ plainly 3 (pinj left (pleaf unit_leaf)) (pinj left (pleaf unit_leaf)) ∷ [])
    ∷ (plainly 2 (pinj left (pinj left (pleaf unit_leaf))) (pinj left (pleaf unit_leaf)) ∷ plainly 3 (pinj right (pleaf unit_leaf)) (pinj left (pleaf unit_leaf)) ∷ [])
    ∷ (plainly 2 (pinj left (pleaf unit_leaf)) (pinj left (pleaf unit_leaf)) ∷ [])
    ∷ (plainly 2 (pinj left (pleaf unit_leaf)) (pinj left (pleaf unit_leaf)) ∷ plainly 3 (pinj right (pleaf unit_leaf)) (pinj right (pinj left (pleaf unit_leaf))) ∷ [])
    ∷ (plainly 2 (pinj left (pleaf unit_leaf)) (pinj right (pleaf unit_leaf)) ∷ plainly 3 (pinj right (pleaf unit_leaf)) (pinj left (pleaf unit_leaf)) ∷ [])
    ∷ [])
    ≡ some (overlap iso_line left) ∷ some (overlap iso_line right) ∷ some (gap iso_line left) ∷ some (gap iso_line right) ∷ none ∷ []
unfolding side_fault
side_order = refl

-- "each clause in order … then the iso": the left patterns overlap, and the third clause has a fault too, which comes first, at its own line; without it the overlap, at
-- the iso's line
iso_order : map (λ r. iso_fault [] 0 (iso_of 7 bit bit (plainly 8 (pvar 0) (pvar 0) ∷ plainly 9 (pvar 0) (pvar 0) ∷ plainly 10 (pvar 0) r ∷ []))) (pvar 1 ∷ pleaf unit_leaf ∷ pvar 0 ∷ [])
    ≡ some (variable clause_line, 10) ∷ some (variable clause_line, 10) ∷ some (overlap iso_line left, 7) ∷ []
unfolding iso_fault
iso_order = refl

-- of two faulty clauses the first, and of two faulty isos the first: the gap of an earlier iso before the clause of a later one
first_fault : map fault
    ((iso_of 1 tunit tunit (plainly 2 (pvar 0) (pvar 1) ∷ plainly 3 (pinj left (pleaf unit_leaf)) (pleaf unit_leaf) ∷ []) ∷ [])
    ∷ (iso_of 1 bit bit (plainly 2 (pinj left (pleaf unit_leaf)) (pinj left (pleaf unit_leaf)) ∷ []) ∷ iso_of 3 tunit tunit (plainly 4 (pvar 0) (pvar 1) ∷ []) ∷ [])
    ∷ (iso_of 1 tunit tunit (plainly 2 (pvar 0) (pvar 0) ∷ []) ∷ iso_of 3 tunit bit (plainly 4 (pvar 0) (pvar 0) ∷ []) ∷ [])
    ∷ (iso_of 1 tunit tunit (plainly 2 (pvar 0) (pvar 0) ∷ []) ∷ [])
    ∷ [])
    ≡ some (variable clause_line, 2) ∷ some (gap iso_line left, 1) ∷ some (bad_type clause_line, 4) ∷ none ∷ []
unfolding fault
first_fault = refl

-- ---- request 14: lists, calls of itself, what is too large

abbrev zones : Ty
zones = tlist bit

-- unit, a list, a sum, a product
abbrev four_types : List Ty
four_types = tunit ∷ zones ∷ tsum tunit bit ∷ tprod tunit bit ∷ []

same_leaves : map (λ l. map (same_leaf l) (unit_leaf ∷ empty_leaf ∷ [])) (unit_leaf ∷ empty_leaf ∷ []) ≡ (true ∷ false ∷ []) ∷ (false ∷ true ∷ []) ∷ []
same_leaves = refl

same_nodes : map (λ k. map (same_node k) (pair_node ∷ element_node ∷ [])) (pair_node ∷ element_node ∷ []) ≡ (true ∷ false ∷ []) ∷ (false ∷ true ∷ []) ∷ []
same_nodes = refl

abbrev listed : List Ty
listed = tunit ∷ tlist tunit ∷ zones ∷ bit ∷ tprod tunit tunit ∷ []

same_lists : map (λ a. map (same_type a) listed) listed
    ≡ (true ∷ false ∷ false ∷ false ∷ false ∷ [])
    ∷ (false ∷ true ∷ false ∷ false ∷ false ∷ [])
    ∷ (false ∷ false ∷ true ∷ false ∷ false ∷ [])
    ∷ (false ∷ false ∷ false ∷ true ∷ false ∷ [])
    ∷ (false ∷ false ∷ false ∷ false ∷ true ∷ [])
    ∷ []
same_lists = refl

-- what stands at the top of a value of a type, and the types below it: an element and a list of the same type
leaves_fit : map (λ l. map (leaf_fits l) four_types) (unit_leaf ∷ empty_leaf ∷ []) ≡ (true ∷ false ∷ false ∷ false ∷ []) ∷ (false ∷ true ∷ false ∷ false ∷ []) ∷ []
leaves_fit = refl

below_tags : map (λ t. map (beneath t) four_types) (left ∷ right ∷ []) ≡ (none ∷ none ∷ some tunit ∷ none ∷ []) ∷ (none ∷ none ∷ some bit ∷ none ∷ []) ∷ []
below_tags = refl

below_nodes : map (λ k. map (types_in k) four_types) (pair_node ∷ element_node ∷ []) ≡ (none ∷ none ∷ none ∷ some (tunit, bit) ∷ []) ∷ (none ∷ some (bit, zones) ∷ none ∷ none ∷ []) ∷ []
below_nodes = refl

-- "Both P kinds count towards the 40": one each; a list type is a node above its element's
abbrev one_zone : Pat
one_zone = pnode element_node (pinj left (pleaf unit_leaf)) (pleaf empty_leaf)

list_sizes : (map type_nodes (zones ∷ tprod zones tunit ∷ []) ≡ 4 ∷ 6 ∷ [])
    × (map nodes (pleaf empty_leaf ∷ one_zone ∷ []) ≡ 1 ∷ 4 ∷ [])
    × (map tags (pleaf empty_leaf ∷ one_zone ∷ pnode element_node (pvar 0) (pvar 1) ∷ pnode pair_node (pvar 0) (pleaf empty_leaf) ∷ []) ≡ 1 ∷ 3 ∷ 1 ∷ 1 ∷ [])
    × (most_tags zones ≡ 0)
    × (vars (pnode element_node (pvar 1) (pvar 0)) ≡ 1 ∷ 0 ∷ [])
list_sizes = (refl, refl, refl, refl, refl)

-- "either in a let pattern is 9"
plain_lists : map plain (pleaf empty_leaf ∷ pnode element_node (pvar 0) (pvar 1) ∷ pnode pair_node (pvar 0) (pleaf empty_leaf) ∷ []) ≡ false ∷ false ∷ false ∷ []
plain_lists = refl

-- unit, empty, element: which fit which types, as patterns that bind and as patterns that use; the element's type, then the list's
list_fits : (map (λ p. map (λ a. is_some (learn p a [])) four_types) (pleaf empty_leaf ∷ one_zone ∷ []) ≡ (false ∷ true ∷ false ∷ false ∷ []) ∷ (false ∷ true ∷ false ∷ false ∷ []) ∷ [])
    × (map (λ p. map (λ a. is_some (spend p a [])) four_types) (pleaf empty_leaf ∷ one_zone ∷ []) ≡ (false ∷ true ∷ false ∷ false ∷ []) ∷ (false ∷ true ∷ false ∷ false ∷ []) ∷ [])
    × (learn (pnode element_node (pvar 0) (pvar 1)) zones (none ∷ none ∷ []) ≡ some (some bit ∷ some zones ∷ []))
    × (spend (pnode element_node (pvar 0) (pvar 1)) zones (some bit ∷ some zones ∷ []) ≡ some (none ∷ none ∷ []))
    × (spend (pnode element_node (pvar 1) (pvar 0)) zones (some bit ∷ some zones ∷ []) ≡ none)
list_fits = (refl, refl, refl, refl, refl)

-- "empty against an element clashes like left against right"; a unit against a pair and a pair against an element do not
abbrev list_forms : List Pat
list_forms = pleaf unit_leaf ∷ pleaf empty_leaf ∷ pvar 0 ∷ pinj left (pvar 0) ∷ pnode pair_node (pinj left (pvar 0)) (pvar 1) ∷ pnode element_node (pinj left (pvar 0)) (pvar 1) ∷
    pnode element_node (pinj right (pvar 0)) (pvar 1) ∷ pnode element_node (pvar 0) (pleaf empty_leaf) ∷ pnode element_node (pvar 0) (pnode element_node (pvar 1) (pvar 2)) ∷ []

list_clashes : map (λ p. map (clash p) list_forms) list_forms
    ≡ (false ∷ false ∷ false ∷ false ∷ false ∷ false ∷ false ∷ false ∷ false ∷ [])
    ∷ (false ∷ false ∷ false ∷ false ∷ false ∷ true ∷ true ∷ true ∷ true ∷ [])
    ∷ (false ∷ false ∷ false ∷ false ∷ false ∷ false ∷ false ∷ false ∷ false ∷ [])
    ∷ (false ∷ false ∷ false ∷ false ∷ false ∷ false ∷ false ∷ false ∷ false ∷ [])
    ∷ (false ∷ false ∷ false ∷ false ∷ false ∷ false ∷ false ∷ false ∷ false ∷ [])
    ∷ (false ∷ true ∷ false ∷ false ∷ false ∷ false ∷ true ∷ false ∷ false ∷ [])
    ∷ (false ∷ true ∷ false ∷ false ∷ false ∷ true ∷ false ∷ false ∷ false ∷ [])
    ∷ (false ∷ true ∷ false ∷ false ∷ false ∷ false ∷ false ∷ false ∷ true ∷ [])
    ∷ (false ∷ true ∷ false ∷ false ∷ false ∷ false ∷ false ∷ true ∷ false ∷ [])
    ∷ []
list_clashes = refl

-- empty and an element cover a list
list_weights : map full_weight ((pleaf empty_leaf ∷ pnode element_node (pvar 0) (pvar 1) ∷ []) ∷ (pleaf empty_leaf ∷ []) ∷ (pleaf empty_leaf ∷ one_zone ∷ []) ∷ []) ≡ true ∷ false ∷ false ∷ []
list_weights = refl

-- "its from-type is a list, or a product whose first part is one"
zoned_types : map zoned (four_types ++ (tprod zones tunit ∷ tprod tunit zones ∷ tsum zones zones ∷ tprod (tprod zones tunit) tunit ∷ tprod bit tunit ∷ tprod (tlist tunit) zones ∷ []))
    ≡ false ∷ true ∷ false ∷ false ∷ true ∷ false ∷ false ∷ false ∷ false ∷ true ∷ []
zoned_types = refl

-- what a left pattern shows there
shown_parts : map shown (pvar 0 ∷ pleaf unit_leaf ∷ pinj left (pvar 0) ∷ pnode pair_node (pvar 1) (pvar 2) ∷ pnode element_node (pvar 1) (pvar 2) ∷ [])
    ≡ pvar 0 ∷ pleaf unit_leaf ∷ pinj left (pvar 0) ∷ pvar 1 ∷ pnode element_node (pvar 1) (pvar 2) ∷ []
shown_parts = refl

-- "a variable, …, alone or as the first part of a pair"
tails : map (on_tail 1)
    (pvar 1 ∷ pvar 2 ∷ pleaf empty_leaf ∷ pinj left (pvar 1) ∷ pnode pair_node (pvar 1) (pvar 2) ∷ pnode pair_node (pvar 2) (pvar 1) ∷ pnode pair_node (pleaf unit_leaf) (pvar 1) ∷
    pnode pair_node (pinj left (pvar 1)) (pvar 2) ∷ pnode pair_node (pnode pair_node (pvar 1) (pvar 2)) (pvar 3) ∷ pnode element_node (pvar 1) (pvar 2) ∷ [])
    ≡ true ∷ false ∷ false ∷ false ∷ true ∷ false ∷ false ∷ false ∷ false ∷ false ∷ []
tails = refl

-- "at most one, on that element's whole tail, …, as the left pattern bound it": iso 3 and a tail in variable 1. No call; one; one behind another step; one on another
-- variable; two; one behind a step that has used the tail; one before such a step
tail_calls_lem : map (tail_calls 3 1)
    ([] ∷ (step 5 3 1 ∷ []) ∷ (step 4 0 2 ∷ step 5 3 1 ∷ []) ∷ (step 5 3 2 ∷ []) ∷ (step 5 3 1 ∷ step 6 3 1 ∷ []) ∷ (step 1 0 1 ∷ step 5 3 1 ∷ []) ∷ (step 1 3 1 ∷ step 5 0 1 ∷ []) ∷
    (step 1 0 1 ∷ []) ∷ [])
    ≡ true ∷ true ∷ true ∷ false ∷ false ∷ false ∷ true ∷ true ∷ []
tail_calls_lem = refl

-- a tail that is no variable allows no call
tail_rules : map (λ q. tail_rule 3 q (step 5 3 1 ∷ [])) (pvar 1 ∷ pleaf empty_leaf ∷ pinj left (pvar 1) ∷ pnode element_node (pvar 2) (pvar 1) ∷ [])
    ∷ map (λ q. tail_rule 3 q []) (pvar 1 ∷ pleaf empty_leaf ∷ pinj left (pvar 1) ∷ pnode element_node (pvar 2) (pvar 1) ∷ [])
    ∷ []
    ≡ (true ∷ false ∷ false ∷ false ∷ []) ∷ (true ∷ true ∷ true ∷ true ∷ []) ∷ []
tail_rules = refl

-- "each left pattern shows empty or an element there; a clause with empty makes no such call"
shown_rules : map (λ p. shown_rule 3 p (step 5 3 1 ∷ []))
    (pvar 1 ∷ pleaf unit_leaf ∷ pleaf empty_leaf ∷ pinj left (pvar 1) ∷ pnode pair_node (pvar 0) (pvar 1) ∷ pnode element_node (pvar 0) (pvar 1) ∷ [])
    ∷ map (λ p. shown_rule 3 p []) (pvar 1 ∷ pleaf unit_leaf ∷ pleaf empty_leaf ∷ pinj left (pvar 1) ∷ pnode pair_node (pvar 0) (pvar 1) ∷ pnode element_node (pvar 0) (pvar 1) ∷ [])
    ∷ []
    ≡ (false ∷ false ∷ false ∷ false ∷ false ∷ true ∷ []) ∷ (false ∷ false ∷ true ∷ false ∷ false ∷ true ∷ []) ∷ []
shown_rules = refl

-- lists of units, element by element: iso 0 calls itself on the tail. As written; with the call on the element; on a product whose second part is the list, at the I line;
-- with a variable as left pattern, at its C line; turned, the rule is met too
abbrev along : ℕ → Pat → List Let → Pat → Clause
along n p ls q = record { line = n; lhs = p; lets = ls; rhs = q }

abbrev element : ℕ → ℕ → Pat
element x xs = pnode element_node (pvar x) (pvar xs)

abbrev units : Ty
units = tlist tunit

abbrev copying : Iso
copying = iso_of 7 units units (along 8 (pleaf empty_leaf) [] (pleaf empty_leaf) ∷ along 9 (element 0 1) (step 2 0 1 ∷ []) (element 0 2) ∷ [])

recursion_faults : map (recursion_fault 0)
    (copying
    ∷ iso_of 7 units units (along 8 (pleaf empty_leaf) [] (pleaf empty_leaf) ∷ along 9 (element 0 1) (step 2 0 0 ∷ []) (element 2 1) ∷ [])
    ∷ iso_of 7 (tprod tunit units) units (along 8 (pvar 0) (step 1 0 0 ∷ []) (pvar 1) ∷ [])
    ∷ iso_of 7 units units (along 8 (pvar 0) (step 1 0 0 ∷ []) (pvar 1) ∷ [])
    ∷ iso_of 7 tunit units (along 8 (pleaf unit_leaf) [] (pleaf empty_leaf) ∷ along 9 (pvar 1) (step 1 0 2 ∷ []) (element 0 1) ∷ [])
    ∷ iso_of 7 tunit tunit (along 8 (pvar 0) (step 1 1 0 ∷ []) (pvar 1) ∷ [])
    ∷ iso_of 7 units tunit (along 8 (pleaf empty_leaf) (step 2 0 1 ∷ []) (pvar 1) ∷ along 9 (pvar 0) [] (pvar 0) ∷ [])
    ∷ [])
    ≡ none ∷ some (recursion clause_line, 9) ∷ some (recursion iso_line, 7) ∷ some (recursion clause_line, 8) ∷ none ∷ none ∷ some (recursion clause_line, 8) ∷ []
unfolding recursion_fault
recursion_faults = refl

-- "tested when all clauses of the iso have passed 8 to 10 and before 11": a clause's fault, 23, an overlap; the iso's number is its own
recursion_order : map (iso_fault ((units, units) ∷ []) 0)
    (iso_of 7 units units (along 8 (pvar 0) (step 1 0 0 ∷ []) (pvar 2) ∷ along 9 (pvar 0) [] (pvar 0) ∷ [])
    ∷ iso_of 7 units units (along 8 (pvar 0) (step 1 0 0 ∷ []) (pvar 1) ∷ along 9 (pvar 0) [] (pvar 0) ∷ [])
    ∷ iso_of 7 units units (along 8 (pvar 0) [] (pvar 0) ∷ along 9 (pvar 0) [] (pvar 0) ∷ [])
    ∷ copying
    ∷ [])
    ≡ some (variable clause_line, 8) ∷ some (recursion clause_line, 8) ∷ some (overlap iso_line left, 7) ∷ none ∷ []
unfolding iso_fault
recursion_order = refl

isos_numbered : map fault
    ((iso_of 1 tunit tunit (along 2 (pvar 0) [] (pvar 0) ∷ []) ∷ iso_of 3 tunit tunit (along 4 (pvar 0) (step 1 0 0 ∷ []) (pvar 1) ∷ []) ∷ [])
    ∷ (iso_of 1 tunit tunit (along 2 (pvar 0) [] (pvar 0) ∷ []) ∷ iso_of 3 tunit tunit (along 4 (pvar 0) (step 1 1 0 ∷ []) (pvar 1) ∷ []) ∷ [])
    ∷ [])
    ≡ none ∷ some (recursion iso_line, 3) ∷ []
unfolding fault
isos_numbered = refl

-- "value letters N and K": N, KUN, KLUKRUN, K, KU, KN, PNU
read_lists : map value_of ((78 ∷ []) ∷ (75 ∷ 85 ∷ 78 ∷ []) ∷ (75 ∷ []) ∷ (75 ∷ 85 ∷ []) ∷ (80 ∷ 78 ∷ 85 ∷ []) ∷ [])
    ≡ some (vleaf empty_leaf) ∷ some (vnode element_node (vleaf unit_leaf) (vleaf empty_leaf)) ∷ none ∷ none ∷ some (vnode pair_node (vleaf empty_leaf) (vleaf unit_leaf)) ∷ []
unfolding value_of
read_lists = refl

abbrev list_values : List Val
list_values = vleaf unit_leaf ∷ vleaf empty_leaf ∷ vnode element_node (vinj left (vleaf unit_leaf)) (vleaf empty_leaf) ∷ vnode element_node (vleaf unit_leaf) (vleaf empty_leaf) ∷
    vnode element_node (vinj left (vleaf unit_leaf)) (vleaf unit_leaf) ∷ vnode pair_node (vleaf unit_leaf) (vinj left (vleaf unit_leaf)) ∷ []

written_lists : map letters list_values
    ≡ (85 ∷ []) ∷ (78 ∷ []) ∷ (75 ∷ 76 ∷ 85 ∷ 78 ∷ []) ∷ (75 ∷ 85 ∷ 78 ∷ []) ∷ (75 ∷ 76 ∷ 85 ∷ 85 ∷ []) ∷ (80 ∷ 85 ∷ 76 ∷ 85 ∷ []) ∷ []
written_lists = refl

inhabited_lists : map (λ a. map (λ v. inhabits v a) list_values) four_types
    ≡ (true ∷ false ∷ false ∷ false ∷ false ∷ false ∷ [])
    ∷ (false ∷ true ∷ true ∷ false ∷ false ∷ false ∷ [])
    ∷ (false ∷ false ∷ false ∷ false ∷ false ∷ false ∷ [])
    ∷ (false ∷ false ∷ false ∷ false ∷ false ∷ true ∷ [])
    ∷ []
inhabited_lists = refl

-- unit and empty, pair and element: which patterns match which values
abbrev list_matching : List Pat
list_matching = pleaf unit_leaf ∷ pleaf empty_leaf ∷ pnode element_node (pinj left (pvar 0)) (pleaf empty_leaf) ∷ pnode pair_node (pvar 0) (pinj left (pleaf unit_leaf)) ∷ []

list_hits : map (λ p. map (hit p) list_values) list_matching
    ≡ (1 ∷ 0 ∷ 0 ∷ 0 ∷ 0 ∷ 0 ∷ []) ∷ (0 ∷ 1 ∷ 0 ∷ 0 ∷ 0 ∷ 0 ∷ []) ∷ (0 ∷ 0 ∷ 1 ∷ 0 ∷ 0 ∷ 0 ∷ []) ∷ (0 ∷ 0 ∷ 0 ∷ 0 ∷ 0 ∷ 1 ∷ []) ∷ []
list_hits = refl

list_binds : map (λ p. map (λ v. is_some (bind p v (none ∷ []))) list_values) list_matching
    ≡ (true ∷ false ∷ false ∷ false ∷ false ∷ false ∷ [])
    ∷ (false ∷ true ∷ false ∷ false ∷ false ∷ false ∷ [])
    ∷ (false ∷ false ∷ true ∷ false ∷ false ∷ false ∷ [])
    ∷ (false ∷ false ∷ false ∷ false ∷ false ∷ true ∷ [])
    ∷ []
list_binds = refl

list_builds : build (element 0 1) (some (vleaf unit_leaf) ∷ some (vleaf empty_leaf) ∷ []) ≡ some (vnode element_node (vleaf unit_leaf) (vleaf empty_leaf), none ∷ none ∷ [])
list_builds = refl

-- "holds a list": anywhere in the type; of an iso, in either type or of one that it reaches
list_free_lem : map list_free (four_types ++ (tsum zones tunit ∷ tsum tunit zones ∷ tprod zones tunit ∷ tprod tunit zones ∷ [])) ≡ true ∷ false ∷ true ∷ true ∷ false ∷ false ∷ false ∷ false ∷ []
list_free_lem = refl

free_isos_lem : free_isos
    (iso_of 1 tunit tunit [] ∷ iso_of 2 units tunit [] ∷ iso_of 3 tunit units [] ∷ iso_of 4 tunit tunit (along 5 (pvar 0) (step 1 0 0 ∷ []) (pvar 1) ∷ []) ∷
    iso_of 6 tunit tunit (along 7 (pvar 0) (step 1 0 0 ∷ step 1 2 1 ∷ []) (pvar 1) ∷ []) ∷ iso_of 8 tunit tunit (along 9 (pvar 0) (step 1 5 0 ∷ []) (pvar 1) ∷ []) ∷ [])
    ≡ true ∷ false ∷ false ∷ true ∷ false ∷ true ∷ []
unfolding free_isos
free_isos_lem = refl

free_elsewhere : map (is_free (iso_of 1 units tunit [] ∷ [])) (0 ∷ 1 ∷ []) ≡ false ∷ true ∷ []
unfolding free_isos
free_elsewhere = refl

-- what stops keeps the applications made until then
stops_counted : (some 4, 2) >>> (λ n. (some (suc n), 3)) ≡ (some 5, 5)
stops_counted = refl

stopped_first : going {A = ℕ} {B = ℕ} none 2 (λ n. (some n, 3)) ≡ (none, 2)
stopped_first = refl

-- so many units in a list
abbrev long : ℕ → Val
long zero = vleaf empty_leaf
long (suc n) = vnode element_node (vleaf unit_leaf) (long n)

-- "calls nested deeper than 40 (the outermost is 1)": 39 elements are 40 calls, 40 are 41, of which the last is counted and goes no further
deepest : reduce (copying ∷ []) 0 (long 39) ∷ reduce (copying ∷ []) 0 (long 40) ∷ [] ≡ (some (long 39), 40) ∷ (none, 41) ∷ []
unfolding reduce
deepest = refl

-- without ceilings
deeper : reduce_free 41 (copying ∷ []) 0 (long 40) ∷ reduce_free 40 (copying ∷ []) 0 (long 40) ∷ [] ≡ (some (long 40), 41) ∷ (none, 41) ∷ []
unfolding reduce_free
deeper = refl

-- "An argument or result of over 127 letters": 63 units in a list are 127; a left before them is a letter more, of the result and of the argument
abbrev wrapping : Iso
wrapping = iso_of 1 units (tsum units units) (along 2 (pvar 0) [] (pinj left (pvar 0)) ∷ [])

abbrev through : Iso
through = iso_of 1 (tsum units units) (tsum units units) (along 2 (pvar 0) [] (pvar 0) ∷ [])

longest : map (λ (x : Iso × Val). reduce (x.0 ∷ []) 0 x.1) ((wrapping, long 62) ∷ (wrapping, long 63) ∷ (through, vinj left (long 62)) ∷ (through, vinj left (long 63)) ∷ [])
    ≡ (some (vinj left (long 62)), 1) ∷ (none, 1) ∷ (some (vinj left (long 62)), 1) ∷ (none, 1) ∷ []
unfolding reduce
longest = refl

small_values : map small (long 63 ∷ vinj left (long 63) ∷ []) ≡ true ∷ false ∷ []
small_values = refl
