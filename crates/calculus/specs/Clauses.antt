-- "What a clause and an iso must satisfy", as tests that compute: refusals 8 to 14 and 23.
use Rattle.std.specs.Prelude.{ℕ, ◌+◌, ◌-◌, ◌^◌, suc, Bool, true, false, cond, not, ◌&&◌, ◌||◌, List, [], ◌∷◌, ◌++◌, map, eqb}
use Rattle.std.proofs.Math.Option.{Option, none, some}
use Rattle.std.proofs.Math.ListN.{get_elem?}
use Rattle.limits.specs.Limits.{max_tags}
use Rattle.calculus.specs.Tools.{◌>>=◌, guard, all, total, first_failing, first_of, or_else, stages}
use Rattle.calculus.specs.Trees.{Ty, tunit, tsum, tprod, left, right, Pat, pvar, pinj, Let, Clause, Iso, same_tag, same_type, tags, vars, tlist, Leaf}
use Rattle.calculus.specs.Trees.{unit_leaf, empty_leaf, Node, pair_node, element_node, pleaf, pnode, same_node, leaf_fits, beneath, parts, invert}
use Rattle.calculus.specs.Slots.{Slots, put, get, empty, all_empty}
use Rattle.calculus.specs.Refusals.{Refusal, clause_line, iso_line, variable, let_shape, bad_type, overlap, gap, recursion}

-- 8. "the left pattern binds its variables; each L in order uses those of q, then binds those of p; the right pattern uses the
-- rest": what happens to variables, in order.
pub data Deed : Type 0 where
  binds uses : Deed

pub record Event : Type 0 where
  pub deed : Deed
  pub name : ℕ

abbrev pub deeds : Deed → Pat → List Event
deeds d p = map (λ n. record { deed = d; name = n }) (vars p)

abbrev pub let_events : List Let → List Event
let_events [] = []
let_events (l ∷ ls) = deeds uses l.q ++ (deeds binds l.p ++ let_events ls)

abbrev pub events : Clause → List Event
events c = deeds binds c.lhs ++ (let_events c.lets ++ deeds uses c.rhs)

-- what happens to one variable
abbrev pub history : ℕ → List Event → List Deed
history n [] = []
history n (v ∷ vs) = cond (eqb n v.name) (v.deed ∷ history n vs) (history n vs)

-- Request 03: "A number must now not be live (bound and still unused) when it is bound; it may have been used up earlier in the clause."
-- So it is bound and then used, any number of times.
abbrev pub alternate : List Deed → Bool
alternate [] = true
alternate (uses ∷ ds) = false
alternate (binds ∷ []) = false
alternate (binds ∷ (binds ∷ ds)) = false
alternate (binds ∷ (uses ∷ ds)) = alternate ds

unfoldable pub variables_rule : Clause → Bool
variables_rule c = all (λ v. alternate (history v.name (events c))) (events c)

-- 9. "Let patterns p and q hold only unit, variables and pairs."
abbrev pub plain_leaf : Leaf → Bool
plain_leaf unit_leaf = true
plain_leaf empty_leaf = false

abbrev pub plain_node : Node → Bool
plain_node pair_node = true
plain_node element_node = false

abbrev pub plain : Pat → Bool
plain (pvar n) = true
plain (pleaf l) = plain_leaf l
plain (pinj t p) = false
plain (pnode k p q) = plain_node k && (plain p && plain q)

unfoldable pub let_shapes : Clause → Bool
let_shapes c = all (λ l. plain l.p && plain l.q) c.lets

-- 10. "makes the left pattern fit the from-type, the right pattern the to-type", with a slot for the type of each live variable, as "Each
-- binding has its own type" (request 03). Binding a pattern that fits a type puts the types of its variables; using it gets them, those of a
-- pair's second part first, so that the two undo each other.
abbrev pub learn : Pat → Ty → Slots Ty → Option (Slots Ty)
learn (pvar n) a e = put n a e
learn (pleaf l) a e = guard (leaf_fits l a) >>= λ _. some e
learn (pinj t p) a e = beneath t a >>= λ b. learn p b e
learn (pnode k p q) a e = parts k a >>= λ s. learn p s.0 e >>= λ d. learn q s.1 d

abbrev pub spend : Pat → Ty → Slots Ty → Option (Slots Ty)
spend (pvar n) a e = get n e >>= λ r. guard (same_type r.0 a) >>= λ _. some r.1
spend (pleaf l) a e = guard (leaf_fits l a) >>= λ _. some e
spend (pinj t p) a e = beneath t a >>= λ b. spend p b e
spend (pnode k p q) a e = parts k a >>= λ s. spend q s.1 e >>= λ d. spend p s.0 d

-- the types of the isos by number: from-type, then to-type
abbrev pub Sigs : Type 0
Sigs = List (Ty × Ty)

-- "each q and p the from- and to-type of its iso"
abbrev pub type_lets : Sigs → List Let → Slots Ty → Option (Slots Ty)
type_lets sigs [] e = some e
type_lets sigs (l ∷ ls) e =
    get_elem? sigs l.iso >>= λ s. spend l.q s.0 e >>= λ f. learn l.p s.1 f >>= λ h. type_lets sigs ls h

abbrev pub type_clause : Sigs → Ty → Ty → Clause → Option (Slots Ty)
type_clause sigs a b c = learn c.lhs a (empty Ty) >>= λ d. type_lets sigs c.lets d >>= λ h. spend c.rhs b h

-- all patterns fit, and no variable is live in the end
abbrev pub used : Option (Slots Ty) → Bool
used none = false
used (some e) = all_empty e

unfoldable pub typed : Sigs → Ty → Ty → Clause → Bool
unfolding empty
typed sigs a b c = used (type_clause sigs a b c)

-- "each clause in order, lowest of 8 to 10"
unfoldable pub clause_fault : Sigs → Ty → Ty → Clause → Option Refusal
unfolding variables_rule let_shapes typed
clause_fault sigs a b c =
    first_failing ((variables_rule c, variable clause_line) ∷ (let_shapes c, let_shape clause_line) ∷ (typed sigs a b c, bad_type clause_line) ∷ [])

-- 11 and 12. The orthogonality of section 2.2, in prefix order: a left against a right is a clash, and so is empty against an element;
-- nothing below a variable is.
abbrev pub clash_leaf : Leaf → Node → Bool
clash_leaf unit_leaf k = false
clash_leaf empty_leaf pair_node = false
clash_leaf empty_leaf element_node = true

abbrev pub clash : Pat → Pat → Bool
clash (pvar n) q = false
clash (pleaf l) (pvar m) = false
clash (pleaf l) (pleaf k) = false
clash (pleaf l) (pinj t q) = false
clash (pleaf l) (pnode k q q') = clash_leaf l k
clash (pinj s p) (pvar m) = false
clash (pinj s p) (pleaf k) = false
clash (pinj s p) (pinj t q) = not (same_tag s t) || clash p q
clash (pinj s p) (pnode k q q') = false
clash (pnode m p p') (pvar n) = false
clash (pnode m p p') (pleaf l) = clash_leaf l m
clash (pnode m p p') (pinj t q) = false
clash (pnode m p p') (pnode k q q') = same_node m k && (clash p q || clash p' q')

abbrev pub apart : List Pat → Bool
apart [] = true
apart (p ∷ ps) = all (clash p) ps && apart ps

-- 13 and 14. A pattern with k left and right nodes weighs 2^(40 - k); orthogonal patterns that fit a type match every closed value
-- of it exactly when they weigh 2^40 together (the law of covering).
abbrev pub weight : Pat → ℕ
weight p = 2 ^ (max_tags - tags p)

abbrev pub full_weight : List Pat → Bool
full_weight ps = eqb (total (map weight ps)) (2 ^ max_tags)

abbrev pub lefts : Iso → List Pat
lefts o = map (λ c. c.lhs) o.clauses

abbrev pub rights : Iso → List Pat
rights o = map (λ c. c.rhs) o.clauses

-- "then the iso, lowest of 11 to 14"
unfoldable pub side_fault : Iso → Option Refusal
side_fault o =
    first_failing
    ((apart (lefts o), overlap iso_line left)
    ∷ (apart (rights o), overlap iso_line right)
    ∷ (full_weight (lefts o), gap iso_line left)
    ∷ (full_weight (rights o), gap iso_line right)
    ∷ [])

abbrev pub at : ℕ → Option Refusal → Option (Refusal × ℕ)
at n none = none
at n (some f) = some (f, n)

-- 23. A let step that calls iso i
abbrev pub calls : ℕ → Let → Bool
calls i l = eqb l.iso i

abbrev pub no_calls : ℕ → List Let → Bool
no_calls i ls = all (λ l. not (calls i l)) ls

abbrev pub calls_itself : ℕ → Iso → Bool
calls_itself i o = not (all (λ c. no_calls i c.lets) o.clauses)

-- "its from-type is a list, or a product whose first part is one"
abbrev pub is_list : Ty → Bool
is_list tunit = false
is_list (tlist a) = true
is_list (tsum a b) = false
is_list (tprod a b) = false

abbrev pub zoned : Ty → Bool
zoned tunit = false
zoned (tlist a) = true
zoned (tsum a b) = false
zoned (tprod a b) = is_list a

-- what a left pattern shows there
abbrev pub shown : Pat → Pat
shown (pvar n) = pvar n
shown (pleaf l) = pleaf l
shown (pinj t p) = pinj t p
shown (pnode pair_node p q) = p
shown (pnode element_node p q) = pnode element_node p q

-- "on that element's whole tail, a variable, …, alone or as the first part of a pair"
abbrev pub is_var : ℕ → Pat → Bool
is_var n (pvar m) = eqb n m
is_var n (pleaf l) = false
is_var n (pinj t p) = false
is_var n (pnode k p q) = false

abbrev pub on_tail : ℕ → Pat → Bool
on_tail n (pvar m) = eqb n m
on_tail n (pleaf l) = false
on_tail n (pinj t p) = false
on_tail n (pnode pair_node p q) = is_var n p
on_tail n (pnode element_node p q) = false

abbrev pub elem : ℕ → List ℕ → Bool
elem n [] = false
elem n (m ∷ ms) = eqb n m || elem n ms

-- "another makes at most one, on that element's whole tail, …, as the left pattern bound it": variable n holds the tail until a let step
-- uses it; the same number may then be bound again, and is no longer the tail.
abbrev pub tail_calls : ℕ → ℕ → List Let → Bool
tail_calls i n [] = true
tail_calls i n (l ∷ ls) =
    cond (calls i l) (on_tail n l.q && no_calls i ls) (cond (elem n (vars l.q)) (no_calls i ls) (tail_calls i n ls))

abbrev pub tail_rule : ℕ → Pat → List Let → Bool
tail_rule i (pvar n) ls = tail_calls i n ls
tail_rule i (pleaf l) ls = no_calls i ls
tail_rule i (pinj t p) ls = no_calls i ls
tail_rule i (pnode k p q) ls = no_calls i ls

-- "each left pattern shows empty or an element there; a clause with empty makes no such call"
abbrev pub shown_rule : ℕ → Pat → List Let → Bool
shown_rule i (pvar n) ls = false
shown_rule i (pleaf unit_leaf) ls = false
shown_rule i (pleaf empty_leaf) ls = no_calls i ls
shown_rule i (pinj t p) ls = false
shown_rule i (pnode pair_node p q) ls = false
shown_rule i (pnode element_node p q) ls = tail_rule i q ls

abbrev pub clause_rule : ℕ → Clause → Bool
clause_rule i c = shown_rule i (shown c.lhs) c.lets

-- the rule in the direction in which the iso is written
unfoldable pub structural : ℕ → Iso → Bool
structural i o = zoned o.from && all (clause_rule i) o.clauses

-- "that iso, as written or as turned, must meet this"
unfoldable pub recursion_rule : ℕ → Iso → Bool
unfolding structural
recursion_rule i o = not (calls_itself i o) || (structural i o || structural i (invert o))

-- "at the I line where the from-type is neither, otherwise at the first C line that breaks the rule as written"
abbrev pub at_breach : ℕ → Clause → Option (Refusal × ℕ)
at_breach i c = cond (clause_rule i c) none (some (recursion clause_line, c.line))

abbrev pub breach : ℕ → Iso → Option (Refusal × ℕ)
breach i o = cond (zoned o.from) (first_of (at_breach i) o.clauses) (some (recursion iso_line, o.line))

unfoldable pub recursion_fault : ℕ → Iso → Option (Refusal × ℕ)
unfolding recursion_rule
recursion_fault i o = cond (recursion_rule i o) none (breach i o)

-- the tests of iso i, in their order: its clauses, then its calls of itself ("tested when all clauses of the iso have passed 8 to 10 and before
-- 11"), then its sides. A stage more is a test more in this list.
abbrev pub iso_tests : Sigs → ℕ → List (Iso → Option (Refusal × ℕ))
iso_tests sigs i =
    (λ o. first_of (λ c. at c.line (clause_fault sigs o.from o.to c)) o.clauses)
    ∷ (λ o. recursion_fault i o)
    ∷ (λ o. at o.line (side_fault o))
    ∷ []

-- the first refusal of iso i, at its C line or its I line
unfoldable pub iso_fault : Sigs → ℕ → Iso → Option (Refusal × ℕ)
unfolding clause_fault recursion_fault side_fault
iso_fault sigs i o = stages (iso_tests sigs i) o

abbrev pub sigs_of : List Iso → Sigs
sigs_of os = map (λ o. (o.from, o.to)) os

-- "the isos in order", numbered from i on
abbrev pub fault_from : Sigs → ℕ → List Iso → Option (Refusal × ℕ)
fault_from sigs i [] = none
fault_from sigs i (o ∷ os) = or_else (iso_fault sigs i o) (fault_from sigs (suc i) os)

unfoldable pub fault : List Iso → Option (Refusal × ℕ)
unfolding iso_fault
fault os = fault_from (sigs_of os) 0 os
