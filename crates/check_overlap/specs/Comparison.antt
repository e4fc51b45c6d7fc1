-- Request 04, "Stop at the first clash": two patterns compared node with node.
use Rattle.std.specs.Prelude.{ℕ, ◌+◌, Bool, true, false, cond, not, ◌||◌, List, [], ◌∷◌, ◌++◌}
use Rattle.calculus.specs.Trees.{Pat, pvar, pleaf, pinj, pnode, same_tag, same_node}
use Rattle.calculus.specs.Clauses.{clash_leaf}

-- whether two patterns clash, and "the number of node pairs compared, the clash included"
pub record Compared : Type 0 where
  pub clash : Bool
  pub pairs : ℕ

-- two nodes laid on each other, and "a left against a right", or with request 14 empty against an element
abbrev pub met : Compared
met = record { clash = false; pairs = 1 }

abbrev pub clashed : Compared
clashed = record { clash = true; pairs = 1 }

-- a comparison, and the one that follows it in prefix order: it "stops at the first clash"
abbrev pub and_then : Compared → Compared → Compared
and_then a b = cond a.clash a (record { clash = b.clash; pairs = a.pairs + b.pairs })

-- "It compares node with node in prefix order, nothing below a variable". Nodes of different shape that neither clash nor hold a variable fit
-- no common type: nothing below them is compared.
abbrev pub compare : Pat → Pat → Compared
compare (pvar n) q = met
compare (pleaf l) (pvar m) = met
compare (pleaf l) (pleaf k) = met
compare (pleaf l) (pinj t q) = met
compare (pleaf l) (pnode k q q') = cond (clash_leaf l k) clashed met
compare (pinj s p) (pvar m) = met
compare (pinj s p) (pleaf k) = met
compare (pinj s p) (pinj t q) = cond (same_tag s t) (and_then met (compare p q)) clashed
compare (pinj s p) (pnode k q q') = met
compare (pnode k p p') (pvar m) = met
compare (pnode k p p') (pleaf l) = cond (clash_leaf l k) clashed met
compare (pnode k p p') (pinj t q) = met
compare (pnode k p p') (pnode m q q') = cond (same_node k m) (and_then met (and_then (compare p q) (compare p' q'))) met

-- ---- the same, as a list that is cut off

-- the nodes laid on each other, in prefix order: each with all that is below it
abbrev pub laid : Pat → Pat → List (Pat × Pat)
laid (pvar n) q = (pvar n, q) ∷ []
laid (pleaf l) q = (pleaf l, q) ∷ []
laid (pinj s p) (pvar m) = (pinj s p, pvar m) ∷ []
laid (pinj s p) (pleaf k) = (pinj s p, pleaf k) ∷ []
laid (pinj s p) (pinj t q) = (pinj s p, pinj t q) ∷ laid p q
laid (pinj s p) (pnode k q q') = (pinj s p, pnode k q q') ∷ []
laid (pnode k p p') (pvar m) = (pnode k p p', pvar m) ∷ []
laid (pnode k p p') (pleaf l) = (pnode k p p', pleaf l) ∷ []
laid (pnode k p p') (pinj t q) = (pnode k p p', pinj t q) ∷ []
laid (pnode k p p') (pnode m q q') = (pnode k p p', pnode m q q') ∷ cond (same_node k m) (laid p q ++ laid p' q') []

-- a left against a right, empty against an element
abbrev pub opposed : Pat → Pat → Bool
opposed (pvar n) q = false
opposed (pleaf l) (pvar m) = false
opposed (pleaf l) (pleaf k) = false
opposed (pleaf l) (pinj t q) = false
opposed (pleaf l) (pnode k q q') = clash_leaf l k
opposed (pinj s p) (pvar m) = false
opposed (pinj s p) (pleaf k) = false
opposed (pinj s p) (pinj t q) = not (same_tag s t)
opposed (pinj s p) (pnode k q q') = false
opposed (pnode k p p') (pvar m) = false
opposed (pnode k p p') (pleaf l) = clash_leaf l k
opposed (pnode k p p') (pinj t q) = false
opposed (pnode k p p') (pnode m q q') = false

abbrev pub clashes : Pat × Pat → Bool
clashes x = opposed x.0 x.1

abbrev pub any : {A : Type 0} → (A → Bool) → List A → Bool
any f [] = false
any f (x ∷ xs) = f x || any f xs

-- up to the first that passes a test, that one included
abbrev pub up_to : {A : Type 0} → (A → Bool) → List A → List A
up_to f [] = []
up_to f (x ∷ xs) = cond (f x) (x ∷ []) (x ∷ up_to f xs)
