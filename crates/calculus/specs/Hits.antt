-- "A clause matches a closed value": how often the patterns of a side match one, counted.
use Rattle.std.specs.Prelude.{ℕ, ◌*◌, cond, List, map}
use Rattle.calculus.specs.Tools.{total}
use Rattle.calculus.specs.Trees.{Pat, pvar, pleaf, pinj, pnode, Val, vleaf, vinj, vnode, same_leaf, same_tag, same_node}

-- 1 where the pattern, its variables taken for blanks, matches; 0 elsewhere
abbrev pub hit : Pat → Val → ℕ
hit (pvar n) v = 1
hit (pleaf l) (vleaf k) = cond (same_leaf l k) 1 0
hit (pleaf l) (vinj t v) = 0
hit (pleaf l) (vnode k v w) = 0
hit (pinj s p) (vleaf k) = 0
hit (pinj s p) (vinj t v) = cond (same_tag s t) (hit p v) 0
hit (pinj s p) (vnode k v w) = 0
hit (pnode m p q) (vleaf k) = 0
hit (pnode m p q) (vinj t v) = 0
hit (pnode m p q) (vnode k v w) = cond (same_node m k) (hit p v * hit q w) 0

-- how many patterns match
abbrev pub hits : List Pat → Val → ℕ
hits ps v = total (map (λ p. hit p v) ps)
