-- A pattern that fits a type as far as its nodes go: what refusal 10 leaves of typing once variables are taken for blanks.
use Rattle.std.specs.Prelude.{ℕ}
use Rattle.calculus.specs.Trees.{Ty, tunit, tlist, tsum, tprod, unit_leaf, empty_leaf, Tag, pair_node, element_node, Pat, pvar, pleaf, pinj, pnode, part}

-- a pattern fits a type, whatever its variables are called
pub data Shape : Pat → Ty → Type 0 where
  var : {n : ℕ} {a : Ty} → Shape (pvar n) a
  unit : Shape (pleaf unit_leaf) tunit
  nil : {a : Ty} → Shape (pleaf empty_leaf) (tlist a)
  inj : {t : Tag} {p : Pat} {a b : Ty} → Shape p (part t a b) → Shape (pinj t p) (tsum a b)
  pair : {p q : Pat} {a b : Ty} → Shape p a → Shape q b → Shape (pnode pair_node p q) (tprod a b)
  cons : {p q : Pat} {a : Ty} → Shape p a → Shape q (tlist a) → Shape (pnode element_node p q) (tlist a)
