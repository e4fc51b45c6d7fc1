-- Examples that shut out wrong readings of request 04. Each holds by computation.
use Rattle.std.specs.Prelude.{◌≡◌, true, false, refl}
use Rattle.calculus.specs.Trees.{Pat, pvar, pleaf, pinj, pnode, unit_leaf, empty_leaf, pair_node, element_node, left, right}
use Rattle.calculus.specs.Refusals.{no_iso}
use Rattle.model.specs.Services.{verdict, gives, fails}
use Rattle.model.specs.Cases.{file_s}
use Rattle.check_overlap.specs.Comparison.{compare}
use Rattle.check_overlap.specs.Overlap.{patterns_of, overlap_on}

abbrev l : Pat
l = pinj left (pleaf unit_leaf)

abbrev r : Pat
r = pinj right (pleaf unit_leaf)

-- The clash counts.
clash_counts : compare l r ≡ record { clash = true; pairs = 1 }
clash_counts = refl

-- Nothing below a variable is compared, and the variable counts.
below_a_variable : compare (pnode pair_node (pvar 0) l) (pnode pair_node (pnode pair_node l l) l) ≡ record { clash = false; pairs = 4 }
below_a_variable = refl

-- It stops at the first clash, though there is another.
first_clash : compare (pnode pair_node l r) (pnode pair_node r l) ≡ record { clash = true; pairs = 2 }
first_clash = refl

-- The first part of a pair comes before the second: pair, pair, unit, clash.
first_part_first : compare (pnode pair_node (pnode pair_node (pleaf unit_leaf) l) r) (pnode pair_node (pnode pair_node (pleaf unit_leaf) r) l) ≡ record { clash = true; pairs = 4 }
first_part_first = refl

-- Nodes of different shape count once, and what follows is compared.
other_shapes : compare (pnode pair_node (pleaf unit_leaf) l) (pnode pair_node (pnode pair_node l l) r) ≡ record { clash = true; pairs = 3 }
other_shapes = refl

-- Request 14: empty and an element clash, two elements are compared part by part.
empty_clashes : compare (pnode pair_node l (pleaf empty_leaf)) (pnode pair_node l (pnode element_node (pvar 0) (pvar 1))) ≡ record { clash = true; pairs = 4 }
empty_clashes = refl

two_elements : compare (pnode element_node l (pleaf empty_leaf)) (pnode element_node (pvar 0) (pleaf empty_leaf)) ≡ record { clash = false; pairs = 3 }
two_elements = refl

-- P lines 5 and 7 of S clash below their pairs, 5 and 6 do not; there is no P line 8.
lines_of_S : overlap_on (verdict file_s) 5 7 ≡ gives (record { clash = true; pairs = 2 })
unfolding verdict patterns_of
lines_of_S = refl

no_clash_in_S : overlap_on (verdict file_s) 6 5 ≡ gives (record { clash = false; pairs = 4 })
unfolding verdict patterns_of
no_clash_in_S = refl

no_such_line : overlap_on (verdict file_s) 0 8 ≡ fails no_iso
unfolding verdict patterns_of
no_such_line = refl
