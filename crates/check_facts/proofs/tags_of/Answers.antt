use native.Mathlib.Omega.{arith}
use Rattle.table_sizes.proofs.Counts.{pattern_tags_leaf, pattern_tags_empty}
use Rattle.table_trees.proofs.Cases.{injects, plain_below, plain_beyond}
use Rattle.check_facts.proofs.Finding.{tags_pair, tags_element, tags_inj}
use Rattle.check_facts.proofs.tags_of.Goals as goal

pub returns-in-4 : goal.returns-in-4
returns-in-4 c =
    tags_pair _ _ _ _ c.requires.1 c.pattern_cell.ensures.0 c.pattern_cell-in-4.ensures.0 c.told-m.ensures c.in-4.is c.pattern_cell-in-4-2.ensures.0 c.told-n.ensures c.together.ensures

pub returns-in-5 : goal.returns-in-5
returns-in-5 c = pattern_tags_empty _ _ _ c.pattern_cell.ensures.0 c.in-5.is

pub returns-in-6 : goal.returns-in-6
returns-in-6 c =
    tags_element _ _ _ _ c.requires.1 c.pattern_cell.ensures.0 c.pattern_cell-in-6.ensures.0 c.told-m-in-6.ensures c.in-6.is c.pattern_cell-in-6-2.ensures.0 c.told-n-in-6.ensures
    c.together-in-6.ensures c.together-in-6-2.ensures

pub returns-in-2 : goal.returns-in-2
returns-in-2 c =
    tags_inj _ _ _ _ c.requires.1 c.pattern_cell.ensures.0 c.pattern_cell-in-2.ensures.0 c.told.ensures (injects _ (omega arith) (omega arith)) c.together-in-2.ensures

pub returns-in_default : goal.returns-in_default
returns-in_default c = pattern_tags_leaf _ _ _ c.pattern_cell.ensures.0 (plain_below _ (omega arith))

pub returns-in_default-2 : goal.returns-in_default-2
returns-in_default-2 c =
    pattern_tags_leaf _ _ _ c.pattern_cell.ensures.0 (plain_beyond _ (omega arith) c.in_default.in_default-own.rest.0.0.1 c.in_default.in_default-own.rest.0.1 c.in_default.in_default-own.rest.1)
