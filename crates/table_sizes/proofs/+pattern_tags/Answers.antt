use native.Mathlib.Omega.{arith}
use Rattle.table_trees.proofs.Cases.{injects, plain_below, plain_beyond}
use Rattle.table_sizes.proofs.Counts.{pattern_tags_leaf, pattern_tags_inj, pattern_tags_pair, pattern_tags_empty, pattern_tags_element}
use Rattle.table_sizes.proofs.+pattern_tags.Goals as goal

pub returns-in-4 : goal.returns-in-4
returns-in-4 t c =
    pattern_tags_pair c.args.t.now c.args.base c.args.j c.pattern_cell.ensures.0 c.in-4.is c.pattern_cell-in-4.ensures.0 c.smaller-a.ensures c.pattern_cell-in-4-2.ensures.0
    c.smaller-b.ensures c.pattern_tags.ensures c.pattern_tags-in-4.ensures c.together.ensures

pub returns-in-5 : goal.returns-in-5
returns-in-5 t c = pattern_tags_empty c.args.t.now c.args.base c.args.j c.pattern_cell.ensures.0 c.in-5.is

pub returns-in-6 : goal.returns-in-6
returns-in-6 t c =
    pattern_tags_element c.args.t.now c.args.base c.args.j c.pattern_cell.ensures.0 c.in-6.is c.pattern_cell-in-6.ensures.0 c.smaller-a-in-6.ensures c.pattern_cell-in-6-2.ensures.0
    c.smaller-b-in-6.ensures c.pattern_tags-in-6-2.ensures c.pattern_tags-in-6.ensures c.together-tail.ensures c.together-in-6.ensures

pub returns-in-2 : goal.returns-in-2
returns-in-2 t c =
    pattern_tags_inj c.args.t.now c.args.base c.args.j c.pattern_cell.ensures.0 (injects _ c.in-2.if-this-lt2-own.false c.in-2.if-this-lt4-own.true) c.pattern_cell-in-2.ensures.0
    c.smaller-a-in-2.ensures c.pattern_tags-in-2.ensures c.together-in-2.ensures

pub returns-in_default : goal.returns-in_default
returns-in_default t c = pattern_tags_leaf c.args.t.now c.args.base c.args.j c.pattern_cell.ensures.0 (plain_below _ (omega arith))

pub returns-in_default-2 : goal.returns-in_default-2
returns-in_default-2 t c =
    pattern_tags_leaf c.args.t.now c.args.base c.args.j c.pattern_cell.ensures.0
    (plain_beyond _ (omega arith) c.in_default.in_default-own.rest.0.0.1 c.in_default.in_default-own.rest.0.1 c.in_default.in_default-own.rest.1)
