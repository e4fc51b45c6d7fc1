use Rattle.list_file.proofs.Making.{file_heavy}
use Rattle.table_trees.specs.Unfolding.{type_of}
use Rattle.calculus.specs.Trees.{most_tags}
use Rattle.list_file.proofs.write_file.Goals as goal

pub returns-then-type_tags-gt-MAX_TAGS : goal.returns-then-type_tags-gt-MAX_TAGS
returns-then-type_tags-gt-MAX_TAGS c =
    file_heavy (type_of c.args.t.now c.args.i) (type_of c.args.t.now c.args.j) c.args.tos.now c.args.n c.args.out.now c.requires.1 {x = most_tags (type_of c.args.t.now c.args.i)} (λ x y. x)
    c.type_tags.ensures c.if-type_tags-gt-MAX_TAGS.true _ c.over.ensures

pub returns-then-type_tags-gt-MAX_TAGS-2 : goal.returns-then-type_tags-gt-MAX_TAGS-2
returns-then-type_tags-gt-MAX_TAGS-2 c =
    file_heavy (type_of c.args.t.now c.args.i) (type_of c.args.t.now c.args.j) c.args.tos.now c.args.n c.args.out.now c.requires.1 {x = most_tags (type_of c.args.t.now c.args.j)} (λ x y. y)
    c.type_tags-2.ensures c.if-type_tags-gt-MAX_TAGS-2.true _ c.over-then-type_tags-gt-MAX_TAGS-2.ensures
