use Rattle.imports.proofs.Listing.{list_good}
use Rattle.table_trees.specs.Unfolding.{type_of}
use borrow.Author.Rules.{rules}
use Rattle.imports.proofs.import_list.Goals as goal

pub returns : goal.returns
returns c =
    list_good (type_of c.args.t.now c.args.i) (type_of c.args.t.now c.args.j) c.args.list.now c.args.out.now c.count_lines-n.ensures c.if-n-gt-MAX_CLAUSES.false c.count_values-from.ensures
    c.count_values-to.ensures c.read_list.new.tos c.read_list.result (search rules) c.read_list.ensures c.if-not-read_list.false c.read_list.auto.tos c.write_file.ensures
