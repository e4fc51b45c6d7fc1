use Rattle.list_file.proofs.Making.{file_over, file_made}
use Rattle.table_trees.specs.Unfolding.{type_of}
use mathlib.Core.Path.{refl}
use borrow.Author.Rules.{rules}
use Rattle.list_file.proofs.write_rows.Goals as goal

pub returns-then-end-gt-MAX_PATTERNS : goal.returns-then-end-gt-MAX_PATTERNS
returns-then-end-gt-MAX_PATTERNS c =
    file_over (type_of c.args.t.now c.args.i) (type_of c.args.t.now c.args.j) c.args.tos.now c.args.n c.args.out.now c.requires.1 c.write_pairs-end.ensures (search rules) (search rules)
    c.if-end-gt-MAX_PATTERNS.true _ refl refl

pub returns : goal.returns
returns c =
    file_made (type_of c.args.t.now c.args.i) (type_of c.args.t.now c.args.j) c.args.tos.now c.args.n c.args.out.now c.requires.1 c.write_pairs-end.ensures (search rules) (search rules)
    (search rules) c.write_type-a.ensures c.write_type-b.ensures c.if-end-gt-MAX_PATTERNS.false c.put_file-length.ensures _ refl refl
