use Rattle.witness.proofs.Serving.{searched_says}
use Rattle.witness.proofs.searched.Goals as goal

pub returns : goal.returns
returns c =
    searched_says c.args.file.now c.args.table.now c.args.res.now _ _ _ c.entered-c.result c.settled-d.result c.show_fault-n.result c.requires.0 c.requires.1 c.requires.2 c.entered-c.ensures
    c.settled-d.ensures c.number_of-number.result c.number_of-number.ensures c.show_fault-n.ensures _ c.measured.ensures
