use Rattle.check_places.proofs.Sides.{started}
use Rattle.check_places.proofs.separate.Goals as goal

pub placed_all-requires : goal.placed_all-requires
placed_all-requires c = (started c.requires.0 c.requires.1 c.requires.2 c.if-f-base.false c.if-base-a.false c.number.ensures.0 c.if-number-gt-PLACES.false, c.requires.3)
