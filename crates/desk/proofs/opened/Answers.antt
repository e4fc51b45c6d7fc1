use Rattle.desk.proofs.Feeding.{start_desk}
use Rattle.desk.proofs.opened.Goals as goal

pub returns : goal.returns
returns c = start_desk c.state.ensures
