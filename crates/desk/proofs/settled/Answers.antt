use Rattle.desk.proofs.Settling.{settled_file}
use Rattle.desk.proofs.settled.Goals as goal

pub returns-in-File : goal.returns-in-File
returns-in-File c = settled_file c.args.d c.in-File.is
