use mathlib.Core.Path.{ap, ◌∙◌}
use Rattle.read_fields.specs.Views.{as_skipped}
use Rattle.read_fields.proofs.Bytes.{end_told}
use Rattle.read_fields.proofs.Cursor.end.Goals as goal

pub returns : goal.returns
returns c = ap (as_skipped c.args.s.now) c.then_some.ensures ∙ end_told c.args.s.now c.args.self
