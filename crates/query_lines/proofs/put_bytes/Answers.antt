use mathlib.Core.Path.{refl}
use Rattle.query_lines.proofs.Answering.{copied_step}
use Rattle.query_lines.proofs.put_bytes.Goals as goal

pub loop-b-preserved : goal.loop-b-preserved
loop-b-preserved c = copied_step c.loop-b.invariant c.loop-b-test.true refl c.put_byte-end.ensures.bytes_after c.put_byte-end.ensures.value
