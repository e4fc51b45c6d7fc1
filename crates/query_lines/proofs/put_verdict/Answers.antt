use Rattle.query_lines.proofs.Answering.{file_line_lem}
use Rattle.query_lines.proofs.put_verdict.Goals as goal

pub returns : goal.returns
returns c =
    λ h. file_line_lem c.args.number c.args.line c.wide_byte-n.ensures.value c.wide_byte-n.ensures.upper_bound c.put_number-a.ensures (c.put_field-b.ensures h) c.put_byte.ensures.bytes_after
    c.put_byte.ensures.value
