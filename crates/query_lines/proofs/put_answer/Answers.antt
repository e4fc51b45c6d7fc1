use Rattle.query_lines.proofs.Answering.{query_line_lem}
use Rattle.query_lines.proofs.put_answer.Goals as goal

pub returns : goal.returns
returns c =
    query_line_lem c.args.number c.args.count c.args.letters.now c.wide_byte-n.ensures.value c.wide_byte-n.ensures.upper_bound c.wide_number-k.ensures.value
    c.wide_number-k.ensures.upper_bound c.put_number-a.ensures c.put_field-b.ensures c.put_byte-c.ensures.bytes_after c.put_byte-c.ensures.value c.put_bytes-d.ensures
    c.put_byte.ensures.bytes_after c.put_byte.ensures.value
