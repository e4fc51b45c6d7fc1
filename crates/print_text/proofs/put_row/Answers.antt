use Rattle.format.specs.Code.{row_view}
use Rattle.print_text.proofs.Written.{start_bytes, row_two, row_three}
use Rattle.print_text.proofs.put_row.Goals as goal

pub returns-then-fields_of-eq2 : goal.returns-then-fields_of-eq2
returns-then-fields_of-eq2 c =
    let r = row_view c.args.r in
    λ hx hy hz.
    row_two r c.fields_of.ensures c.if-fields_of-eq2.true
    (start_bytes r c.letter_of.ensures c.put_byte-x.ensures.bytes_after c.put_byte-x.ensures.value (c.put_field-y.ensures hx) (c.put_field-z.ensures hy))
    c.put_byte.ensures.bytes_after c.put_byte.ensures.value

pub returns : goal.returns
returns c =
    let r = row_view c.args.r in
    λ hx hy hz.
    row_three r c.fields_of.ensures c.if-fields_of-eq2.false
    (start_bytes r c.letter_of.ensures c.put_byte-x.ensures.bytes_after c.put_byte-x.ensures.value (c.put_field-y.ensures hx) (c.put_field-z.ensures hy))
    (c.put_field-end.ensures hz) c.put_byte-2.ensures.bytes_after c.put_byte-2.ensures.value
