use Rattle.print_text.proofs.Written.{field_bytes}
use Rattle.print_text.proofs.put_field.Goals as goal

pub returns : goal.returns
returns c = λ f. field_bytes c.args.n c.put_byte-next.ensures.bytes_after c.put_byte-next.ensures.value (c.put_number.ensures f)
