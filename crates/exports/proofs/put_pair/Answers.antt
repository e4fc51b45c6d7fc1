use Rattle.area_cells.proofs.Writing.{prints_writes}
use Rattle.exports.proofs.Printing.{pair_bytes}
use Rattle.exports.proofs.put_pair.Goals as goal

pub returns : goal.returns
returns c =
    λ hk ht. pair_bytes c.args.k c.args.to (prints_writes (c.put_number-x.ensures hk)) (prints_writes (c.put_field-y.ensures ht)) c.put_byte.ensures.bytes_after c.put_byte.ensures.value
