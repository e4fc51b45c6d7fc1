use Rattle.area_cells.proofs.Writing.{prints_writes}
use Rattle.format.specs.Code.{row_view}
use Rattle.turner.proofs.Exchanging.{row_written, row_unwritten}
use Rattle.turner.proofs.put_turned_row.Goals as goal

pub returns-in-Some : goal.returns-in-Some
returns-in-Some c =
    row_written _ (row_view c.exchanged.result) c.cell.ensures.0 c.narrow_byte.ensures c.kind_of.ensures c.in-Some.is
    c.cell-in-Some.ensures c.cell-in-Some-2.ensures c.cell-in-Some-3.ensures c.exchanged.ensures (λ x y z. prints_writes (c.put_row.ensures x y z))

pub returns-in-None : goal.returns-in-None
returns-in-None c = row_unwritten c.cell.ensures.0 c.narrow_byte.ensures c.kind_of.ensures c.in-None.is
