use Rattle.area_cells.proofs.Writing.{prints_writes}
use Rattle.list_file.proofs.Printing.{file_printed}
use Rattle.list_entries.specs.Entries.{entries_at}
use Rattle.law_pairlists.specs.PairLists.{iso_row}
use Rattle.calculus.specs.Refusals.{type_line, pattern_line, clause_line}
use native.Mathlib.Omega.{arith}
use Rattle.list_file.proofs.put_file.Goals as goal

pub returns : goal.returns
returns c =
    (λ x y. let a = c.args in file_printed (entries_at type_line a.ts.now 0 a.m.types) (entries_at pattern_line a.ps.now 0 a.m.patterns)
    (entries_at clause_line a.cs.now 0 a.m.clauses) (iso_row a.m.from a.m.to) c.put_entries-x.ensures c.put_entries-y.ensures
    (prints_writes (c.put_row-z.ensures x y (omega arith))) c.put_entries.ensures)
