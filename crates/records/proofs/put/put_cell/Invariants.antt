use Rattle.records.specs.Encoding.{cell_row}
use Rattle.records.proofs.ByteRows.{RowsPut}
use Rattle.records.proofs.put.put_cell.Given as goal

abbrev pub invariant-loop-i : goal.invariant-loop-i
invariant-loop-i l = RowsPut (cell_row l.cell) 5 l.cell.count l.initial.buffer l.i l.buffer
