use Rattle.tables.proofs.LineFields.{Reads}
use Rattle.tables.proofs.row.read_line.Given as goal

abbrev pub invariant-loop-j : goal.invariant-loop-j
invariant-loop-j l = Reads l.k l.text l.at l.j l.values
