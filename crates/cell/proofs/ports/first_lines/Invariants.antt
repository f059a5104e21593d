use Rattle.cell.specs.Inner.{Starts}
use Rattle.cell.proofs.ports.first_lines.Given as goal

abbrev pub invariant-loop-n : goal.invariant-loop-n
invariant-loop-n l = Starts l.cell.act l.cell.arg l.cell.count l.n l.first
