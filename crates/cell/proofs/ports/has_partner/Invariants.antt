use Rattle.cell.proofs.FirstOnPort.{Passed}
use Rattle.cell.proofs.ports.has_partner.Given as goal

abbrev pub invariant-loop-k : goal.invariant-loop-k
invariant-loop-k l = Passed l.cell.resource l.cell.act l.cell.arg l.cell.count l.i l.k
