use Rattle.tables.proofs.LineWalk.{Stands}
use Rattle.tables.proofs.lines.find_line.Given as goal

abbrev pub invariant-loop : goal.invariant-loop
invariant-loop l = Stands l.file l.counter l.at
