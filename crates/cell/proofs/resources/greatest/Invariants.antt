use Rattle.std.proofs.Common.{◌≡◌}
use Rattle.cell.specs.Rules.{greatest_resource}
use Rattle.cell.proofs.resources.greatest.Given as goal

abbrev pub invariant-loop-i : goal.invariant-loop-i
invariant-loop-i l = l.most ≡ greatest_resource l.cell.resource l.i
