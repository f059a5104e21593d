use mathlib.Core.Path.{◌≡◌}
use mathlib.Core.List.{◌++◌}
use Prim.Native.Nat.{◌+◌, ◌*◌}
use lib.ListN.{get_or, drop, replicate}
use Rattle.refusals.specs.Search.{tabulate}
use Rattle.records.proofs.get.column.Given as goal

abbrev pub invariant-loop-n : goal.invariant-loop-n
invariant-loop-n l = l.column ≡ tabulate l.n (λ row. get_or l.bytes (1 + row * l.width + l.i) 0) ++ drop l.n (replicate 64 0)
