use Prim.Native.Nat.{◌-◌}
use lib.ListN.{length}
use Rattle.tables.specs.Reading.{Kept}
use Rattle.tables.proofs.ValueLines.{Judges}
use Rattle.tables.proofs.rules.check_lines.Given as goal

abbrev pub invariant-loop-at : goal.invariant-loop-at
invariant-loop-at l = record { judges : Judges l.k l.file l.n l.at; kept : Kept l.k l.file l.n l.store }

abbrev pub decreases-loop-at : goal.decreases-loop-at
decreases-loop-at l = length l.file - l.at
