use mathlib.Core.Path.{◌≡◌}
use Prim.Native.Nat.{◌+◌, ◌*◌, ◌-◌}
use lib.ListN.{length}
use Rattle.install.specs.Search.{SoFar, Standing}
use Rattle.install.proofs.search.seek.Given as goal

abbrev pub invariant-loop-at : goal.invariant-loop-at
invariant-loop-at l = (length l.table ≡ length l.initial.table)
    × (length l.scratch ≡ length l.initial.scratch)
    × (length l.list ≡ length l.initial.list)
    × Standing l.cell l.end l.at
    × SoFar l.cell l.recipe l.initial.list l.at.next l.at.found l.list

abbrev pub decreases-loop-at : goal.decreases-loop-at
decreases-loop-at l = (l.end - l.at.next) * 65 + l.at.size
