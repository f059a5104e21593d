use mathlib.Core.Path.{◌≡◌}
use Prim.Native.Nat.{◌+◌, ◌<◌, ◌≤◌}
use Rattle.recipe.specs.declared.Recipe.{Recipe}
use Rattle.install.specs.Search.{Question, Gathered}
use Rattle.install.proofs.Mending.gather.Given as goal

abbrev pub invariant-loop-added : goal.invariant-loop-added
invariant-loop-added l = (l.longer.count ≡ l.self.cell.now.count + l.added)
    × (l.from ≤ l.next)
    × (l.next ≤ l.self.end)
    × (l.from ≤ l.last)
    × (1 ≤ l.added → l.last < l.next)
    × ((r : Recipe) → Question l.self.cell.now r l.self.sizes.now l.self.named → Gathered l.self.cell.now r l.from l.next l.added l.last l.longer)
