use mathlib.Core.Path.{◌≡◌}
use mathlib.Core.Bool.{false}
use Prim.Native.Nat.{ℕ, ◌-◌, ◌<◌, ◌≤◌}
use Rattle.recipe.specs.declared.Recipe.{Recipe}
use Rattle.install.specs.Search.{is_tried, Question}
use Rattle.install.proofs.Mending.next_candidate.Given as goal

abbrev pub invariant-loop-n : goal.invariant-loop-n
invariant-loop-n l = (l.from ≤ l.n)
    × (l.n ≤ l.self.end)
    × ((r : Recipe) → Question l.self.cell.now r l.self.sizes.now l.self.named → (m : ℕ) → l.from ≤ m → m < l.n → is_tried l.self.cell.now r m ≡ false)

abbrev pub decreases-loop-n : goal.decreases-loop-n
decreases-loop-n l = l.self.end - l.n
