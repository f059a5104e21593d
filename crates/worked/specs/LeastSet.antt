-- A misreading of document 01, to compare with the greatest simulation: "a least set, which loses rework loops". Assumes nothing.
use Rattle.std.specs.Prelude.{◌≡◌, true, ℕ}
use Rattle.cell.specs.declared.Cell.{Cell}
use Rattle.recipe.specs.declared.Recipe.{Recipe}
use Rattle.positions.specs.declared.Configuration.{Configuration}
use Rattle.steps.specs.Lines.{kind_of, then_of, else_of}
use Rattle.steps.specs.Joint.{Choice}
use Rattle.steps.specs.Carry.{carries, after_carry}
use Rattle.simulation.specs.Simulation.{Silently}

-- the least set that holds all ends, and each point with a configuration from which steps lead to members as in a simulation
pub data Least (c : Cell) (r : Recipe) : ℕ → Configuration → Type 0 where
  at_end : {p : ℕ} {a : Configuration} → kind_of r p ≡ 0 → Least c r p a
  goes_on :
      {p : ℕ} {a before : Configuration} (step : Choice) (lines : ℕ → ℕ)
      → (kind_of r p ≡ 0 → ⊥)
      → Silently c a before
      → carries c r p step lines before ≡ true
      → Least c r (then_of r p) (after_carry c r p step lines 1 before)
      → (kind_of r p ≡ 2 → Least c r (else_of r p) (after_carry c r p step lines 0 before))
      → Least c r p a
