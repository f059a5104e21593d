-- The worked examples of request 4, "Points that nothing leads to", as one table. Each row is computed, or follows from what is
-- computed. Assumes nothing.
use mathlib.Core.Path.{◌≡◌}
use Prim.Native.Nat.{ℕ, ◌<◌}
use Rattle.refusals.specs.Verdict.{Accepted}
use Rattle.cell.specs.declared.Cell.{Cell}
use Rattle.recipe.specs.declared.Recipe.{Recipe}
use Rattle.positions.specs.Sizes.{points_of}
use Rattle.positions.specs.Rules.{check_records}
use Rattle.reached.specs.Reached.{Reached}
use Rattle.worked.specs.Moves.{bench_cell}
use Rattle.worked.specs.Unreached.{forgotten_recipe, loop_recipe, turned_else}
use Rattle.worked.proofs.UnreachedRecipes.{Reading, computed, Points, points}
use Rattle.worked.proofs.UnreachedCalls.{Gets22, gets_22, forgotten_22, loop_22, turned_else_22}
use Rattle.worked.proofs.StoredRun.{StoredRun, stored_run}

pub record UnreachedTable : Type 0 where
  -- which points a "chain of `then` and `else` reaches from point 0"
  pub of_points : Points
  -- any cell and recipe with a point that none reaches and whose records pass get 22 from "calls that plan, the list of [2] too"
  pub of_calls : (c : Cell) (r : Recipe) → check_records c r ≡ Accepted → (q : ℕ) → q < points_of r → (Reached r q → ⊥) → Gets22 c r
  -- the bench example with a sixth point behind; with two that lead to each other; with its `else` turned away from point 3
  pub of_forgotten : Gets22 bench_cell forgotten_recipe
  pub of_loop : Gets22 bench_cell loop_recipe
  pub of_turned_else : Gets22 bench_cell turned_else
  -- "stored recipes of that kind may still be read, and run with a stored table", of 108 entries
  pub of_reading : Reading
  pub of_running : StoredRun

pub unreached_table : UnreachedTable
unreached_table =
    record {
      of_points = points;
      of_calls = gets_22;
      of_forgotten = forgotten_22;
      of_loop = loop_22;
      of_turned_else = turned_else_22;
      of_reading = computed.reading;
      of_running = stored_run;
    }
