-- The worked examples of request 3, "Planner on the cell's own box": what plan and install answer for a scratch of so many bytes, beyond
-- what the other tables say of it. Assumes nothing.
use mathlib.Core.Path.{◌≡◌}
use mathlib.Core.List.{List, [], ◌∷◌}
use Prim.Native.Nat.{ℕ, ◌≤◌}
use native.Mathlib.Omega.{arith}
use lib.ListN.{length}
use Rattle.refusals.specs.declared.Refusal.TheVariants.{TooShort}
use Rattle.refusals.specs.Verdict.{Verdict, Accepted, Refused}
use Rattle.planner.specs.Call.{check_plan, PlanCall}
use Rattle.install.specs.Call.{Listing, InstallCall}
use Rattle.worked.specs.Moves.{bench_cell, bench_recipe, limit_cell, limit_recipe}
use Rattle.worked.proofs.LedRecipes.{led_recipes}
use Rattle.worked.proofs.LentLengths.{check_passes, check_short}
use Rattle.worked.proofs.Limit.{limit}
use Rattle.worked.proofs.PlanCalls.{short_kept}
use Rattle.worked.proofs.InstallCalls.{Refuses, bench_short}

pub record ScratchTable : Type 0 where
  -- "In the bench example 11 bytes now give 14" (row of-short-scratch of the ‡ table), which changes nothing; 12 pass (of-bench-calls)
  pub of_11_bytes :
      (table scratch table' scratch' : List ℕ) (verdict : Verdict)
      → PlanCall bench_cell (bench_recipe ∷ []) table scratch table' scratch' verdict
      → 90 ≤ length table
      → length scratch ≤ 11
      → (table' ≡ table) × (scratch' ≡ scratch)
  -- the list of request 2 too; 12 pass (row of-bench of its table)
  pub of_11_bytes_listing :
      (table scratch list table' scratch' list' : List ℕ) (answer : Listing)
      → InstallCall bench_cell bench_recipe table scratch list table' scratch' list' answer
      → 90 ≤ length table
      → length scratch ≤ 11
      → Refuses TooShort table scratch list table' scratch' list' answer
  -- "a scratch of M/8 bytes", where 8 divides M: the greatest M needs 131072
  pub of_most_positions : check_plan (limit_cell 3) (limit_recipe ∷ []) 1048576 131072 ≡ Accepted
  pub of_one_less : check_plan (limit_cell 3) (limit_recipe ∷ []) 1048576 131071 ≡ Refused TooShort 0

pub scratch_table : ScratchTable
scratch_table =
    record {
      of_11_bytes = short_kept;
      of_11_bytes_listing = bench_short;
      of_most_positions =
          check_passes (limit_cell 3) limit_recipe limit.four_pass led_recipes.limit 1048576 131072
          (omega (arith, limit.reached)) (omega (arith, limit.reached));
      of_one_less =
          check_short (limit_cell 3) limit_recipe limit.four_pass led_recipes.limit 1048576 131071
          (omega (arith, limit.reached)) (omega (arith, limit.reached));
    }
