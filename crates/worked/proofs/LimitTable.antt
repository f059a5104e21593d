-- The worked examples of request 1, "Stations have limits", as one table. Each row is computed, or follows from what is computed.
-- Assumes nothing.
use mathlib.Core.Path.{◌≡◌}
use mathlib.Core.Bool.{false}
use mathlib.Core.List.{List, [], ◌∷◌}
use Prim.Native.Nat.{ℕ, ◌≤◌}
use lib.ListN.{length}
use Rattle.refusals.specs.declared.Refusal.TheVariants.{NotRealisable}
use Rattle.refusals.specs.Verdict.{Verdict, Accepted, Refused}
use Rattle.cell.specs.declared.Cell.{Cell}
use Rattle.recipe.specs.declared.Recipe.{Recipe}
use Rattle.positions.specs.declared.Configuration.{Configuration}
use Rattle.positions.specs.Sizes.{sizes_of}
use Rattle.positions.specs.Position.{entry_of}
use Rattle.steps.specs.Limits.{none_overfull}
use Rattle.simulation.specs.Simulation.{Position}
use Rattle.planner.specs.Call.{check_plan, PlanCall}
use Rattle.worked.specs.Limited.{glue_cell, glue_recipe, mend_cell, mend_recipe, nest_cell, nest_recipe}
use Rattle.worked.proofs.LimitRecords.{LimitRecords, limit_records}
use Rattle.worked.proofs.LimitFiles.{LimitFiles, limit_files}
use Rattle.worked.proofs.StoredMoves.{StoredMoves, stored_moves}
use Rattle.worked.proofs.OverfullPositions.{overfull_called}
use Rattle.worked.proofs.LimitPlans.{OverfullEnd, overfull_end, Mending, mending}
use Rattle.worked.proofs.LimitCalls.{Overfull, Mended, Nested, glue_two_called, glue_one_called, mend_called, nest_two_called, nest_one_called}

pub record LimitTable : Type 0 where
  -- "in a record a limit outside 1 to 8 gives 4, one other than 8 at or above R gives 20"
  pub of_records : LimitRecords
  -- "A third table, names line `resource,most`", with its answers and the record that it leaves
  pub of_files : LimitFiles
  -- "a position with an overfull station is in no simulation, ends included": it has 0 in every table that a plan call leaves,
  -- 15 given or not, of any cell and recipe
  pub of_overfull :
      (c : Cell) (r : Recipe) (table scratch table' scratch' : List ℕ) (verdict : Verdict)
      → PlanCall c (r ∷ []) table scratch table' scratch' verdict
      → check_plan c (r ∷ []) (length table) (length scratch) ≡ Accepted
      → (p : ℕ) (a : Configuration)
      → Position (sizes_of c r) p a
      → none_overfull c a ≡ false
      → entry_of (sizes_of c r) table' p a ≡ 0
  -- a glue station that gets two parts: with limit 2 it is accepted
  pub of_two_places :
      (table scratch table' scratch' : List ℕ) (verdict : Verdict)
      → PlanCall (glue_cell 2) (glue_recipe ∷ []) table scratch table' scratch' verdict
      → 12 ≤ length table
      → 2 ≤ length scratch
      → verdict ≡ Accepted
  -- with limit 1 it gives 15, and entry 11, an overfull end, is 0
  pub of_one_place :
      (table scratch table' scratch' : List ℕ) (verdict : Verdict)
      → PlanCall (glue_cell 1) (glue_recipe ∷ []) table scratch table' scratch' verdict
      → 12 ≤ length table
      → 2 ≤ length scratch
      → Overfull table' verdict
  pub of_overfull_end : OverfullEnd
  -- a stored 67108864 there is the move of the end, a stored 50331648 at 5 gets 18
  pub of_stored : StoredMoves
  -- a move that mends an overfull station is open, and leads to a position that the greatest simulation holds; yet the entry is 0
  pub of_mending : Mending
  pub of_mending_calls :
      (table scratch table' scratch' : List ℕ) (verdict : Verdict)
      → PlanCall mend_cell (mend_recipe ∷ []) table scratch table' scratch' verdict
      → 108 ≤ length table
      → 14 ≤ length scratch
      → Mended table' verdict
  -- a nest with limit 2 is accepted, and "no station is ever overfull"
  pub of_nest_of_two :
      (table scratch table' scratch' : List ℕ) (verdict : Verdict)
      → PlanCall (nest_cell 8 2) (nest_recipe ∷ []) table scratch table' scratch' verdict
      → 72 ≤ length table
      → 9 ≤ length scratch
      → Nested table' verdict
  -- with limit 1 it gives 15
  pub of_nest_of_one :
      (table scratch table' scratch' : List ℕ) (verdict : Verdict)
      → PlanCall (nest_cell 8 1) (nest_recipe ∷ []) table scratch table' scratch' verdict
      → 72 ≤ length table
      → 9 ≤ length scratch
      → verdict ≡ Refused NotRealisable 0

pub limit_table : LimitTable
limit_table =
    record {
      of_records = limit_records;
      of_files = limit_files;
      of_overfull = overfull_called;
      of_two_places = glue_two_called;
      of_one_place = glue_one_called;
      of_overfull_end = overfull_end;
      of_stored = stored_moves;
      of_mending = mending;
      of_mending_calls = mend_called;
      of_nest_of_two = nest_two_called;
      of_nest_of_one = nest_one_called;
    }
