-- The worked examples of request 9, "The shortest way, always the same", as one table. Each row is computed, or follows from what is
-- computed. That the rows marked ‡ stand is the table of document 01 (Table). Assumes nothing.
use mathlib.Core.Path.{◌≡◌}
use mathlib.Core.Bool.{Bool, true}
use mathlib.Core.List.{List, [], ◌∷◌}
use Prim.Native.Nat.{ℕ, ◌<◌, ◌≤◌}
use lib.ListN.{length, get_or}
use Rattle.refusals.specs.Verdict.{Verdict}
use Rattle.positions.specs.Position.{start}
use Rattle.steps.specs.Effect.{opens}
use Rattle.chapters.specs.Joined.{first_point}
use Rattle.run.specs.Book.{Call}
use Rattle.run.specs.Promises.{Promises}
use Rattle.simulation.specs.Plan.{Planned, Fixed}
use Rattle.planner.specs.Call.{PlanCall, FixedCall}
use Rattle.worked.specs.Moves.{bench_cell, bench_recipe, bench_table}
use Rattle.worked.specs.Installed.{single_recipe}
use Rattle.worked.specs.Ways.{either_cell, either_recipe, either_table, side_cell, side_table, longer_table, outcome_cell, outcome_recipe, under_test, outcome_table}
use Rattle.worked.specs.Ways.{ahead_cell, ahead_chapters, alone_table, ahead_table}
use Rattle.worked.proofs.PlanCalls.{table_called}
use Rattle.worked.proofs.ShownTables.{Leaves}
use Rattle.worked.proofs.WayPlans.{side_measures, computed, either_left, side_left, outcome_left, alone_left, ahead_left, longer_keeps, longer_not}

pub record WayTable : Type 0 where
  -- the bench example: every plan call leaves the table that is shown, entry for entry
  pub of_bench_calls :
      (table scratch table' scratch' : List ℕ) (verdict : Verdict)
      → PlanCall bench_cell (bench_recipe ∷ []) table scratch table' scratch' verdict
      → FixedCall bench_cell (bench_recipe ∷ []) table scratch table'
      → 90 ≤ length table
      → 12 ≤ length scratch
      → (n : ℕ)
      → n < 90
      → get_or table' n 0 ≡ get_or bench_table n 0
  -- the last letter weighs most: 50331714, though 50331840 carries from there too
  pub of_letters : Leaves either_cell (either_recipe ∷ []) 18 3 either_table
  pub of_other_letters : opens either_cell either_recipe 0 start 50331840 ≡ true
  -- a shorter way wins over a smaller number: 33554691, though 16777216 begins a way too
  pub of_lengths : Leaves side_cell (single_recipe 1 ∷ []) 48 6 side_table
  pub of_longer_way : opens side_cell (single_recipe 1) 0 start 16777216 ≡ true
  -- members at both outcomes: 50331778, though 50331713 carries from there too
  pub of_outcomes : Leaves outcome_cell (outcome_recipe ∷ []) 30 4 outcome_table
  pub of_one_outcome : opens outcome_cell outcome_recipe 1 under_test 50331713 ≡ true
  -- the joined recipe's next positions: by itself the chapter carries at once, and with another behind it it does not
  pub of_chapter_alone : Leaves ahead_cell (single_recipe 1 ∷ []) 16 2 alone_table
  pub of_chapters : Leaves ahead_cell ahead_chapters 32 2 ahead_table
  -- "Tables written before may still be run.": one that takes the longer way keeps every promise, and its entries are not the fixed ones
  pub of_stored : (calls : List Call) → Promises side_cell (single_recipe 1 ∷ []) side_measures longer_table first_point start calls
  pub of_stored_plan :
      (before : List ℕ) (refused : Bool)
      → Planned side_cell (single_recipe 1 ∷ []) side_measures before longer_table refused
      → Fixed side_cell (single_recipe 1 ∷ []) side_measures longer_table
      → ⊥

pub way_table : WayTable
way_table =
    record {
      of_bench_calls = λ table scratch table' scratch' verdict call fixed long wide. table_called table scratch table' scratch' verdict call long wide fixed;
      of_letters = either_left;
      of_other_letters = computed.other_letters;
      of_lengths = side_left;
      of_longer_way = computed.longer_way;
      of_outcomes = outcome_left;
      of_one_outcome = computed.one_outcome;
      of_chapter_alone = alone_left;
      of_chapters = ahead_left;
      of_stored = longer_keeps;
      of_stored_plan = longer_not;
    }
