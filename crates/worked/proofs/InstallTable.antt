-- The worked examples of request 2, "Which process to install", as one table: what every install call answers, whatever was lent. Each
-- row is computed, or follows from what is computed. Assumes nothing.
use mathlib.Core.Path.{◌≡◌}
use mathlib.Core.List.{List, [], ◌∷◌}
use Prim.Native.Nat.{ℕ, ◌+◌, ◌/◌, ◌≤◌}
use lib.ListN.{length, drop}
use Rattle.refusals.specs.declared.Refusal.TheVariants.{FullCell}
use Rattle.refusals.specs.Verdict.{Accepted}
use Rattle.cell.specs.declared.Cell.{Cell}
use Rattle.recipe.specs.declared.Recipe.{Recipe}
use Rattle.positions.specs.Sizes.{sizes_of}
use Rattle.positions.specs.Rules.{check_sizes}
use Rattle.simulation.specs.Simulation.{Realisable}
use Rattle.reached.specs.Reached.{rule22}
use Rattle.install.specs.Call.{Listing, InstallCall}
use Rattle.worked.specs.Moves.{bench_cell, bench_recipe}
use Rattle.worked.specs.Installed.{untested_cell, unfed_cell, testing_lines, feeding_lines, turned_cell, turned_recipe, turning_lines}
use Rattle.worked.specs.Installed.{single_cell, single_recipe, single_lines, full_cell}
use Rattle.worked.proofs.InstallPlans.{Together, together, full_builds}
use Rattle.worked.proofs.InstallCalls.{Lists, NoneNeeded, Refuses, call_full, untested_called, untested_bytes, unfed_called, unfed_bytes}
use Rattle.worked.proofs.InstallCalls.{turned_called, single_called, bench_needs_none, full_called}

pub record InstallTable : Type 0 where
  -- the bench example without line 3: exactly 1,1,2,2
  pub of_line_3 :
      (table scratch list table' scratch' list' : List ℕ) (answer : Listing)
      (call : InstallCall untested_cell bench_recipe table scratch list table' scratch' list' answer)
      → 90 ≤ length table
      → 12 ≤ length scratch
      → Lists testing_lines 1 call.lines list list' answer
  -- with which a buffer of four bytes or more begins
  pub of_line_3_bytes :
      (table scratch list table' scratch' list' : List ℕ) (answer : Listing)
      → InstallCall untested_cell bench_recipe table scratch list table' scratch' list' answer
      → 90 ≤ length table
      → 12 ≤ length scratch
      → 4 ≤ length list
      → list' ≡ 1 ∷ 1 ∷ 2 ∷ 2 ∷ drop 4 list
  -- "alone makes the recipe acceptable": what the 36 other candidates do together does not list them
  pub of_together : Together
  -- without line 0: exactly 0,0,1,1 and then 1,0,1,1
  pub of_line_0 :
      (table scratch list table' scratch' list' : List ℕ) (answer : Listing)
      (call : InstallCall unfed_cell bench_recipe table scratch list table' scratch' list' answer)
      → 90 ≤ length table
      → 12 ≤ length scratch
      → Lists feeding_lines 2 call.lines list list' answer
  -- "as far as whole lines fit, the rest keeps its content": of seven bytes the last three, and "the result carries the full count", 2
  pub of_seven_bytes :
      (table scratch list table' scratch' list' : List ℕ) (answer : Listing)
      → InstallCall unfed_cell bench_recipe table scratch list table' scratch' list' answer
      → 90 ≤ length table
      → 12 ≤ length scratch
      → length list ≡ 7
      → list' ≡ 0 ∷ 0 ∷ 1 ∷ 1 ∷ drop 4 list
  -- a station of two states that operation 1 finds in state 1: 0,0,2,0, then 0,1,1,0, then 0,1,1,1
  pub of_two_states :
      (table scratch list table' scratch' list' : List ℕ) (answer : Listing)
      (call : InstallCall turned_cell turned_recipe table scratch list table' scratch' list' answer)
      → 24 ≤ length table
      → 3 ≤ length scratch
      → Lists turning_lines 3 call.lines list list' answer
  -- "uses states that the resource already has": of one state 0,0,2,0 alone
  pub of_one_state :
      (table scratch list table' scratch' list' : List ℕ) (answer : Listing)
      (call : InstallCall single_cell (single_recipe 2) table scratch list table' scratch' list' answer)
      → 4 ≤ length table
      → 1 ≤ length scratch
      → Lists single_lines 1 call.lines list list' answer
  -- "An acceptable recipe gives count 0": the bench example itself
  pub of_bench :
      (table scratch list table' scratch' list' : List ℕ) (answer : Listing)
      → InstallCall bench_cell bench_recipe table scratch list table' scratch' list' answer
      → 90 ≤ length table
      → 12 ≤ length scratch
      → NoneNeeded list list' answer
  -- "21 for a cell that already has 64 lines, after 14": any that passes the rules before it
  pub of_full_cells :
      (c : Cell) (r : Recipe)
      → check_sizes c r ≡ Accepted
      → rule22 r ≡ Accepted
      → (table scratch list table' scratch' list' : List ℕ) (answer : Listing)
      → InstallCall c r table scratch list table' scratch' list' answer
      → (sizes_of c r).positions ≤ length table
      → ((sizes_of c r).positions + 7) / 8 ≤ length scratch
      → c.count ≡ 64
      → Refuses FullCell table scratch list table' scratch' list' answer
  -- also where the recipe is acceptable
  pub of_full_cell :
      (table scratch list table' scratch' list' : List ℕ) (answer : Listing)
      → InstallCall full_cell (single_recipe 1) table scratch list table' scratch' list' answer
      → 4 ≤ length table
      → 1 ≤ length scratch
      → Refuses FullCell table scratch list table' scratch' list' answer
  pub of_full_builds : Realisable full_cell (single_recipe 1 ∷ [])

pub install_table : InstallTable
install_table =
    record {
      of_line_3 = untested_called;
      of_line_3_bytes = untested_bytes;
      of_together = together;
      of_line_0 = unfed_called;
      of_seven_bytes = unfed_bytes;
      of_two_states = turned_called;
      of_one_state = single_called;
      of_bench = bench_needs_none;
      of_full_cells = call_full;
      of_full_cell = full_called;
      of_full_builds = full_builds;
    }
