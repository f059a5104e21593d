-- The worked examples of request 8, "Loaded lanes", as one table. Each row is computed, or follows from what is computed. That the
-- rows marked ‡ stand is the table of document 01 (Table). Assumes nothing.
use mathlib.Core.Path.{◌≡◌}
use mathlib.Core.List.{List, [], ◌∷◌}
use Prim.Native.Nat.{ℕ, ◌≤◌}
use lib.ListN.{length, get_or}
use Rattle.refusals.specs.declared.Refusal.TheVariants.{NotRealisable}
use Rattle.refusals.specs.Verdict.{Verdict, Accepted, Refused}
use Rattle.planner.specs.Call.{PlanCall}
use Rattle.install.specs.Call.{Listing, InstallCall}
use Rattle.worked.specs.Moves.{bench_cell, bench_recipe}
use Rattle.worked.specs.Installed.{single_recipe}
use Rattle.worked.specs.Laned.{pallet_cell, pallet_lines}
use Rattle.worked.proofs.InstallCalls.{Lists, NoneNeeded}
use Rattle.worked.proofs.PlanCalls.{lane_called}
use Rattle.worked.proofs.LaneMoves.{LaneMoves, lane_moves}
use Rattle.worked.proofs.LanePlans.{Answers, refused_5, refused_31, accepted_32, accepted_40}
use Rattle.worked.proofs.LaneInstalls.{pallet_called, pallet_needs_none}

pub record LaneTable : Type 0 where
  -- which ports are loaded, and "A stored table whose entry is no longer open gets 18"
  pub of_moves : LaneMoves
  -- the bench example loses the entry at 23, in every table that a plan call leaves
  pub of_bench_calls :
      (table scratch table' scratch' : List ℕ) (verdict : Verdict)
      → PlanCall bench_cell (bench_recipe ∷ []) table scratch table' scratch' verdict
      → 90 ≤ length table
      → 12 ≤ length scratch
      → get_or table' 23 0 ≡ 0
  -- a cell that needs an empty pallet is refused where the lane won't start empty
  pub of_port_5 : Answers 5 (Refused NotRealisable 0)
  pub of_port_31 : Answers 31 (Refused NotRealisable 0)
  -- and accepted where it moves empty pallets
  pub of_port_32 : Answers 32 Accepted
  pub of_port_40 : Answers 40 Accepted
  -- "the list of [2] follow[s]": through port 5 it has the four lines that would do without the pallet, through port 32 none
  pub of_install_5 :
      (table scratch list table' scratch' list' : List ℕ) (answer : Listing)
      (call : InstallCall (pallet_cell 5) (single_recipe 1) table scratch list table' scratch' list' answer)
      → 24 ≤ length table
      → 3 ≤ length scratch
      → Lists pallet_lines 4 call.lines list list' answer
  pub of_install_32 :
      (table scratch list table' scratch' list' : List ℕ) (answer : Listing)
      → InstallCall (pallet_cell 32) (single_recipe 1) table scratch list table' scratch' list' answer
      → 24 ≤ length table
      → 3 ≤ length scratch
      → NoneNeeded list list' answer

pub lane_table : LaneTable
lane_table =
    record {
      of_moves = lane_moves;
      of_bench_calls = lane_called;
      of_port_5 = refused_5;
      of_port_31 = refused_31;
      of_port_32 = accepted_32;
      of_port_40 = accepted_40;
      of_install_5 = pallet_called;
      of_install_32 = pallet_needs_none;
    }
