-- The worked examples of request 6, "Reject gates", as one table. Each row is computed, or follows from what is computed. That "the
-- bench example's entry at 26 becomes 50331843" stands in the table of document 01 (Table). Assumes nothing.
use mathlib.Core.Path.{◌≡◌}
use mathlib.Core.List.{List, [], ◌∷◌}
use Prim.Native.Nat.{ℕ, ◌≤◌}
use lib.ListN.{length}
use Rattle.refusals.specs.declared.Refusal.TheVariants.{NotRealisable}
use Rattle.refusals.specs.Verdict.{Verdict, Accepted, Refused}
use Rattle.planner.specs.Call.{PlanCall}
use Rattle.worked.specs.Moves.{bench_cell, bench_recipe}
use Rattle.worked.specs.Gated.{gate_cell, again_cell, again_recipe}
use Rattle.worked.proofs.GateRecords.{GateRecords, gate_records}
use Rattle.worked.proofs.GateMoves.{GateMoves, gate_moves}
use Rattle.worked.proofs.GateCalls.{Gated, gate_called, again_called, left_called, stuck_called}

pub record GateTable : Type 0 where
  -- 23 in both of its halves, and act 4 in rule 4's range
  pub of_records : GateRecords
  -- a test's two arrows, and the entries that are shut
  pub of_moves : GateMoves
  -- "the operation arg, tested here with outcome 0, ends in `to`": in every table that a plan call leaves, outcome 0 is carried on by
  -- another line than outcome 1
  pub of_gate_calls :
      (table scratch table' scratch' : List ℕ) (verdict : Verdict)
      → PlanCall gate_cell (bench_recipe ∷ []) table scratch table' scratch' verdict
      → 120 ≤ length table
      → 15 ≤ length scratch
      → Gated table' verdict
  -- a recipe that is accepted with the gate `1,1,4,2,1`, and gives 15 without it
  pub of_gate_needed :
      (table scratch table' scratch' : List ℕ) (verdict : Verdict)
      → PlanCall again_cell (again_recipe ∷ []) table scratch table' scratch' verdict
      → 72 ≤ length table
      → 9 ≤ length scratch
      → verdict ≡ Accepted
  pub of_gate_missing :
      (table scratch table' scratch' : List ℕ) (verdict : Verdict)
      → PlanCall bench_cell (again_recipe ∷ []) table scratch table' scratch' verdict
      → 72 ≤ length table
      → 9 ≤ length scratch
      → verdict ≡ Refused NotRealisable 0
  -- the bench recipe, which is accepted without that gate (Table), gives 15 with it
  pub of_gate_shuts :
      (table scratch table' scratch' : List ℕ) (verdict : Verdict)
      → PlanCall again_cell (bench_recipe ∷ []) table scratch table' scratch' verdict
      → 90 ≤ length table
      → 12 ≤ length scratch
      → verdict ≡ Refused NotRealisable 0

pub gate_table : GateTable
gate_table =
    record {
      of_records = gate_records;
      of_moves = gate_moves;
      of_gate_calls = gate_called;
      of_gate_needed = again_called;
      of_gate_missing = left_called;
      of_gate_shuts = stuck_called;
    }
