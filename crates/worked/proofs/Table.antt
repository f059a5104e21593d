-- The worked examples of document 01 marked ‡, as one table. Each row is computed, or follows from what is computed.
-- Assumes nothing.
use mathlib.Core.Path.{◌≡◌}
use mathlib.Core.Bool.{Bool, false, not}
use mathlib.Core.List.{List, [], ◌∷◌}
use Prim.Native.Nat.{ℕ, ◌≤◌}
use lib.ListN.{length, get_or}
use lib.Dec.{eqb}
use Rattle.refusals.specs.declared.Refusal.TheVariants.{TooShort, NotRealisable}
use Rattle.refusals.specs.Verdict.{Verdict, Accepted, Refused}
use Rattle.refusals.specs.Search.{count_below}
use Rattle.positions.specs.Position.{start}
use Rattle.positions.specs.Rules.{check_sizes}
use Rattle.chapters.specs.Joined.{first_point}
use Rattle.chapters.specs.Sizes.{sizes_in}
use Rattle.run.specs.Promises.{Promises}
use Rattle.simulation.specs.Plan.{Planned}
use Rattle.planner.specs.Call.{PlanCall}
use Rattle.worked.specs.Moves.{bench_cell, bench_recipe, bench_measures, bench_table}
use Rattle.worked.specs.Plans.{dead_recipe, end_recipe}
use Rattle.worked.specs.Worthless.{lane_cell, lane_recipe, shuttle_table}
use Rattle.worked.proofs.Files.{Files, files}
use Rattle.worked.proofs.BenchPromises.{bench_calls, followed}
use Rattle.worked.proofs.Limit.{Limit, limit}
use Rattle.worked.proofs.BenchMoves.{Moves, moves}
use Rattle.worked.proofs.BenchPlan.{computed, bench_planned}
use Rattle.worked.proofs.PlanCalls.{Bench, bench_called, short_scratch, dead_called, end_called}
use Rattle.worked.proofs.Rework.{Rework, rework}
use Rattle.worked.proofs.Shuttle.{computed as shuttle-computed, shuttle_not}

pub record Table : Type 0 where
  pub of_files : Files
  pub of_moves : Moves
  pub of_limit : Limit
  pub of_calls : Promises bench_cell (bench_recipe ∷ []) bench_measures bench_table first_point start bench_calls
  -- the bench example's table is a plan, so that its 24 entries stand exactly at the positions of the greatest simulation
  pub of_plan : Planned bench_cell (bench_recipe ∷ []) bench_measures bench_table bench_table false
  pub of_positions : count_below (λ m. not (eqb (get_or bench_table m 0) 0)) 90 ≡ 24
  -- ‡ the four moves and the entries 72 and 1, in every table that a plan call leaves; "12 pass"
  pub of_bench_calls :
      (table scratch table' scratch' : List ℕ) (verdict : Verdict)
      → PlanCall bench_cell (bench_recipe ∷ []) table scratch table' scratch' verdict
      → 90 ≤ length table
      → 12 ≤ length scratch
      → Bench table' verdict
  -- "In the bench example 11 bytes now give 14", where ‡ asked a byte for each position
  pub of_short_scratch :
      (table scratch table' scratch' : List ℕ) (verdict : Verdict)
      → PlanCall bench_cell (bench_recipe ∷ []) table scratch table' scratch' verdict
      → 90 ≤ length table
      → length scratch ≤ 11
      → verdict ≡ Refused TooShort 0
  -- ‡ "point 3 as `3,2,2,1,0,2,2` gives 15"
  pub of_dead_recipe :
      (table scratch table' scratch' : List ℕ) (verdict : Verdict)
      → PlanCall bench_cell (dead_recipe ∷ []) table scratch table' scratch' verdict
      → 90 ≤ length table
      → 12 ≤ length scratch
      → verdict ≡ Refused NotRealisable 0
  -- ‡ "a recipe of one end is accepted"
  pub of_end_recipe :
      (table scratch table' scratch' : List ℕ) (verdict : Verdict)
      → PlanCall bench_cell (end_recipe ∷ []) table scratch table' scratch' verdict
      → 6 ≤ length table
      → 1 ≤ length scratch
      → verdict ≡ Accepted
  -- misreadings: "a least set, which loses rework loops"
  pub of_rework : Rework
  -- worthless versions: "shuttles a pallet for ever", where the rules before 15 pass
  pub of_shuttle_rules : check_sizes lane_cell lane_recipe ≡ Accepted
  pub of_shuttle : (before : List ℕ) (refused : Bool)
      → Planned lane_cell (lane_recipe ∷ []) (sizes_in lane_cell (lane_recipe ∷ [])) before shuttle_table refused → ⊥

pub table : Table
table =
    record {
      of_files = files;
      of_moves = moves;
      of_limit = limit;
      of_calls = followed;
      of_plan = bench_planned;
      of_positions = computed.many;
      of_bench_calls = bench_called;
      of_short_scratch = short_scratch;
      of_dead_recipe = dead_called;
      of_end_recipe = end_called;
      of_rework = rework;
      of_shuttle_rules = shuttle-computed.sized;
      of_shuttle = shuttle_not;
    }
