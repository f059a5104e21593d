-- What every plan call leaves of the cells with reject gates: theorems over the call's contract, whatever table and scratch were
-- lent. Assumes nothing.
use mathlib.Core.Path.{◌≡◌, subst}
use mathlib.Core.Bool.{true}
use mathlib.Core.List.{List, [], ◌∷◌}
use Prim.Native.Nat.{ℕ, ◌+◌, ◌/◌, ◌<◌, ◌≤◌}
use native.Mathlib.Omega.{arith}
use lib.ListN.{length, get_or}
use Rattle.refusals.specs.declared.Refusal.TheVariants.{NotRealisable}
use Rattle.refusals.specs.Verdict.{Verdict, Accepted, Refused}
use Rattle.positions.specs.Position.{start}
use Rattle.chapters.specs.Joined.{first_point}
use Rattle.chapters.specs.Sizes.{sizes_in}
use Rattle.run.specs.Book.{Call, opened, by_table, moments}
use Rattle.run.specs.Promises.{Keeps}
use Rattle.planner.specs.Call.{PlanCall}
use Rattle.planner.proofs.Demands.{demand_3}
use Rattle.worked.specs.Moves.{bench_cell, bench_recipe}
use Rattle.worked.specs.Gated.{gate_cell, gate_sizes, again_cell, again_recipe}
use Rattle.worked.specs.GatedPlans.{gate_table, gate_ranks}
use Rattle.worked.proofs.LedRecipes.{led_recipes}
use Rattle.worked.proofs.LentLengths.{check_passes, call_accepts, call_refuses}
use Rattle.worked.proofs.Certificates.{entry_greatest}
use Rattle.worked.proofs.OneMoveOpen.{sole_in, sole_planned}
use Rattle.worked.proofs.GatePlans.{computed, gate_realisable, again_realisable, left_behind, stuck}

-- the bench example with a gate: the test's entry names it, and each arrow is carried on by a line of its own
pub record Gated (table : List ℕ) (verdict : Verdict) : Type 0 where
  pub accepted : verdict ≡ Accepted
  pub entry_0 : get_or table 0 0 ≡ 50331648
  pub entry_28 : get_or table 28 0 ≡ 33554561
  pub entry_32 : get_or table 32 0 ≡ 50331971
  pub entry_62 : get_or table 62 0 ≡ 50331652
  pub entry_92 : get_or table 92 0 ≡ 50331654
  -- "The routing of parts is promised on either arrow", whatever is asked and reported from the start
  pub keeps :
      (calls : List Call)
      → Keeps gate_cell (bench_recipe ∷ []) (sizes_in gate_cell (bench_recipe ∷ [])) first_point
      (moments gate_cell (bench_recipe ∷ []) (by_table (sizes_in gate_cell (bench_recipe ∷ [])) table) [] (opened first_point start) calls)

module _ (table scratch table' scratch' : List ℕ) (verdict : Verdict) where
  module _ (call : PlanCall gate_cell (bench_recipe ∷ []) table scratch table' scratch' verdict) (long : 120 ≤ length table) (wide : 15 ≤ length scratch) where
    fits : gate_sizes.positions ≤ length table
    fits = omega (arith, computed.gate_positions)

    roomy : (gate_sizes.positions + 7) / 8 ≤ length scratch
    roomy = omega (arith, computed.gate_positions)

    is : verdict ≡ Accepted
    is = call_accepts gate_cell bench_recipe computed.gate_sized led_recipes.bench table scratch table' scratch' verdict call fits roomy gate_realisable

    move : (m x : ℕ) → m < 120 → 0 < x → sole_in gate_cell bench_recipe gate_sizes gate_table m x ≡ true → get_or table' m 0 ≡ x
    move m x low some =
        sole_planned gate_cell bench_recipe computed.gate_sized table table' call.refused
        (call.planned (check_passes gate_cell bench_recipe computed.gate_sized led_recipes.bench (length table) (length scratch) fits roomy))
        gate_table (entry_greatest gate_cell bench_recipe computed.gate_sized gate_table gate_ranks computed.gate_closed) m x
        (omega (arith, computed.gate_positions)) some

    pub gate_called : Gated table' verdict
    gate_called =
        record {
          accepted = is;
          entry_0 = move 0 50331648 (omega arith) (omega arith) computed.fed;
          entry_28 = move 28 33554561 (omega arith) (omega arith) computed.passed_on;
          entry_32 = move 32 50331971 (omega arith) (omega arith) computed.tested;
          entry_62 = move 62 50331652 (omega arith) (omega arith) computed.left;
          entry_92 = move 92 50331654 (omega arith) (omega arith) computed.taken_out;
          keeps =
              λ calls. (demand_3 gate_cell (bench_recipe ∷ []) table scratch table' scratch'
              (subst (λ (v : Verdict). PlanCall gate_cell (bench_recipe ∷ []) table scratch table' scratch' v) is call) calls
              ).keeps;
        }

  pub again_called :
      PlanCall again_cell (again_recipe ∷ []) table scratch table' scratch' verdict
      → 72 ≤ length table
      → 9 ≤ length scratch
      → verdict ≡ Accepted
  again_called call long wide =
      call_accepts again_cell again_recipe computed.again_sized led_recipes.again table scratch table' scratch' verdict call
      (omega (arith, computed.again_positions)) (omega (arith, computed.again_positions)) again_realisable

  pub left_called :
      PlanCall bench_cell (again_recipe ∷ []) table scratch table' scratch' verdict
      → 72 ≤ length table
      → 9 ≤ length scratch
      → verdict ≡ Refused NotRealisable 0
  left_called call long wide =
      call_refuses bench_cell again_recipe computed.left_sized led_recipes.again table scratch table' scratch' verdict call
      (omega (arith, computed.left_positions)) (omega (arith, computed.left_positions)) left_behind

  pub stuck_called :
      PlanCall again_cell (bench_recipe ∷ []) table scratch table' scratch' verdict
      → 90 ≤ length table
      → 12 ≤ length scratch
      → verdict ≡ Refused NotRealisable 0
  stuck_called call long wide =
      call_refuses again_cell bench_recipe computed.stuck_sized led_recipes.bench table scratch table' scratch' verdict call
      (omega (arith, computed.stuck_positions)) (omega (arith, computed.stuck_positions)) stuck
