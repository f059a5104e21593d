-- What every plan call leaves of the cells with limits: theorems over the call's contract, whatever table and scratch were lent.
-- Assumes nothing.
use mathlib.Core.Path.{◌≡◌, sym, subst, ap, ◌∙◌}
use mathlib.Core.Bool.{true}
use mathlib.Core.List.{List, [], ◌∷◌}
use Prim.Native.Nat.{ℕ, ◌+◌, ◌/◌, ◌≤◌}
use native.Mathlib.Omega.{arith}
use lib.ListN.{length, get_or}
use Rattle.refusals.specs.declared.Refusal.TheVariants.{NotRealisable}
use Rattle.refusals.specs.Verdict.{Verdict, Accepted, Refused}
use Rattle.refusals.specs.Search.{every}
use Rattle.positions.specs.Position.{start, entry_of}
use Rattle.chapters.specs.Joined.{point_in, first_point}
use Rattle.chapters.specs.Sizes.{sizes_in}
use Rattle.run.specs.Book.{Call, opened, by_table, moments}
use Rattle.run.specs.Promises.{never_overfull}
use Rattle.planner.specs.Call.{PlanCall}
use Rattle.planner.proofs.Demands.{demand_3}
use Rattle.worked.specs.Limited.{glue_cell, glue_recipe, glue_sizes, mend_cell, mend_recipe, mend_sizes}
use Rattle.worked.specs.Limited.{nest_cell, nest_recipe, two_parts, two_handed_over}
use Rattle.worked.proofs.LedRecipes.{led_recipes}
use Rattle.worked.proofs.LentLengths.{check_passes, call_accepts, call_refuses}
use Rattle.worked.proofs.SingleRecipes.{single_numbered, single_position}
use Rattle.worked.proofs.OverfullPositions.{overfull_called}
use Rattle.worked.proofs.LimitPlans.{computed, glue_of_two, glue_of_one, overfull_end, mend_realisable, mending, nest_of_two, nest_of_one}

-- a glue station of one place cannot get two parts, and the end at which both are there has no entry
pub record Overfull (table : List ℕ) (verdict : Verdict) : Type 0 where
  pub refused : verdict ≡ Refused NotRealisable 0
  pub entry_11 : get_or table 11 0 ≡ 0

-- the station that is overfull at 58 has no entry there; where a move mends it, at 62, there is one
pub record Mended (table : List ℕ) (verdict : Verdict) : Type 0 where
  pub accepted : verdict ≡ Accepted
  pub entry_58 : get_or table 58 0 ≡ 0
  pub entry_62 : get_or table 62 0 ≡ 0 → ⊥

-- a nest of two places is never overfull, whatever is asked and reported from the start
pub record Nested (table : List ℕ) (verdict : Verdict) : Type 0 where
  pub accepted : verdict ≡ Accepted
  pub is_never_overfull :
      (calls : List Call)
      → every (never_overfull (nest_cell 8 2) (nest_recipe ∷ []))
      (moments (nest_cell 8 2) (nest_recipe ∷ []) (by_table (sizes_in (nest_cell 8 2) (nest_recipe ∷ [])) table) [] (opened first_point start) calls)
      ≡ true

module _ (table scratch table' scratch' : List ℕ) (verdict : Verdict) where
  pub glue_two_called :
      PlanCall (glue_cell 2) (glue_recipe ∷ []) table scratch table' scratch' verdict
      → 12 ≤ length table
      → 2 ≤ length scratch
      → verdict ≡ Accepted
  glue_two_called call long wide =
      call_accepts (glue_cell 2) glue_recipe computed.two_sized led_recipes.glue table scratch table' scratch' verdict call
      (omega (arith, computed.two_positions)) (omega (arith, computed.two_positions)) glue_of_two

  pub glue_one_called :
      PlanCall (glue_cell 1) (glue_recipe ∷ []) table scratch table' scratch' verdict
      → 12 ≤ length table
      → 2 ≤ length scratch
      → Overfull table' verdict
  unfolding entry_of
  glue_one_called call long wide =
      let fits : (glue_sizes 1).positions ≤ length table = omega (arith, computed.one_positions) in
      let roomy : ((glue_sizes 1).positions + 7) / 8 ≤ length scratch = omega (arith, computed.one_positions) in
      record {
        refused = call_refuses (glue_cell 1) glue_recipe computed.one_sized led_recipes.glue table scratch table' scratch' verdict call fits roomy glue_of_one;
        entry_11 =
            sym (ap (λ (m : ℕ). get_or table' m 0) overfull_end.number)
            ∙ overfull_called (glue_cell 1) glue_recipe table scratch table' scratch' verdict call
            (check_passes (glue_cell 1) glue_recipe computed.one_sized led_recipes.glue (length table) (length scratch) fits roomy) 2 two_parts
            overfull_end.position overfull_end.overfull;
      }

  pub mend_called :
      PlanCall mend_cell (mend_recipe ∷ []) table scratch table' scratch' verdict
      → 108 ≤ length table
      → 14 ≤ length scratch
      → Mended table' verdict
  unfolding entry_of
  mend_called call long wide =
      let fits : mend_sizes.positions ≤ length table = omega (arith, computed.mend_positions) in
      let roomy : (mend_sizes.positions + 7) / 8 ≤ length scratch = omega (arith, computed.mend_positions) in
      let passes = check_passes mend_cell mend_recipe computed.mend_sized led_recipes.mend (length table) (length scratch) fits roomy in
      record {
        accepted = call_accepts mend_cell mend_recipe computed.mend_sized led_recipes.mend table scratch table' scratch' verdict call fits roomy mend_realisable;
        entry_58 =
            sym (ap (λ (m : ℕ). get_or table' m 0) mending.number)
            ∙ overfull_called mend_cell mend_recipe table scratch table' scratch' verdict call passes 2 two_parts mending.position mending.overfull;
        entry_62 =
            λ none. (call.planned passes).zero_lacks (point_in 0 2) two_handed_over (single_position mend_cell mend_recipe 2 two_handed_over mending.next_position)
            (single_numbered mend_cell mend_recipe table' 2 two_handed_over 62 mending.next_number ∙ none) mending.next_held;
      }

  pub nest_two_called :
      PlanCall (nest_cell 8 2) (nest_recipe ∷ []) table scratch table' scratch' verdict
      → 72 ≤ length table
      → 9 ≤ length scratch
      → Nested table' verdict
  nest_two_called call long wide =
      let is : verdict ≡ Accepted =
      call_accepts (nest_cell 8 2) nest_recipe computed.nest_two_sized led_recipes.nest table scratch table' scratch' verdict call
      (omega (arith, computed.nest_two_positions)) (omega (arith, computed.nest_two_positions)) nest_of_two in
      record {
        accepted = is;
        is_never_overfull =
            λ calls. (demand_3 (nest_cell 8 2) (nest_recipe ∷ []) table scratch table' scratch'
            (subst (λ (v : Verdict). PlanCall (nest_cell 8 2) (nest_recipe ∷ []) table scratch table' scratch' v) is call) calls
            ).keeps.none_is_overfull;
      }

  pub nest_one_called :
      PlanCall (nest_cell 8 1) (nest_recipe ∷ []) table scratch table' scratch' verdict
      → 72 ≤ length table
      → 9 ≤ length scratch
      → verdict ≡ Refused NotRealisable 0
  nest_one_called call long wide =
      call_refuses (nest_cell 8 1) nest_recipe computed.nest_one_sized led_recipes.nest table scratch table' scratch' verdict call
      (omega (arith, computed.nest_one_positions)) (omega (arith, computed.nest_one_positions)) nest_of_one
