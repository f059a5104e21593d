-- What every plan call leaves of the bench example and of the two recipes that document 01 changes it to: theorems over the
-- call's contract, whatever table and scratch were lent. Assumes nothing.
use mathlib.Core.Path.{◌≡◌, refl}
use mathlib.Core.Bool.{Bool, true}
use mathlib.Core.List.{List, [], ◌∷◌}
use Prim.Native.Nat.{ℕ, ◌<◌, ◌≤◌}
use native.Mathlib.Omega.{arith}
use lib.ListN.{length, get_or}
use Rattle.refusals.specs.declared.Refusal.TheVariants.{TooShort, NotRealisable}
use Rattle.refusals.specs.Verdict.{Verdict, Accepted, Refused}
use Rattle.refusals.specs.Search.{first_below, any_below, all_below, count_below, greatest_below, tabulate, is_of}
use Rattle.refusals.proofs.Verdicts.{refused_not}
use Rattle.cell.specs.Rules as cell
use Rattle.recipe.specs.Rules as recipe
use Rattle.positions.specs.Radix.{sum_below, product_below}
use Rattle.positions.specs.Sizes.{state_count, state_counts, parts_in, part_count, joint_count, sizes_for, sizes_of, farthest}
use Rattle.positions.specs.Position.{state_number, place_number, position_of, state_weight, point_at, state_at, place_at, configuration_at, entry_of}
use Rattle.steps.specs.Lines.{first_line_of, lines_of, kind_of, then_of, else_of, is_taken, is_given}
use Rattle.steps.specs.Limits.{load, keeps_limits, none_overfull}
use Rattle.steps.specs.Gates.{gate_among, gate_of, gated}
use Rattle.steps.specs.Lanes.{is_loaded, lane_starts}
use Rattle.steps.specs.Joint.{out_starts, may_do, acts, acts_on, how_many, port_fits, is_step, is_silent_step, state_after, receiver, handed, place_after, after, is_silent}
use Rattle.steps.specs.Carry.{serves, matches, stands_at, present, free, suits, carries, put_there, placed, parts_moved, after_carry, is_free}
use Rattle.steps.specs.Entry.{entry_kind, letter, unused, lines_used, carry_letters, letters_used, names_gate, is_line, is_formed, only, step_of, may_be_taken}
use Rattle.steps.specs.Effect.{taken, effect, is_move, opens, leaves, makes, leads_to}
use Rattle.steps.proofs.EntryForms.{carry_entry}
use Rattle.chapters.specs.Joined.{chapter_at}
use Rattle.simulation.specs.Plan.{Planned}
use Rattle.planner.specs.Call.{check_plan, PlanCall, FixedCall}
use Rattle.worked.specs.Moves.{filled, bench_cell, bench_recipe, bench_sizes, bench_measures, bench_entry, bench_table, bench_ranks}
use Rattle.worked.specs.Plans.{dead_recipe, end_recipe}
use Rattle.worked.proofs.BenchPlan.{computed, bench_planned, entry_one, entry_empty_lane, entry_last, dead_recipe_lem, one_end, bench_entries}
use Rattle.worked.proofs.Certificates.{entry_greatest}
use Rattle.worked.proofs.LedRecipes.{led_recipes}
use Rattle.worked.proofs.LentLengths.{check_passes, short_refused, short_untouched, call_accepts, call_refuses}
use Rattle.worked.proofs.OneMoveOpen.{sole_in, sole_planned}
use Rattle.worked.proofs.FormedEntries.{formed_pass}
use Rattle.worked.proofs.ChapterCertificates.{sole_at}

-- such a move of the bench example's table
abbrev sole : ℕ → ℕ → Bool
sole = sole_in bench_cell bench_recipe bench_sizes bench_table

record Sole : Type 0 where
  glued : sole 0 50331648 ≡ true
  passed_on : sole 22 33554561 ≡ true
  tested : sole 26 50331843 ≡ true
  left : sole 50 50331652 ≡ true
  taken_out : sole 68 50331652 ≡ true
  dead_positions : (sizes_of bench_cell dead_recipe).positions ≡ 90
  end_positions : (sizes_of bench_cell end_recipe).positions ≡ 6

soles : Sole
unfolding is_of first_below any_below all_below count_below greatest_below tabulate cell.greatest_resource cell.alike recipe.holds_part recipe.point_count
    sum_below product_below state_count state_counts parts_in part_count joint_count sizes_for state_number place_number position_of state_weight
    point_at state_at place_at configuration_at first_line_of lines_of kind_of then_of else_of is_taken is_given chapter_at formed_pass sole_at sole_in carry_entry entry_of filled bench_cell
    bench_recipe bench_entry bench_table dead_recipe end_recipe is_loaded lane_starts out_starts may_do acts acts_on how_many port_fits is_step is_silent_step load keeps_limits
    none_overfull gate_among gate_of gated suits state_after receiver handed place_after after serves matches stands_at present free carries put_there placed parts_moved
    after_carry entry_kind letter unused lines_used carry_letters letters_used names_gate is_line is_formed only step_of may_be_taken taken effect is_move opens leaves makes leads_to
    farthest is_silent is_free
soles =
    record {
      glued = refl;
      passed_on = refl;
      tested = refl;
      left = refl;
      taken_out = refl;
      dead_positions = refl;
      end_positions = refl;
    }

-- what every call on the bench example leaves
pub record Bench (table : List ℕ) (verdict : Verdict) : Type 0 where
  pub accepted : verdict ≡ Accepted
  -- ‡ "these four moves"
  pub entry_0 : get_or table 0 0 ≡ 50331648
  pub entry_22 : get_or table 22 0 ≡ 33554561
  pub entry_26 : get_or table 26 0 ≡ 50331843
  pub entry_50 : get_or table 50 0 ≡ 50331652
  -- ‡ "68 leads to 0": the move at which it does
  pub entry_68 : get_or table 68 0 ≡ 50331652
  -- ‡ "entry 72 is 67108864", ‡ "entry 1 is 0"
  pub entry_72 : get_or table 72 0 ≡ 67108864
  pub entry_1 : get_or table 1 0 ≡ 0

module _ (table scratch table' scratch' : List ℕ) (verdict : Verdict) where
  module _ (call : PlanCall bench_cell (bench_recipe ∷ []) table scratch table' scratch' verdict) (long : 90 ≤ length table) where
    fits : bench_sizes.positions ≤ length table
    fits = omega (arith, computed.positions)

    -- "11 bytes now give 14", and any fewer
    module _ (narrow : length scratch ≤ 11) where
      pub short_scratch : verdict ≡ Refused TooShort 0
      short_scratch =
          short_refused bench_cell bench_recipe computed.sized led_recipes.bench table scratch table' scratch' verdict call fits (omega (arith, computed.positions))

      pub short_kept : (table' ≡ table) × (scratch' ≡ scratch)
      short_kept =
          short_untouched bench_cell bench_recipe computed.sized led_recipes.bench table scratch table' scratch' verdict call fits (omega (arith, computed.positions))

    -- "and 12 pass"
    module _ (wide : 12 ≤ length scratch) where
      passes : check_plan bench_cell (bench_recipe ∷ []) (length table) (length scratch) ≡ Accepted
      passes = check_passes bench_cell bench_recipe computed.sized led_recipes.bench (length table) (length scratch) fits (omega (arith, computed.positions))

      plan : Planned bench_cell (bench_recipe ∷ []) bench_measures table table' call.refused
      plan = call.planned passes

      -- request 9: the table that is shown, entry for entry
      pub table_called : FixedCall bench_cell (bench_recipe ∷ []) table scratch table' → (n : ℕ) → n < 90 → get_or table' n 0 ≡ get_or bench_table n 0
      table_called fixed = bench_entries table table' call.refused plan (fixed.fixed passes)

      move : (m x : ℕ) → m < 90 → 0 < x → sole m x ≡ true → get_or table' m 0 ≡ x
      move m x low some test =
          sole_planned bench_cell bench_recipe computed.sized table table' call.refused plan bench_table
          (entry_greatest bench_cell bench_recipe computed.sized bench_table bench_ranks computed.closed) m x
          (omega (arith, computed.positions)) some test

      pub bench_called : Bench table' verdict
      bench_called =
          record {
            accepted =
                call_accepts bench_cell bench_recipe computed.sized led_recipes.bench table scratch table' scratch' verdict call fits
                (omega (arith, computed.positions)) (bench_planned.accepted_holds refl);
            entry_0 = move 0 50331648 (omega arith) (omega arith) soles.glued;
            entry_22 = move 22 33554561 (omega arith) (omega arith) soles.passed_on;
            entry_26 = move 26 50331843 (omega arith) (omega arith) soles.tested;
            entry_50 = move 50 50331652 (omega arith) (omega arith) soles.left;
            entry_68 = move 68 50331652 (omega arith) (omega arith) soles.taken_out;
            entry_72 = entry_last table table' call.refused plan;
            entry_1 = entry_one table table' call.refused plan;
          }

      -- request 8: no entry where the lane would start empty
      pub lane_called : get_or table' 23 0 ≡ 0
      lane_called = entry_empty_lane table table' call.refused plan

      -- a planner that "answers 15 always" does not keep the contract
      pub not_always_15 : verdict ≡ Refused NotRealisable 0 → ⊥
      not_always_15 is = refused_not is bench_called.accepted

      -- nor does one that "accepts all, end entries everywhere"
      pub not_ends_everywhere : get_or table' 0 0 ≡ 67108864 → ⊥
      not_ends_everywhere is = omega (arith, bench_called.entry_0)

  -- ‡ "point 3 as `3,2,2,1,0,2,2` gives 15"
  pub dead_called :
      PlanCall bench_cell (dead_recipe ∷ []) table scratch table' scratch' verdict
      → 90 ≤ length table
      → 12 ≤ length scratch
      → verdict ≡ Refused NotRealisable 0
  dead_called call long wide =
      call_refuses bench_cell dead_recipe computed.dead_sized led_recipes.dead table scratch table' scratch' verdict call
      (omega (arith, soles.dead_positions)) (omega (arith, soles.dead_positions)) dead_recipe_lem

  -- ‡ "a recipe of one end is accepted"
  pub end_called :
      PlanCall bench_cell (end_recipe ∷ []) table scratch table' scratch' verdict
      → 6 ≤ length table
      → 1 ≤ length scratch
      → verdict ≡ Accepted
  end_called call long wide =
      call_accepts bench_cell end_recipe computed.end_sized led_recipes.end table scratch table' scratch' verdict call
      (omega (arith, soles.end_positions)) (omega (arith, soles.end_positions)) one_end
