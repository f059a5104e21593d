-- The bench example's sizes and moves, computed. Assumes nothing.
use mathlib.Core.Path.{◌≡◌, refl}
use Rattle.refusals.specs.Search.{first_below, any_below, all_below, count_below, greatest_below, tabulate, is_of}
use Rattle.cell.specs.Rules.{greatest_resource, alike}
use Rattle.recipe.specs.Rules.{holds_part, point_count}
use Rattle.positions.specs.Radix.{sum_below, product_below}
use Rattle.positions.specs.Sizes.{state_count, state_counts, parts_in, part_count, joint_count, sizes_for, farthest}
use Rattle.positions.specs.Position.{state_number, place_number, position_of, state_weight, point_at, state_at, place_at, configuration_at}
use Rattle.steps.specs.Lines.{first_line_of, lines_of, kind_of, then_of, else_of, is_taken, is_given}
use Rattle.steps.specs.Limits.{load, keeps_limits, none_overfull}
use Rattle.steps.specs.Gates.{gate_among, gate_of, gated}
use Rattle.steps.specs.Lanes.{is_loaded, lane_starts}
use Rattle.steps.specs.Joint.{out_starts, may_do, acts, acts_on, how_many, port_fits, is_step, is_silent_step, state_after, receiver, handed, place_after, after, is_silent}
use Rattle.steps.specs.Carry.{serves, matches, stands_at, present, free, suits, carries, put_there, placed, parts_moved, after_carry, is_free}
use Rattle.steps.specs.Entry.{entry_kind, letter, unused, lines_used, carry_letters, letters_used, names_gate, is_line, is_formed, only, step_of, may_be_taken}
use Rattle.steps.specs.Effect.{taken, effect, is_move, opens, leaves, makes, leads_to}
use Rattle.worked.specs.Moves.{filled, bench_cell, bench_recipe, bench_sizes, next_in, next}

pub record Moves : Type 0 where
  -- "J 6, W 3, M 90"
  pub joint_states : bench_sizes.joint ≡ 6
  pub ways : bench_sizes.ways ≡ 3
  pub positions : bench_sizes.positions ≡ 90
  -- ‡ "these four moves", the test at 26 with outcome 1: "the bench example's entry at 26 becomes 50331843"
  pub glued : next 0 50331648 0 ≡ 22
  pub passed_on : next 22 33554561 0 ≡ 26
  pub tested : next 26 50331843 1 ≡ 50
  pub left : next 50 50331652 0 ≡ 72
  -- ‡ "test outcome 0 gives 68"
  pub failed : next 26 50331843 0 ≡ 68
  -- ‡ "68 leads to 0"
  pub taken_out : next 68 50331652 0 ≡ 0

pub moves : Moves
unfolding is_of first_below any_below all_below count_below greatest_below tabulate greatest_resource holds_part point_count sum_below product_below
    state_count state_counts parts_in part_count joint_count sizes_for state_number place_number position_of state_weight point_at state_at place_at
    configuration_at first_line_of lines_of kind_of then_of else_of is_taken is_given filled bench_cell bench_recipe next_in is_loaded lane_starts out_starts may_do acts acts_on how_many
    port_fits is_step is_silent_step load keeps_limits none_overfull alike gate_among gate_of gated suits state_after receiver handed place_after after serves matches stands_at
    present free carries put_there placed parts_moved after_carry entry_kind letter unused lines_used carry_letters letters_used names_gate is_line is_formed only step_of may_be_taken
    taken effect is_move opens leaves makes leads_to farthest is_silent is_free
moves =
    record {
      joint_states = refl;
      ways = refl;
      positions = refl;
      glued = refl;
      passed_on = refl;
      tested = refl;
      left = refl;
      failed = refl;
      taken_out = refl;
    }
