-- The moves of a test with a reject gate and of one without, and the entries that are shut there: computed. Assumes nothing.
use mathlib.Core.Path.{◌≡◌, refl}
use Rattle.refusals.specs.Search.{first_below, any_below, all_below, count_below, greatest_below, tabulate, is_of}
use Rattle.cell.specs.Rules.{greatest_resource, alike}
use Rattle.cell.specs.Reader.{no_limits}
use Rattle.recipe.specs.Rules.{holds_part, point_count}
use Rattle.positions.specs.Radix.{sum_below, product_below}
use Rattle.positions.specs.Sizes.{state_count, state_counts, parts_in, part_count, joint_count, sizes_for, farthest}
use Rattle.positions.specs.Position.{state_number, place_number, position_of, state_weight, point_at, state_at, place_at, configuration_at}
use Rattle.steps.specs.Lines.{first_line_of, lines_of, kind_of, then_of, else_of, is_taken, is_given}
use Rattle.steps.specs.Limits.{load, keeps_limits, none_overfull}
use Rattle.steps.specs.Gates.{gate_among, gate_of, gated}
use Rattle.steps.specs.Lanes.{is_loaded, lane_starts}
use Rattle.steps.specs.Joint.{out_starts, may_do, acts, acts_on, how_many, port_fits, is_step, is_silent_step, state_after, receiver, handed, place_after, after, is_silent}
use Rattle.steps.specs.Carry.{serves, matches, stands_at, present, free, suits, carries, put_there, placed, parts_moved, after_carry, is_free}
use Rattle.steps.specs.Entry.{entry_kind, letter, unused, lines_used, carry_letters, letters_used, names_gate, is_line, is_formed, only, step_of, may_be_taken}
use Rattle.steps.specs.Effect.{taken, effect, is_move, opens, leaves, makes, leads_to}
use Rattle.worked.specs.Moves.{filled, bench_cell, bench_recipe, next_in, next}
use Rattle.worked.specs.Limited.{one_line}
use Rattle.worked.specs.Gated.{gate_cell, do_recipe, first_line_recipe}

-- a position that an entry leaves where it is: the entry isn't open there
pub record GateMoves : Type 0 where
  -- the two arrows of the test at 32, and the lines by which the part leaves from where each ends
  pub passed : next_in gate_cell bench_recipe 32 50331971 1 ≡ 62
  pub failed : next_in gate_cell bench_recipe 32 50331971 0 ≡ 92
  pub left : next_in gate_cell bench_recipe 62 50331652 0 ≡ 96
  pub taken_out : next_in gate_cell bench_recipe 92 50331654 0 ≡ 0
  -- "b is the act 4 line": neither 0 nor a
  pub no_second : next_in gate_cell bench_recipe 32 50331651 1 ≡ 32
  pub itself : next_in gate_cell bench_recipe 32 50331843 1 ≡ 32
  -- "or equals a if there is none": an entry of before, with 0, is shut at the bench example's test, and so is another line
  pub of_before : next 26 50331651 1 ≡ 26
  pub another : next 26 50331907 1 ≡ 26
  -- but where a is line 0 and has no gate, it is the entry of today
  pub by_line_zero : next_in (one_line 0 0 1 1 0 no_limits) first_line_recipe 3 50331648 1 ≡ 5
  -- "No step takes an act 4 line otherwise": not as internal work, and not as a test's own line
  pub not_internal : next_in gate_cell bench_recipe 32 16777221 1 ≡ 32
  pub not_first : next_in gate_cell bench_recipe 32 50331973 1 ≡ 32
  -- "a do follows act 1 lines alone": at either outcome it ends where the act 1 line does
  pub done : next_in gate_cell do_recipe 6 50331651 1 ≡ 38
  pub done_alike : next_in gate_cell do_recipe 6 50331651 0 ≡ 38
  pub no_do : next_in gate_cell do_recipe 6 50331653 1 ≡ 6

pub gate_moves : GateMoves
unfolding is_of first_below any_below all_below count_below greatest_below tabulate greatest_resource alike holds_part point_count sum_below
    product_below state_count state_counts parts_in part_count joint_count sizes_for state_number place_number position_of state_weight point_at
    state_at place_at configuration_at first_line_of lines_of kind_of then_of else_of is_taken is_given filled bench_cell bench_recipe next_in one_line
    gate_cell do_recipe first_line_recipe is_loaded lane_starts out_starts may_do acts acts_on how_many port_fits is_step is_silent_step load keeps_limits none_overfull gate_among gate_of
    gated suits state_after receiver handed place_after after serves matches stands_at present free carries put_there placed parts_moved
    after_carry entry_kind letter unused lines_used carry_letters letters_used names_gate is_line is_formed only step_of may_be_taken taken effect
    is_move opens leaves makes leads_to farthest is_silent is_free
gate_moves =
    record {
      passed = refl;
      failed = refl;
      left = refl;
      taken_out = refl;
      no_second = refl;
      itself = refl;
      of_before = refl;
      another = refl;
      by_line_zero = refl;
      not_internal = refl;
      not_first = refl;
      done = refl;
      done_alike = refl;
      no_do = refl;
    }
