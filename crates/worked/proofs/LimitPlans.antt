-- The cells with limits: which of them can build their recipe, by moves, ranks and stages that are computed, and a position that a
-- move mends. Assumes nothing.
use mathlib.Core.Path.{◌≡◌, refl}
use mathlib.Core.Bool.{true, false}
use mathlib.Core.List.{[], ◌∷◌}
use native.Mathlib.Omega.{arith}
use lib.ListN.{length}
use Rattle.refusals.specs.Verdict.{Accepted, first_refusal, first_line, no_line, rule3, line_verdict}
use Rattle.refusals.specs.Search.{first_below, any_below, all_below, count_below, greatest_below, tabulate, is_of}
use Rattle.cell.specs.Rules as cell
use Rattle.recipe.specs.Rules as recipe
use Rattle.positions.specs.Radix.{sum_below, product_below}
use Rattle.positions.specs.Sizes.{state_count, state_counts, parts_in, part_count, joint_count, sizes_for, farthest}
use Rattle.positions.specs.Position.{start, state_number, place_number, position_of, state_weight, point_at, state_at, place_at, configuration_at, entry_of}
use Rattle.positions.specs.Rules.{record_rules, rule13, check_sizes, place_count, is_position, place_fits, state_fits}
use Rattle.steps.specs.Lines.{first_line_of, lines_of, kind_of, then_of, else_of, is_taken, is_given}
use Rattle.steps.specs.Limits.{load, keeps_limits, none_overfull}
use Rattle.steps.specs.Gates.{gate_among, gate_of, gated}
use Rattle.steps.specs.Lanes.{is_loaded, lane_starts}
use Rattle.steps.specs.Joint.{out_starts, may_do, acts, acts_on, how_many, port_fits, is_step, is_silent_step, state_after, receiver, handed, place_after, after, is_silent}
use Rattle.steps.specs.Carry.{serves, matches, stands_at, present, free, suits, carries, put_there, placed, parts_moved, after_carry, is_free}
use Rattle.steps.specs.Entry.{entry_kind, letter, unused, lines_used, carry_letters, letters_used, names_gate, is_line, is_formed, only, step_of, may_be_taken}
use Rattle.steps.specs.Effect.{taken, effect, is_move, opens, leaves, makes, leads_to}
use Rattle.steps.proofs.EntryForms.{carry_entry}
use Rattle.chapters.specs.Joined.{point_in}
use Rattle.chapters.specs.Sizes.{sizes_in}
use Rattle.simulation.specs.Simulation.{Position, Greatest, Realisable}
use Rattle.simulation.proofs.ClosedTableTest.{rank_of, has_entry, leads_on, closed_at, is_closed}
use Rattle.simulation.proofs.StageTest.{stage_of, no_more, lower, keeps_stage, stays_staged, moves_staged, position_staged, are_stages}
use Rattle.worked.specs.Moves.{filled}
use Rattle.worked.specs.Limited.{limits_of, one_line, glue_cell, glue_recipe, glue_sizes, mend_cell, mend_recipe, mend_sizes}
use Rattle.worked.specs.Limited.{nest_cell, nest_recipe, nest_sizes, two_parts, two_handed_over}
use Rattle.worked.specs.LimitedPlans.{glue_table, glue_stages, mend_table, mend_ranks, nest_table, nest_ranks, nest_stages}
use Rattle.worked.proofs.Certificates.{entry_greatest, closed_realisable, staged_unrealisable}

-- what is computed
pub record Computed : Type 0 where
  six : length two_parts.state ≡ 6
  eight : length two_parts.place ≡ 8
  -- a glue station of two places
  pub two_sized : check_sizes (glue_cell 2) glue_recipe ≡ Accepted
  pub two_positions : (glue_sizes 2).positions ≡ 12
  two_closed : is_closed (glue_cell 2) glue_recipe (glue_sizes 2) glue_table [] ≡ true
  two_begun : entry_of (glue_sizes 2) glue_table 0 start ≡ 50331648
  -- and of one place, with the end at which both parts are there
  pub one_sized : check_sizes (glue_cell 1) glue_recipe ≡ Accepted
  pub one_positions : (glue_sizes 1).positions ≡ 12
  one_staged : are_stages (glue_cell 1) glue_recipe (glue_sizes 1) glue_stages ≡ true
  one_start : stage_of (glue_sizes 1) glue_stages 0 start ≡ 2
  end_range : is_position (glue_sizes 1) 2 two_parts ≡ true
  end_number : position_of (glue_sizes 1) 2 two_parts ≡ 11
  end_kind : kind_of glue_recipe 2 ≡ 0
  end_full : none_overfull (glue_cell 1) two_parts ≡ false
  -- the station that is mended at 58, by a move to 62
  pub mend_sized : check_sizes mend_cell mend_recipe ≡ Accepted
  pub mend_positions : mend_sizes.positions ≡ 108
  mend_closed : is_closed mend_cell mend_recipe mend_sizes mend_table mend_ranks ≡ true
  mend_begun : entry_of mend_sizes mend_table 0 start ≡ 50331648
  mend_range : is_position mend_sizes 2 two_parts ≡ true
  mend_number : position_of mend_sizes 2 two_parts ≡ 58
  mend_full : none_overfull mend_cell two_parts ≡ false
  mend_open : opens mend_cell mend_recipe 2 two_parts 33554561 ≡ true
  mend_point : leads_to mend_recipe 2 33554561 0 ≡ 2
  mend_makes : makes mend_cell mend_recipe 2 two_parts 33554561 0 ≡ two_handed_over
  mended_range : is_position mend_sizes 2 two_handed_over ≡ true
  mended_number : position_of mend_sizes 2 two_handed_over ≡ 62
  mended_entry : entry_of mend_sizes mend_table 2 two_handed_over ≡ 50331648
  mended_six : length two_handed_over.state ≡ 6
  mended_eight : length two_handed_over.place ≡ 8
  -- a nest of two places, and of one
  pub nest_two_sized : check_sizes (nest_cell 8 2) nest_recipe ≡ Accepted
  pub nest_two_positions : (nest_sizes 2).positions ≡ 72
  nest_closed : is_closed (nest_cell 8 2) nest_recipe (nest_sizes 2) nest_table nest_ranks ≡ true
  nest_begun : entry_of (nest_sizes 2) nest_table 0 start ≡ 50331648
  pub nest_one_sized : check_sizes (nest_cell 8 1) nest_recipe ≡ Accepted
  pub nest_one_positions : (nest_sizes 1).positions ≡ 72
  nest_staged : are_stages (nest_cell 8 1) nest_recipe (nest_sizes 1) nest_stages ≡ true
  nest_start : stage_of (nest_sizes 1) nest_stages 0 start ≡ 3

pub computed : Computed
unfolding is_of first_below any_below all_below count_below greatest_below tabulate first_refusal first_line no_line rule3 cell.leaves_range
    cell.rule4 cell.greatest_resource cell.rule5 cell.other_act cell.partner cell.unpaired cell.limit_in_range cell.limit_leaves_range
    cell.rule4_limits cell.rule6 cell.limits_absent cell.rule20 cell.alike cell.stray cell.rule23 cell.cell_rules recipe.leaves_range recipe.rule4 recipe.breaks_order recipe.rule7
    recipe.clashes recipe.breaks_repeat recipe.rule8 recipe.breaks_unused recipe.rule9 recipe.lacks_parts recipe.rule10 recipe.holds_part
    recipe.common recipe.shares_part recipe.rule11 recipe.point_count recipe.leads_out recipe.rule12 recipe.recipe_rules sum_below product_below
    state_count state_counts parts_in part_count joint_count sizes_for start state_number place_number position_of state_weight point_at state_at
    place_at configuration_at record_rules rule13 check_sizes place_count is_position first_line_of lines_of kind_of then_of else_of is_taken is_given
    entry_of rank_of has_entry leads_on closed_at is_closed stage_of no_more lower keeps_stage stays_staged moves_staged carry_entry position_staged are_stages
    filled limits_of one_line glue_cell glue_recipe mend_cell mend_recipe nest_cell nest_recipe two_parts two_handed_over glue_table glue_stages
    mend_table mend_ranks nest_table nest_ranks nest_stages is_loaded lane_starts out_starts may_do acts acts_on how_many port_fits is_step is_silent_step load keeps_limits none_overfull gate_among gate_of gated
    suits state_after receiver handed place_after after serves matches stands_at present free carries put_there placed parts_moved after_carry
    entry_kind letter unused lines_used carry_letters letters_used names_gate is_line is_formed only step_of may_be_taken taken effect is_move opens leaves makes leads_to cell.in_range
    cell.gap cell.has_no_line recipe.in_range recipe.has_unused farthest state_fits place_fits is_silent is_free line_verdict
computed =
    record {
      six = refl;
      eight = refl;
      two_sized = refl;
      two_positions = refl;
      two_closed = refl;
      two_begun = refl;
      one_sized = refl;
      one_positions = refl;
      one_staged = refl;
      one_start = refl;
      end_range = refl;
      end_number = refl;
      end_kind = refl;
      end_full = refl;
      mend_sized = refl;
      mend_positions = refl;
      mend_closed = refl;
      mend_begun = refl;
      mend_range = refl;
      mend_number = refl;
      mend_full = refl;
      mend_open = refl;
      mend_point = refl;
      mend_makes = refl;
      mended_range = refl;
      mended_number = refl;
      mended_entry = refl;
      mended_six = refl;
      mended_eight = refl;
      nest_two_sized = refl;
      nest_two_positions = refl;
      nest_closed = refl;
      nest_begun = refl;
      nest_one_sized = refl;
      nest_one_positions = refl;
      nest_staged = refl;
      nest_start = refl;
    }

pub glue_of_two : Realisable (glue_cell 2) (glue_recipe ∷ [])
glue_of_two =
    closed_realisable (glue_cell 2) glue_recipe computed.two_sized glue_table [] computed.two_closed (λ none. omega (arith, computed.two_begun, none))

pub glue_of_one : Realisable (glue_cell 1) (glue_recipe ∷ []) → ⊥
glue_of_one =
    staged_unrealisable (glue_cell 1) glue_recipe computed.one_sized glue_stages computed.one_staged (omega (arith, computed.one_start))

-- an end at which the glue station of one place has both parts
pub record OverfullEnd : Type 0 where
  pub position : Position (glue_sizes 1) 2 two_parts
  pub number : position_of (glue_sizes 1) 2 two_parts ≡ 11
  pub end : kind_of glue_recipe 2 ≡ 0
  pub overfull : none_overfull (glue_cell 1) two_parts ≡ false

pub overfull_end : OverfullEnd
overfull_end =
    record {
      position = record { is_in_range = computed.end_range; six = computed.six; eight = computed.eight };
      number = computed.end_number;
      end = computed.end_kind;
      overfull = computed.end_full;
    }

pub mend_realisable : Realisable mend_cell (mend_recipe ∷ [])
mend_realisable =
    closed_realisable mend_cell mend_recipe computed.mend_sized mend_table mend_ranks computed.mend_closed
    (λ none. omega (arith, computed.mend_begun, none))

-- an overfull station that a move mends
pub record Mending : Type 0 where
  -- position 58: the first station may hold one part, and has two
  pub position : Position mend_sizes 2 two_parts
  pub number : position_of mend_sizes 2 two_parts ≡ 58
  pub overfull : none_overfull mend_cell two_parts ≡ false
  -- "A step is open only if no station exceeds its limit after it": handing both over is open
  pub mends : opens mend_cell mend_recipe 2 two_parts 33554561 ≡ true
  -- and leads to position 62, which the greatest simulation holds
  pub leads : leads_to mend_recipe 2 33554561 0 ≡ 2
  pub hands_over : makes mend_cell mend_recipe 2 two_parts 33554561 0 ≡ two_handed_over
  pub next_number : position_of mend_sizes 2 two_handed_over ≡ 62
  pub next_position : Position mend_sizes 2 two_handed_over
  pub next_held : Greatest mend_cell (mend_recipe ∷ []) (sizes_in mend_cell (mend_recipe ∷ [])) (point_in 0 2) two_handed_over

pub mending : Mending
mending =
    let mended : Position mend_sizes 2 two_handed_over =
    record { is_in_range = computed.mended_range; six = computed.mended_six; eight = computed.mended_eight } in
    record {
      position = record { is_in_range = computed.mend_range; six = computed.six; eight = computed.eight };
      number = computed.mend_number;
      overfull = computed.mend_full;
      mends = computed.mend_open;
      leads = computed.mend_point;
      hands_over = computed.mend_makes;
      next_number = computed.mended_number;
      next_position = mended;
      next_held =
          entry_greatest mend_cell mend_recipe computed.mend_sized mend_table mend_ranks computed.mend_closed 2 two_handed_over mended
          (λ none. omega (arith, computed.mended_entry, none));
    }

pub nest_of_two : Realisable (nest_cell 8 2) (nest_recipe ∷ [])
nest_of_two =
    closed_realisable (nest_cell 8 2) nest_recipe computed.nest_two_sized nest_table nest_ranks computed.nest_closed
    (λ none. omega (arith, computed.nest_begun, none))

pub nest_of_one : Realisable (nest_cell 8 1) (nest_recipe ∷ []) → ⊥
nest_of_one =
    staged_unrealisable (nest_cell 8 1) nest_recipe computed.nest_one_sized nest_stages computed.nest_staged (omega (arith, computed.nest_start))
