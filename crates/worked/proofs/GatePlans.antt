-- The cells with reject gates: which of them can build which recipe, by moves, ranks and stages that are computed. Assumes nothing.
use mathlib.Core.Path.{◌≡◌, refl}
use mathlib.Core.Bool.{true}
use mathlib.Core.List.{[], ◌∷◌}
use native.Mathlib.Omega.{arith}
use Rattle.refusals.specs.Verdict.{Accepted, first_refusal, first_line, no_line, rule3, line_verdict}
use Rattle.refusals.specs.Search.{first_below, any_below, all_below, count_below, greatest_below, tabulate, is_of}
use Rattle.cell.specs.Rules as cell
use Rattle.recipe.specs.Rules as recipe
use Rattle.positions.specs.Radix.{sum_below, product_below}
use Rattle.positions.specs.Sizes.{state_count, state_counts, parts_in, part_count, joint_count, sizes_for, sizes_of, farthest}
use Rattle.positions.specs.Position.{start, state_number, place_number, position_of, state_weight, point_at, state_at, place_at, configuration_at, entry_of}
use Rattle.positions.specs.Rules.{record_rules, rule13, check_sizes}
use Rattle.steps.specs.Lines.{first_line_of, lines_of, kind_of, then_of, else_of, is_taken, is_given}
use Rattle.steps.specs.Limits.{load, keeps_limits, none_overfull}
use Rattle.steps.specs.Gates.{gate_among, gate_of, gated}
use Rattle.steps.specs.Lanes.{is_loaded, lane_starts}
use Rattle.steps.specs.Joint.{out_starts, may_do, acts, acts_on, how_many, port_fits, is_step, is_silent_step, state_after, receiver, handed, place_after, after, is_silent}
use Rattle.steps.specs.Carry.{serves, matches, stands_at, present, free, suits, carries, put_there, placed, parts_moved, after_carry, is_free}
use Rattle.steps.specs.Entry.{entry_kind, letter, unused, lines_used, carry_letters, letters_used, names_gate, is_line, is_formed, only, step_of, may_be_taken}
use Rattle.steps.specs.Effect.{taken, effect, is_move, opens, leaves, makes, leads_to}
use Rattle.steps.proofs.EntryForms.{carry_entry}
use Rattle.chapters.specs.Joined.{chapter_at}
use Rattle.simulation.specs.Simulation.{Realisable}
use Rattle.simulation.proofs.ClosedTableTest.{rank_of, has_entry, leads_on, closed_at, is_closed}
use Rattle.simulation.proofs.StageTest.{stage_of, no_more, lower, keeps_stage, stays_staged, moves_staged, position_staged, are_stages}
use Rattle.worked.specs.Moves.{filled, bench_cell, bench_recipe}
use Rattle.worked.specs.Gated.{gate_cell, gate_sizes, bench_behind, again_cell, again_recipe}
use Rattle.worked.specs.GatedPlans.{gate_table, gate_ranks, again_table, again_ranks, left_stages, stuck_stages}
use Rattle.worked.proofs.Certificates.{closed_realisable, staged_unrealisable}
use Rattle.worked.proofs.OneMoveOpen.{sole_in}
use Rattle.worked.proofs.FormedEntries.{formed_pass}
use Rattle.worked.proofs.ChapterCertificates.{sole_at}

-- what is computed
pub record Computed : Type 0 where
  -- the gate whose outcome 0 is carried on by another line, with the bench recipe
  pub gate_sized : check_sizes gate_cell bench_recipe ≡ Accepted
  pub gate_positions : gate_sizes.positions ≡ 120
  pub gate_closed : is_closed gate_cell bench_recipe gate_sizes gate_table gate_ranks ≡ true
  gate_begun : entry_of gate_sizes gate_table 0 start ≡ 50331648
  -- one move is open at each of these
  pub fed : sole_in gate_cell bench_recipe gate_sizes gate_table 0 50331648 ≡ true
  pub passed_on : sole_in gate_cell bench_recipe gate_sizes gate_table 28 33554561 ≡ true
  pub tested : sole_in gate_cell bench_recipe gate_sizes gate_table 32 50331971 ≡ true
  pub left : sole_in gate_cell bench_recipe gate_sizes gate_table 62 50331652 ≡ true
  pub taken_out : sole_in gate_cell bench_recipe gate_sizes gate_table 92 50331654 ≡ true
  -- the part that is tested until it passes, with the gate and without it
  pub again_sized : check_sizes again_cell again_recipe ≡ Accepted
  pub again_positions : (sizes_of again_cell again_recipe).positions ≡ 72
  again_closed : is_closed again_cell again_recipe (sizes_of again_cell again_recipe) again_table again_ranks ≡ true
  again_begun : entry_of (sizes_of again_cell again_recipe) again_table 0 start ≡ 50331648
  pub left_sized : check_sizes bench_cell again_recipe ≡ Accepted
  pub left_positions : (sizes_of bench_cell again_recipe).positions ≡ 72
  left_staged : are_stages bench_cell again_recipe (sizes_of bench_cell again_recipe) left_stages ≡ true
  left_start : stage_of (sizes_of bench_cell again_recipe) left_stages 0 start ≡ 3
  -- the bench recipe with that gate
  pub stuck_sized : check_sizes again_cell bench_recipe ≡ Accepted
  pub stuck_positions : (sizes_of again_cell bench_recipe).positions ≡ 90
  stuck_staged : are_stages again_cell bench_recipe (sizes_of again_cell bench_recipe) stuck_stages ≡ true
  stuck_start : stage_of (sizes_of again_cell bench_recipe) stuck_stages 0 start ≡ 3

pub computed : Computed
unfolding is_of first_below any_below all_below count_below greatest_below tabulate first_refusal first_line no_line rule3 cell.leaves_range
    cell.rule4 cell.greatest_resource cell.rule5 cell.other_act cell.partner cell.unpaired cell.limit_in_range cell.limit_leaves_range
    cell.rule4_limits cell.rule6 cell.limits_absent cell.rule20 cell.alike cell.stray cell.rule23 cell.cell_rules recipe.leaves_range
    recipe.rule4 recipe.breaks_order recipe.rule7 recipe.clashes recipe.breaks_repeat recipe.rule8 recipe.breaks_unused recipe.rule9
    recipe.lacks_parts recipe.rule10 recipe.holds_part recipe.common recipe.shares_part recipe.rule11 recipe.point_count recipe.leads_out
    recipe.rule12 recipe.recipe_rules sum_below product_below state_count state_counts parts_in part_count joint_count sizes_for start
    state_number place_number position_of state_weight point_at state_at place_at configuration_at record_rules rule13 check_sizes first_line_of
    lines_of kind_of then_of else_of is_taken is_given entry_of rank_of has_entry leads_on closed_at is_closed stage_of no_more lower keeps_stage
    stays_staged moves_staged carry_entry position_staged are_stages chapter_at formed_pass sole_at sole_in filled bench_cell bench_recipe bench_behind gate_cell
    again_cell again_recipe gate_table gate_ranks again_table again_ranks left_stages stuck_stages is_loaded lane_starts out_starts may_do acts acts_on how_many port_fits is_step
    is_silent_step load keeps_limits none_overfull gate_among gate_of gated suits state_after receiver handed place_after after serves matches
    stands_at present free carries put_there placed parts_moved after_carry entry_kind letter unused lines_used carry_letters letters_used
    names_gate is_line is_formed only step_of may_be_taken taken effect is_move opens leaves makes leads_to cell.in_range cell.gap cell.has_no_line
    recipe.in_range recipe.has_unused farthest is_silent is_free line_verdict
computed =
    record {
      gate_sized = refl;
      gate_positions = refl;
      gate_closed = refl;
      gate_begun = refl;
      fed = refl;
      passed_on = refl;
      tested = refl;
      left = refl;
      taken_out = refl;
      again_sized = refl;
      again_positions = refl;
      again_closed = refl;
      again_begun = refl;
      left_sized = refl;
      left_positions = refl;
      left_staged = refl;
      left_start = refl;
      stuck_sized = refl;
      stuck_positions = refl;
      stuck_staged = refl;
      stuck_start = refl;
    }

pub gate_realisable : Realisable gate_cell (bench_recipe ∷ [])
gate_realisable =
    closed_realisable gate_cell bench_recipe computed.gate_sized gate_table gate_ranks computed.gate_closed
    (λ none. omega (arith, computed.gate_begun, none))

pub again_realisable : Realisable again_cell (again_recipe ∷ [])
again_realisable =
    closed_realisable again_cell again_recipe computed.again_sized again_table again_ranks computed.again_closed
    (λ none. omega (arith, computed.again_begun, none))

pub left_behind : Realisable bench_cell (again_recipe ∷ []) → ⊥
left_behind = staged_unrealisable bench_cell again_recipe computed.left_sized left_stages computed.left_staged (omega (arith, computed.left_start))

pub stuck : Realisable again_cell (bench_recipe ∷ []) → ⊥
stuck = staged_unrealisable again_cell bench_recipe computed.stuck_sized stuck_stages computed.stuck_staged (omega (arith, computed.stuck_start))
