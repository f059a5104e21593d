-- The bench example with a forgotten point, run with a stored table of 108 entries: next-move, reports and the promises of demand 3.
-- Computed, but for what a run answers: that the table is closed shows it. Assumes nothing.
use mathlib.Core.Path.{◌≡◌, refl}
use mathlib.Core.Bool.{true}
use mathlib.Core.List.{[], ◌∷◌}
use native.Mathlib.Omega.{arith}
use lib.ListN.{length}
use Rattle.refusals.specs.Verdict.{Accepted, first_refusal, first_line, no_line, rule3, refusal_in, if_accepted, line_verdict}
use Rattle.refusals.specs.Search.{first_below, any_below, all_below, count_below, greatest_below, tabulate, is_of, every}
use Rattle.cell.specs.Rules as cell
use Rattle.recipe.specs.Rules as recipe
use Rattle.positions.specs.Radix.{sum_below, product_below}
use Rattle.positions.specs.Sizes.{state_count, state_counts, parts_in, part_count, joint_count, sizes_for, sizes_of, farthest}
use Rattle.positions.specs.Position.{start, state_number, place_number, position_of, entry_of, state_weight, point_at, state_at, place_at, configuration_at}
use Rattle.positions.specs.Rules.{place_count, is_position, place_fits, state_fits}
use Rattle.steps.specs.Lines.{first_line_of, lines_of, kind_of, then_of, else_of, is_taken, is_given}
use Rattle.steps.specs.Limits.{load, keeps_limits, none_overfull}
use Rattle.steps.specs.Gates.{gate_among, gate_of, gated}
use Rattle.steps.specs.Lanes.{is_loaded, lane_starts}
use Rattle.steps.specs.Joint.{out_starts, may_do, acts, acts_on, how_many, port_fits, is_step, is_silent_step, state_after, receiver, handed, place_after, after, is_silent}
use Rattle.steps.specs.Carry.{serves, matches, stands_at, present, free, suits, carries, put_there, placed, parts_moved, after_carry, is_free}
use Rattle.steps.specs.Entry.{entry_kind, letter, unused, lines_used, carry_letters, letters_used, names_gate, is_line, is_formed, only, step_of, may_be_taken}
use Rattle.steps.specs.Effect.{taken, effect, is_move, opens, leaves, makes, leads_to}
use Rattle.chapters.specs.Joined.{chapter_at, first_point, is_earlier, landing, then_at, else_at}
use Rattle.chapters.specs.Sizes as chapters
use Rattle.chapters.specs.Sizes.{points_at, sizes_in, begins, position_in, entry_in}
use Rattle.chapters.specs.Rules.{rule24, rule24_joint, chapter_rules, in_turn, chapters_rules, record_rules, rule13, rule14, is_position_in, rule16}
use Rattle.run.specs.Calls.{fresh_run, table_rules, entry_rules, rule17, rule18, rule19, move_rules, report_rules, next_move, next_point, next_run, report_of}
use Rattle.run.specs.Book.{opened, by_table, at_end, is_open, refusal_of, set_to, moved_to, line_followed, configuration_after, point_after}
use Rattle.run.specs.Book.{made, is_accepted, turned, noted, answer, moments, answers, issued_by, issued}
use Rattle.run.specs.Promises.{Promises, agree, rightly, never_shut, every_issue, was_open, of_carries, found_parts, carried_point, few_silent, never_overfull}
use Rattle.simulation.proofs.ClosedTableTest.{rank_of, has_entry, leads_on, closed_at, is_closed}
use Rattle.worked.specs.Moves.{filled, bench_cell, bench_entry, bench_ranks}
use Rattle.worked.specs.Unreached.{forgotten_recipe, stored_table}
use Rattle.worked.proofs.Certificates.{closed_keeps}
use Rattle.worked.proofs.BenchPromises.{bench_calls}
use Rattle.worked.proofs.UnreachedRecipes.{computed as recipes}

-- what is computed of the stored table: it is closed, by the ranks of the bench example's own
record Computed : Type 0 where
  closed : is_closed bench_cell forgotten_recipe (sizes_of bench_cell forgotten_recipe) stored_table bench_ranks ≡ true
  entries : length stored_table ≡ 108
  begun : entry_of (sizes_of bench_cell forgotten_recipe) stored_table 0 start ≡ 50331648

computed : Computed
unfolding is_of first_below any_below all_below count_below greatest_below tabulate cell.greatest_resource cell.alike recipe.holds_part recipe.point_count
    sum_below product_below state_count state_counts parts_in part_count joint_count sizes_for start state_number place_number position_of state_weight
    point_at state_at place_at configuration_at first_line_of lines_of kind_of then_of else_of is_taken is_given entry_of rank_of has_entry leads_on closed_at
    is_closed filled bench_cell bench_entry bench_ranks forgotten_recipe stored_table is_loaded lane_starts out_starts may_do acts acts_on how_many port_fits is_step is_silent_step load
    keeps_limits none_overfull gate_among gate_of gated suits state_after receiver handed place_after after serves matches stands_at present free
    carries put_there placed parts_moved after_carry entry_kind letter unused lines_used carry_letters letters_used names_gate is_line is_formed only
    step_of may_be_taken taken effect is_move opens leaves makes leads_to farthest is_silent is_free
computed = record { closed = refl; entries = refl; begun = refl }

pub record StoredRun : Type 0 where
  -- "run with a stored table": the first move is that of the bench example, and is reported
  pub first_move : next_move bench_cell (forgotten_recipe ∷ []) stored_table fresh_run ≡ record { verdict = Accepted; entry = 50331648 }
  pub first_report : (report_of bench_cell (forgotten_recipe ∷ []) stored_table fresh_run 0).verdict ≡ Accepted
  -- the list of calls that the bench example is followed through, to its end, keeps every promise
  pub promises :
      Promises bench_cell (forgotten_recipe ∷ []) (sizes_in bench_cell (forgotten_recipe ∷ [])) stored_table first_point start bench_calls

pub stored_run : StoredRun
unfolding is_of first_below any_below all_below count_below greatest_below tabulate first_refusal first_line no_line rule3 cell.leaves_range
    cell.rule4 cell.greatest_resource cell.rule5 cell.other_act cell.partner cell.unpaired cell.limit_in_range cell.limit_leaves_range
    cell.rule4_limits cell.rule6 cell.limits_absent cell.rule20 cell.alike cell.stray cell.rule23 cell.cell_rules recipe.leaves_range recipe.rule4 recipe.breaks_order recipe.rule7
    recipe.clashes recipe.breaks_repeat recipe.rule8 recipe.breaks_unused recipe.rule9 recipe.lacks_parts recipe.rule10 recipe.holds_part
    recipe.common recipe.shares_part recipe.rule11 recipe.point_count recipe.leads_out recipe.rule12 recipe.recipe_rules sum_below product_below
    state_count state_counts parts_in part_count joint_count sizes_for start state_number place_number position_of record_rules rule13 rule14
    place_count is_position rule16 first_line_of lines_of kind_of then_of else_of is_taken is_given fresh_run chapter_at is_earlier landing then_at else_at points_at chapters.parts_in sizes_in begins position_in entry_in rule24 rule24_joint chapter_rules
    in_turn chapters_rules is_position_in table_rules entry_rules rule17 rule18 rule19
    move_rules report_rules next_move next_point next_run report_of opened by_table at_end is_open refusal_of set_to moved_to line_followed configuration_after point_after made
    is_accepted turned noted answer moments answers issued_by issued refusal_in every agree rightly never_shut
    every_issue was_open found_parts carried_point few_silent never_overfull filled bench_cell bench_entry forgotten_recipe stored_table is_loaded lane_starts out_starts may_do acts acts_on
    how_many port_fits is_step is_silent_step load keeps_limits none_overfull gate_among gate_of gated suits state_after receiver handed place_after after serves matches
    stands_at present free carries put_there placed parts_moved after_carry entry_kind letter unused lines_used carry_letters letters_used names_gate is_line is_formed only step_of
    may_be_taken if_accepted of_carries taken effect is_move opens leaves makes leads_to cell.in_range cell.gap cell.has_no_line recipe.in_range
    recipe.has_unused farthest state_weight state_fits place_fits is_silent is_free line_verdict
stored_run =
    record {
      first_move = refl;
      first_report = refl;
      promises =
          record {
            same_answers =
                (closed_keeps bench_cell forgotten_recipe recipes.reading.sized stored_table bench_ranks computed.closed
                (omega (arith, recipes.reading.positions, computed.entries)) (λ none. omega (arith, computed.begun, none)) bench_calls
                ).same_answers;
            keeps =
                record {
                  refused_at_ends = refl;
                  is_never_shut = refl;
                  moves_open = refl;
                  parts_found = refl;
                  points_followed = refl;
                  silent_few = refl;
                  none_is_overfull = refl;
                };
          };
    }
