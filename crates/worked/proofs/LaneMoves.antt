-- Lanes with a photocell and without: what is open where the giver holds nothing, and a table from before: computed. Assumes nothing.
use mathlib.Core.Path.{◌≡◌, refl}
use mathlib.Core.Bool.{true, false}
use mathlib.Core.List.{[], ◌∷◌}
use Rattle.refusals.specs.declared.Refusal.TheVariants.{NotOpen}
use Rattle.refusals.specs.Verdict.{Accepted, Refused, first_refusal, first_line, no_line, if_accepted, rule3, line_verdict}
use Rattle.refusals.specs.Search.{first_below, any_below, all_below, count_below, greatest_below, tabulate, is_of}
use Rattle.cell.specs.Rules as cell
use Rattle.recipe.specs.Rules as recipe
use Rattle.positions.specs.Radix.{sum_below, product_below}
use Rattle.positions.specs.Sizes.{state_count, state_counts, parts_in, part_count, joint_count, sizes_for, farthest}
use Rattle.positions.specs.Position.{state_number, place_number, position_of, state_weight}
use Rattle.positions.specs.Rules.{place_count, is_position, place_fits, state_fits}
use Rattle.steps.specs.Lines.{first_line_of, lines_of, kind_of, then_of, else_of, is_taken, is_given}
use Rattle.steps.specs.Limits.{load, keeps_limits, none_overfull}
use Rattle.steps.specs.Gates.{gate_among, gate_of, gated}
use Rattle.steps.specs.Lanes.{is_loaded, lane_starts}
use Rattle.steps.specs.Joint.{out_starts, may_do, acts, acts_on, how_many, port_fits, is_step, is_silent_step, state_after, receiver, handed, place_after, after, is_silent}
use Rattle.steps.specs.Carry.{serves, matches, stands_at, present, free, suits, carries, put_there, placed, parts_moved, after_carry, is_free}
use Rattle.steps.specs.Entry.{entry_kind, letter, unused, lines_used, carry_letters, letters_used, names_gate, is_line, is_formed, only, step_of, may_be_taken}
use Rattle.steps.specs.Effect.{taken, effect, is_move, opens, leaves, makes, leads_to}
use Rattle.run.specs.declared.Run.{Run}
use Rattle.chapters.specs.Joined.{chapter_at, is_earlier, landing, then_at, else_at}
use Rattle.chapters.specs.Sizes as chapters
use Rattle.chapters.specs.Sizes.{points_at, sizes_in, begins, position_in, entry_in}
use Rattle.chapters.specs.Rules.{rule24, rule24_joint, chapter_rules, in_turn, chapters_rules, record_rules, rule13, rule14, is_position_in, rule16}
use Rattle.run.specs.Calls.{table_rules, entry_rules, rule17, rule18, rule19, move_rules, report_rules, next_move, next_point, next_run, report_of}
use Rattle.worked.specs.Moves.{filled, bench_cell, bench_recipe, bench_sizes, bench_entry}
use Rattle.worked.specs.Laned.{bench_through, part_passed_on, table_before}

-- the run at position 23
abbrev pub passed_on : Run
passed_on = record { point = 1; configuration = part_passed_on; chapter = 0 }

-- and where it goes if the lane starts, position 26
abbrev pub fetched : Run
fetched = record { point = 1; configuration = record { state = 0 ∷ 1 ∷ 0 ∷ 0 ∷ 0 ∷ 0 ∷ []; place = part_passed_on.place }; chapter = 0 }

pub record LaneMoves : Type 0 where
  -- "ports 0 to 31", "Ports 32 to 63"
  pub port_0 : is_loaded 0 ≡ true
  pub port_31 : is_loaded 31 ≡ true
  pub port_32 : is_loaded 32 ≡ false
  pub port_63 : is_loaded 63 ≡ false
  pub position : position_of bench_sizes 1 part_passed_on ≡ 23
  -- "won't start empty": the giver's parts count and not the receiver's, before the step and not after it
  pub shut : next_move bench_cell (bench_recipe ∷ []) table_before passed_on ≡ record { verdict = Refused NotOpen 0; entry = 0 }
  pub shut_report : report_of bench_cell (bench_recipe ∷ []) table_before passed_on 0 ≡ record { verdict = Refused NotOpen 0; run = passed_on }
  pub shut_31 : next_move (bench_through 31) (bench_recipe ∷ []) table_before passed_on ≡ record { verdict = Refused NotOpen 0; entry = 0 }
  -- "Ports 32 to 63 move empty pallets as before."
  pub open_32 : next_move (bench_through 32) (bench_recipe ∷ []) table_before passed_on ≡ record { verdict = Accepted; entry = 33554561 }
  pub open_report : report_of (bench_through 32) (bench_recipe ∷ []) table_before passed_on 0 ≡ record { verdict = Accepted; run = fetched }

pub lane_moves : LaneMoves
unfolding is_of first_below any_below all_below count_below greatest_below tabulate first_refusal first_line no_line rule3 cell.leaves_range
    cell.rule4 cell.greatest_resource cell.rule5 cell.other_act cell.partner cell.unpaired cell.limit_in_range cell.limit_leaves_range
    cell.rule4_limits cell.rule6 cell.limits_absent cell.rule20 cell.alike cell.stray cell.rule23 cell.cell_rules recipe.leaves_range recipe.rule4 recipe.breaks_order recipe.rule7
    recipe.clashes recipe.breaks_repeat recipe.rule8 recipe.breaks_unused recipe.rule9 recipe.lacks_parts recipe.rule10 recipe.holds_part
    recipe.common recipe.shares_part recipe.rule11 recipe.point_count recipe.leads_out recipe.rule12 recipe.recipe_rules sum_below product_below
    state_count state_counts parts_in part_count joint_count sizes_for state_number place_number position_of record_rules rule13 rule14 place_count
    is_position rule16 first_line_of lines_of kind_of then_of else_of is_taken is_given chapter_at is_earlier landing then_at else_at points_at chapters.parts_in sizes_in begins position_in entry_in rule24 rule24_joint chapter_rules
    in_turn chapters_rules is_position_in table_rules entry_rules rule17 rule18 rule19 move_rules
    report_rules next_move next_point next_run report_of if_accepted filled bench_cell bench_recipe bench_entry bench_through part_passed_on table_before is_loaded lane_starts out_starts may_do acts
    acts_on how_many port_fits is_step is_silent_step load keeps_limits none_overfull gate_among gate_of gated suits state_after receiver handed place_after after serves
    matches stands_at present free carries put_there placed parts_moved after_carry entry_kind letter unused lines_used carry_letters letters_used names_gate is_line is_formed only
    step_of may_be_taken taken effect is_move opens leaves makes leads_to cell.in_range cell.gap cell.has_no_line recipe.in_range recipe.has_unused
    farthest state_weight state_fits place_fits is_silent is_free line_verdict
lane_moves =
    record {
      port_0 = refl;
      port_31 = refl;
      port_32 = refl;
      port_63 = refl;
      position = refl;
      shut = refl;
      shut_report = refl;
      shut_31 = refl;
      open_32 = refl;
      open_report = refl;
    }
