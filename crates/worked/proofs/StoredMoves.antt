-- A stored table with the moves of a glue station of two places, run with two and with one: computed. Assumes nothing.
use mathlib.Core.Path.{◌≡◌, refl}
use mathlib.Core.List.{[], ◌∷◌}
use Rattle.refusals.specs.declared.Refusal.TheVariants.{NotOpen, AtEnd}
use Rattle.refusals.specs.Verdict.{Accepted, Refused, first_refusal, first_line, no_line, if_accepted, rule3, line_verdict}
use Rattle.refusals.specs.Search.{first_below, any_below, all_below, count_below, greatest_below, tabulate, is_of}
use Rattle.cell.specs.Rules as cell
use Rattle.recipe.specs.Rules as recipe
use Rattle.positions.specs.Radix.{sum_below, product_below}
use Rattle.positions.specs.Sizes.{state_count, state_counts, parts_in, part_count, joint_count, sizes_for, farthest}
use Rattle.positions.specs.Position.{state_number, place_number, position_of, state_weight}
use Rattle.positions.specs.Rules.{place_count, is_position, place_fits, state_fits}
use Rattle.steps.specs.Lines.{first_line_of, lines_of, kind_of, then_of, else_of, is_taken, is_given}
use Rattle.steps.specs.Limits.{load, keeps_limits, none_overfull}
use Rattle.steps.specs.Gates.{gate_among, gate_of, gated}
use Rattle.steps.specs.Lanes.{is_loaded, lane_starts}
use Rattle.steps.specs.Joint.{out_starts, may_do, acts, acts_on, how_many, port_fits, is_step, is_silent_step, state_after, receiver, handed, place_after, after, is_silent}
use Rattle.steps.specs.Carry.{serves, matches, stands_at, present, free, suits, carries, put_there, placed, parts_moved, after_carry, is_free}
use Rattle.steps.specs.Entry.{entry_kind, letter, unused, lines_used, carry_letters, letters_used, names_gate, is_line, is_formed, only, step_of, may_be_taken}
use Rattle.steps.specs.Effect.{taken, effect, is_move, opens, leaves, makes, leads_to}
use Rattle.run.specs.declared.Run.{Run}
use Rattle.chapters.specs.Joined.{chapter_at, is_earlier, landing, then_at, else_at}
use Rattle.chapters.specs.Sizes as chapters
use Rattle.chapters.specs.Sizes.{points_at, sizes_in, begins, position_in, entry_in}
use Rattle.chapters.specs.Rules.{rule24, rule24_joint, chapter_rules, in_turn, chapters_rules, record_rules, rule13, rule14, is_position_in, rule16}
use Rattle.run.specs.Calls.{table_rules, entry_rules, rule17, rule18, rule19, move_rules, report_rules, next_move, next_point, next_run, report_of}
use Rattle.worked.specs.Moves.{filled}
use Rattle.worked.specs.Worthless.{made_part}
use Rattle.worked.specs.Limited.{limits_of, one_line, glue_cell, glue_recipe, glue_sizes, two_parts}
use Rattle.worked.specs.LimitedPlans.{glue_table}

-- one part is there, and the next is to be put; and both are there, at the end
abbrev pub half_way : Run
half_way = record { point = 1; configuration = made_part; chapter = 0 }

abbrev pub finished : Run
finished = record { point = 2; configuration = two_parts; chapter = 0 }

pub record StoredMoves : Type 0 where
  pub half_way_lem : position_of (glue_sizes 1) 1 made_part ≡ 5
  -- "A step is open only if no station exceeds its limit after it": 50331648 at 5 is open with two places, and gets 18 with one
  pub two_places : next_move (glue_cell 2) (glue_recipe ∷ []) glue_table half_way ≡ record { verdict = Accepted; entry = 50331648 }
  pub one_place : next_move (glue_cell 1) (glue_recipe ∷ []) glue_table half_way ≡ record { verdict = Refused NotOpen 0; entry = 0 }
  pub shut_report : report_of (glue_cell 1) (glue_recipe ∷ []) glue_table half_way 0 ≡ record { verdict = Refused NotOpen 0; run = half_way }
  -- at an end no step is taken, so that 67108864 at 11 is still the move there, though its station is overfull; a report gets 19
  pub end_move : next_move (glue_cell 1) (glue_recipe ∷ []) glue_table finished ≡ record { verdict = Accepted; entry = 67108864 }
  pub end_failed : report_of (glue_cell 1) (glue_recipe ∷ []) glue_table finished 0 ≡ record { verdict = Refused AtEnd 0; run = finished }
  pub end_passed : report_of (glue_cell 1) (glue_recipe ∷ []) glue_table finished 1 ≡ record { verdict = Refused AtEnd 0; run = finished }

pub stored_moves : StoredMoves
unfolding is_of first_below any_below all_below count_below greatest_below tabulate first_refusal first_line no_line rule3 cell.leaves_range
    cell.rule4 cell.greatest_resource cell.rule5 cell.other_act cell.partner cell.unpaired cell.limit_in_range cell.limit_leaves_range
    cell.rule4_limits cell.rule6 cell.limits_absent cell.rule20 cell.alike cell.stray cell.rule23 cell.cell_rules recipe.leaves_range recipe.rule4 recipe.breaks_order recipe.rule7
    recipe.clashes recipe.breaks_repeat recipe.rule8 recipe.breaks_unused recipe.rule9 recipe.lacks_parts recipe.rule10 recipe.holds_part
    recipe.common recipe.shares_part recipe.rule11 recipe.point_count recipe.leads_out recipe.rule12 recipe.recipe_rules sum_below product_below
    state_count state_counts parts_in part_count joint_count sizes_for state_number place_number position_of record_rules rule13 rule14 place_count
    is_position rule16 first_line_of lines_of kind_of then_of else_of is_taken is_given chapter_at is_earlier landing then_at else_at points_at chapters.parts_in sizes_in begins position_in entry_in rule24 rule24_joint chapter_rules
    in_turn chapters_rules is_position_in table_rules entry_rules rule17 rule18 rule19 move_rules
    report_rules next_move next_point next_run report_of if_accepted filled limits_of one_line glue_cell glue_recipe two_parts made_part glue_table is_loaded lane_starts out_starts may_do acts
    acts_on how_many port_fits is_step is_silent_step load keeps_limits none_overfull gate_among gate_of gated suits state_after receiver handed place_after after serves
    matches stands_at present free carries put_there placed parts_moved after_carry entry_kind letter unused lines_used carry_letters letters_used names_gate is_line is_formed only
    step_of may_be_taken taken effect is_move opens leaves makes leads_to cell.in_range cell.gap cell.has_no_line recipe.in_range recipe.has_unused
    farthest state_weight state_fits place_fits is_silent is_free line_verdict
stored_moves =
    record {
      half_way_lem = refl;
      two_places = refl;
      one_place = refl;
      shut_report = refl;
      end_move = refl;
      end_failed = refl;
      end_passed = refl;
    }
