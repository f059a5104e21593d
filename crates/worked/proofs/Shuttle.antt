-- A table that shuttles a pallet for ever is no plan: after J × W reports demand 3 fails, which is computed. Assumes nothing.
use mathlib.Core.Path.{◌≡◌, refl, sym, ◌∙◌}
use mathlib.Core.Bool.{Bool, true, false, true≢false}
use mathlib.Core.List.{List, [], ◌∷◌}
use Prim.Native.Nat.{ℕ}
use native.Mathlib.Omega.{arith}
use lib.ListN.{length}
use Rattle.refusals.specs.Verdict.{Accepted, first_refusal, first_line, no_line, rule3, line_verdict}
use Rattle.refusals.specs.Search.{first_below, any_below, all_below, count_below, greatest_below, tabulate, is_of, every}
use Rattle.cell.specs.Rules as cell
use Rattle.recipe.specs.Rules as recipe
use Rattle.positions.specs.declared.Sizes.{Sizes}
use Rattle.positions.specs.Radix.{sum_below, product_below}
use Rattle.positions.specs.Sizes.{state_count, state_counts, parts_in, part_count, joint_count, sizes_for, sizes_of, farthest}
use Rattle.positions.specs.Position.{state_number, place_number, position_of, entry_of, state_weight}
use Rattle.positions.specs.Rules.{record_rules, rule13, check_sizes, place_count, is_position, place_fits, state_fits}
use Rattle.steps.specs.Lines.{first_line_of, lines_of, kind_of}
use Rattle.steps.specs.Limits.{load, keeps_limits, none_overfull}
use Rattle.steps.specs.Gates.{gate_among, gate_of, gated}
use Rattle.steps.specs.Lanes.{is_loaded, lane_starts}
use Rattle.steps.specs.Joint.{out_starts, may_do, acts, acts_on, how_many, port_fits, is_step, is_silent_step, state_after, receiver, handed, place_after, after, is_silent}
use Rattle.steps.specs.Carry.{serves, matches, stands_at, present, free, suits, carries, put_there, placed, parts_moved, after_carry, is_free}
use Rattle.steps.specs.Entry.{entry_kind, letter, unused, lines_used, carry_letters, letters_used, names_gate, is_line, is_formed, only, step_of, may_be_taken}
use Rattle.steps.specs.Effect.{taken, effect, is_move, opens, leaves, makes, leads_to}
use Rattle.chapters.specs.Joined.{chapter_at, point_in, is_earlier, landing, then_at, else_at}
use Rattle.chapters.specs.Sizes as chapters
use Rattle.chapters.specs.Sizes.{Measures, points_at, sizes_in, begins, position_in, entry_in}
use Rattle.run.specs.Book.{Call, reports, opened, by_table, at_end, is_open, refusal_of, set_to, moved_to, line_followed, configuration_after, point_after, made}
use Rattle.run.specs.Book.{is_accepted, turned, noted, moments}
use Rattle.run.specs.Promises.{few_silent}
use Rattle.simulation.specs.Simulation.{PositionIn}
use Rattle.simulation.specs.Plan.{Planned}
use Rattle.worked.specs.Moves.{filled}
use Rattle.worked.specs.Worthless.{lane_cell, lane_recipe, shuttle_table, made_part}
use Rattle.worked.proofs.SingleRecipes.{single_entry, single_position}

-- as many reports as there are configurations, J × W = 1 × 3
abbrev shuttle_calls : List Call
shuttle_calls = reports 0 ∷ reports 0 ∷ reports 0 ∷ []

abbrev lane_sizes : Sizes
lane_sizes = sizes_of lane_cell lane_recipe

abbrev lane_measures : Measures
lane_measures = sizes_in lane_cell (lane_recipe ∷ [])

pub record Computed : Type 0 where
  -- the rules before 15 pass
  pub sized : check_sizes lane_cell lane_recipe ≡ Accepted
  is_in_range : is_position lane_sizes 1 made_part ≡ true
  six : length made_part.state ≡ 6
  eight : length made_part.place ≡ 8
  some : entry_of lane_sizes shuttle_table 1 made_part ≡ 33554561
  many : every (few_silent lane_cell (lane_recipe ∷ []) lane_measures)
      (moments lane_cell (lane_recipe ∷ []) (by_table lane_measures shuttle_table) [] (opened (point_in 0 1) made_part) shuttle_calls) ≡ false

pub computed : Computed
unfolding is_of first_below any_below all_below count_below greatest_below tabulate first_refusal first_line no_line rule3 cell.leaves_range
    cell.rule4 cell.greatest_resource cell.rule5 cell.other_act cell.partner cell.unpaired cell.limit_in_range cell.limit_leaves_range
    cell.rule4_limits cell.rule6 cell.limits_absent cell.rule20 cell.alike cell.stray cell.rule23 cell.cell_rules recipe.leaves_range recipe.rule4 recipe.breaks_order recipe.rule7
    recipe.clashes recipe.breaks_repeat recipe.rule8 recipe.breaks_unused recipe.rule9 recipe.lacks_parts recipe.rule10 recipe.holds_part
    recipe.common recipe.shares_part recipe.rule11 recipe.point_count recipe.leads_out recipe.rule12 recipe.recipe_rules sum_below product_below
    state_count state_counts parts_in part_count joint_count sizes_for state_number place_number position_of record_rules rule13 check_sizes place_count
    is_position first_line_of lines_of kind_of opened by_table at_end is_open refusal_of set_to moved_to line_followed configuration_after point_after made is_accepted
    turned noted moments every few_silent chapter_at is_earlier landing then_at else_at points_at chapters.parts_in sizes_in begins position_in entry_in entry_of filled lane_cell lane_recipe shuttle_table made_part is_loaded lane_starts out_starts may_do acts acts_on how_many port_fits is_step
    is_silent_step load keeps_limits none_overfull gate_among gate_of gated suits state_after receiver handed place_after after serves matches stands_at present free
    carries put_there placed parts_moved after_carry entry_kind letter unused lines_used carry_letters letters_used names_gate is_line is_formed only step_of may_be_taken taken effect
    is_move opens leaves makes leads_to cell.in_range cell.gap cell.has_no_line recipe.in_range recipe.has_unused farthest state_weight state_fits
    place_fits is_silent is_free line_verdict
computed = record { sized = refl; is_in_range = refl; six = refl; eight = refl; some = refl; many = refl }

-- "shuttles a pallet for ever"
pub shuttle_not : (before : List ℕ) (refused : Bool) → Planned lane_cell (lane_recipe ∷ []) lane_measures before shuttle_table refused → ⊥
shuttle_not before refused plan =
    let there : PositionIn (lane_recipe ∷ []) lane_measures (point_in 0 1) made_part =
    single_position lane_cell lane_recipe 1 made_part (record { is_in_range = computed.is_in_range; six = computed.six; eight = computed.eight }) in
    let alive : entry_in lane_measures shuttle_table (point_in 0 1) made_part ≡ 0 → ⊥ =
    λ zero. omega (arith, computed.some, sym (single_entry lane_cell lane_recipe shuttle_table 1 made_part) ∙ zero) in
    true≢false (sym (plan.promises (point_in 0 1) made_part there alive shuttle_calls).keeps.silent_few ∙ computed.many)
