-- "R 3, four states each, P 5, N 16 reaches 1048576; a fifth state in one gives 13": computed. Assumes nothing.
use mathlib.Core.Path.{◌≡◌, refl}
use Rattle.refusals.specs.Verdict.{Accepted, Refused, first_refusal, first_line, no_line, rule3, line_verdict}
use Rattle.refusals.specs.declared.Refusal.TheVariants.{TooManyPositions}
use Rattle.refusals.specs.Search.{first_below, any_below, count_below, greatest_below, tabulate, is_of}
use Rattle.cell.specs.Rules as cell
use Rattle.recipe.specs.Rules as recipe
use Rattle.positions.specs.Radix.{product_below}
use Rattle.positions.specs.Sizes.{state_count, state_counts, parts_in, part_count, joint_count, sizes_for, sizes_of, farthest}
use Rattle.positions.specs.Rules.{record_rules, rule13, check_sizes}
use Rattle.worked.specs.Moves.{filled, limit_cell, limit_recipe}

pub record Limit : Type 0 where
  pub reached : (sizes_of (limit_cell 3) limit_recipe).positions ≡ 1048576
  pub four_pass : check_sizes (limit_cell 3) limit_recipe ≡ Accepted
  pub fifth_state : check_sizes (limit_cell 4) limit_recipe ≡ Refused TooManyPositions 0

pub limit : Limit
unfolding is_of first_below any_below count_below greatest_below tabulate first_refusal first_line no_line rule3 cell.leaves_range cell.rule4
    cell.greatest_resource cell.rule5 cell.other_act cell.partner cell.unpaired cell.limit_in_range cell.limit_leaves_range cell.rule4_limits
    cell.rule6 cell.limits_absent cell.rule20 cell.alike cell.stray cell.rule23 cell.cell_rules recipe.leaves_range recipe.rule4 recipe.breaks_order recipe.rule7 recipe.clashes
    recipe.breaks_repeat recipe.rule8 recipe.breaks_unused recipe.rule9 recipe.lacks_parts recipe.rule10 recipe.holds_part recipe.common
    recipe.shares_part recipe.rule11 recipe.point_count recipe.leads_out recipe.rule12 recipe.recipe_rules product_below state_count state_counts
    parts_in part_count joint_count sizes_for record_rules rule13 check_sizes filled limit_cell limit_recipe cell.in_range cell.gap cell.has_no_line
    recipe.in_range recipe.has_unused farthest line_verdict
limit = record { reached = refl; four_pass = refl; fifth_state = refl }
