-- Recipes with points that nothing leads to: what chains reach in them, and that one is read and passes all rules but 22. Computed,
-- or by what is computed. Assumes nothing.
use mathlib.Core.Path.{◌≡◌, refl, sym, ◌∙◌}
use mathlib.Core.Bool.{true, false, true≢false}
use Prim.Native.Nat.{ℕ}
use Rattle.refusals.specs.Verdict.{Accepted, first_refusal, first_line, no_line, if_accepted, rule3, line_verdict}
use Rattle.refusals.specs.Search.{first_below, any_below, count_below, greatest_below, tabulate, is_of, every}
use Rattle.tables.specs.Lines.{lengthened, parted, lines, value_lines, shown_line, extent}
use Rattle.tables.specs.Numbers.{is_digit, is_number, decimal, is_row}
use Rattle.tables.specs.Table.{starts, rule1, first_broken, is_broken, rule2, number_at, column}
use Rattle.cell.specs.Rules as cell
use Rattle.recipe.specs.declared.Recipe.{Recipe}
use Rattle.recipe.specs.Rules as recipe
use Rattle.recipe.specs.Reader.{recipe_names, recipe_of, judge_recipe, read_recipe}
use Rattle.positions.specs.Radix.{product_below}
use Rattle.positions.specs.Sizes.{state_count, state_counts, parts_in, part_count, joint_count, sizes_for, points_of, sizes_of, farthest}
use Rattle.positions.specs.Rules.{record_rules, rule13, check_sizes}
use Rattle.positions.proofs.AcceptedRecords.{both_ok, records_ok}
use Rattle.reached.specs.Reached.{leads, line_leads, Reached, leads_on, chained, is_reached}
use Rattle.reached.proofs.Chains.{is_reached_lem, reached_is}
use Rattle.worked.specs.Bench.{digits, row, recipe_with, recipe_file}
use Rattle.worked.specs.Moves.{filled, bench_cell, bench_recipe}
use Rattle.worked.specs.Unreached.{forgotten_recipe, forgotten_file, loop_recipe, turned_else}

-- "stored recipes of that kind may still be read": the reader and the check of the sizes accept one
pub record Reading : Type 0 where
  pub read : read_recipe forgotten_file ≡ record { verdict = Accepted; recipe = forgotten_recipe }
  pub sized : check_sizes bench_cell forgotten_recipe ≡ Accepted
  pub positions : (sizes_of bench_cell forgotten_recipe).positions ≡ 108

pub record Computed : Type 0 where
  pub reading : Reading
  pub loop_sized : check_sizes bench_cell loop_recipe ≡ Accepted
  pub turned_sized : check_sizes bench_cell turned_else ≡ Accepted
  -- what the test finds of their points
  pub forgotten_unseen : is_reached forgotten_recipe 5 ≡ false
  pub loop_unseen : is_reached loop_recipe 5 ≡ false
  pub back_unseen : is_reached loop_recipe 6 ≡ false
  pub else_seen : is_reached bench_recipe 3 ≡ true
  pub else_unseen : is_reached turned_else 3 ≡ false
  pub six : points_of forgotten_recipe ≡ 6
  pub seven : points_of loop_recipe ≡ 7
  pub five : points_of turned_else ≡ 5

pub computed : Computed
unfolding is_of first_below any_below count_below greatest_below tabulate first_refusal first_line no_line if_accepted rule3 lengthened parted lines
    value_lines shown_line extent is_digit every is_number decimal is_row starts rule1 first_broken is_broken rule2 number_at column
    cell.leaves_range cell.rule4 cell.greatest_resource cell.rule5 cell.other_act cell.partner cell.unpaired cell.limit_in_range
    cell.limit_leaves_range cell.rule4_limits cell.rule6 cell.limits_absent cell.rule20 cell.alike cell.stray cell.rule23 cell.cell_rules recipe.leaves_range recipe.rule4
    recipe.breaks_order recipe.rule7 recipe.clashes recipe.breaks_repeat recipe.rule8 recipe.breaks_unused recipe.rule9 recipe.lacks_parts
    recipe.rule10 recipe.holds_part recipe.common recipe.shares_part recipe.rule11 recipe.point_count recipe.leads_out recipe.rule12
    recipe.recipe_rules recipe_names recipe_of judge_recipe read_recipe product_below state_count state_counts parts_in part_count joint_count sizes_for
    record_rules rule13 check_sizes leads line_leads leads_on chained is_reached digits row recipe_with recipe_file forgotten_file filled bench_cell
    bench_recipe forgotten_recipe loop_recipe turned_else cell.in_range cell.gap cell.has_no_line recipe.in_range recipe.has_unused farthest
    line_verdict
computed =
    record {
      reading = record { read = refl; sized = refl; positions = refl };
      loop_sized = refl;
      turned_sized = refl;
      forgotten_unseen = refl;
      loop_unseen = refl;
      back_unseen = refl;
      else_seen = refl;
      else_unseen = refl;
      six = refl;
      seven = refl;
      five = refl;
    }

-- what the test does not find is not reached, as it misses nothing
never : (r : Recipe) (q : ℕ) → check_sizes bench_cell r ≡ Accepted → is_reached r q ≡ false → Reached r q → ⊥
never r q sized unseen reached = true≢false (sym (reached_is r (both_ok bench_cell r (records_ok bench_cell r sized)).1 q reached) ∙ unseen)

pub record Points : Type 0 where
  -- nothing leads to the sixth point
  pub forgotten : Reached forgotten_recipe 5 → ⊥
  -- two points lead to each other, but nothing leads from point 0 to them
  pub loop : (Reached loop_recipe 5 → ⊥) × (Reached loop_recipe 6 → ⊥)
  -- `else` alone leads to point 3 of the bench example: turned elsewhere, nothing does
  pub by_else : Reached bench_recipe 3
  pub turned_else_lem : Reached turned_else 3 → ⊥

pub points : Points
points =
    record {
      forgotten = never forgotten_recipe 5 computed.reading.sized computed.forgotten_unseen;
      loop = (never loop_recipe 5 computed.loop_sized computed.loop_unseen, never loop_recipe 6 computed.loop_sized computed.back_unseen);
      by_else = is_reached_lem bench_recipe 3 computed.else_seen;
      turned_else_lem = never turned_else 3 computed.turned_sized computed.else_unseen;
    }
