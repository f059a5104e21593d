-- The files of the worked examples, their records and their verdicts, computed over their bytes. Assumes nothing.
use mathlib.Core.Path.{◌≡◌, refl}
use Rattle.refusals.specs.Verdict.{Accepted, Refused, first_refusal, first_line, no_line, if_accepted, rule3, line_verdict}
use Rattle.refusals.specs.declared.Refusal.TheVariants.{NoPartner}
use Rattle.refusals.specs.Search.{first_below, any_below, count_below, greatest_below, tabulate, is_of, every}
use Rattle.tables.specs.Lines.{lengthened, parted, lines, value_lines, shown_line, extent}
use Rattle.tables.specs.Numbers.{is_digit, is_number, decimal, is_row}
use Rattle.tables.specs.Table.{starts, rule1, first_broken, is_broken, rule2, number_at, column}
use Rattle.cell.specs.Rules as cell
use Rattle.cell.specs.Reader.{cell_names, cell_of, judge_cell, read_cell}
use Rattle.recipe.specs.Rules as recipe
use Rattle.recipe.specs.Reader.{recipe_names, recipe_of, judge_recipe, read_recipe}
use Rattle.worked.specs.Bench.{digits, row, rows, cell_file, recipe_with, recipe_file, dead_file, end_file, limit_cell_file, limit_recipe_file}
use Rattle.worked.specs.Moves.{filled, bench_cell, bench_recipe, limit_cell, limit_recipe}
use Rattle.worked.specs.Plans.{dead_recipe, end_recipe}

pub record Files : Type 0 where
  -- the two files are accepted, and these records are read
  pub cell_read : read_cell (cell_file 5) ≡ record { verdict = Accepted; cell = bench_cell }
  pub recipe_read : read_recipe recipe_file ≡ record { verdict = Accepted; recipe = bench_recipe }
  -- ‡ "line 2 with port 6 gives 6 at line 3"
  pub port_six : judge_cell (cell_file 6) ≡ Refused NoPartner 3
  -- the recipes that document 01 changes it to, and the example at the limit
  pub dead_read : read_recipe dead_file ≡ record { verdict = Accepted; recipe = dead_recipe }
  pub end_read : read_recipe end_file ≡ record { verdict = Accepted; recipe = end_recipe }
  pub limit_cell_read : read_cell (limit_cell_file 3) ≡ record { verdict = Accepted; cell = limit_cell 3 }
  pub fifth_state_read : read_cell (limit_cell_file 4) ≡ record { verdict = Accepted; cell = limit_cell 4 }
  pub limit_recipe_read : read_recipe limit_recipe_file ≡ record { verdict = Accepted; recipe = limit_recipe }

pub files : Files
unfolding is_of first_below any_below count_below greatest_below tabulate first_refusal first_line no_line if_accepted rule3 lengthened parted lines
    value_lines shown_line extent is_digit every is_number decimal is_row starts rule1 first_broken is_broken rule2 number_at column
    cell.leaves_range cell.rule4 cell.greatest_resource cell.rule5 cell.other_act cell.partner cell.unpaired cell.limit_in_range
    cell.limit_leaves_range cell.rule4_limits cell.rule6 cell.limits_absent cell.rule20 cell.alike cell.stray cell.rule23 cell.cell_rules cell_names cell_of judge_cell read_cell
    recipe.leaves_range recipe.rule4 recipe.breaks_order recipe.rule7 recipe.clashes recipe.breaks_repeat recipe.rule8 recipe.breaks_unused
    recipe.rule9 recipe.lacks_parts recipe.rule10 recipe.holds_part recipe.common recipe.shares_part recipe.rule11 recipe.point_count
    recipe.leads_out recipe.rule12 recipe.recipe_rules recipe_names recipe_of judge_recipe read_recipe digits row rows cell_file recipe_with
    recipe_file dead_file end_file limit_cell_file limit_recipe_file filled bench_cell bench_recipe dead_recipe end_recipe limit_cell limit_recipe
    cell.in_range cell.gap cell.has_no_line recipe.in_range recipe.has_unused line_verdict
files =
    record {
      cell_read = refl;
      recipe_read = refl;
      port_six = refl;
      dead_read = refl;
      end_read = refl;
      limit_cell_read = refl;
      fifth_state_read = refl;
      limit_recipe_read = refl;
    }
