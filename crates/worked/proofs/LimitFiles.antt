-- Limits files over a record, and the files of the nest, computed over their bytes. Assumes nothing.
use mathlib.Core.Path.{◌≡◌, refl}
use mathlib.Core.List.{List, [], ◌++◌}
use Prim.Native.Nat.{ℕ}
use Rattle.refusals.specs.declared.Refusal.{Refusal}
use Rattle.refusals.specs.declared.Refusal.TheVariants.{LineCount, Range, NoPartner, LimitResource}
use Rattle.refusals.specs.Verdict.{Accepted, Refused, first_refusal, first_line, no_line, if_accepted, rule3, line_verdict}
use Rattle.refusals.specs.Search.{first_below, any_below, count_below, greatest_below, tabulate, is_of, every}
use Rattle.tables.specs.Lines.{lengthened, parted, lines, value_lines, shown_line, extent}
use Rattle.tables.specs.Numbers.{is_digit, is_number, decimal, is_row}
use Rattle.tables.specs.Table.{starts, rule1, first_broken, is_broken, rule2, number_at, column}
use Rattle.cell.specs.declared.Cell.{Cell}
use Rattle.cell.specs.Reader.{CellReading}
use Rattle.cell.specs.Rules as cell
use Rattle.cell.specs.Reader.{cell_names, cell_of, judge_cell, read_cell}
use Rattle.recipe.specs.Rules as recipe
use Rattle.recipe.specs.Reader.{recipe_names, recipe_of, judge_recipe, read_recipe}
use Rattle.limits.specs.Reader as limits
use Rattle.worked.specs.Bench.{digits, row}
use Rattle.worked.specs.Moves.{filled}
use Rattle.worked.specs.Limited.{limits_of, last_limit, one_line, nest_cell, nest_recipe}
use Rattle.worked.specs.LimitFiles.{limits_file, limit_line, nest_cell_file, nest_recipe_file}

-- what the reader returns for these lines over a record with R 2 and the limits 2 and 3
abbrev read : List ℕ → CellReading
read lines = limits.read_limits (limits_file lines) (nest_cell 2 3)

-- "returns it unchanged when it refuses"
abbrev unchanged : Refusal → ℕ → Cell → CellReading
unchanged refusal line c = record { verdict = Refused refusal line; cell = c }

pub record LimitFiles : Type 0 where
  -- `1,3`: "a resource without a line has 8", whatever the record had
  pub one_line_lem : read (limit_line 1 3) ≡ record { verdict = Accepted; cell = nest_cell 8 3 }
  -- the names line alone: "rules 1 to 4 hold for this table too"
  pub no_lines : read [] ≡ unchanged LineCount 0 (nest_cell 2 3)
  -- `1,3` `0,2`: "20 if .. the lines don't rise by resource"
  pub falling : read (limit_line 1 3 ++ limit_line 0 2) ≡ unchanged LimitResource 3 (nest_cell 2 3)
  -- `2,3`: "20 if a resource isn't below R"
  pub absent : read (limit_line 2 3) ≡ unchanged LimitResource 2 (nest_cell 2 3)
  -- `2,3` `0,9`: 4 comes before 20
  pub range_first : read (limit_line 2 3 ++ limit_line 0 9) ≡ unchanged Range 3 (nest_cell 2 3)
  -- "a reader of another file is handed the record it adds to, checks that first (line 0)": the record breaks 6, an empty file 1
  pub record_first : limits.read_limits [] (one_line 0 0 2 5 0 (last_limit 8)) ≡ unchanged NoPartner 0 (one_line 0 0 2 5 0 (last_limit 8))
  -- the nest's files: "the cell reader's record has 8 everywhere", and a limits file puts another limit there
  pub nest_cell_lem : read_cell nest_cell_file ≡ record { verdict = Accepted; cell = nest_cell 8 8 }
  pub nest_recipe_lem : read_recipe nest_recipe_file ≡ record { verdict = Accepted; recipe = nest_recipe }
  pub nest_of_two : limits.read_limits (limits_file (limit_line 1 2)) (nest_cell 8 8) ≡ record { verdict = Accepted; cell = nest_cell 8 2 }
  pub nest_of_one : limits.read_limits (limits_file (limit_line 1 1)) (nest_cell 8 8) ≡ record { verdict = Accepted; cell = nest_cell 8 1 }

pub limit_files : LimitFiles
unfolding is_of first_below any_below count_below greatest_below tabulate first_refusal first_line no_line if_accepted rule3 lengthened parted lines
    value_lines shown_line extent is_digit every is_number decimal is_row starts rule1 first_broken is_broken rule2 number_at column
    cell.leaves_range cell.rule4 cell.greatest_resource cell.rule5 cell.other_act cell.partner cell.unpaired cell.limit_in_range
    cell.limit_leaves_range cell.rule4_limits cell.rule6 cell.limits_absent cell.rule20 cell.alike cell.stray cell.rule23 cell.cell_rules cell.check_cell cell_names cell_of judge_cell
    read_cell recipe.leaves_range recipe.rule4 recipe.breaks_order recipe.rule7 recipe.clashes recipe.breaks_repeat recipe.rule8
    recipe.breaks_unused recipe.rule9 recipe.lacks_parts recipe.rule10 recipe.holds_part recipe.common recipe.shares_part recipe.rule11
    recipe.point_count recipe.leads_out recipe.rule12 recipe.recipe_rules recipe_names recipe_of judge_recipe read_recipe limits.limits_names
    limits.leaves_range limits.rule4 limits.does_not_rise limits.misplaced limits.rule20 limits.at_no_line limits.file_rules limits.judge_limits
    limits.limit_by limits.limited limits.read_limits digits row filled limits_of last_limit one_line nest_cell nest_recipe limits_file limit_line
    nest_cell_file nest_recipe_file cell.in_range cell.gap cell.has_no_line recipe.in_range recipe.has_unused line_verdict
limit_files =
    record {
      one_line_lem = refl;
      no_lines = refl;
      falling = refl;
      absent = refl;
      range_first = refl;
      record_first = refl;
      nest_cell_lem = refl;
      nest_recipe_lem = refl;
      nest_of_two = refl;
      nest_of_one = refl;
    }
