-- Rule 23 in both of its halves, its line and its place among the other rules, and act 4 in the range of rule 4: computed over
-- records and over the bytes of files. Assumes nothing.
use mathlib.Core.Path.{◌≡◌, refl}
use mathlib.Core.List.{[], ◌∷◌, ◌++◌}
use Rattle.refusals.specs.Verdict.{Accepted, Refused, first_refusal, first_line, no_line, if_accepted, rule3, line_verdict}
use Rattle.refusals.specs.declared.Refusal.TheVariants.{Range, NoPartner, LimitResource, RejectLine}
use Rattle.refusals.specs.Search.{first_below, any_below, count_below, greatest_below, tabulate, is_of, every}
use Rattle.tables.specs.Lines.{lengthened, parted, lines, value_lines, shown_line, extent}
use Rattle.tables.specs.Numbers.{is_digit, is_number, decimal, is_row}
use Rattle.tables.specs.Table.{starts, rule1, first_broken, is_broken, rule2, number_at, column}
use Rattle.cell.specs.Rules.{in_range, leaves_range, rule4, limit_in_range, limit_leaves_range, rule4_limits, greatest_resource, has_no_line, gap, rule5}
use Rattle.cell.specs.Rules.{other_act, partner, unpaired, rule6, limits_absent, rule20, alike, stray, rule23, cell_rules, check_cell}
use Rattle.cell.specs.Reader.{cell_names, no_limits, cell_of, judge_cell, read_cell}
use Rattle.worked.specs.Bench.{digits, row, cell_file}
use Rattle.worked.specs.Moves.{filled}
use Rattle.worked.specs.Limited.{last_limit, one_line}
use Rattle.worked.specs.Gated.{gate_cell, gate_file, bench_behind}

pub record GateRecords : Type 0 where
  -- "23 if an act 4 line has no act 1 line of the same resource, from and arg": `1,1,4,3,0` behind the bench cell
  pub lonely : check_cell (bench_behind no_limits (3 ∷ []) (0 ∷ [])) ≡ Refused RejectLine 7
  pub lonely_file : judge_cell (cell_file 5 ++ row 1 (1 ∷ 4 ∷ 3 ∷ 0 ∷ [])) ≡ Refused RejectLine 7
  -- "or if two act 4 lines share these", the later line: `1,1,4,2,0` `1,1,4,2,1`
  pub second : check_cell (bench_behind no_limits (2 ∷ 2 ∷ []) (0 ∷ 1 ∷ [])) ≡ Refused RejectLine 8
  pub second_file : judge_cell (cell_file 5 ++ row 1 (1 ∷ 4 ∷ 2 ∷ 0 ∷ []) ++ row 1 (1 ∷ 4 ∷ 2 ∷ 1 ∷ [])) ≡ Refused RejectLine 8
  -- one gate is none of these
  pub one : check_cell (bench_behind no_limits (2 ∷ []) (1 ∷ [])) ≡ Accepted
  pub gate_read : read_cell gate_file ≡ record { verdict = Accepted; cell = gate_cell }
  -- "after 20", and after 6 in a file: port 6 at line 2
  pub limit_first : check_cell (bench_behind (last_limit 7) (3 ∷ []) (0 ∷ [])) ≡ Refused LimitResource 0
  pub port_first : judge_cell (cell_file 6 ++ row 1 (1 ∷ 4 ∷ 3 ∷ 0 ∷ [])) ≡ Refused NoPartner 3
  -- "Act 4 joins the range in rule 4", and 5 is outside
  pub five : check_cell (one_line 0 0 5 1 0 no_limits) ≡ Refused Range 2

pub gate_records : GateRecords
unfolding is_of first_below any_below count_below greatest_below tabulate first_refusal first_line no_line if_accepted rule3 line_verdict lengthened
    parted lines value_lines shown_line extent is_digit every is_number decimal is_row starts rule1 first_broken is_broken rule2 number_at column
    in_range leaves_range rule4 limit_in_range limit_leaves_range rule4_limits greatest_resource has_no_line gap rule5 other_act partner unpaired
    rule6 limits_absent rule20 alike stray rule23 cell_rules check_cell cell_names cell_of judge_cell read_cell digits row cell_file filled
    last_limit one_line gate_cell gate_file bench_behind
gate_records =
    record {
      lonely = refl;
      lonely_file = refl;
      second = refl;
      second_file = refl;
      one = refl;
      gate_read = refl;
      limit_first = refl;
      port_first = refl;
      five = refl;
    }
