-- Rules 4 and 20 on the limits of a record, and their places among the others: computed over records of one line. Assumes nothing.
use mathlib.Core.Path.{◌≡◌, refl}
use Rattle.refusals.specs.Verdict.{Accepted, Refused, first_refusal, first_line, no_line, rule3, line_verdict}
use Rattle.refusals.specs.declared.Refusal.TheVariants.{Range, ResourceGap, NoPartner, LimitResource}
use Rattle.refusals.specs.Search.{first_below, any_below, greatest_below, is_of}
use Rattle.cell.specs.Rules.{in_range, leaves_range, rule4, limit_in_range, limit_leaves_range, rule4_limits, greatest_resource, has_no_line, gap, rule5}
use Rattle.cell.specs.Rules.{other_act, partner, unpaired, rule6, limits_absent, rule20, alike, stray, rule23, cell_rules, check_cell}
use Rattle.worked.specs.Moves.{filled}
use Rattle.worked.specs.Limited.{last_limit, one_line}

pub record LimitRecords : Type 0 where
  -- `0,0,1,1,0` has R 1, and no resource 5: 8 is what its limit has to be
  pub limit_eight : check_cell (one_line 0 0 1 1 0 (last_limit 8)) ≡ Accepted
  -- "in a record a limit outside 1 to 8 gives 4", at or above R too
  pub limit_nine : check_cell (one_line 0 0 1 1 0 (last_limit 9)) ≡ Refused Range 0
  pub limit_zero : check_cell (one_line 0 0 1 1 0 (last_limit 0)) ≡ Refused Range 0
  -- "one other than 8 at or above R gives 20"
  pub limit_seven : check_cell (one_line 0 0 1 1 0 (last_limit 7)) ≡ Refused LimitResource 0
  -- "20 .., after 6": `0,0,2,5,0` has no partner
  pub six_first : check_cell (one_line 0 0 2 5 0 (last_limit 7)) ≡ Refused NoPartner 2
  -- and 4 before 5: `1,0,1,1,0` leaves resource 0 without a line
  pub gap_alone : check_cell (one_line 1 0 1 1 0 (last_limit 8)) ≡ Refused ResourceGap 0
  pub limits_before_gap : check_cell (one_line 1 0 1 1 0 (last_limit 9)) ≡ Refused Range 0
  -- 4 of the lines comes before 4 of the limits: `0,8,1,1,0` has no such state
  pub lines_before_limits : check_cell (one_line 0 8 1 1 0 (last_limit 9)) ≡ Refused Range 2

pub limit_records : LimitRecords
unfolding is_of first_below any_below greatest_below first_refusal first_line no_line rule3 line_verdict in_range leaves_range rule4 limit_in_range
    limit_leaves_range rule4_limits greatest_resource has_no_line gap rule5 other_act partner unpaired rule6 limits_absent rule20 alike stray rule23 cell_rules
    check_cell filled last_limit one_line
limit_records =
    record {
      limit_eight = refl;
      limit_nine = refl;
      limit_zero = refl;
      limit_seven = refl;
      six_first = refl;
      gap_alone = refl;
      limits_before_gap = refl;
      lines_before_limits = refl;
    }
