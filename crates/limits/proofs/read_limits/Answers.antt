use mathlib.Core.Path.{sym, ◌∙◌}
use Rattle.std.proofs.lemmas.Result.{err_from_is_err_and}
use Rattle.refusals.proofs.Verdicts.{count_in_range}
use Rattle.cell.proofs.AcceptedRecord.{each_accepts}
use Rattle.limits.proofs.FileJudged.{record_refused, file_refused, file_accepted}
use Rattle.limits.proofs.read_limits.Goals as goal

pub returns-in-Err : goal.returns-in-Err
returns-in-Err c = record_refused _ _ (sym c.check_cell.ensures ∙ c.in-Err.is)

pub read_file-requires : goal.read_file-requires
read_file-requires c = (count_in_range _ (each_accepts c.args.cell (sym c.check_cell.ensures ∙ c.in_default.is)).third).most

pub returns-in_err-limits : goal.returns-in_err-limits
returns-in_err-limits c =
    let p = err_from_is_err_and c.from_residual.result c.from_residual.ensures.1 in
    rw (p.1, p.2) (file_refused _ _ (sym c.check_cell.ensures ∙ c.in_default.is) c.read_file.ensures c.in_err-limits.was)

pub returns : goal.returns
returns c = file_accepted _ _ (sym c.check_cell.ensures ∙ c.in_default.is) c.read_file.ensures c.in_ok-limits.was
