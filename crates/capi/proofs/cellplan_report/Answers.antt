use mathlib.Core.Path.{◌∙◌}
use Rattle.capi.proofs.Answers.{report_short, report_put, report_refused}
use Rattle.capi.proofs.cellplan_report.Goals as goal

pub returns-then-buffer-ge16 : goal.returns-then-buffer-ge16
returns-then-buffer-ge16 c =
    report_put _ c.args.buffer.now c.in-Ok.next (rw (c.get_cell.ensures, c.get_run-run.ensures) at c.in-Ok.ensures) _ c.if-buffer-ge16.true
    c.put_run.ensures

pub returns-else-buffer-ge16 : goal.returns-else-buffer-ge16
returns-else-buffer-ge16 c =
    report_short _ c.args.buffer.now c.in-Ok.next (rw (c.get_cell.ensures, c.get_run-run.ensures) at c.in-Ok.ensures) c.if-buffer-ge16.false

pub returns-in-Err : goal.returns-in-Err
returns-in-Err c =
    report_refused _ c.args.buffer.now c.in-Err.broken _ (rw (c.get_cell.ensures, c.get_run-run.ensures) at c.in-Err.ensures)
    (c.from.ensures ∙ c.number.ensures)
