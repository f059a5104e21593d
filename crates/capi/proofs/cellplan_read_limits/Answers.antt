use Rattle.capi.proofs.Answers.{limits_short, limits_put, limits_refused}
use borrow.Author.Rules.{rules}
use Rattle.capi.proofs.cellplan_read_limits.Goals as goal

pub returns-then-cell-ge327 : goal.returns-then-cell-ge327
returns-then-cell-ge327 c =
    limits_put c.args.file.now c.args.cell.now c.in-Ok.limited (rw c.get_cell.ensures at c.in-Ok.ensures) _ c.if-cell-ge327.true (search rules)
    c.put.ensures

pub returns-else-cell-ge327 : goal.returns-else-cell-ge327
returns-else-cell-ge327 c =
    limits_short c.args.file.now c.args.cell.now c.in-Ok.limited (rw c.get_cell.ensures at c.in-Ok.ensures) c.if-cell-ge327.false

pub returns-in-Err : goal.returns-in-Err
returns-in-Err c = limits_refused c.args.file.now c.args.cell.now _ _ (rw c.get_cell.ensures at c.in-Err.ensures) c.code.ensures
