use mathlib.Core.Path.{refl, sym}
use Prim.Native.Nat.{◌≤◌}
use Rattle.cell.specs.Reader.{reading_of}
use Rattle.cell.proofs.AcceptedRecord.{read_few}
use Rattle.capi.specs.Encoding.{code_of}
use Rattle.capi.proofs.Answers.{too_short, answered}
use Rattle.capi.proofs.cellplan_read_cell.Goals as goal

pub returns-then-buffer-lt327 : goal.returns-then-buffer-lt327
returns-then-buffer-lt327 c =
    too_short _ _ 327 c.args.buffer.now _ c.if-buffer-lt327.true c.number.ensures

pub put_cell-requires : goal.put_cell-requires
unfolding reading_of
put_cell-requires c =
    let few : c.in-Ok.cell.count ≤ 64 = rw (sym c.in-Ok.ensures) at (read_few c.args.file.now) in
    (few, c.if-buffer-lt327.false)

pub returns-in-Ok : goal.returns-in-Ok
unfolding reading_of code_of
returns-in-Ok c =
    rw (sym c.in-Ok.ensures) (answered _ _ 327 c.args.buffer.now _ _ c.if-buffer-lt327.false refl c.put_cell.ensures)

pub returns-in-Err : goal.returns-in-Err
unfolding reading_of
returns-in-Err c =
    rw (sym c.in-Err.ensures)
    (answered _ _ 327 c.args.buffer.now _ _ c.if-buffer-lt327.false c.code.ensures (rw c.no_cell.ensures at c.put_cell-in-Err.ensures))
