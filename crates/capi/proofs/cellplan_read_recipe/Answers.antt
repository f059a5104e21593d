use mathlib.Core.Path.{refl, sym}
use Prim.Native.Nat.{◌≤◌}
use Rattle.recipe.specs.Reader.{reading_of}
use Rattle.recipe.proofs.AcceptedRecord.{read_few}
use Rattle.capi.specs.Encoding.{code_of}
use Rattle.capi.proofs.Answers.{too_short, answered}
use Rattle.capi.proofs.cellplan_read_recipe.Goals as goal

pub returns-then-buffer-lt449 : goal.returns-then-buffer-lt449
returns-then-buffer-lt449 c =
    too_short _ _ 449 c.args.buffer.now _ c.if-buffer-lt449.true c.number.ensures

pub put_recipe-requires : goal.put_recipe-requires
unfolding reading_of
put_recipe-requires c =
    let few : c.in-Ok.recipe.count ≤ 64 = rw (sym c.in-Ok.ensures) at (read_few c.args.file.now) in
    (few, c.if-buffer-lt449.false)

pub returns-in-Ok : goal.returns-in-Ok
unfolding reading_of code_of
returns-in-Ok c =
    rw (sym c.in-Ok.ensures) (answered _ _ 449 c.args.buffer.now _ _ c.if-buffer-lt449.false refl c.put_recipe.ensures)

pub returns-in-Err : goal.returns-in-Err
unfolding reading_of
returns-in-Err c =
    rw (sym c.in-Err.ensures)
    (answered _ _ 449 c.args.buffer.now _ _ c.if-buffer-lt449.false c.code.ensures (rw c.no_recipe.ensures at c.put_recipe-in-Err.ensures))
