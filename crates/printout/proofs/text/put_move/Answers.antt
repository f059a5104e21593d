use native.Mathlib.Omega.{arith}
use Rattle.printout.specs.Text.{move_line}
use Rattle.printout.proofs.BufferPieces.{put_then, field_few}
use Rattle.printout.proofs.text.put_move.Goals as goal

pub put_field-second-requires : goal.put_field-second-requires
put_field-second-requires c =
    omega (arith, c.requires, c.put_field-first.ensures.end_is, c.put_field-first.auto.text, field_few c.args.position 44)

pub put_field-requires : goal.put_field-requires
put_field-requires c =
    omega (
      arith,
      c.requires,
      c.put_field-first.ensures.end_is,
      c.put_field-first.auto.text,
      field_few c.args.position 44,
      c.put_field-second.ensures.end_is,
      c.put_field-second.auto.text,
      field_few c.args.entry 44,
    )

pub returns : goal.returns
unfolding move_line
returns c =
    put_then (put_then c.put_field-first.ensures c.put_field-second.ensures) c.put_field.ensures
