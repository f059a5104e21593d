use native.Mathlib.Omega.{arith}
use Rattle.printout.specs.Text.{field}
use Rattle.printout.proofs.BufferPieces.{put_then, digits_few}
use Rattle.printout.proofs.text.put_field.Goals as goal

pub put_byte-requires : goal.put_byte-requires
put_byte-requires c =
    omega (arith, c.requires, c.put_digits-end.ensures.end_is, c.put_digits-end.auto.text, digits_few 20 c.args.n)

pub returns : goal.returns
unfolding field
returns c = put_then c.put_digits-end.ensures c.put_byte.ensures
