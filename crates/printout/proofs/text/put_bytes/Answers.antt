use native.Mathlib.Omega.{arith}
use Rattle.printout.proofs.BufferPieces.{put_stored}
use Rattle.printout.proofs.text.put_bytes.Goals as goal

pub put-requires : goal.put-requires
put-requires c = c.requires

pub overflow_add-result : goal.overflow_add-result
overflow_add-result c = record { fits = omega (arith, c.requires) }

pub returns : goal.returns
returns c =
    put_stored c.args.text.now c.args.at c.args.bytes.now c.requires c.put.ensures
