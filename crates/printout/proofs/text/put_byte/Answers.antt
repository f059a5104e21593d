use Rattle.printout.proofs.BufferPieces.{put_one}
use Rattle.printout.proofs.text.put_byte.Goals as goal

pub returns : goal.returns
returns c = put_one c.args.text.now c.args.at c.args.byte c.requires
