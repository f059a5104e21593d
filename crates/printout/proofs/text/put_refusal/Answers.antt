use Rattle.printout.specs.Text.{refusal_line}
use Rattle.printout.proofs.BufferPieces.{put_then}
use Rattle.printout.proofs.text.put_refusal.Goals as goal

pub returns : goal.returns
unfolding refusal_line
returns c = put_then c.put_bytes-word.ensures c.put_field.ensures
