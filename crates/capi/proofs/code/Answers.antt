use Rattle.capi.specs.Encoding.{code_of}
use Rattle.capi.proofs.code.Goals as goal

pub returns : goal.returns
unfolding code_of
returns c = rw (c.from.ensures, c.number.ensures)
