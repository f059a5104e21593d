use lib.ListN.{length}
use borrow.Author.Tests.{le-ltb}
use Rattle.refusals.specs.Search.{tabulate}
use Rattle.capi.specs.Encoding.{run_from}
use Rattle.capi.proofs.get.get_configuration.Goals as goal

pub returns : goal.returns
unfolding run_from tabulate
returns c = rw (c.bytes_at.ensures, c.bytes_at-2.ensures, le-ltb (length c.args.bytes.now) 16 c.requires)
