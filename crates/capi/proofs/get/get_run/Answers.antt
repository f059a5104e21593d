use lib.ListN.{length}
use borrow.Author.Tests.{lt-ltb, le-ltb}
use Rattle.positions.specs.Position.{start}
use Rattle.capi.specs.Encoding.{run_from}
use Rattle.capi.proofs.get.get_run.Goals as goal

pub returns-then-bytes-lt16 : goal.returns-then-bytes-lt16
unfolding run_from start
returns-then-bytes-lt16 c = rw (lt-ltb (length c.args.bytes.now) 16 c.if-bytes-lt16.true)

pub returns : goal.returns
unfolding run_from
returns c = rw (c.get_configuration.ensures, le-ltb (length c.args.bytes.now) 16 c.if-bytes-lt16.false)
