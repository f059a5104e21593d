use mathlib.Core.Path.{◌∙◌}
use lib.ListN.{length}
use borrow.Author.Tests.{lt-ltb, le-ltb}
use Rattle.records.specs.Encoding.{cell_from}
use Rattle.records.proofs.get.get_cell.Goals as goal

pub returns-then-bytes-lt327 : goal.returns-then-bytes-lt327
unfolding cell_from
returns-then-bytes-lt327 c = c.no_cell.ensures ∙ rw (lt-ltb (length c.args.bytes.now) 327 c.if-bytes-lt327.true)

pub returns : goal.returns
unfolding cell_from
returns c =
    rw (
      c.from.ensures,
      c.column.ensures,
      c.column-2.ensures,
      c.column-3.ensures,
      c.column-4.ensures,
      c.column-5.ensures,
      c.bytes_at.ensures,
      le-ltb (length c.args.bytes.now) 327 c.if-bytes-lt327.false,
    )
