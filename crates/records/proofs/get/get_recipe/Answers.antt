use mathlib.Core.Path.{◌∙◌}
use lib.ListN.{length}
use borrow.Author.Tests.{lt-ltb, le-ltb}
use Rattle.records.specs.Encoding.{recipe_from}
use Rattle.records.proofs.get.get_recipe.Goals as goal

pub returns-then-bytes-lt449 : goal.returns-then-bytes-lt449
unfolding recipe_from
returns-then-bytes-lt449 c = c.no_recipe.ensures ∙ rw (lt-ltb (length c.args.bytes.now) 449 c.if-bytes-lt449.true)

pub returns : goal.returns
unfolding recipe_from
returns c =
    rw (
      c.from.ensures,
      c.column.ensures,
      c.column-2.ensures,
      c.column-3.ensures,
      c.column-4.ensures,
      c.column-5.ensures,
      c.column-6.ensures,
      c.column-7.ensures,
      le-ltb (length c.args.bytes.now) 449 c.if-bytes-lt449.false,
    )
