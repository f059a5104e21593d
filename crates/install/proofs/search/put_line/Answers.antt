use mathlib.Core.Path.{refl, ◌∙◌}
use Rattle.install.specs.Order.{line_bytes}
use Rattle.install.proofs.FilledList.{put_past, put_there}
use Rattle.install.proofs.search.put_line.Goals as goal

pub returns-then-list-found : goal.returns-then-list-found
returns-then-list-found c = (refl, λ buffer lines many is. put_past buffer lines c.args.line _ _ many is c.if-list-found.true)

pub returns : goal.returns
unfolding line_bytes
returns c = (
  refl,
  λ buffer lines many is.
      c.put.ensures
      ∙ put_there buffer lines c.args.line _ _ many is c.if-list-found.false,
)
