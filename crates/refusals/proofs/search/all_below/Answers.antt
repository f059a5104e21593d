use mathlib.Core.Path.{refl, sym, ◌∙◌}
use Rattle.refusals.specs.Search.{all_below}
use Rattle.refusals.proofs.EveryBelow.{all_fails, all_more}
use Rattle.refusals.proofs.search.all_below.Goals as goal

pub loop-n-init : goal.loop-n-init
unfolding all_below
loop-n-init g c = λ f told. refl

pub returns-then-not-holds : goal.returns-then-not-holds
returns-then-not-holds g c =
    λ f told.
    sym (all_fails f _ _ c.loop-n-test.true (sym (told _ _ c.loop-n-test.true c.holds.ensures) ∙ c.if-not-holds.true))

pub loop-n-preserved : goal.loop-n-preserved
loop-n-preserved g c =
    λ f told.
    all_more f _ (c.loop-n.invariant f told) (sym (told _ _ c.loop-n-test.true c.holds.ensures) ∙ c.if-not-holds.false)
