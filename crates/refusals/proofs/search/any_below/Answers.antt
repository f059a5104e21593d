use mathlib.Core.Path.{refl, sym, ◌∙◌}
use Rattle.refusals.specs.Search.{any_below}
use Rattle.refusals.proofs.Scan.{any_hit, any_more}
use Rattle.refusals.proofs.search.any_below.Goals as goal

pub loop-n-init : goal.loop-n-init
unfolding any_below
loop-n-init g c = λ f told. refl

pub returns-then-holds : goal.returns-then-holds
returns-then-holds g c =
    λ f told.
    sym (any_hit f _ _ c.loop-n-test.true (sym (told _ _ c.loop-n-test.true c.holds.ensures) ∙ c.if-holds.true))

pub loop-n-preserved : goal.loop-n-preserved
loop-n-preserved g c =
    λ f told.
    any_more f _ (c.loop-n.invariant f told) (sym (told _ _ c.loop-n-test.true c.holds.ensures) ∙ c.if-holds.false)
