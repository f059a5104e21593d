use mathlib.Core.Path.{◌≡◌, ◌∙◌}
use native.Mathlib.Omega.{arith}
use Rattle.refusals.proofs.Verdicts.{count_in_range}
use Rattle.recipe.proofs.AcceptedRecord.{line_in_range, each_accepts}
use Rattle.install.specs.Candidates.{names_at, is_named}
use Rattle.install.proofs.NamedOperations.{named_none, named_end, named_one}
use Rattle.install.proofs.candidates.named_operations.Goals as goal
use Rattle.install.proofs.candidates.named_operations.Goals.{then-recipe-n-ne-END, else-recipe-n-ne-END}

pub bounds-named-recipe : goal.bounds-named-recipe
bounds-named-recipe c = omega (arith, (line_in_range _ (each_accepts _ c.requires).fourth c.loop-n.n c.loop-n-test.true).op)

pub loop-n-preserved : goal.loop-n-preserved
loop-n-preserved c =
    let l = c.loop-n in
    let few = (line_in_range _ (each_accepts _ c.requires).fourth l.n c.loop-n-test.true).op in
    elim c.if-recipe-n-ne-END.branch [
      | then-recipe-n-ne-END w ↦ rw w.named-is (named_one _ _ l.n l.named l.invariant w.if-recipe-n-ne-END.true (omega (arith, few)))
      | else-recipe-n-ne-END w ↦ rw w.named-is (named_end _ _ l.n l.named l.invariant w.if-recipe-n-ne-END.false)
    ]

pub returns : goal.returns
unfolding is_named names_at
returns c =
    let l = c.loop-n in
    let all : l.n ≡ c.args.recipe.now.count = omega arith in
    λ o low. l.invariant.each o low ∙ rw all

pub loop-n-init : goal.loop-n-init
loop-n-init c = named_none _ _

pub bounds-recipe-n : goal.bounds-recipe-n
bounds-recipe-n c = omega (arith, (count_in_range _ (each_accepts _ c.requires).third).most)
