use Rattle.std.proofs.Common.{◌≡◌, ◌<◌, ◌+◌, ◌-◌, arith}
use Rattle.recipe.proofs.PointOrder.{same_from}
use Rattle.recipe.proofs.points.point_start.Goals as goal

pub returns-then-recipe-k : goal.returns-then-recipe-k
returns-then-recipe-k c =
    let high : c.args.n < c.args.n + 1 = omega arith in
    let here : c.loop-k.k - 1 + 1 ≡ c.loop-k.k = omega arith in
    rw here (c.loop-k.auto.k, same_from _ _ c.requires.n_value _ _ c.loop-k.auto.k high c.loop-k.invariant (λ some. c.if-recipe-k.true))

pub returns : goal.returns
returns c =
    let end : c.loop-k.k ≡ 0 = omega arith in
    let high : c.args.n < c.args.n + 1 = omega arith in
    (omega arith, same_from _ _ c.requires.n_value 0 _ (omega arith) high (rw end at c.loop-k.invariant) (λ (some : 0 < 0). absurd (omega arith)))
