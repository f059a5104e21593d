use Rattle.std.proofs.Common.{refl, ◌∙◌, rules, tests}
use Rattle.std.proofs.lemmas.Iterator.{YieldsList-from_range}
use Rattle.std.proofs.lemmas.Iterator.Search.{any_from_yields_List}
use Rattle.recipe.proofs.PointOrder.{any_from_start, none_shares, shares_at}
use Rattle.recipe.proofs.parts.shares_before.Goals as goal

pub returns : goal.returns
returns c =
    let r = c.args.recipe.now in
    let start = c.point_start.result in
    let from = c.point_start.ensures in
    any_from_yields_List _ _ _ _ c.any.ensures.ran (YieldsList-from_range start c.args.n _ refl refl) (λ x b q k. search (rules, tests))
    ∙ any_from_start r.point c.args.n start from.0 from.1 _ _ (none_shares _ _ _ from.0 from.1 r.takes r.gives) (shares_at _ _ _ from.0 from.1 _ _)
