use Rattle.std.proofs.Common.{◌≡◌, ◌-◌, leb, refl, sym, ap, ◌∙◌, arith, rules, tests}
use Rattle.std.proofs.lemmas.Iterator.{YieldsList-from_range}
use Rattle.std.proofs.lemmas.Iterator.Search.{any_from_yields_List}
use Rattle.refusals.specs.Search.{any_below, count_below}
use Rattle.recipe.specs.Rules.{breaks_repeat, clashes}
use Rattle.recipe.specs.Inner.{same_point}
use Rattle.recipe.proofs.PointOrder.{any_from_start, none_clashes, clashes_at, rest_same}
use Rattle.recipe.proofs.points.bad_repeat.Goals as goal
use Rattle.recipe.proofs.points.bad_repeat.Goals.{After-any}

-- the search from the point's first line on finds what one over all lines before line n does
clashing : (c : After-any) → c.any.result ≡ any_below (clashes c.args.recipe.now.point c.args.recipe.now.kind c.args.recipe.now.then c.args.n) c.args.n
clashing c =
    let r = c.args.recipe.now in
    let start = c.point_start-start.result in
    let from = c.point_start-start.ensures in
    any_from_yields_List _ _ _ _ c.any.ensures.ran (YieldsList-from_range start c.args.n _ refl refl) (λ x b q k. search (rules, tests))
    ∙ any_from_start r.point c.args.n start from.0 from.1 _ _ (none_clashes _ _ _ from.0 from.1 r.kind r.then) (clashes_at _ _ _ from.0 from.1 _ _)

pub returns-then-any : goal.returns-then-any
unfolding breaks_repeat
returns-then-any c = rw (sym (clashing (goal.at.returns-then-any c).After-any) ∙ c.if-any.true) c.if-any.true

pub returns-else-any : goal.returns-else-any
unfolding breaks_repeat
returns-else-any c =
    let point = c.args.recipe.now.point in
    let start = c.point_start-start in
    let count : c.args.n - start.result ≡ count_below (same_point point c.args.n) c.args.n =
    omega (arith, rest_same point c.args.n start.result start.ensures.0 start.ensures.1) in
    rw (sym (clashing (goal.at.returns-else-any c).After-any) ∙ c.if-any.false) (ap (leb 4) count)
