use mathlib.Core.Path.{sym, ◌∙◌}
use Rattle.std.proofs.lemmas.Result.{err_from_is_err_and}
use Rattle.refusals.proofs.Rules.{found_err, found_ok}
use Rattle.limits.proofs.LimitedRecord.{order_judged, limits_judged}
use Rattle.limits.proofs.reader.judged.Goals as goal

pub returns-in_err-at_line : goal.returns-in_err-at_line
returns-in_err-at_line c =
    let p = err_from_is_err_and c.from_residual.result c.from_residual.ensures.1 in
    let a = c.args in
    λ f resources mosts all.
    let judged = order_judged f a.cell.now a.resource.now a.most.now a.count resources mosts all c.greatest-greatest.ensures c.first_misplaced-first.ensures in
    rw (p.1, p.2)
    (sym (found_err _ _ (sym judged ∙ sym c.at_line.ensures ∙ c.in_err-at_line.was)))

pub returns : goal.returns
returns c =
    let a = c.args in
    λ f resources mosts all.
    let judged = order_judged f a.cell.now a.resource.now a.most.now a.count resources mosts all c.greatest-greatest.ensures c.first_misplaced-first.ensures in
    let limits = limits_judged f a.cell.now a.resource.now a.most.now a.count resources mosts all in
    rw (c.all_limits.ensures, limits)
    (sym (found_ok _ _ (sym judged ∙ sym c.at_line.ensures ∙ c.in_ok-at_line.was)))
