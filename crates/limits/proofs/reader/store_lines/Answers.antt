use mathlib.Core.Path.{sym, ap, ◌∙◌}
use Rattle.std.proofs.lemmas.Result.{err_from_is_err_and}
use Rattle.refusals.specs.Verdict.{Verdict, found_if}
use Rattle.refusals.proofs.Rules.{tried_err, tried_ok, tried_last, found_err}
use Rattle.limits.specs.Inner.{limits_of}
use Rattle.limits.proofs.FileLines.{range_judged, resources_are, mosts_are}
use Rattle.limits.proofs.reader.store_lines.Goals as goal

pub returns-in_err-at_line : goal.returns-in_err-at_line
returns-in_err-at_line c =
    let p = err_from_is_err_and c.from_residual.result c.from_residual.ensures.1 in
    λ f all K.
    let judged = range_judged f c.args.numbers.now c.args.count all c.requires.0 K _ _ c.column-resources.ensures c.column-mosts.ensures in
    rw (p.1, p.2)
    (sym (found_err _ _ (tried_err _ _ (sym judged ∙ sym c.at_line.ensures ∙ c.in_err-at_line.was))))

pub returns : goal.returns
returns c =
    λ f all K.
    let fine = sym c.at_line.ensures ∙ c.in_ok-at_line.was in
    let judged = range_judged f c.args.numbers.now c.args.count all c.requires.0 K _ _ c.column-resources.ensures c.column-mosts.ensures in
    let resources = resources_are f c.args.numbers.now c.args.count all c.requires.0 K _ _ c.column-resources.ensures c.column-mosts.ensures fine in
    let mosts = mosts_are f c.args.numbers.now c.args.count all c.requires.0 K _ _ c.column-resources.ensures c.column-mosts.ensures fine in
    c.judged.ensures f resources mosts all
    ∙ ap (λ (v : Verdict). found_if v (limits_of f)) (sym (tried_ok _ _ (sym judged ∙ fine) ∙ tried_last _))
