use mathlib.Core.Path.{◌≡◌, sym, ap, ◌∙◌}
use Rattle.std.proofs.lemmas.Result.{err_from_is_err_and}
use Rattle.refusals.specs.Verdict.{Verdict, Accepted, rule3, found_if}
use Rattle.refusals.proofs.Verdicts.{count_most}
use Rattle.refusals.proofs.Rules.{tried_err, tried_ok, found_err}
use Rattle.limits.specs.Inner.{limits_of}
use Rattle.limits.proofs.reader.read_lines.Goals as goal

pub returns-in_err-check_count : goal.returns-in_err-check_count
returns-in_err-check_count c =
    let p = err_from_is_err_and c.from_residual.result c.from_residual.ensures.1 in
    λ f all kept.
    rw (p.1, p.2)
    (sym (found_err _ _ (tried_err _ _ (ap rule3 (sym all) ∙ sym c.check_count.ensures ∙ c.in_err-check_count.was))))

pub store_lines-requires : goal.store_lines-requires
store_lines-requires c = (count_most _ (sym c.check_count.ensures ∙ c.in_ok-check_count.was), c.requires)

pub returns : goal.returns
returns c =
    let counted : rule3 c.args.count ≡ Accepted = sym c.check_count.ensures ∙ c.in_ok-check_count.was in
    λ f all kept.
    c.store_lines.ensures f all kept
    ∙ ap (λ (v : Verdict). found_if v (limits_of f)) (sym (tried_ok _ _ (rw all at counted)))
