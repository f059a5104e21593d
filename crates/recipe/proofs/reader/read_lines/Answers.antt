use mathlib.Core.Path.{◌≡◌, sym, ap, ◌∙◌}
use Rattle.std.proofs.lemmas.Result.{err_from_is_err_and}
use Rattle.refusals.specs.Verdict.{Verdict, Accepted, rule3, found_if}
use Rattle.refusals.proofs.Verdicts.{count_some, count_most}
use Rattle.refusals.proofs.Rules.{tried_err, tried_ok, found_err}
use Rattle.recipe.specs.Rules.{recipe_rules, check_recipe}
use Rattle.recipe.specs.Reader.{recipe_of}
use Rattle.recipe.specs.Inner.{after_range}
use Rattle.recipe.proofs.reader.read_lines.Goals as goal

pub returns-in_err-check_count : goal.returns-in_err-check_count
unfolding check_recipe recipe_rules recipe_of
returns-in_err-check_count c =
    let p = err_from_is_err_and c.from_residual.result c.from_residual.ensures.1 in
    λ f all kept.
    rw (p.1, p.2)
    (sym (found_err _ _ (tried_err _ _ (ap rule3 (sym all) ∙ sym c.check_count.ensures ∙ c.in_err-check_count.was))))

pub store_lines-requires : goal.store_lines-requires
store_lines-requires c =
    let counted = sym c.check_count.ensures ∙ c.in_ok-check_count.was in
    (count_some _ counted, count_most _ counted)

pub returns : goal.returns
unfolding check_recipe recipe_rules after_range recipe_of
returns c =
    let counted : rule3 c.args.count ≡ Accepted = sym c.check_count.ensures ∙ c.in_ok-check_count.was in
    λ f all kept.
    c.store_lines.ensures f all kept
    ∙ ap (λ (v : Verdict). found_if v (recipe_of f)) (sym (tried_ok _ _ (rw all at counted)))
