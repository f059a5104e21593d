use mathlib.Core.Path.{sym, ap, ◌∙◌}
use Rattle.std.proofs.lemmas.Result.{err_from_is_err_and}
use Rattle.refusals.specs.Verdict.{Verdict, found_if}
use Rattle.refusals.proofs.Rules.{tried_err, tried_ok}
use Rattle.tables.specs.Table.{rule1}
use Rattle.tables.proofs.FileRules.{rule2_broken, rule2_kept, lines_counted}
use Rattle.recipe.specs.Rules.{check_recipe}
use Rattle.recipe.specs.Reader.{recipe_names, recipe_of, judge_recipe}
use Rattle.recipe.proofs.ReadRecord.{read_refused, read_judged}
use Rattle.recipe.proofs.read_recipe.Goals as goal

pub returns-in_err-check_names : goal.returns-in_err-check_names
unfolding rule1 recipe_names judge_recipe
returns-in_err-check_names c =
    let p = err_from_is_err_and c.from_residual.result c.from_residual.ensures.1 in
    rw (p.1, p.2) (read_refused _ (tried_err _ _ (sym c.check_names.ensures ∙ c.in_err-check_names.was)))

pub returns-in_err-count : goal.returns-in_err-count
unfolding rule1 recipe_names judge_recipe
returns-in_err-count c =
    let p = err_from_is_err_and c.from_residual-in_err-count.result c.from_residual-in_err-count.ensures.1 in
    let f = c.args.file.now in
    let passed = sym c.check_names.ensures ∙ c.in_ok-check_names.was in
    let form = sym c.check_lines.ensures.form_is ∙ c.in_err-count.was in
    rw (p.1, p.2) (read_refused f (tried_ok _ _ passed ∙ tried_err _ _ (rule2_broken recipe_names f passed 7 form)))

pub returns : goal.returns
unfolding rule1 recipe_names judge_recipe check_recipe
returns c =
    let f = c.args.file.now in
    let passed = sym c.check_names.ensures ∙ c.in_ok-check_names.was in
    let form = sym c.check_lines.ensures.form_is ∙ c.in_ok-count.was in
    let judged = tried_ok _ _ passed ∙ tried_ok _ _ (rule2_kept recipe_names f passed 7 form) in
    read_judged f
    (c.read_lines.ensures f (lines_counted 7 f form) (c.check_lines.ensures.kept _ c.in_ok-count.was)
    ∙ ap (λ (v : Verdict). found_if v (recipe_of f)) (sym judged))
