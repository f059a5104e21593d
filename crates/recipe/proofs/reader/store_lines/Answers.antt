use mathlib.Core.Path.{sym, ◌∙◌}
use Rattle.std.proofs.lemmas.Result.{err_from_is_err_and}
use Rattle.recipe.proofs.RecordFields.{stored_out, stored_refused, stored_found}
use Rattle.recipe.proofs.reader.store_lines.Goals as goal

pub returns-in_err-at_line : goal.returns-in_err-at_line
returns-in_err-at_line c =
    let p = err_from_is_err_and c.from_residual.result c.from_residual.ensures.1 in
    λ f all K.
    rw (p.1, p.2)
    (sym (stored_out f c.args.numbers.now c.args.count all c.requires.1 K _ _ _ _ _ _ _
    c.column-points.ensures c.column-kinds.ensures c.column-ops.ensures c.column-taken.ensures
    c.column-given.ensures c.column-thens.ensures c.column-others.ensures
    (sym c.at_line.ensures ∙ c.in_err-at_line.was)))

pub returns-in_err-check_points : goal.returns-in_err-check_points
returns-in_err-check_points c =
    let p = err_from_is_err_and c.from_residual-in_err-check_points.result c.from_residual-in_err-check_points.ensures.1 in
    λ f all K.
    rw (p.1, p.2)
    (sym (stored_refused f c.args.numbers.now c.args.count all c.requires.1 K _ _ _ _ _ _ _
    c.column-points.ensures c.column-kinds.ensures c.column-ops.ensures c.column-taken.ensures
    c.column-given.ensures c.column-thens.ensures c.column-others.ensures
    (sym c.at_line.ensures ∙ c.in_ok-at_line.was) c.check_points.ensures c.in_err-check_points.was))

pub returns : goal.returns
returns c =
    λ f all K.
    sym (stored_found f c.args.numbers.now c.args.count all c.requires.1 K _ _ _ _ _ _ _
    c.column-points.ensures c.column-kinds.ensures c.column-ops.ensures c.column-taken.ensures
    c.column-given.ensures c.column-thens.ensures c.column-others.ensures
    (sym c.at_line.ensures ∙ c.in_ok-at_line.was) c.check_points.ensures c.in_ok-check_points.was)
