use mathlib.Core.Path.{refl}
use native.Mathlib.Omega.{arith}
use Rattle.std.proofs.lemmas.Result.{err_from_is_err_and}
use Rattle.recipe.specs.Reader.{reading_of}
use Rattle.std.specs.Prelude.{Err}
use Rattle.refusals.specs.Verdict.{Accepted, found_if}
use Rattle.walk.proofs.FilesDecide.{few_lines, both_read, prepared_of, told_behind, told_plan}
use Rattle.walk.proofs.prepare.Goals as goal

pub returns-in_err-cell : goal.returns-in_err-cell
returns-in_err-cell g c =
    let p = err_from_is_err_and c.from_residual.result c.from_residual.ensures.1 in
    let told = told_behind _ c.read_cell.ensures c.in_err-cell.ensures in
    record { prepared = rw (p.1, p.2) (prepared_of told); fixed = rw (p.1, p.2) told }

pub put_recipe-requires : goal.put_recipe-requires
unfolding reading_of
put_recipe-requires g c =
    let read = both_read _ _ _ c.read_cell.ensures c.in_ok-cell.ensures in
    (few_lines read.1, omega (arith, c.requires.recipes_len))

pub returns-in_err-plan : goal.returns-in_err-plan
unfolding found_if
returns-in_err-plan g c =
    let p = err_from_is_err_and c.from_residual-in_err-plan.result c.from_residual-in_err-plan.ensures.1 in
    let plan = c.in_err-plan.ensures in
    let read = both_read _ _ _ c.read_cell.ensures c.in_ok-cell.ensures in
    let told = told_plan _ (Err c.in_err-plan.field-0.0) _ read.0 read.1 c.requires.recipes_len c.put_recipe.ensures c.requires.table_len refl plan.call plan.fixed in
    record { prepared = rw (p.1, p.2) (prepared_of told); fixed = rw (p.1, p.2) told }

pub returns : goal.returns
unfolding found_if
returns g c =
    let plan = c.in_ok-plan.ensures in
    let read = both_read _ _ _ c.read_cell.ensures c.in_ok-cell.ensures in
    let told = told_plan _ Accepted _ read.0 read.1 c.requires.recipes_len c.put_recipe.ensures c.requires.table_len refl plan.call plan.fixed in
    record { prepared = prepared_of told; fixed = told }
