use mathlib.Core.Path.{◌≡◌, refl, sym, ap, ◌∙◌}
use Rattle.std.proofs.lemmas.Result.{err_from_is_err_and}
use Rattle.refusals.specs.Verdict.{Verdict, Accepted, rule3, found_if}
use Rattle.refusals.proofs.Verdicts.{count_most}
use Rattle.refusals.proofs.Rules.{tried_err, found_err}
use Rattle.cell.specs.Rules.{cell_rules, check_cell}
use Rattle.cell.specs.Reader.{cell_of}
use Rattle.cell.proofs.StationLimits.{eights_pass}
use Rattle.cell.proofs.reader.read_lines.Goals as goal

pub returns-in_err-check_count : goal.returns-in_err-check_count
unfolding check_cell cell_rules cell_of
returns-in_err-check_count c =
    let p = err_from_is_err_and c.from_residual.result c.from_residual.ensures.1 in
    λ f all kept.
    rw (p.1, p.2)
    (sym (found_err _ _ (tried_err _ _ (ap rule3 (sym all) ∙ sym c.check_count.ensures ∙ c.in_err-check_count.was))))

pub store_lines-requires : goal.store_lines-requires
store_lines-requires c = count_most _ (sym c.check_count.ensures ∙ c.in_ok-check_count.was)

pub returns : goal.returns
unfolding cell_of
returns c =
    let counted : rule3 c.args.count ≡ Accepted = sym c.check_count.ensures ∙ c.in_ok-check_count.was in
    λ f all kept.
    c.store_lines.ensures f all kept
    ∙ ap (λ (v : Verdict). found_if v (cell_of f)) (eights_pass (cell_of f) refl (rw all at counted))
