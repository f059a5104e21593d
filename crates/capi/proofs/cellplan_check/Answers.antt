use mathlib.Core.Path.{ap, ◌∙◌}
use Rattle.refusals.specs.Verdict.{refusal_in}
use Rattle.cell.specs.declared.Cell.{Cell}
use Rattle.chapters.specs.Records.{chapters_from}
use Rattle.chapters.specs.Rules.{check_sizes}
use Rattle.capi.proofs.cellplan_check.Goals as goal

pub returns : goal.returns
returns c =
    c.refusal_number.ensures
    ∙ ap refusal_in
    (c.check.ensures
    ∙ ap (λ (x : Cell). check_sizes x (chapters_from c.args.recipes.now)) c.get_cell.ensures)
