use mathlib.Core.Path.{subst}
use Rattle.cell.specs.declared.Cell.{Cell}
use Rattle.chapters.specs.Records.{chapters_from}
use Rattle.planner.specs.Call.{FixedCall}
use Rattle.capi.proofs.Answers.{plan_answered}
use Rattle.capi.proofs.cellplan_plan.Goals as goal

pub returns : goal.returns
returns c =
    let a = c.args in
    record {
      answered = plan_answered c.get_cell.ensures c.refusal_number.ensures c.plan.ensures.call;
      fixed =
          subst (λ (x : Cell). FixedCall x (chapters_from a.recipes.now) a.table.now a.scratch.now c.plan.new.table) c.get_cell.ensures
          c.plan.ensures.fixed;
    }
