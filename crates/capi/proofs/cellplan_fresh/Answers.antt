use mathlib.Core.Path.{refl, ap, ◌∙◌}
use mathlib.Core.List.{◌++◌}
use lib.ListN.{drop}
use Rattle.run.specs.declared.Run.{Run}
use Rattle.capi.specs.Encoding.{code_of, run_bytes}
use Rattle.capi.proofs.Answers.{too_short, answered}
use Rattle.capi.proofs.cellplan_fresh.Goals as goal

pub returns-then-buffer-lt16 : goal.returns-then-buffer-lt16
returns-then-buffer-lt16 c = too_short _ _ 16 c.args.buffer.now c.number.result c.if-buffer-lt16.true c.number.ensures

pub returns : goal.returns
unfolding code_of
returns c =
    answered _ _ 16 c.args.buffer.now _ 0 c.if-buffer-lt16.false refl
    (c.put_run.ensures
    ∙ ap (λ (run : Run). run_bytes run ++ drop 16 c.args.buffer.now)
    c.fresh.ensures)
