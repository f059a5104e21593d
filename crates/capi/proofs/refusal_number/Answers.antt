use mathlib.Core.Path.{sym, ap, ◌∙◌}
use Rattle.refusals.specs.Verdict.{refusal_in}
use Rattle.capi.proofs.refusal_number.Goals as goal

pub returns-in-Ok : goal.returns-in-Ok
unfolding refusal_in
returns-in-Ok c = sym (ap refusal_in c.in-Ok.is)

pub returns-in-Err : goal.returns-in-Err
unfolding refusal_in
returns-in-Err c = c.from.ensures ∙ c.number.ensures ∙ sym (ap refusal_in c.in-Err.is)
