use mathlib.Core.Path.{refl}
use Rattle.walk.specs.Output.{names_line}
use Rattle.walk.proofs.WholeWalk.{told_refused, told_followed}
use Rattle.walk.proofs.plan_and_follow.Goals as goal

pub returns-else-last : goal.returns-else-last
unfolding names_line
returns-else-last g c =
    λ written. told_followed _ c.in-Ok.ensures.fixed (c.in_ok-print.ensures refl) c.follow-last.ensures.streams c.if-last.false

pub returns-in-Err : goal.returns-in-Err
unfolding names_line
returns-in-Err g c = λ written. told_refused _ c.in-Err.ensures.fixed (c.in_ok-print.ensures refl) (c.print_refusal.ensures written)
