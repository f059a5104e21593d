use mathlib.Core.Path.{ap}
use native.Mathlib.Omega.{arith}
use Rattle.refusals.specs.Verdict.{refusal_in}
use Rattle.run.specs.Calls.{move_of}
use Rattle.capi.specs.Answer.{move_code}
use Rattle.capi.proofs.cellplan_next_move.Goals as goal

pub returns-in-Ok : goal.returns-in-Ok
unfolding refusal_in move_of move_code
returns-in-Ok c =
    let found = ap move_code (rw (c.get_cell.ensures, c.get_run-run.ensures) at c.in-Ok.ensures) in
    omega (arith, c.from.ensures, found)

pub returns-in-Err : goal.returns-in-Err
unfolding refusal_in move_of move_code
returns-in-Err c =
    let refused = ap move_code (rw (c.get_cell.ensures, c.get_run-run.ensures) at c.in-Err.ensures) in
    omega (arith, c.from-in-Err.ensures, c.number.ensures, refused)
