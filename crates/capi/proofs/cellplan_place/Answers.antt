use mathlib.Core.Path.{ap}
use native.Mathlib.Omega.{arith}
use Rattle.refusals.specs.Verdict.{refusal_in}
use Rattle.run.specs.Calls.{place_of}
use Rattle.capi.specs.Answer.{place_code}
use Rattle.capi.proofs.cellplan_place.Goals as goal

pub returns-in-Ok : goal.returns-in-Ok
unfolding refusal_in place_of place_code
returns-in-Ok c =
    let found = ap place_code (rw (c.get_cell.ensures, c.get_run-run.ensures) at c.in-Ok.ensures) in
    omega (arith, c.from.ensures, found)

pub returns-in-Err : goal.returns-in-Err
unfolding refusal_in place_of place_code
returns-in-Err c =
    let refused = ap place_code (rw (c.get_cell.ensures, c.get_run-run.ensures) at c.in-Err.ensures) in
    omega (arith, c.from-in-Err.ensures, c.number.ensures, refused)
