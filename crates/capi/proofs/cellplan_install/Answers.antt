use native.Mathlib.Omega.{arith}
use Rattle.refusals.specs.Verdict.{refusal_in}
use Rattle.install.specs.Call.{listing_of}
use Rattle.capi.proofs.Answers.{install_answered}
use Rattle.capi.proofs.cellplan_install.Goals as goal

pub returns-in-Ok : goal.returns-in-Ok
unfolding refusal_in listing_of
returns-in-Ok c = install_answered c.get_cell-cell.ensures c.get_recipe-recipe.ensures (omega arith) c.in-Ok.ensures

pub returns-in-Err : goal.returns-in-Err
unfolding refusal_in listing_of
returns-in-Err c = install_answered c.get_cell-cell.ensures c.get_recipe-recipe.ensures (omega (arith, c.from.ensures, c.number.ensures)) c.in-Err.ensures
