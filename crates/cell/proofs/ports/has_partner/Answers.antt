use mathlib.Core.Path.{sym, ◌∙◌}
use native.Mathlib.Omega.{arith}
use Rattle.refusals.proofs.Scan.{any_hit}
use Rattle.refusals.proofs.EveryBelow.{any_none}
use Rattle.cell.proofs.FirstOnPort.{passed_start}
use Rattle.cell.proofs.ports.has_partner.Goals as goal

pub loop-k-init : goal.loop-k-init
loop-k-init c = rw (c.place_of.ensures, c.other_act.ensures) (passed_start _ _ _ _ _ _ c.requires.first_value)

pub returns-then-is_partner : goal.returns-then-is_partner
returns-then-is_partner c = sym (any_hit _ _ _ c.loop-k-test.true (sym c.is_partner.ensures ∙ c.if-is_partner.true))

pub returns : goal.returns
returns c = sym (any_none _ _ (λ n low. c.loop-k.invariant n (omega arith) low))
