use mathlib.Core.Path.{sym, ap, ◌∙◌}
use Rattle.positions.specs.declared.Sizes.{Sizes}
use Rattle.positions.specs.Position.{position_of}
use Rattle.positions.specs.Rules.{is_position}
use Rattle.positions.proofs.AcceptedRecords.{both_ok}
use Rattle.printout.proofs.RunPosition.{no_records, no_position, at_position}
use Rattle.printout.proofs.turn.position_of.Goals as goal

pub returns-in_default : goal.returns-in_default
returns-in_default c =
    let s = c.args in
    no_records s.cell s.recipe s.run _ c.check_records.ensures c.in_default.is

pub measure-sizes-requires : goal.measure-sizes-requires
measure-sizes-requires c =
    let both = both_ok _ _ (sym c.check_records.ensures ∙ c.in-Ok.is) in
    record {
      cell_value = both.0;
      recipe_value = both.1;
    }

pub returns-then-not-is_position : goal.returns-then-not-is_position
returns-then-not-is_position c =
    let s = c.args in
    let placed = ap (λ (z : Sizes). is_position z s.run.point s.run.configuration) (sym c.measure-sizes.ensures.0) in
    no_position
    s.cell
    s.recipe
    s.run
    _
    c.check_records.ensures
    c.in-Ok.is
    (placed ∙ sym c.is_position.ensures ∙ c.if-not-is_position.true)

pub position-requires : goal.position-requires
position-requires c = record {
  fitting = c.measure-sizes.ensures.1;
  configuration_value = sym c.is_position.ensures ∙ c.if-not-is_position.false;
}

pub returns : goal.returns
returns c =
    let s = c.args in
    let sized = c.measure-sizes.ensures.0 in
    let placed = ap (λ (z : Sizes). is_position z s.run.point s.run.configuration) (sym sized) in
    c.position.ensures.0
    ∙ ap (λ (z : Sizes). position_of z s.run.point s.run.configuration) sized
    ∙ at_position
    s.cell
    s.recipe
    s.run
    _
    c.check_records.ensures
    c.in-Ok.is
    (placed ∙ sym c.is_position.ensures ∙ c.if-not-is_position.false)
