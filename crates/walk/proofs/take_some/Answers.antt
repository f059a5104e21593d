use Rattle.records.specs.Encoding.{recipe_from}
use Rattle.walk.proofs.InputReads.{step_ended}
use Rattle.walk.proofs.take_some.Goals as goal

pub returns-then-got-eq0-clause-stepped : goal.returns-then-got-eq0-clause-stepped
returns-then-got-eq0-clause-stepped g c =
    let s = c.args in
    step_ended s.cell (recipe_from s.recipes.now) s.table.now s.run c.read_some-got.new.bytes s.text.now c.read_some-got.result c.if-got-eq0.true
