use Rattle.records.specs.Encoding.{recipe_row}
use Rattle.records.proofs.ByteRows.{RowsPut}
use Rattle.records.proofs.put.put_recipe.Given as goal

abbrev pub invariant-loop-i : goal.invariant-loop-i
invariant-loop-i l = RowsPut (recipe_row l.recipe) 7 l.recipe.count l.initial.buffer l.i l.buffer
