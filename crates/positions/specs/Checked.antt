-- What a call knows of a cell and a recipe once the rules up to 13 accept them: they pass, and their numbers are these, with any P
-- that counts the recipe's parts. Assumes nothing.
use Rattle.std.specs.Prelude.{◌≡◌, ◌≤◌}
use Rattle.refusals.specs.Verdict.{Accepted}
use Rattle.cell.specs.declared.Cell.{Cell}
use Rattle.cell.specs.Rules.{check_cell}
use Rattle.recipe.specs.declared.Recipe.{Recipe}
use Rattle.recipe.specs.Rules.{check_recipe}
use Rattle.positions.specs.declared.Sizes.{Sizes}
use Rattle.positions.specs.Sizes.{sizes_for, points_of, parts_of}

pub record Checked (c : Cell) (r : Recipe) (z : Sizes) : Type 0 where
  pub cell_passes : check_cell c ≡ Accepted
  pub recipe_passes : check_recipe r ≡ Accepted
  pub measured : z ≡ sizes_for c (points_of r) z.parts
  pub parts_held : parts_of r ≤ z.parts
  pub parts_most : z.parts ≤ 8
  pub few : z.positions ≤ 1048576
