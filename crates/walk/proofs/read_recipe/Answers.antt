use Rattle.std.proofs.Common.{rules}
use Rattle.walk.proofs.FilesDecide.{recipe_start, read_behind}
use Rattle.walk.proofs.read_recipe.Goals as goal

pub returns-in_err-recipe : goal.returns-in_err-recipe
returns-in_err-recipe g c =
    let start = c.read_start-length in
    read_behind _ _ (recipe_start start.result start.new.start start.auto.start c.read_recipe.ensures) (search rules)

pub returns : goal.returns
returns g c =
    let start = c.read_start-length in
    read_behind _ _ (recipe_start start.result start.new.start start.auto.start c.read_recipe.ensures) (search rules)
