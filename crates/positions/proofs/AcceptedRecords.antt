-- What records have that their rules accept, with rule 13 or without it. Assumes nothing.
use mathlib.Core.Path.{◌≡◌}
use mathlib.Core.List.{[], ◌∷◌}
use Rattle.refusals.specs.Verdict.{Accepted}
use Rattle.refusals.proofs.Rules.{first_accepts, left_accepts, right_accepts}
use Rattle.cell.specs.declared.Cell.{Cell}
use Rattle.cell.specs.Rules.{cell_rules, check_cell}
use Rattle.recipe.specs.declared.Recipe.{Recipe}
use Rattle.recipe.specs.Rules.{recipe_rules, check_recipe}
use Rattle.positions.specs.Sizes.{sizes_of}
use Rattle.positions.specs.Rules.{record_rules, check_records, rule13, check_sizes}

module _ (c : Cell) (r : Recipe) where
  -- both records pass
  pub both_ok : check_records c r ≡ Accepted → (check_cell c ≡ Accepted) × (check_recipe r ≡ Accepted)
  unfolding check_records record_rules check_cell check_recipe
  both_ok e = (left_accepts (cell_rules c) (recipe_rules r) e, right_accepts (cell_rules c) (recipe_rules r) e)

  -- with rule 13
  module _ (sized : check_sizes c r ≡ Accepted) where
    pub records_ok : check_records c r ≡ Accepted
    unfolding check_records check_sizes
    records_ok = left_accepts (record_rules c r) (rule13 (sizes_of c r) ∷ []) sized

    pub few_ok : rule13 (sizes_of c r) ≡ Accepted
    unfolding check_sizes
    few_ok = first_accepts _ _ (right_accepts (record_rules c r) (rule13 (sizes_of c r) ∷ []) sized)
