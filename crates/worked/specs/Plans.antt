-- Certificates for the bench example: a stage above 0 for each position from which the recipe cannot be built, and the two
-- recipes that document 01 changes it to. Assumes nothing.
use Rattle.std.specs.Prelude.{List, [], ◌∷◌, ℕ}
use Rattle.recipe.specs.declared.Recipe.{Recipe}
use Rattle.worked.specs.Moves.{filled}

-- a point to a line: the round in which a position was found to lead nowhere, whatever is done
unfoldable pub bench_stages : List ℕ
bench_stages =
    0 ∷ 1 ∷ 1 ∷ 2 ∷ 1 ∷ 1 ∷ 2 ∷ 1 ∷ 1 ∷ 1 ∷ 1 ∷ 1 ∷ 2 ∷ 1 ∷ 1 ∷ 1 ∷ 1 ∷ 1 ∷
    1 ∷ 1 ∷ 1 ∷ 1 ∷ 0 ∷ 1 ∷ 1 ∷ 1 ∷ 0 ∷ 1 ∷ 1 ∷ 4 ∷ 1 ∷ 1 ∷ 1 ∷ 1 ∷ 1 ∷ 1 ∷
    1 ∷ 1 ∷ 1 ∷ 1 ∷ 1 ∷ 1 ∷ 1 ∷ 1 ∷ 1 ∷ 1 ∷ 1 ∷ 1 ∷ 1 ∷ 1 ∷ 0 ∷ 1 ∷ 1 ∷ 0 ∷
    1 ∷ 1 ∷ 1 ∷ 1 ∷ 1 ∷ 1 ∷ 1 ∷ 1 ∷ 1 ∷ 1 ∷ 1 ∷ 1 ∷ 1 ∷ 1 ∷ 0 ∷ 1 ∷ 1 ∷ 3 ∷
    0 ∷ 0 ∷ 0 ∷ 0 ∷ 0 ∷ 0 ∷ 0 ∷ 0 ∷ 0 ∷ 0 ∷ 0 ∷ 0 ∷ 0 ∷ 0 ∷ 0 ∷ 0 ∷ 0 ∷ 0 ∷ []

-- "point 3 as `3,2,2,1,0,2,2`"
unfoldable pub dead_recipe : Recipe
dead_recipe =
    record {
      count = 5;
      point = filled (0 ∷ 1 ∷ 2 ∷ 3 ∷ 4 ∷ []);
      kind = filled (1 ∷ 2 ∷ 1 ∷ 2 ∷ 0 ∷ []);
      op = filled (1 ∷ 2 ∷ 3 ∷ 2 ∷ 0 ∷ []);
      takes = filled (0 ∷ 1 ∷ 1 ∷ 1 ∷ 0 ∷ []);
      gives = filled (1 ∷ 0 ∷ 0 ∷ 0 ∷ 0 ∷ []);
      then = filled (1 ∷ 2 ∷ 4 ∷ 2 ∷ 0 ∷ []);
      otherwise = filled (0 ∷ 3 ∷ 0 ∷ 2 ∷ 0 ∷ []);
    }

unfoldable pub dead_stages : List ℕ
dead_stages =
    3 ∷ 1 ∷ 1 ∷ 2 ∷ 1 ∷ 1 ∷ 2 ∷ 1 ∷ 1 ∷ 1 ∷ 1 ∷ 1 ∷ 2 ∷ 1 ∷ 1 ∷ 1 ∷ 1 ∷ 1 ∷
    1 ∷ 1 ∷ 1 ∷ 1 ∷ 2 ∷ 2 ∷ 1 ∷ 1 ∷ 2 ∷ 1 ∷ 1 ∷ 2 ∷ 1 ∷ 1 ∷ 1 ∷ 1 ∷ 1 ∷ 1 ∷
    1 ∷ 1 ∷ 1 ∷ 1 ∷ 1 ∷ 1 ∷ 1 ∷ 1 ∷ 1 ∷ 1 ∷ 1 ∷ 1 ∷ 1 ∷ 1 ∷ 0 ∷ 1 ∷ 1 ∷ 0 ∷
    1 ∷ 1 ∷ 1 ∷ 1 ∷ 0 ∷ 0 ∷ 1 ∷ 1 ∷ 0 ∷ 1 ∷ 1 ∷ 0 ∷ 1 ∷ 1 ∷ 1 ∷ 1 ∷ 1 ∷ 1 ∷
    0 ∷ 0 ∷ 0 ∷ 0 ∷ 0 ∷ 0 ∷ 0 ∷ 0 ∷ 0 ∷ 0 ∷ 0 ∷ 0 ∷ 0 ∷ 0 ∷ 0 ∷ 0 ∷ 0 ∷ 0 ∷ []

-- "a recipe of one end"
unfoldable pub end_recipe : Recipe
end_recipe =
    record {
      count = 1;
      point = filled [];
      kind = filled [];
      op = filled [];
      takes = filled [];
      gives = filled [];
      then = filled [];
      otherwise = filled [];
    }
