-- The bench example with points that nothing leads to, and a table that is stored for it. Assumes nothing.
use Rattle.std.specs.Prelude.{List, [], ◌∷◌, ◌++◌, ℕ}
use Rattle.refusals.specs.Search.{tabulate}
use Rattle.recipe.specs.declared.Recipe.{Recipe}
use Rattle.worked.specs.Bench.{row, recipe_file}
use Rattle.worked.specs.Moves.{filled, bench_entry}

-- with `5,0,0,0,0,0,0` behind: a sixth point, an end that was forgotten there
unfoldable pub forgotten_recipe : Recipe
forgotten_recipe =
    record {
      count = 6;
      point = filled (0 ∷ 1 ∷ 2 ∷ 3 ∷ 4 ∷ 5 ∷ []);
      kind = filled (1 ∷ 2 ∷ 1 ∷ 1 ∷ 0 ∷ 0 ∷ []);
      op = filled (1 ∷ 2 ∷ 3 ∷ 3 ∷ 0 ∷ 0 ∷ []);
      takes = filled (0 ∷ 1 ∷ 1 ∷ 1 ∷ 0 ∷ 0 ∷ []);
      gives = filled (1 ∷ 0 ∷ 0 ∷ 0 ∷ 0 ∷ 0 ∷ []);
      then = filled (1 ∷ 2 ∷ 4 ∷ 0 ∷ 0 ∷ 0 ∷ []);
      otherwise = filled (0 ∷ 3 ∷ 0 ∷ 0 ∷ 0 ∷ 0 ∷ []);
    }

-- its file
unfoldable pub forgotten_file : List ℕ
forgotten_file = recipe_file ++ row 5 (0 ∷ 0 ∷ 0 ∷ 0 ∷ 0 ∷ 0 ∷ [])

-- and a table of M entries for it, stored before: the bench example's moves, and the entry of an end at each position of point 5 too
unfoldable pub stored_table : List ℕ
stored_table = tabulate 108 bench_entry

-- with `5,1,1,0,1,6,0` `6,1,3,1,0,5,0` behind: two points that lead to each other
unfoldable pub loop_recipe : Recipe
loop_recipe =
    record {
      count = 7;
      point = filled (0 ∷ 1 ∷ 2 ∷ 3 ∷ 4 ∷ 5 ∷ 6 ∷ []);
      kind = filled (1 ∷ 2 ∷ 1 ∷ 1 ∷ 0 ∷ 1 ∷ 1 ∷ []);
      op = filled (1 ∷ 2 ∷ 3 ∷ 3 ∷ 0 ∷ 1 ∷ 3 ∷ []);
      takes = filled (0 ∷ 1 ∷ 1 ∷ 1 ∷ 0 ∷ 0 ∷ 1 ∷ []);
      gives = filled (1 ∷ 0 ∷ 0 ∷ 0 ∷ 0 ∷ 1 ∷ 0 ∷ []);
      then = filled (1 ∷ 2 ∷ 4 ∷ 0 ∷ 0 ∷ 6 ∷ 5 ∷ []);
      otherwise = filled (0 ∷ 3 ∷ 0 ∷ 0 ∷ 0 ∷ 0 ∷ 0 ∷ []);
    }

-- with point 1 as `1,2,2,1,0,2,2`: its `else` no longer leads to point 3
unfoldable pub turned_else : Recipe
turned_else =
    record {
      count = 5;
      point = filled (0 ∷ 1 ∷ 2 ∷ 3 ∷ 4 ∷ []);
      kind = filled (1 ∷ 2 ∷ 1 ∷ 1 ∷ 0 ∷ []);
      op = filled (1 ∷ 2 ∷ 3 ∷ 3 ∷ 0 ∷ []);
      takes = filled (0 ∷ 1 ∷ 1 ∷ 1 ∷ 0 ∷ []);
      gives = filled (1 ∷ 0 ∷ 0 ∷ 0 ∷ 0 ∷ []);
      then = filled (1 ∷ 2 ∷ 4 ∷ 0 ∷ 0 ∷ []);
      otherwise = filled (0 ∷ 2 ∷ 0 ∷ 0 ∷ 0 ∷ []);
    }
