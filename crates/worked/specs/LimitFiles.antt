-- The files of the cells with limits, byte by byte. Assumes nothing.
use Rattle.std.specs.Prelude.{List, [], ◌∷◌, ◌++◌, ℕ, replicate}
use Rattle.cell.specs.Reader.{cell_names}
use Rattle.recipe.specs.Reader.{recipe_names}
use Rattle.limits.specs.Reader.{limits_names}
use Rattle.worked.specs.Bench.{row}

-- a limits file of these lines: "A third table, names line `resource,most`"
unfoldable pub limits_file : List ℕ → List ℕ
limits_file lines = limits_names ++ (10 ∷ []) ++ lines

-- a line of it: the resource and the most parts that it may hold
unfoldable pub limit_line : ℕ → ℕ → List ℕ
limit_line resource most = row resource (most ∷ [])

-- `0,0,1,1,1` `0,1,3,5,0` `1,0,2,5,0` `1,0,1,2,0`
unfoldable pub nest_cell_file : List ℕ
nest_cell_file =
    cell_names ++ (10 ∷ []) ++ row 0 (0 ∷ 1 ∷ 1 ∷ 1 ∷ []) ++ row 0 (1 ∷ 3 ∷ 5 ∷ 0 ∷ []) ++ row 1 (0 ∷ 2 ∷ 5 ∷ 0 ∷ []) ++ row 1 (0 ∷ 1 ∷ 2 ∷ 0 ∷ [])

-- `0,1,1,0,1,1,0` `1,1,1,0,2,2,0` `2,1,2,3,0,3,0` `3,0,0,0,0,0,0`
unfoldable pub nest_recipe_file : List ℕ
nest_recipe_file =
    recipe_names ++ (10 ∷ []) ++ row 0 (1 ∷ 1 ∷ 0 ∷ 1 ∷ 1 ∷ 0 ∷ []) ++ row 1 (1 ∷ 1 ∷ 0 ∷ 2 ∷ 2 ∷ 0 ∷ []) ++ row 2 (1 ∷ 2 ∷ 3 ∷ 0 ∷ 3 ∷ 0 ∷ [])
    ++ row 3 (replicate 6 0)
