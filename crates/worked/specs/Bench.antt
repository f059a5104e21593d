-- "The bench example" and the examples beside it: their files, byte by byte. Assumes nothing.
use Rattle.std.specs.Prelude.{cond, List, [], ◌∷◌, ◌++◌, ℕ, zero, suc, ◌+◌, ◌/◌, ◌%◌, replicate, eqb, ltb}
use Rattle.cell.specs.Reader.{cell_names}
use Rattle.recipe.specs.Reader.{recipe_names}

-- a number of one or two digits
unfoldable pub digits : ℕ → List ℕ
digits n = cond (ltb n 10) ((48 + n) ∷ []) ((48 + n / 10) ∷ (48 + n % 10) ∷ [])

-- a line of such numbers, parted by commas and ended by byte 10
unfoldable pub row : ℕ → List ℕ → List ℕ
row n [] = digits n ++ (10 ∷ [])
row n (m ∷ rest) = digits n ++ (44 ∷ row m rest)

-- lines 0 to n - 1, each by its number
unfoldable pub rows : (ℕ → List ℕ) → ℕ → List ℕ
rows line zero = []
rows line (suc n) = rows line n ++ line n

-- the cell file, whose line 2 has the given port: "Cell lines 0 to 4: `0,0,1,1,1` `0,1,3,5,0` `1,0,2,5,1` `1,1,1,2,2` `1,2,1,3,0`"
unfoldable pub cell_file : ℕ → List ℕ
cell_file port =
    cell_names ++ (10 ∷ []) ++ row 0 (0 ∷ 1 ∷ 1 ∷ 1 ∷ []) ++ row 0 (1 ∷ 3 ∷ 5 ∷ 0 ∷ []) ++ row 1 (0 ∷ 2 ∷ port ∷ 1 ∷ [])
    ++ row 1 (1 ∷ 1 ∷ 2 ∷ 2 ∷ [])
    ++ row 1 (2 ∷ 1 ∷ 3 ∷ 0 ∷ [])

-- the recipe file, whose point 3 has the given line: "Recipe: `0,1,1,0,1,1,0` `1,2,2,1,0,2,3` `2,1,3,1,0,4,0` `3,1,3,1,0,0,0` `4,0,0,0,0,0,0`"
unfoldable pub recipe_with : List ℕ → List ℕ
recipe_with line =
    recipe_names ++ (10 ∷ []) ++ row 0 (1 ∷ 1 ∷ 0 ∷ 1 ∷ 1 ∷ 0 ∷ []) ++ row 1 (2 ∷ 2 ∷ 1 ∷ 0 ∷ 2 ∷ 3 ∷ []) ++ row 2 (1 ∷ 3 ∷ 1 ∷ 0 ∷ 4 ∷ 0 ∷ [])
    ++ row 3 line
    ++ row 4 (0 ∷ 0 ∷ 0 ∷ 0 ∷ 0 ∷ 0 ∷ [])

unfoldable pub recipe_file : List ℕ
recipe_file = recipe_with (1 ∷ 3 ∷ 1 ∷ 0 ∷ 0 ∷ 0 ∷ [])

-- "point 3 as `3,2,2,1,0,2,2`"
unfoldable pub dead_file : List ℕ
dead_file = recipe_with (2 ∷ 2 ∷ 1 ∷ 0 ∷ 2 ∷ 2 ∷ [])

-- "a recipe of one end"
unfoldable pub end_file : List ℕ
end_file = recipe_names ++ (10 ∷ []) ++ row 0 (replicate 6 0)

-- "R 3, four states each": three stations, of which the first goes to the given state and the others to 3
unfoldable pub limit_cell_file : ℕ → List ℕ
limit_cell_file most = cell_names ++ (10 ∷ []) ++ rows (λ k. row k (0 ∷ 0 ∷ 0 ∷ cond (eqb k 0) most 3 ∷ [])) 3

-- "P 5, N 16": fifteen dos in a row that give part 4, and an end
unfoldable pub limit_recipe_file : List ℕ
limit_recipe_file = recipe_names ++ (10 ∷ []) ++ rows (λ n. row n (1 ∷ 0 ∷ 0 ∷ 16 ∷ (n + 1) ∷ 0 ∷ [])) 15 ++ row 15 (replicate 6 0)
