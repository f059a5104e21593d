-- How records are written as bytes, as include/cellplan.h says it. Assumes nothing.
use Rattle.std.specs.Prelude.{cond, List, [], ◌∷◌, ◌++◌, ℕ, zero, suc, ◌+◌, ◌*◌, length, get_or, ltb}
use Rattle.refusals.specs.Search.{tabulate}
use Rattle.cell.specs.declared.Cell.{Cell}
use Rattle.cell.specs.Reader.{no_cell}
use Rattle.recipe.specs.declared.Recipe.{Recipe}
use Rattle.recipe.specs.Reader.{no_recipe}

-- the first n rows of a record, one after another
unfoldable pub rows_of : (ℕ → List ℕ) → ℕ → List ℕ
rows_of row zero = []
rows_of row (suc n) = rows_of row n ++ row n

-- a line of a cell record: resource, from, act, arg, to
unfoldable pub cell_row : Cell → ℕ → List ℕ
cell_row c n = get_or c.resource n 0 ∷ get_or c.from n 0 ∷ get_or c.act n 0 ∷ get_or c.arg n 0 ∷ get_or c.to n 0 ∷ []

-- the 327 bytes of a cell record: byte 0 is the line count, then follow the 64 lines and the six limits
unfoldable pub cell_bytes : Cell → List ℕ
cell_bytes c = (c.count ∷ rows_of (cell_row c) 64) ++ tabulate 6 (λ k. get_or c.limits k 0)

-- a line of a recipe record: point, kind, op, takes, gives, then, else
unfoldable pub recipe_row : Recipe → ℕ → List ℕ
recipe_row r n =
    get_or r.point n 0 ∷ get_or r.kind n 0 ∷ get_or r.op n 0 ∷ get_or r.takes n 0 ∷ get_or r.gives n 0 ∷ get_or
    r.then n 0 ∷ get_or r.otherwise n 0 ∷ []

-- the 449 bytes of a recipe record: byte 0 is the line count, then follow the 64 lines
unfoldable pub recipe_bytes : Recipe → List ℕ
recipe_bytes r = r.count ∷ rows_of (recipe_row r) 64

-- field i of each of the 64 rows of so many bytes that stand behind byte 0
unfoldable pub column_of : ℕ → List ℕ → ℕ → List ℕ
column_of width bytes i = tabulate 64 (λ n. get_or bytes (1 + n * width + i) 0)

-- the record that bytes hold; bytes too few for a record count as one of no lines, a cell's limits then being 8
unfoldable pub cell_from : List ℕ → Cell
cell_from bytes =
    cond (ltb (length bytes) 327) no_cell
    (record {
      count = get_or bytes 0 0;
      resource = column_of 5 bytes 0;
      from = column_of 5 bytes 1;
      act = column_of 5 bytes 2;
      arg = column_of 5 bytes 3;
      to = column_of 5 bytes 4;
      limits = tabulate 6 (λ k. get_or bytes (321 + k) 0);
    })

unfoldable pub recipe_from : List ℕ → Recipe
recipe_from bytes =
    cond (ltb (length bytes) 449) no_recipe
    (record {
      count = get_or bytes 0 0;
      point = column_of 7 bytes 0;
      kind = column_of 7 bytes 1;
      op = column_of 7 bytes 2;
      takes = column_of 7 bytes 3;
      gives = column_of 7 bytes 4;
      then = column_of 7 bytes 5;
      otherwise = column_of 7 bytes 6;
    })
