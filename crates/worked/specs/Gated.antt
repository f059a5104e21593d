-- The bench cell with reject gates, and recipes for it: the examples of request 6, "Reject gates". Assumes nothing.
use Rattle.std.specs.Prelude.{List, [], ◌∷◌, ◌++◌, ℕ, ◌+◌, length, replicate}
use Rattle.cell.specs.declared.Cell.{Cell}
use Rattle.cell.specs.Reader.{no_limits}
use Rattle.recipe.specs.declared.Recipe.{Recipe}
use Rattle.positions.specs.declared.Sizes.{Sizes}
use Rattle.positions.specs.Sizes.{sizes_of}
use Rattle.worked.specs.Bench.{row, cell_file}
use Rattle.worked.specs.Moves.{filled, bench_recipe}

-- the bench cell with `1,1,4,2,3` and `1,3,1,3,0` behind: a part that fails leaves from state 3
unfoldable pub gate_cell : Cell
gate_cell =
    record {
      count = 7;
      resource = filled (0 ∷ 0 ∷ 1 ∷ 1 ∷ 1 ∷ 1 ∷ 1 ∷ []);
      from = filled (0 ∷ 1 ∷ 0 ∷ 1 ∷ 2 ∷ 1 ∷ 3 ∷ []);
      act = filled (1 ∷ 3 ∷ 2 ∷ 1 ∷ 1 ∷ 4 ∷ 1 ∷ []);
      arg = filled (1 ∷ 5 ∷ 5 ∷ 2 ∷ 3 ∷ 2 ∷ 3 ∷ []);
      to = filled (1 ∷ 0 ∷ 1 ∷ 2 ∷ 0 ∷ 3 ∷ 0 ∷ []);
      limits = no_limits;
    }

abbrev pub gate_sizes : Sizes
gate_sizes = sizes_of gate_cell bench_recipe

-- its file
unfoldable pub gate_file : List ℕ
gate_file = cell_file 5 ++ row 1 (1 ∷ 4 ∷ 2 ∷ 3 ∷ []) ++ row 1 (3 ∷ 1 ∷ 3 ∷ 0 ∷ [])

-- the bench cell with a line `1,1,4,arg,to` behind for each of these args and tos, and these limits
unfoldable pub bench_behind : List ℕ → List ℕ → List ℕ → Cell
bench_behind limits args tos =
    let n = length args in
    record {
      count = 5 + n;
      resource = filled ((0 ∷ 0 ∷ 1 ∷ 1 ∷ 1 ∷ []) ++ replicate n 1);
      from = filled ((0 ∷ 1 ∷ 0 ∷ 1 ∷ 2 ∷ []) ++ replicate n 1);
      act = filled ((1 ∷ 3 ∷ 2 ∷ 1 ∷ 1 ∷ []) ++ replicate n 4);
      arg = filled ((1 ∷ 5 ∷ 5 ∷ 2 ∷ 3 ∷ []) ++ args);
      to = filled ((1 ∷ 0 ∷ 1 ∷ 2 ∷ 0 ∷ []) ++ tos);
      limits = limits;
    }

-- with the gate `1,1,4,2,1`: a part that fails may be tested again
unfoldable pub again_cell : Cell
again_cell = bench_behind no_limits (2 ∷ []) (1 ∷ [])

-- it is tested until it passes: `0,1,1,0,1,1,0` `1,2,2,1,0,2,1` `2,1,3,1,0,3,0` `3,0,0,0,0,0,0`
unfoldable pub again_recipe : Recipe
again_recipe =
    record {
      count = 4;
      point = filled (0 ∷ 1 ∷ 2 ∷ 3 ∷ []);
      kind = filled (1 ∷ 2 ∷ 1 ∷ 0 ∷ []);
      op = filled (1 ∷ 2 ∷ 3 ∷ 0 ∷ []);
      takes = filled (0 ∷ 1 ∷ 1 ∷ 0 ∷ []);
      gives = filled (1 ∷ 0 ∷ 0 ∷ 0 ∷ []);
      then = filled (1 ∷ 2 ∷ 3 ∷ 0 ∷ []);
      otherwise = filled (0 ∷ 1 ∷ 0 ∷ 0 ∷ []);
    }

-- operation 2 as a do: `0,1,2,0,1,1,0` `1,0,0,0,0,0,0`
unfoldable pub do_recipe : Recipe
do_recipe =
    record {
      count = 2;
      point = filled (0 ∷ 1 ∷ []);
      kind = filled (1 ∷ 0 ∷ []);
      op = filled (2 ∷ 0 ∷ []);
      takes = filled [];
      gives = filled (1 ∷ 0 ∷ []);
      then = filled (1 ∷ 0 ∷ []);
      otherwise = filled [];
    }

-- a test by line 0, of a part that was put there: `0,1,1,0,1,1,0` `1,2,1,1,0,2,2` `2,0,0,0,0,0,0`
unfoldable pub first_line_recipe : Recipe
first_line_recipe =
    record {
      count = 3;
      point = filled (0 ∷ 1 ∷ 2 ∷ []);
      kind = filled (1 ∷ 2 ∷ 0 ∷ []);
      op = filled (1 ∷ 1 ∷ 0 ∷ []);
      takes = filled (0 ∷ 1 ∷ 0 ∷ []);
      gives = filled (1 ∷ 0 ∷ 0 ∷ []);
      then = filled (1 ∷ 2 ∷ 0 ∷ []);
      otherwise = filled (0 ∷ 2 ∷ 0 ∷ []);
    }
