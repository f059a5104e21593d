-- Cells whose stations have limits, and recipes for them: the examples of request 1, "Stations have limits". Assumes nothing.
use Rattle.std.specs.Prelude.{List, [], ◌∷◌, ◌++◌, ℕ, replicate}
use Rattle.cell.specs.declared.Cell.{Cell}
use Rattle.recipe.specs.declared.Recipe.{Recipe}
use Rattle.positions.specs.declared.Configuration.{Configuration}
use Rattle.positions.specs.declared.Sizes.{Sizes}
use Rattle.positions.specs.Sizes.{sizes_of}
use Rattle.worked.specs.Moves.{filled}

-- the limits of resources 0 and 1, 8 at all others
unfoldable pub limits_of : ℕ → ℕ → List ℕ
limits_of first second = first ∷ second ∷ replicate 4 8

-- the limit of resource 5, 8 at all others
unfoldable pub last_limit : ℕ → List ℕ
last_limit last = replicate 5 8 ++ (last ∷ [])

-- a record of one line
unfoldable pub one_line : ℕ → ℕ → ℕ → ℕ → ℕ → List ℕ → Cell
one_line resource from act arg to limits =
    record {
      count = 1;
      resource = filled (resource ∷ []);
      from = filled (from ∷ []);
      act = filled (act ∷ []);
      arg = filled (arg ∷ []);
      to = filled (to ∷ []);
      limits = limits;
    }

-- a glue station that may hold so many parts: `0,0,1,1,0`
unfoldable pub glue_cell : ℕ → Cell
glue_cell most = one_line 0 0 1 1 0 (limits_of most 8)

-- two parts are put there, and stay: `0,1,1,0,1,1,0` `1,1,1,0,2,2,0` `2,0,0,0,0,0,0`
unfoldable pub glue_recipe : Recipe
glue_recipe =
    record {
      count = 3;
      point = filled (0 ∷ 1 ∷ 2 ∷ []);
      kind = filled (1 ∷ 1 ∷ 0 ∷ []);
      op = filled (1 ∷ 1 ∷ 0 ∷ []);
      takes = filled [];
      gives = filled (1 ∷ 2 ∷ 0 ∷ []);
      then = filled (1 ∷ 2 ∷ 0 ∷ []);
      otherwise = filled [];
    }

abbrev pub glue_sizes : ℕ → Sizes
glue_sizes most = sizes_of (glue_cell most) glue_recipe

-- a station that may hold one part and hands over what it has: `0,0,1,1,0` `0,0,3,0,0` `1,0,2,0,0`
unfoldable pub mend_cell : Cell
mend_cell =
    record {
      count = 3;
      resource = filled (0 ∷ 0 ∷ 1 ∷ []);
      from = filled [];
      act = filled (1 ∷ 3 ∷ 2 ∷ []);
      arg = filled (1 ∷ 0 ∷ 0 ∷ []);
      to = filled [];
      limits = limits_of 1 8;
    }

-- three parts are put there: `0,1,1,0,1,1,0` `1,1,1,0,2,2,0` `2,1,1,0,4,3,0` `3,0,0,0,0,0,0`
unfoldable pub mend_recipe : Recipe
mend_recipe =
    record {
      count = 4;
      point = filled (0 ∷ 1 ∷ 2 ∷ 3 ∷ []);
      kind = filled (1 ∷ 1 ∷ 1 ∷ 0 ∷ []);
      op = filled (1 ∷ 1 ∷ 1 ∷ 0 ∷ []);
      takes = filled [];
      gives = filled (1 ∷ 2 ∷ 4 ∷ 0 ∷ []);
      then = filled (1 ∷ 2 ∷ 3 ∷ 0 ∷ []);
      otherwise = filled [];
    }

abbrev pub mend_sizes : Sizes
mend_sizes = sizes_of mend_cell mend_recipe

-- a feeder and a nest, with the limits of both: `0,0,1,1,1` `0,1,3,5,0` `1,0,2,5,0` `1,0,1,2,0`
unfoldable pub nest_cell : ℕ → ℕ → Cell
nest_cell feeder nest =
    record {
      count = 4;
      resource = filled (0 ∷ 0 ∷ 1 ∷ 1 ∷ []);
      from = filled (0 ∷ 1 ∷ 0 ∷ 0 ∷ []);
      act = filled (1 ∷ 3 ∷ 2 ∷ 1 ∷ []);
      arg = filled (1 ∷ 5 ∷ 5 ∷ 2 ∷ []);
      to = filled (1 ∷ 0 ∷ 0 ∷ 0 ∷ []);
      limits = limits_of feeder nest;
    }

-- two parts are fed, and joined in the nest: `0,1,1,0,1,1,0` `1,1,1,0,2,2,0` `2,1,2,3,0,3,0` `3,0,0,0,0,0,0`
unfoldable pub nest_recipe : Recipe
nest_recipe =
    record {
      count = 4;
      point = filled (0 ∷ 1 ∷ 2 ∷ 3 ∷ []);
      kind = filled (1 ∷ 1 ∷ 1 ∷ 0 ∷ []);
      op = filled (1 ∷ 1 ∷ 2 ∷ 0 ∷ []);
      takes = filled (0 ∷ 0 ∷ 3 ∷ 0 ∷ []);
      gives = filled (1 ∷ 2 ∷ 0 ∷ 0 ∷ []);
      then = filled (1 ∷ 2 ∷ 3 ∷ 0 ∷ []);
      otherwise = filled [];
    }

abbrev pub nest_sizes : ℕ → Sizes
nest_sizes most = sizes_of (nest_cell 8 most) nest_recipe

-- two parts at the first station, and at the second
unfoldable pub two_parts : Configuration
two_parts = record { state = replicate 6 0; place = 1 ∷ 1 ∷ replicate 6 0 }

unfoldable pub two_handed_over : Configuration
two_handed_over = record { state = replicate 6 0; place = 2 ∷ 2 ∷ replicate 6 0 }
