-- "shuttles a pallet for ever": a cell of two stations that hand a pallet to and fro, a recipe that makes a part at the first
-- and takes it at the second, and the table that never lets it be taken. Assumes nothing.
use Rattle.std.specs.Prelude.{List, [], ◌∷◌, ℕ, replicate}
use Rattle.cell.specs.declared.Cell.{Cell}
use Rattle.cell.specs.Reader.{no_limits}
use Rattle.recipe.specs.declared.Recipe.{Recipe}
use Rattle.positions.specs.declared.Configuration.{Configuration}
use Rattle.worked.specs.Moves.{filled}

-- lines `0,0,1,1,0` `0,0,3,1,0` `1,0,2,1,0` `1,0,3,2,0` `0,0,2,2,0` `1,0,1,2,0`
unfoldable pub lane_cell : Cell
lane_cell =
    record {
      count = 6;
      resource = filled (0 ∷ 0 ∷ 1 ∷ 1 ∷ 0 ∷ 1 ∷ []);
      from = filled [];
      act = filled (1 ∷ 3 ∷ 2 ∷ 3 ∷ 2 ∷ 1 ∷ []);
      arg = filled (1 ∷ 1 ∷ 1 ∷ 2 ∷ 2 ∷ 2 ∷ []);
      to = filled [];
      limits = no_limits;
    }

-- `0,1,1,0,1,1,0` `1,1,2,1,0,2,0` `2,0,0,0,0,0,0`
unfoldable pub lane_recipe : Recipe
lane_recipe =
    record {
      count = 3;
      point = filled (0 ∷ 1 ∷ 2 ∷ []);
      kind = filled (1 ∷ 1 ∷ 0 ∷ []);
      op = filled (1 ∷ 2 ∷ 0 ∷ []);
      takes = filled (0 ∷ 1 ∷ 0 ∷ []);
      gives = filled (1 ∷ 0 ∷ 0 ∷ []);
      then = filled (1 ∷ 2 ∷ 0 ∷ []);
      otherwise = filled [];
    }

-- at point 1 the part is handed from the first station to the second, position 4, and back, position 5
unfoldable pub shuttle_table : List ℕ
shuttle_table = 50331648 ∷ 0 ∷ 0 ∷ 0 ∷ 33554561 ∷ 33554691 ∷ 67108864 ∷ 67108864 ∷ 67108864 ∷ []

-- the part at the first station
unfoldable pub made_part : Configuration
made_part = record { state = replicate 6 0; place = 1 ∷ replicate 7 0 }
