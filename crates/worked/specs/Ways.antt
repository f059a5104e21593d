-- Ways of which one is fixed: the examples of request 9, "The shortest way, always the same", with their tables, ranks and stages.
-- Assumes nothing.
use Rattle.std.specs.Prelude.{cond, ◌||◌, ◌&&◌, List, [], ◌∷◌, ◌++◌, ℕ, get_or, replicate, eqb, leb, ltb}
use Rattle.refusals.specs.Search.{tabulate}
use Rattle.cell.specs.declared.Cell.{Cell}
use Rattle.cell.specs.Reader.{no_limits}
use Rattle.recipe.specs.declared.Recipe.{Recipe}
use Rattle.positions.specs.declared.Configuration.{Configuration}
use Rattle.chapters.specs.Joined.{Chapters}
use Rattle.worked.specs.Moves.{filled}
use Rattle.worked.specs.Installed.{single_recipe}

-- what has no entry is lost, and by no carry that is open: a stage of 1
unfoldable pub lost_at_once : List ℕ → ℕ → List ℕ
lost_at_once table count = tabulate count (λ m. cond (eqb (get_or table m 0) 0) 1 0)

-- two stations that do both operations: `0,0,1,1,0` `0,0,1,2,0` `1,0,1,1,0` `1,0,1,2,0`
unfoldable pub either_cell : Cell
either_cell =
    record {
      count = 4;
      resource = filled (0 ∷ 0 ∷ 1 ∷ 1 ∷ []);
      from = filled [];
      act = filled (1 ∷ 1 ∷ 1 ∷ 1 ∷ []);
      arg = filled (1 ∷ 2 ∷ 1 ∷ 2 ∷ []);
      to = filled [];
      limits = no_limits;
    }

-- both at once: `0,1,1,0,1,1,0` `0,1,2,0,2,1,0` `1,0,0,0,0,0,0`
unfoldable pub either_recipe : Recipe
either_recipe =
    record {
      count = 3;
      point = filled (0 ∷ 0 ∷ 1 ∷ []);
      kind = filled (1 ∷ 1 ∷ 0 ∷ []);
      op = filled (1 ∷ 2 ∷ []);
      takes = filled [];
      gives = filled (1 ∷ 2 ∷ []);
      then = filled (1 ∷ 1 ∷ []);
      otherwise = filled [];
    }

-- a 2 and b 1 make a smaller number than a 0 and b 3: "entry 50331714 (a 2, b 1), not 50331840 (a 0, b 3)"
unfoldable pub either_table : List ℕ
either_table = 50331714 ∷ replicate 8 0 ++ replicate 9 67108864

-- two silent moves and a carry, or one and a carry: `0,0,0,0,1` `0,1,0,0,2` `0,2,1,1,0` `0,0,3,40,3` `1,0,2,40,1` `0,3,1,1,0`
unfoldable pub side_cell : Cell
side_cell =
    record {
      count = 6;
      resource = filled (0 ∷ 0 ∷ 0 ∷ 0 ∷ 1 ∷ 0 ∷ []);
      from = filled (0 ∷ 1 ∷ 2 ∷ 0 ∷ 0 ∷ 3 ∷ []);
      act = filled (0 ∷ 0 ∷ 1 ∷ 3 ∷ 2 ∷ 1 ∷ []);
      arg = filled (0 ∷ 0 ∷ 1 ∷ 40 ∷ 40 ∷ 1 ∷ []);
      to = filled (1 ∷ 2 ∷ 0 ∷ 3 ∷ 1 ∷ 0 ∷ []);
      limits = no_limits;
    }

-- "33554691 wins over 16777216". By the states of the stations, the part outside; with the part in the cell there is no way, for it is given
unfoldable pub side_table : List ℕ
side_table =
    33554691 ∷ 0 ∷ 0 ∷ 16777217 ∷ 0 ∷ 0 ∷ 50331650 ∷ 0 ∷ 0 ∷ 50331653 ∷ 0 ∷ 0 ∷
    16777216 ∷ 0 ∷ 0 ∷ 16777217 ∷ 0 ∷ 0 ∷ 50331650 ∷ 0 ∷ 0 ∷ 50331653 ∷ 0 ∷ 0 ∷ replicate 24 67108864

unfoldable pub side_ranks : List ℕ
side_ranks = 1 ∷ 0 ∷ 0 ∷ 1 ∷ 0 ∷ 0 ∷ 0 ∷ 0 ∷ 0 ∷ 0 ∷ 0 ∷ 0 ∷ 2 ∷ 0 ∷ 0 ∷ 1 ∷ []

-- "Tables written before may still be run": one that takes the longer way, with its ranks
unfoldable pub longer_table : List ℕ
longer_table = tabulate 48 (λ m. cond (eqb m 0) 16777216 (get_or side_table m 0))

unfoldable pub longer_ranks : List ℕ
longer_ranks = 2 ∷ 0 ∷ 0 ∷ 1 ∷ 0 ∷ 0 ∷ 0 ∷ 0 ∷ 0 ∷ 0 ∷ 0 ∷ 0 ∷ 2 ∷ 0 ∷ 0 ∷ 1 ∷ []

-- a test by two lines, of which the first leads where a part that failed has no way on: `0,0,1,4,0` `0,0,1,1,1` `0,0,1,1,2` `0,1,1,2,0`
-- `0,2,1,2,0` `0,2,1,3,0`
unfoldable pub outcome_cell : Cell
outcome_cell =
    record {
      count = 6;
      resource = filled [];
      from = filled (0 ∷ 0 ∷ 0 ∷ 1 ∷ 2 ∷ 2 ∷ []);
      act = filled (1 ∷ 1 ∷ 1 ∷ 1 ∷ 1 ∷ 1 ∷ []);
      arg = filled (4 ∷ 1 ∷ 1 ∷ 2 ∷ 2 ∷ 3 ∷ []);
      to = filled (0 ∷ 1 ∷ 2 ∷ []);
      limits = no_limits;
    }

-- `0,1,4,0,1,1,0` `1,2,1,1,0,2,3` `2,1,2,1,0,4,0` `3,1,3,1,0,4,0` `4,0,0,0,0,0,0`
unfoldable pub outcome_recipe : Recipe
outcome_recipe =
    record {
      count = 5;
      point = filled (0 ∷ 1 ∷ 2 ∷ 3 ∷ 4 ∷ []);
      kind = filled (1 ∷ 2 ∷ 1 ∷ 1 ∷ 0 ∷ []);
      op = filled (4 ∷ 1 ∷ 2 ∷ 3 ∷ []);
      takes = filled (0 ∷ 1 ∷ 1 ∷ 1 ∷ []);
      gives = filled (1 ∷ []);
      then = filled (1 ∷ 2 ∷ 4 ∷ 4 ∷ []);
      otherwise = filled (0 ∷ 3 ∷ []);
    }

-- the part is at the station: position 7, with the test's point
unfoldable pub under_test : Configuration
under_test = record { state = replicate 6 0; place = 1 ∷ replicate 7 0 }

-- at 7 it is tested by line 2, 50331778, and not by line 1, 50331713
unfoldable pub outcome_table : List ℕ
outcome_table =
    50331648 ∷ replicate 5 0 ++ 0 ∷ 50331778 ∷ replicate 4 0 ++ 0 ∷ 0 ∷ 0 ∷ 50331651 ∷ 0 ∷ 50331652 ∷ replicate 5 0 ++ 50331653 ∷ replicate 6 67108864

-- a carry at once, or internal work and a carry, which leave the station in different states: `0,0,1,1,1` `0,0,0,0,2` `0,2,1,1,3` `0,3,1,2,3`
unfoldable pub ahead_cell : Cell
ahead_cell =
    record {
      count = 4;
      resource = filled [];
      from = filled (0 ∷ 0 ∷ 2 ∷ 3 ∷ []);
      act = filled (1 ∷ 0 ∷ 1 ∷ 1 ∷ []);
      arg = filled (1 ∷ 0 ∷ 1 ∷ 2 ∷ []);
      to = filled (1 ∷ 2 ∷ 3 ∷ 3 ∷ []);
      limits = no_limits;
    }

-- operation 1 gives the part, and in the next chapter operation 2 takes it: `0,1,2,1,0,1,0` `1,0,0,0,0,0,0`
unfoldable pub taken_recipe : Recipe
taken_recipe =
    record {
      count = 2;
      point = filled (0 ∷ 1 ∷ []);
      kind = filled (1 ∷ []);
      op = filled (2 ∷ []);
      takes = filled (1 ∷ []);
      gives = filled [];
      then = filled (1 ∷ []);
      otherwise = filled [];
    }

unfoldable pub ahead_chapters : Chapters
ahead_chapters = single_recipe 1 ∷ taken_recipe ∷ []

-- by itself the first chapter carries at once
unfoldable pub alone_table : List ℕ
alone_table = 50331648 ∷ 0 ∷ 0 ∷ 0 ∷ 50331650 ∷ 0 ∷ 0 ∷ 0 ∷ replicate 8 67108864

-- with the other behind it the internal work comes first, since only state 3 goes on
unfoldable pub ahead_table : List ℕ
ahead_table =
    16777217 ∷ 0 ∷ 0 ∷ 0 ∷ 50331650 ∷ 0 ∷ 0 ∷ 0 ∷ replicate 7 0 ++ 67108864 ∷ replicate 7 0 ++ 50331651 ∷ replicate 8 67108864

-- an earlier end without an entry passes on to a stage and has none of its own
unfoldable pub ahead_stages : List ℕ
ahead_stages = tabulate 32 (λ m. cond (eqb (get_or ahead_table m 0) 0 && (ltb m 8 || leb 16 m)) 1 0)

unfoldable pub ahead_ranks : List ℕ
ahead_ranks = 1 ∷ []
