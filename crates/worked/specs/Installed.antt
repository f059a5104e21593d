-- Cells that lack an operation line, recipes that they fail for it, and the lines that are tried: the examples of request 2, "Which
-- process to install". Assumes nothing.
use Rattle.std.specs.Prelude.{cond, List, [], ◌∷◌, ◌++◌, ℕ, replicate}
use Rattle.cell.specs.declared.Cell.{Cell}
use Rattle.cell.specs.declared.OperationLine.{OperationLine}
use Rattle.cell.specs.Reader.{no_limits}
use Rattle.recipe.specs.declared.Recipe.{Recipe}
use Rattle.install.specs.Order.{same_line}
use Rattle.worked.specs.Moves.{filled}
use Rattle.worked.specs.Limited.{one_line}

-- an "operation line (resource, from, operation, to)"
abbrev pub line : ℕ → ℕ → ℕ → ℕ → OperationLine
line resource from operation to = record { resource = resource; from = from; operation = operation; to = to }

-- the bench example without its line 3: `0,0,1,1,1` `0,1,3,5,0` `1,0,2,5,1` `1,2,1,3,0`
unfoldable pub untested_cell : Cell
untested_cell =
    record {
      count = 4;
      resource = filled (0 ∷ 0 ∷ 1 ∷ 1 ∷ []);
      from = filled (0 ∷ 1 ∷ 0 ∷ 2 ∷ []);
      act = filled (1 ∷ 3 ∷ 2 ∷ 1 ∷ []);
      arg = filled (1 ∷ 5 ∷ 5 ∷ 3 ∷ []);
      to = filled (1 ∷ 0 ∷ 1 ∷ 0 ∷ []);
      limits = no_limits;
    }

-- the bench example without its line 0: `0,1,3,5,0` `1,0,2,5,1` `1,1,1,2,2` `1,2,1,3,0`
unfoldable pub unfed_cell : Cell
unfed_cell =
    record {
      count = 4;
      resource = filled (0 ∷ 1 ∷ 1 ∷ 1 ∷ []);
      from = filled (1 ∷ 0 ∷ 1 ∷ 2 ∷ []);
      act = filled (3 ∷ 2 ∷ 1 ∷ 1 ∷ []);
      arg = filled (5 ∷ 5 ∷ 2 ∷ 3 ∷ []);
      to = filled (0 ∷ 1 ∷ 2 ∷ 0 ∷ []);
      limits = no_limits;
    }

-- all lines of an operation between the states of the bench example's two resources
unfoldable pub lines_doing : ℕ → List OperationLine
lines_doing operation =
    line 0 0 operation 0 ∷ line 0 0 operation 1 ∷ line 0 1 operation 0 ∷ line 0 1 operation 1 ∷
    line 1 0 operation 0 ∷ line 1 0 operation 1 ∷ line 1 0 operation 2 ∷
    line 1 1 operation 0 ∷ line 1 1 operation 1 ∷ line 1 1 operation 2 ∷
    line 1 2 operation 0 ∷ line 1 2 operation 1 ∷ line 1 2 operation 2 ∷ []

-- a list without a line
unfoldable pub without : OperationLine → List OperationLine → List OperationLine
without l [] = []
without l (m ∷ rest) = cond (same_line l m) (without l rest) (m ∷ without l rest)

-- those of operation 1, 2 and 3 that are not lines of the bench example
unfoldable pub other_feeding : List OperationLine
other_feeding = without (line 0 0 1 1) (lines_doing 1)

unfoldable pub other_testing : List OperationLine
other_testing = without (line 1 1 2 2) (lines_doing 2)

unfoldable pub other_ending : List OperationLine
other_ending = without (line 1 2 3 0) (lines_doing 3)

-- the 36 candidates other than 1,1,2,2 where line 3 is missing
unfoldable pub all_others : List OperationLine
all_others = other_feeding ++ (other_testing ++ other_ending)

-- those of operation 1 that do not make the cell without line 0 build the recipe, and those of operations 2 and 3
unfoldable pub idle_feeding : List OperationLine
idle_feeding = without (line 1 0 1 1) other_feeding

unfoldable pub idle_behind : List OperationLine
idle_behind = other_testing ++ other_ending

-- "without line 3 gets exactly 1,1,2,2", "without line 0 it gets 0,0,1,1 and 1,0,1,1"
unfoldable pub testing_lines : List OperationLine
testing_lines = line 1 1 2 2 ∷ []

unfoldable pub feeding_lines : List OperationLine
feeding_lines = line 0 0 1 1 ∷ line 1 0 1 1 ∷ []

-- a station of two states: `0,0,1,2,1` `0,0,1,1,0`
unfoldable pub turned_cell : Cell
turned_cell =
    record {
      count = 2;
      resource = filled [];
      from = filled [];
      act = filled (1 ∷ 1 ∷ []);
      arg = filled (2 ∷ 1 ∷ []);
      to = filled (1 ∷ 0 ∷ []);
      limits = no_limits;
    }

-- two parts, by operation 2 and then by operation 1: `0,1,2,0,1,1,0` `1,1,1,0,2,2,0` `2,0,0,0,0,0,0`
unfoldable pub turned_recipe : Recipe
turned_recipe =
    record {
      count = 3;
      point = filled (0 ∷ 1 ∷ 2 ∷ []);
      kind = filled (1 ∷ 1 ∷ 0 ∷ []);
      op = filled (2 ∷ 1 ∷ 0 ∷ []);
      takes = filled [];
      gives = filled (1 ∷ 2 ∷ 0 ∷ []);
      then = filled (1 ∷ 2 ∷ 0 ∷ []);
      otherwise = filled [];
    }

-- its lines that mend it, and the other candidates
unfoldable pub turning_lines : List OperationLine
turning_lines = line 0 0 2 0 ∷ line 0 1 1 0 ∷ line 0 1 1 1 ∷ []

unfoldable pub other_turning : List OperationLine
other_turning = line 0 0 1 1 ∷ line 0 1 2 0 ∷ line 0 1 2 1 ∷ []

-- a station of one state: `0,0,1,1,0`
unfoldable pub single_cell : Cell
single_cell = one_line 0 0 1 1 0 no_limits

-- a part by operation 2, or by operation 1: `0,1,2,0,1,1,0` `1,0,0,0,0,0,0`, `0,1,1,0,1,1,0` `1,0,0,0,0,0,0`
unfoldable pub single_recipe : ℕ → Recipe
single_recipe operation =
    record {
      count = 2;
      point = filled (0 ∷ 1 ∷ []);
      kind = filled (1 ∷ 0 ∷ []);
      op = filled (operation ∷ []);
      takes = filled [];
      gives = filled (1 ∷ 0 ∷ []);
      then = filled (1 ∷ 0 ∷ []);
      otherwise = filled [];
    }

-- "0,0,2,0 alone"
unfoldable pub single_lines : List OperationLine
single_lines = line 0 0 2 0 ∷ []

-- "a cell that already has 64 lines": `0,0,1,1,0`, 64 times
unfoldable pub full_cell : Cell
full_cell =
    record {
      count = 64;
      resource = filled [];
      from = filled [];
      act = replicate 64 1;
      arg = replicate 64 1;
      to = filled [];
      limits = no_limits;
    }
