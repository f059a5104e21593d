-- The method over any machine (Machine, LostNeverHeld, ClosedSet, Stages), the cell and a chapter as one (CellMachine), and the cell
-- and the joined recipe as another (JoinedMachine);
-- joint steps part by part and as single moves (PortPairs, StepInParts, CarriedLoads, CarryInParts,
-- SinglePaths, StepIsPath, JointIsSingle);
-- what the book does (BookBySingles), closed tables (ClosedTablePromises), rules (LostBreaksRules, TableRule); chapters one by one
-- (ClosedChapter, ChaptersJoined); tables with the shortest ways (ShortestTable), and that every plan has the same entries
-- (PlannedEntries); a cell with more operation lines simulates at least as much (AddedOperations); certificates that
-- the checker computes (NumberedPositions, StageTest, StageListSound, ClosedTableTest).
pub mod Machine
pub mod LostNeverHeld
pub mod ClosedSet
pub mod Stages
pub mod CellMachine
pub mod JoinedMachine
pub mod PortPairs
pub mod StepInParts
mod CarriedLoads
pub mod CarryInParts
pub mod SinglePaths
pub mod StepIsPath
pub mod JointIsSingle
pub mod AddedOperations
pub mod BookBySingles
pub mod ClosedTablePromises
pub mod LostBreaksRules
pub mod TableRule
pub mod SimulationByMoves
pub mod ClosedChapter
pub mod ChaptersJoined
pub mod ShortestTable
pub mod OneRecipe
pub mod ClosedTableIsPlan
pub mod NumberedPositions
pub mod PlannedEntries
pub mod StageTest
pub mod StageListSound
pub mod ClosedTableTest
