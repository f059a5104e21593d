-- A recipe by itself as the one chapter of a call (SingleRecipes), and certificates of one. The worked examples marked ‡: the files,
-- the moves, the limit, a list of calls and the plan, and the one table of all of them.
-- Then those of request 1, with a table of their own: records and files with limits, plans of cells with limits, stored tables. And
-- those of request 2: cells that lack an operation line, the lines that mend them, and the answers of install calls. And those of
-- request 3: scratches of so many bytes. And those of request 4: points that nothing leads to. And those of request 5: where the
-- search for marks ends. And those of request 6: records, moves and plans with reject gates. And those of request 7: 24, plans of
-- chapters, and that a recipe by itself is one chapter. And those of request 8: lanes that start and lanes that don't.
-- And those of request 9: which of several ways a plan takes.
mod SingleRecipes
mod Certificates
mod EveryPosition
mod FormedEntries
mod FineChapters
mod ChapterStages
mod ChapterCertificates
mod ShownTables
mod LedRecipes
mod LentLengths
mod Files
mod BenchMoves
mod Limit
mod BenchPlan
mod BenchPromises
mod Rework
mod OneMoveOpen
mod PlanCalls
mod Shuttle
pub mod Table
mod OverfullPositions
mod LimitRecords
mod LimitFiles
mod LimitPlans
mod LimitCalls
mod StoredMoves
pub mod LimitTable
mod InstallTests
mod InstallPlans
mod InstallCalls
pub mod InstallTable
pub mod ScratchTable
mod UnreachedRecipes
mod UnreachedCalls
mod StoredRun
pub mod UnreachedTable
pub mod SearchTable
mod GateRecords
mod GateMoves
mod GatePlans
mod GateCalls
pub mod GateTable
mod LaneMoves
mod LanePlans
mod LaneInstalls
pub mod LaneTable
mod WayPlans
pub mod WayTable
mod JointRefusals
mod ChapterPlans
mod ChapterCalls
pub mod ChapterTable
mod OneChapterCalls
mod OneChapterSimulations
mod OneChapterPlans
mod OneChapterWays
pub mod OneChapter
