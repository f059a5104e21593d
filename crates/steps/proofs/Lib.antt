-- What the code reads, tries and makes (LetterDigits, KindNumbers, LoopTurns, EntryTests, MadeConfiguration), a point's lines
-- (PointLines), and the laws that the crates above cite: single moves are joint steps (OpenSteps, SingleMakesJoint, with
-- OnlyLines, ReadyLines, PortCounts, SilentLines and CarryLines below them), such joint steps have entries (SilentEntries,
-- CarryEntries, with Letters and EqualChoices below them), what a move does by cases and by its lines alone (Effects,
-- SingleEffects, SingleMoves, EntryForms), silent moves do not depend on the point (OpenByKind), the code makes what the entry
-- makes (MadeByKind), moves stay in range (MovesStayInRange), lanes start where their givers hold no less (LoadedLanes), and a
-- cell with more operation lines takes the same steps (AddedOperations).
mod LetterDigits
pub mod KindNumbers
pub mod LoopTurns
pub mod EntryTests
pub mod SingleByParts
pub mod MadeConfiguration
pub mod MadeByKind
pub mod PointLines
pub mod OnlyLines
pub mod ReadyLines
pub mod GateLines
pub mod PortCounts
pub mod SilentLines
pub mod CarryLines
pub mod OpenSteps
pub mod StationLoads
pub mod LoadedLanes
pub mod SingleMakesJoint
pub mod Effects
pub mod SingleEffects
pub mod EntryForms
pub mod Letters
pub mod SingleMoves
pub mod EqualChoices
pub mod SilentEntries
pub mod CarryEntries
pub mod OpenByKind
pub mod MovesStayInRange
pub mod AddedOperations
