-- Sums and greatest values, lists of rules in turn, and what is counted chapter by chapter, for the proofs here. For callers: the
-- chapters in bytes (ChapterBytes), their sizes and tables (ChapterSizes), what they have that the rules accept (AcceptedChapters),
-- where a carry lands (Landing), and that one chapter is the recipe by itself (OneChapter).
mod ValuesBelow
mod RulesInTurn
pub mod ChapterBytes
pub mod ChapterSizes
pub mod AcceptedChapters
mod CountedChapters
pub mod Landing
pub mod OneChapter
