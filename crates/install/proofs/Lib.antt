-- Lines by number and in order; lists of lines, and their bytes; candidates, look by look; groups of candidates; the list while the
-- search goes on, and that it is one; the answers of the call. The worked examples cite those that are public.
mod LineNumbers
pub mod Members
pub mod FilledList
mod NamedOperations
pub mod CandidateLines
mod LookedLines
mod GatheredLines
pub mod GroupsOfLines
mod ListedSoFar
mod TriedGroups
pub mod OneList
pub mod InstallAnswers
