-- Where the search for a line's partner begins; what a reader has stored; which limits break a rule, what an accepted record has,
-- what a cell with operation lines more has, and what the act 4 line of a line has: the crates above cite these four.
mod FirstOnPort
mod RecordFields
pub mod StationLimits
pub mod AcceptedRecord
pub mod RejectGates
pub mod LongerCell
pub mod ReadRecord
