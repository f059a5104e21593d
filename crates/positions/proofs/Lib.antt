-- The digits of a number, the parts of a sum, the state counts by line, what accepted records have, their sizes, also with operation
-- lines more, the numbers of states and of places, positions, and a configuration's number by fourteen digits.
pub mod Radix
pub mod PartSums
mod StateCounts
pub mod AcceptedRecords
pub mod SizeBounds
pub mod CheckedSizes
pub mod LongerSizes
pub mod StatePlaceNumbers
pub mod PositionNumbers
pub mod ConfigurationDigits
pub mod DecodedDigits
