-- The order of the points, the parts of sums, what a reader has stored, and what an accepted record has.
pub mod PointOrder
mod CommonParts
mod RecordFields
pub mod AcceptedRecord
pub mod ReadRecord
