-- What the reader has read of a file; the record that it makes, which passes its rules: the crates above may cite the last.
mod FileLines
pub mod LimitedRecord
mod FileJudged
