pub mod Counts
pub mod Output
