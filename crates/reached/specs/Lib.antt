pub mod Reached
pub mod Inner
