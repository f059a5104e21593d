pub mod Rules
pub mod Reader
pub mod Inner
pub mod Longer
