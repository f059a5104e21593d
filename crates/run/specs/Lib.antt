pub mod Calls
pub mod Book
pub mod Promises
pub mod Inner
