pub mod Candidates
pub mod Order
pub mod Call
pub mod Search
