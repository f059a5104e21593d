pub mod Refusal
pub mod Search
pub mod Verdict
