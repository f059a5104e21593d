pub mod Joined
pub mod Sizes
pub mod Rules
pub mod Checked
pub mod Records
pub mod Survey
