pub mod Radix
pub mod Sizes
pub mod Position
pub mod Rules
pub mod Digits
pub mod Checked
