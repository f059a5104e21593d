-- The laws of lines, numbers and rows.
pub mod TextPieces
mod LeadingDigits
pub mod NamesLine
pub mod LineWalk
mod NumberLine
mod LineFields
pub mod ValueLines
pub mod KeptNumbers
pub mod Columns
pub mod FileRules
