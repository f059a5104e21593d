pub mod Lines
pub mod Numbers
pub mod Table
pub mod Reading
