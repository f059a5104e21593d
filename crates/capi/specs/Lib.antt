pub mod Encoding
pub mod Answer
pub mod Lists
