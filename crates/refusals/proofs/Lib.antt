-- The laws of the searches and of the verdicts, which the proofs of every crate above cite.
pub mod Scan
pub mod TabulatedLists
pub mod Verdicts
pub mod Rules
pub mod EveryBelow
