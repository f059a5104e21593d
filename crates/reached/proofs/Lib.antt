-- That the test computes what chains reach, both ways; and what the code's sets of points have of it.
pub mod Chains
mod PointSets
