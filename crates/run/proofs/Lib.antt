pub mod CallsByValue
pub mod AcceptedRun
pub mod CountedRules
pub mod FoundEntry
pub mod JointPassed
pub mod Answers
