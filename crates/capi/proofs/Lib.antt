-- What a call that writes answers (Answers). For callers: decoding the run that was encoded gives it back (BytesRoundTrip), a refused
-- report leaves the bytes (RefusedReports), a call that reads limits leaves all bytes but these, and all if it is refused
-- (LimitsInBytes), demand 3 holds of lists of calls on the bytes of a run (CallsOnBytes), and two plan calls leave the same entries
-- (PlansOnBytes).
mod Answers
pub mod BytesRoundTrip
pub mod RefusedReports
pub mod LimitsInBytes
pub mod CallsOnBytes
pub mod PlansOnBytes
