-- Rows of bytes put one after another (ByteRows). For callers: decoding what was encoded gives it back (RecordsRoundTrip).
mod ByteRows
pub mod RecordsRoundTrip
