-- Text put piece after piece (BufferPieces), the numbers of positions (RunPosition), the answers to a byte (ByteAnswers), input
-- that comes in parts (InputInParts), and printed numbers read back (PrintedReadsBack).
pub mod BufferPieces
mod RunPosition
mod ByteAnswers
pub mod InputInParts
mod PrintedReadsBack
