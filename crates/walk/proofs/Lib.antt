-- Reads of standard input (InputReads), the files and the plan (FilesDecide), reads into the rest of a buffer (StartFilled), the whole
-- walk (WholeWalk), that the output is determined (SamePrintout, OneOutput), and the bench example (Example).
mod InputReads
mod FilesDecide
mod StartFilled
mod WholeWalk
mod SamePrintout
pub mod OneOutput
pub mod Example
