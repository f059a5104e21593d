-- What the calls of the C interface answer, and the lent buffer afterwards, as include/cellplan.h says it. Assumes nothing.
use Rattle.std.specs.Prelude.{◌≡◌, cond, List, ◌++◌, ℕ, ◌+◌, ◌*◌, ◌^◌, length, drop, ltb}
use Rattle.refusals.specs.Refusal.{number_of}
use Rattle.refusals.specs.declared.Refusal.TheVariants.{TooShort}
use Rattle.refusals.specs.Verdict.{Verdict, refusal_in}
use Rattle.cell.specs.declared.Cell.{Cell}
use Rattle.cell.specs.Reader.{CellReading}
use Rattle.recipe.specs.declared.Recipe.{Recipe}
use Rattle.chapters.specs.Joined.{Chapters}
use Rattle.run.specs.declared.Run.{Run}
use Rattle.run.specs.Calls.{Move, Place, Report, Stored}
use Rattle.planner.specs.Call.{PlanCall}
use Rattle.install.specs.Call.{Listing, InstallCall}
use Rattle.records.specs.Encoding.{cell_bytes}
use Rattle.capi.specs.Encoding.{code_of, run_bytes}

-- a buffer lent for the answer that is too short gets 14 with line 0, whatever else was handed in, and stays as it was;
-- otherwise the answer is the verdict's, the buffer begins with the record's bytes, refused or not, and its rest stays
pub record BufferAnswered (verdict : Verdict) (bytes : List ℕ) (size : ℕ) (entry exit : List ℕ) (answer : ℕ) : Type 0 where
  pub answer_is : answer ≡ cond (ltb (length entry) size) (number_of TooShort) (code_of verdict)
  pub buffer_is : exit ≡ cond (ltb (length entry) size) entry (bytes ++ drop size entry)

-- the reader of limits "is handed the record it adds to, .. and returns it unchanged when it refuses": the answer is its verdict's.
-- The record's bytes are then those of the record that it returns, and what stands past them stays; bytes too few for a record
-- stay as they were
pub record LimitsAnswered (reading : CellReading) (entry exit : List ℕ) (answer : ℕ) : Type 0 where
  pub answer_is : answer ≡ code_of reading.verdict
  pub buffer_is : exit ≡ cond (ltb (length entry) 327) entry (cell_bytes reading.cell ++ drop 327 entry)

-- a next-move call's result: refusal × 2^32 + entry
unfoldable pub move_code : Move → ℕ
move_code move = refusal_in move.verdict * 2 ^ 32 + move.entry

-- a place call's result: refusal × 256 + place, the place being 255 if refused
unfoldable pub place_code : Place → ℕ
place_code place = refusal_in place.verdict * 256 + place.place

-- a report's result: the refusal or 0. The run's bytes are then those of the next run, and what stands past them stays;
-- bytes too few for a run stay as they were
pub record Reported (report : Report) (entry exit : List ℕ) (answer : ℕ) : Type 0 where
  pub answer_is : answer ≡ refusal_in report.verdict
  pub run_is : exit ≡ cond (ltb (length entry) 16) entry (run_bytes report.run ++ drop 16 entry)

-- the refusal or 0: the number of the verdict with which the report leaves the record `after`
pub record Recorded (c : Cell) (rs : Chapters) (table : List ℕ) (before : Run) (outcome : ℕ) (after : Run) (answer : ℕ) : Type 0 where
  pub verdict : Verdict
  pub answer_is : answer ≡ refusal_in verdict
  pub stored : Stored c rs table before outcome verdict after

-- the refusal or 0: the number of the verdict with which the plan call leaves the table and the scratch so
pub record PlanAnswered (c : Cell) (rs : Chapters) (table scratch table' scratch' : List ℕ) (answer : ℕ) : Type 0 where
  pub verdict : Verdict
  pub answer_is : answer ≡ refusal_in verdict
  pub call : PlanCall c rs table scratch table' scratch' verdict

-- an install call's result: refusal × 2^32 + count, those of the listing with which the call leaves table, scratch and list so
pub record InstallAnswered (c : Cell) (r : Recipe) (table scratch list table' scratch' list' : List ℕ) (answer : ℕ) : Type 0 where
  pub listing : Listing
  pub answer_is : answer ≡ refusal_in listing.verdict * 2 ^ 32 + listing.count
  pub call : InstallCall c r table scratch list table' scratch' list' listing
