-- Demand 3 through the C interface: "take any list of next-move calls and reports from a fresh run, .. each call on the run that
-- the last report left", the run being the caller's bytes. Assumes nothing.
use Rattle.std.specs.Prelude.{◌≡◌, List, [], ◌∷◌, map, ℕ, ◌+◌, ◌*◌, ◌^◌}
use Rattle.cell.specs.declared.Cell.{Cell}
use Rattle.chapters.specs.Joined.{Chapters}
use Rattle.chapters.specs.Sizes.{sizes_in}
use Rattle.chapters.specs.Records.{chapters_from}
use Rattle.run.specs.declared.Run.{Run}
use Rattle.run.specs.Calls.{point_of, run_at, next_move, report_of}
use Rattle.run.specs.Book.{Call, asks, reports, Answer, moved, reported, opened, by_table, moments, answers}
use Rattle.run.specs.Promises.{Keeps}
use Rattle.records.specs.Encoding.{cell_from}
use Rattle.capi.specs.Encoding.{run_bytes, run_from}
use Rattle.capi.specs.Answer.{move_code, Reported, Recorded}

-- what a caller has after a call: a next-move call's number; a report's number, and the run that the bytes then hold
pub data Seen : Type 0 where
  numbered : ℕ → Seen
  held : ℕ → Run → Seen

-- an answer of the book as a caller has it: refusal × 2^32 + entry; or the refusal or 0, and the run that the bytes then hold
unfoldable pub seen_of : Answer → Seen
seen_of (moved refusal entry) = numbered (refusal * 2 ^ 32 + entry)
seen_of (reported refusal point configuration) = held refusal (run_at point configuration)

-- a list of calls on the bytes of a run, with what is found. Of each call only its contract is known; a next-move call is lent
-- the bytes to read, and leaves them
pub data ByteCalls (cell recipes table : List ℕ) : List ℕ → List Call → List Seen → Type 0 where
  no_call : {bytes : List ℕ} → ByteCalls cell recipes table bytes [] []
  ask_then : {bytes : List ℕ} {number : ℕ} {calls : List Call} {later : List Seen}
      → number ≡ move_code (next_move (cell_from cell) (chapters_from recipes) table (run_from bytes))
      → ByteCalls cell recipes table bytes calls later
      → ByteCalls cell recipes table bytes (asks ∷ calls) (numbered number ∷ later)
  report_then : {entry exit : List ℕ} {outcome answer : ℕ} {calls : List Call} {later : List Seen}
      → Reported (report_of (cell_from cell) (chapters_from recipes) table (run_from entry) outcome) entry exit answer
      → ByteCalls cell recipes table exit calls later
      → ByteCalls cell recipes table entry (reports outcome ∷ calls) (held answer (run_from exit) ∷ later)

-- "The same holds of lists whose reports all have the second form, the run being the line screen's record": a next-move call is
-- lent the record's bytes
pub data RecordCalls (cell recipes table : List ℕ) : Run → List Call → List Seen → Type 0 where
  record_none : {before : Run} → RecordCalls cell recipes table before [] []
  record_asks : {before : Run} {number : ℕ} {calls : List Call} {later : List Seen}
      → number ≡ move_code (next_move (cell_from cell) (chapters_from recipes) table (run_from (run_bytes before)))
      → RecordCalls cell recipes table before calls later
      → RecordCalls cell recipes table before (asks ∷ calls) (numbered number ∷ later)
  record_reports : {before after : Run} {outcome answer : ℕ} {calls : List Call} {later : List Seen}
      → Recorded (cell_from cell) (chapters_from recipes) table before outcome after answer
      → RecordCalls cell recipes table after calls later
      → RecordCalls cell recipes table before (reports outcome ∷ calls) (held answer after ∷ later)

-- demand 3 for a list of calls from a run, whatever may be found
pub record ListPromises (c : Cell) (rs : Chapters) (table : List ℕ) (run : Run) (calls : List Call) (Finds : List Seen → Type 0) : Type 0 where
  pub same_answers :
      (found : List Seen)
      → Finds found
      → found ≡ map seen_of (answers c rs (moments c rs (by_table (sizes_in c rs) table) [] (opened (point_of run) run.configuration) calls))
  pub keeps : Keeps c rs (sizes_in c rs) (point_of run)
      (moments c rs (by_table (sizes_in c rs) table) [] (opened (point_of run) run.configuration) calls)

-- by calls on bytes that hold a run, and by calls on a record, within their contracts
abbrev pub BytePromises : List ℕ → List ℕ → List ℕ → List ℕ → List Call → Type 0
BytePromises cell recipes table bytes calls =
    ListPromises (cell_from cell) (chapters_from recipes) table (run_from bytes) calls (ByteCalls cell recipes table bytes calls)

abbrev pub RecordListPromises : List ℕ → List ℕ → List ℕ → Run → List Call → Type 0
RecordListPromises cell recipes table run calls =
    ListPromises (cell_from cell) (chapters_from recipes) table run calls (RecordCalls cell recipes table run calls)
