-- Demand 3 for lists of next-move calls and reports through the C interface, from the contracts of these calls alone: what a
-- caller finds is what the book answers, from every run at an entry of a plan other than 0, held by bytes or a record, and so
-- from a fresh run where the plan was accepted.
-- Assumes nothing.
use mathlib.Core.Path.{◌≡◌, refl, sym, ap, subst, ◌∙◌}
use mathlib.Core.Bool.{Bool, true, false}
use mathlib.Core.List.{List, [], ◌∷◌, ◌++◌, map, append-nil}
use Prim.Native.Nat.{ℕ, ◌≤◌}
use native.Mathlib.Omega.{arith}
use lib.ListN.{length, drop, length-append}
use lib.Dec.{ltb}
use borrow.Author.Tests.{le-ltb, ltb-false}
use Rattle.std.specs.Prelude.{Err}
use Rattle.refusals.specs.Verdict.{Verdict, Accepted, if_accepted, refusal_in}
use Rattle.refusals.specs.Search.{tabulate}
use Rattle.refusals.proofs.Verdicts.{zero_accepts}
use Rattle.cell.specs.declared.Cell.{Cell}
use Rattle.chapters.specs.Joined.{Chapters, recipe_at}
use Rattle.chapters.specs.Sizes.{sizes_in, entry_in}
use Rattle.chapters.specs.Records.{chapters_from}
use Rattle.positions.specs.Position.{start}
use Rattle.steps.proofs.Effects.{makes_six, makes_eight}
use Rattle.run.specs.declared.Run.{Run}
use Rattle.run.specs.Calls.{Report, point_of, fresh_run, next_move, next_run, report_of, entry_at}
use Rattle.run.specs.Book.{Call}
use Rattle.run.proofs.CallsByValue.{run_after, run_answer, run_answers, value_chain}
use Rattle.simulation.specs.Simulation.{PositionIn}
use Rattle.simulation.specs.Plan.{Planned}
use Rattle.planner.specs.Call.{PlanCall}
use Rattle.planner.proofs.Demands.{accepted_planned, accepted_starts, accepted_alive}
use Rattle.records.specs.Encoding.{cell_from}
use Rattle.capi.specs.Encoding.{run_bytes, run_from}
use Rattle.capi.specs.Answer.{BufferAnswered, move_code, Reported, PlanAnswered}
use Rattle.capi.specs.Lists.{Seen, numbered, held, seen_of, ByteCalls, no_call, ask_then, report_then, RecordCalls, record_none}
use Rattle.capi.specs.Lists.{record_asks, record_reports, ListPromises, BytePromises, RecordListPromises}
use Rattle.capi.proofs.BytesRoundTrip.{Whole, run_length, run_back}

-- the run of a report's answer holds six states and eight places if the run before did
answer_whole : (verdict : Verdict) (run next : Run) → Whole run.configuration → Whole next.configuration
    → Whole (if_accepted verdict next run).configuration
unfolding if_accepted
answer_whole Accepted run next own other = other
answer_whole (Err broken) run next own other = own

report_whole : (c : Cell) (rs : Chapters) (table : List ℕ) (run : Run) (outcome : ℕ) → Whole run.configuration
    → Whole (report_of c rs table run outcome).run.configuration
unfolding report_of next_run
report_whole c rs table run outcome whole =
    let e = entry_at c rs table run in
    let r = recipe_at rs (point_of run) in
    answer_whole _ run _ whole
    (record {
      six = makes_six c r run.point run.configuration e outcome whole.six;
      eight = makes_eight c r run.point run.configuration e outcome whole.eight;
    })

-- so does the run that bytes hold
bytes_whole : (bytes : List ℕ) → 16 ≤ length bytes → Whole (run_from bytes).configuration
unfolding run_from tabulate
bytes_whole bytes long = rw (le-ltb (length bytes) 16 long) (record { six = refl; eight = refl })

-- the bytes after a report hold the run that it answers, and are no fewer than a run's
module _ (report : Report) (entry exit : List ℕ) (answer : ℕ) (long : 16 ≤ length entry) (told : Reported report entry exit answer) where
  written : exit ≡ run_bytes report.run ++ drop 16 entry
  written = told.run_is ∙ rw (le-ltb (length entry) 16 long)

  still_long : 16 ≤ length exit
  still_long = omega (arith, ap length written, length-append (run_bytes report.run) (drop 16 entry), run_length report.run)

  holds : Whole report.run.configuration → run_from exit ≡ report.run
  holds whole = ap run_from written ∙ run_back report.run (drop 16 entry) whole

-- calls on bytes find what calls on the run by value answer
found_answers :
    (cell recipes table bytes : List ℕ) (calls : List Call) (found : List Seen)
    → 16 ≤ length bytes
    → ByteCalls cell recipes table bytes calls found
    → found ≡ map seen_of (run_answers (cell_from cell) (chapters_from recipes) table (run_from bytes) calls)
unfolding run_answers run_answer run_after seen_of move_code
found_answers cell recipes table bytes calls found long no_call = refl
found_answers cell recipes table bytes calls found long (ask_then {calls = after} {later = later} is chain) = λ i.
    numbered (is i) ∷ found_answers cell recipes table bytes after later long chain i
found_answers cell recipes table bytes calls found long
    (report_then {exit = exit} {outcome = outcome} {answer = answer} {calls = after} {later = later} told chain) =
    let c = cell_from cell in
    let rs = chapters_from recipes in
    let report : Report = report_of c rs table (run_from bytes) outcome in
    let same : run_from exit ≡ report.run =
    holds report bytes exit answer long told
    (report_whole c rs table (run_from bytes) outcome (bytes_whole bytes long)) in
    let rest : later ≡ map seen_of (run_answers c rs table report.run after) =
    found_answers cell recipes table exit after later (still_long report bytes exit answer long told) chain
    ∙ ap (λ (run : Run). map seen_of (run_answers c rs table run after)) same in
    λ i. held (told.answer_is i) (same i) ∷ rest i

-- and so do calls on a record of six states and eight places
recorded_answers :
    (cell recipes table : List ℕ) (before : Run) (calls : List Call) (found : List Seen)
    → Whole before.configuration
    → RecordCalls cell recipes table before calls found
    → found ≡ map seen_of (run_answers (cell_from cell) (chapters_from recipes) table before calls)
unfolding run_answers run_answer run_after seen_of move_code
recorded_answers cell recipes table before calls found whole record_none = refl
recorded_answers cell recipes table before calls found whole (record_asks {calls = after} {later = later} is chain) =
    let bytes_are : run_from (run_bytes before) ≡ before = ap run_from (sym (append-nil (run_bytes before))) ∙ run_back before [] whole in
    λ i. numbered
    ((is ∙ ap (λ (run : Run). move_code (next_move (cell_from cell) (chapters_from recipes) table run)) bytes_are)
    i) ∷ recorded_answers
    cell recipes table before after later whole chain i
recorded_answers cell recipes table before calls found whole (record_reports {after = kept} {outcome = outcome} {calls = after} {later = later} told chain) =
    let c = cell_from cell in
    let rs = chapters_from recipes in
    let same : kept ≡ (report_of c rs table before outcome).run = told.stored.kept in
    let still : Whole kept.configuration = subst (λ (run : Run). Whole run.configuration) (sym same) (report_whole c rs table before outcome whole) in
    let rest : later ≡ map seen_of (run_answers c rs table (report_of c rs table before outcome).run after) =
    recorded_answers cell recipes table kept after later still chain ∙ ap (λ (run : Run). map seen_of (run_answers c rs table run after)) same in
    λ i. held ((told.answer_is ∙ ap refusal_in told.stored.told) i) (same i) ∷ rest i

-- demand 3, from a run at a position with an entry other than 0, also when 16 is given: by calls on bytes that hold the run, and
-- by calls on it as a record
module _
    (cell recipes before table : List ℕ) (refused : Bool) (run : Run)
    (planned : Planned (cell_from cell) (chapters_from recipes) (sizes_in (cell_from cell) (chapters_from recipes)) before table refused)
    (position : PositionIn (chapters_from recipes) (sizes_in (cell_from cell) (chapters_from recipes)) (point_of run) run.configuration)
    (some : entry_in (sizes_in (cell_from cell) (chapters_from recipes)) table (point_of run) run.configuration ≡ 0 → ⊥)
    (calls : List Call)
  where
    list_keeps :
        (Finds : List Seen → Type 0)
        → ((found : List Seen) → Finds found → found ≡ map seen_of (run_answers (cell_from cell) (chapters_from recipes) table run calls))
        → ListPromises (cell_from cell) (chapters_from recipes) table run calls Finds
    list_keeps Finds by_value =
        let kept = planned.promises (point_of run) run.configuration position some calls in
        let same = kept.same_answers _ (value_chain (cell_from cell) (chapters_from recipes) table run calls) in
        record { same_answers = λ found finds. by_value found finds ∙ ap (map seen_of) same; keeps = kept.keeps }

    pub bytes_keep : (bytes : List ℕ) → 16 ≤ length bytes → run_from bytes ≡ run → BytePromises cell recipes table bytes calls
    bytes_keep bytes long holds-run =
        subst (λ (x : Run). ListPromises (cell_from cell) (chapters_from recipes) table x calls (ByteCalls cell recipes table bytes calls)) (sym holds-run)
        (list_keeps (ByteCalls cell recipes table bytes calls)
        (λ found finds.
        found_answers cell recipes table bytes calls found long finds
        ∙ ap (λ (x : Run). map seen_of (run_answers (cell_from cell) (chapters_from recipes) table x calls)) holds-run))

    pub records_keep : RecordListPromises cell recipes table run calls
    records_keep =
        list_keeps (RecordCalls cell recipes table run calls)
        (λ found finds. recorded_answers cell recipes table run calls found
        (record { six = position.here.six; eight = position.here.eight }) finds)

-- a plan call that answers 0 is accepted
plan_accepted :
    (c : Cell) (rs : Chapters) (table scratch table' scratch' : List ℕ)
    → PlanAnswered c rs table scratch table' scratch' 0
    → PlanCall c rs table scratch table' scratch' Accepted
plan_accepted c rs table scratch table' scratch' plan =
    subst (λ (v : Verdict). PlanCall c rs table scratch table' scratch' v) (zero_accepts plan.verdict (sym plan.answer_is)) plan.call

-- a fresh call that answers 0 has written a fresh run
module _ (entry bytes : List ℕ) (fresh : BufferAnswered Accepted (run_bytes fresh_run) 16 entry bytes 0) where
  room : 16 ≤ length entry
  room = decide (ltb (length entry) 16) refl
    where
      decide : (short : Bool) → ltb (length entry) 16 ≡ short → 16 ≤ length entry
      decide false e = ltb-false (length entry) 16 e
      decide true e =
          let z : ◌≡◌ {A = ℕ} 0 14 = fresh.answer_is ∙ rw e in
          omega arith

  put_fresh : bytes ≡ run_bytes fresh_run ++ drop 16 entry
  put_fresh = fresh.buffer_is ∙ rw (le-ltb (length entry) 16 room)

  holds_fresh : run_from bytes ≡ fresh_run
  unfolding fresh_run start
  holds_fresh = ap run_from put_fresh ∙ run_back fresh_run (drop 16 entry) (record { six = refl; eight = refl })

  fresh_long : 16 ≤ length bytes
  fresh_long = omega (arith, ap length put_fresh, length-append (run_bytes fresh_run) (drop 16 entry), run_length fresh_run)

-- so demand 3 holds where `cellplan_plan` answered 0, from the bytes in which `cellplan_fresh` wrote a run
pub fresh_keeps :
    (cell recipes table scratch table' scratch' entry bytes : List ℕ)
    → PlanAnswered (cell_from cell) (chapters_from recipes) table scratch table' scratch' 0
    → BufferAnswered Accepted (run_bytes fresh_run) 16 entry bytes 0
    → (calls : List Call)
    → BytePromises cell recipes table' bytes calls
unfolding fresh_run
fresh_keeps cell recipes table scratch table' scratch' entry bytes plan fresh calls =
    let c = cell_from cell in
    let rs = chapters_from recipes in
    let call = plan_accepted c rs table scratch table' scratch' plan in
    bytes_keep cell recipes table table' false fresh_run (accepted_planned c rs table scratch table' scratch' call)
    (accepted_starts c rs table scratch table' scratch' call) (accepted_alive c rs table scratch table' scratch' call) calls
    bytes (fresh_long entry bytes fresh) (holds_fresh entry bytes fresh)

-- and from a record that is a fresh run
pub fresh_record_keeps :
    (cell recipes table scratch table' scratch' : List ℕ)
    → PlanAnswered (cell_from cell) (chapters_from recipes) table scratch table' scratch' 0
    → (calls : List Call)
    → RecordListPromises cell recipes table' fresh_run calls
unfolding fresh_run
fresh_record_keeps cell recipes table scratch table' scratch' plan calls =
    let c = cell_from cell in
    let rs = chapters_from recipes in
    let call = plan_accepted c rs table scratch table' scratch' plan in
    records_keep cell recipes table table' false fresh_run (accepted_planned c rs table scratch table' scratch' call)
    (accepted_starts c rs table scratch table' scratch' call) (accepted_alive c rs table scratch table' scratch' call) calls
