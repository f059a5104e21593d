-- Lists of calls by value, as one function of the run: they are such a list as the promises speak of, and every such list answers
-- what they answer.
-- Assumes nothing.
use mathlib.Core.Path.{◌≡◌, refl, ap, ◌∙◌}
use mathlib.Core.List.{List, [], ◌∷◌}
use Prim.Native.Nat.{ℕ}
use Rattle.refusals.specs.Verdict.{refusal_in}
use Rattle.cell.specs.declared.Cell.{Cell}
use Rattle.chapters.specs.Joined.{Chapters}
use Rattle.run.specs.declared.Run.{Run}
use Rattle.run.specs.Calls.{point_of, next_move, report_of}
use Rattle.run.specs.Book.{Call, asks, reports, Answer, moved, reported}
use Rattle.run.specs.Promises.{Chain, no_call, ask_then, report_then}

-- the run that a call leaves, and what it answers
unfoldable pub run_after : Cell → Chapters → List ℕ → Run → Call → Run
run_after c rs table run asks = run
run_after c rs table run (reports outcome) = (report_of c rs table run outcome).run

unfoldable pub run_answer : Cell → Chapters → List ℕ → Run → Call → Answer
run_answer c rs table run asks = moved (refusal_in (next_move c rs table run).verdict) (next_move c rs table run).entry
run_answer c rs table run (reports outcome) =
    let report = report_of c rs table run outcome in
    reported (refusal_in report.verdict) (point_of report.run) report.run.configuration

unfoldable pub run_answers : Cell → Chapters → List ℕ → Run → List Call → List Answer
run_answers c rs table run [] = []
run_answers c rs table run (call ∷ calls) = run_answer c rs table run call ∷ run_answers c rs table (run_after c rs table run call) calls

-- "Reports here have the value form"
pub value_chain : (c : Cell) (rs : Chapters) (table : List ℕ) (run : Run) (calls : List Call)
    → Chain c rs table run calls (run_answers c rs table run calls)
unfolding run_answers run_answer run_after
value_chain c rs table run [] = no_call
value_chain c rs table run (asks ∷ calls) = ask_then (value_chain c rs table run calls)
value_chain c rs table run (reports outcome ∷ calls) =
    report_then (record { told = refl; kept = refl }) (value_chain c rs table (report_of c rs table run outcome).run calls)

-- "equal in all else": reports of either form answer what the reports by value answer
pub chain_answers :
    (c : Cell) (rs : Chapters) (table : List ℕ) (before : Run) (calls : List Call) (told : List Answer)
    → Chain c rs table before calls told
    → told ≡ run_answers c rs table before calls
unfolding run_answers run_answer run_after
chain_answers c rs table before calls told no_call = refl
chain_answers c rs table before calls told (ask_then {calls = after} {later = later} chain) =
    let move = next_move c rs table before in
    ap (λ (l : List Answer). moved (refusal_in move.verdict) move.entry ∷ l) (chain_answers c rs table before after later chain)
chain_answers c rs table before calls told (report_then {after = kept} {outcome = outcome} {calls = after} {later = later} stored chain) =
    let rest = chain_answers c rs table kept after later chain ∙ ap (λ (run : Run). run_answers c rs table run after) stored.kept in
    λ i. reported (refusal_in (stored.told i)) (point_of (stored.kept i)) (stored.kept i).configuration ∷ rest i
