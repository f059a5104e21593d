-- Demand 3 for a list of calls, sentence by sentence, from any position. Assumes nothing.
use Rattle.std.specs.Prelude.{◌≡◌, Bool, true, cond, not, ◌&&◌, List, [], ◌∷◌, ℕ, ◌*◌, eqb, ltb}
use Rattle.refusals.specs.Search.{every}
use Rattle.refusals.specs.Refusal.{number_of}
use Rattle.refusals.specs.declared.Refusal.TheVariants.{NotOpen}
use Rattle.refusals.specs.Verdict.{Verdict, refusal_in}
use Rattle.cell.specs.declared.Cell.{Cell}
use Rattle.positions.specs.declared.Configuration.{Configuration}
use Rattle.steps.specs.Limits.{none_overfull}
use Rattle.steps.specs.Carry.{present, free, carries}
use Rattle.steps.specs.Entry.{entry_kind, letter, step_of}
use Rattle.chapters.specs.Joined.{Chapters, Point, recipe_at, kind_at}
use Rattle.chapters.specs.Sizes.{Measures}
use Rattle.run.specs.declared.Run.{Run}
use Rattle.run.specs.Calls.{point_of, run_at, next_move, Stored}
use Rattle.run.specs.Book.{Book, Call, asks, reports, Answer, moved, reported, Moment, Issue, opened, by_table, at_end, is_open}
use Rattle.run.specs.Book.{is_accepted, turned, moments, answers, issued, point_after}

-- "take any list of next-move calls and reports from a fresh run, .. each call on the run that the last report left", with what is
-- answered. "Reports here have the value form. The same holds of lists whose reports all have the second form, the run being the
-- line screen's record": of a report only what `Stored` says is known. A next-move call leaves the run. Calls by value are such
-- a list, whatever the calls (`value_chain`, run/proofs/CallsByValue)
pub data Chain (c : Cell) (rs : Chapters) (table : List ℕ) : Run → List Call → List Answer → Type 0 where
  no_call : {run : Run} → Chain c rs table run [] []
  ask_then : {run : Run} {calls : List Call} {later : List Answer} → Chain c rs table run calls later
      → Chain c rs table run (asks ∷ calls) (moved (refusal_in (next_move c rs table run).verdict) (next_move c rs table run).entry ∷ later)
  report_then : {before after : Run} {outcome : ℕ} {verdict : Verdict} {calls : List Call} {later : List Answer}
      → Stored c rs table before outcome verdict after → Chain c rs table after calls later
      → Chain c rs table before (reports outcome ∷ calls) (reported (refusal_in verdict) (point_of after) after.configuration ∷ later)

-- two tests agree
unfoldable pub agree : Bool → Bool → Bool
agree a b = cond a b (not b)

-- "Outcomes 0 and 1 were refused exactly at an end", of a call to the book, e being its move
unfoldable pub rightly : Cell → Chapters → Book → ℕ → Call → Bool
rightly c rs b e asks = true
rightly c rs b e (reports outcome) = cond (ltb 1 outcome) true (agree (not (is_accepted c rs b e outcome)) (at_end rs b))

-- "18 is never an answer"
unfoldable pub never_shut : Answer → Bool
never_shut (moved refusal entry) = not (eqb refusal (number_of NotOpen))
never_shut (reported refusal point configuration) = not (eqb refusal (number_of NotOpen))

-- issued moves with the point at which each was issued: the first at p, each later one at the point to which the last kind 3
-- before it led
unfoldable pub every_issue : (Point → Issue → Bool) → Chapters → Point → List Issue → Bool
every_issue test rs p [] = true
every_issue test rs p (issue ∷ later) =
    test p issue && every_issue test rs (cond (eqb (entry_kind issue.entry) 3) (point_after rs p issue.outcome) p) later

-- "Each move issued was open in the states that the earlier moves left."
unfoldable pub was_open : Cell → Chapters → Point → Issue → Bool
was_open c rs p issue = is_open c rs (opened p issue.configuration) issue.entry

-- a test of the issued moves of kind 3 alone
unfoldable pub of_carries : (Point → Issue → Bool) → Point → Issue → Bool
of_carries test p issue = cond (eqb (entry_kind issue.entry) 3) (test p issue) true

-- "Each operation found the parts it takes at its own station, and no part it gives was in the cell unless the same step took it."
unfoldable pub found_parts : Cell → Chapters → Point → Issue → Bool
found_parts c rs p issue =
    let r = recipe_at rs p in
    let a = issue.configuration in
    present c r p.point (letter issue.entry) a && cond (eqb (kind_at rs p) 1) (free r p.point a) true

-- "Operations and outcomes followed the recipe's points from point 0 and skipped none": "the first issued kind 3 carries the
-- point at which the book began, each later one the point to which the one before led"
unfoldable pub carried_point : Cell → Chapters → Point → Issue → Bool
carried_point c rs p issue =
    let r = recipe_at rs p in
    let e = issue.entry in
    carries c r p.point (step_of c r p.point e) (letter e) issue.configuration

-- "Silent moves never numbered J × W in a row": "q stays below J × W", after a call too; "J × W counts silent moves across the joint
-- too", and is the same for all chapters
unfoldable pub few_silent : Cell → Chapters → Measures → Moment → Bool
few_silent c rs zs m = ltb (turned c rs m.book m.move m.call).q ((zs 0).joint * (zs 0).ways)

-- "An accepted plan now also means that no station is ever overfull": of the book before a call, and after it
unfoldable pub never_overfull : Cell → Chapters → Moment → Bool
never_overfull c rs m =
    none_overfull c m.book.configuration && none_overfull c (turned c rs m.book m.move m.call).configuration

-- the promises of demand 3 for a list of calls as the book meets them, from point p on, but for what a run answers
pub record Keeps (c : Cell) (rs : Chapters) (zs : Measures) (p : Point) (met : List Moment) : Type 0 where
  pub refused_at_ends : every (λ m. rightly c rs m.book m.move m.call) met ≡ true
  pub is_never_shut : every never_shut (answers c rs met) ≡ true
  pub moves_open : every_issue (was_open c rs) rs p (issued c rs met) ≡ true
  pub parts_found : every_issue (of_carries (found_parts c rs)) rs p (issued c rs met) ≡ true
  pub points_followed : every_issue (of_carries (carried_point c rs)) rs p (issued c rs met) ≡ true
  pub silent_few : every (few_silent c rs zs) met ≡ true
  pub none_is_overfull : every (never_overfull c rs) met ≡ true

-- "Demand 3 is a single claim about the whole list and not one for each call. All calls get the same cell, recipe and table.", here
-- the same chapters
pub record Promises (c : Cell) (rs : Chapters) (zs : Measures) (table : List ℕ) (p : Point) (a : Configuration) (calls : List Call) : Type 0 where
  -- "all answers equal those of document 01's book"
  pub same_answers :
      (told : List Answer) → Chain c rs table (run_at p a) calls told
      → told ≡ answers c rs (moments c rs (by_table zs table) [] (opened p a) calls)
  pub keeps : Keeps c rs zs p (moments c rs (by_table zs table) [] (opened p a) calls)

-- "A rule choosing single moves names one for every list of outcomes accepted so far, the empty list too": the latest first
abbrev pub Rule : Type 0
Rule = List ℕ → ℕ

-- "Under a rule the book has the rule's move in place of the entry, and the promises are read of that book."
abbrev pub RuleKeeps : Cell → Chapters → Measures → Rule → Point → Configuration → List Call → Type 0
RuleKeeps c rs zs rule p a calls = Keeps c rs zs p (moments c rs (λ accepted b. rule accepted) [] (opened p a) calls)
