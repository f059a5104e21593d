-- "The book": fed the cell, the chapters, the table and the calls with their outcomes, but no run and no answer. Assumes nothing.
use Rattle.std.specs.Prelude.{Bool, cond, ◌&&◌, List, [], ◌∷◌, ℕ, zero, suc, ◌+◌, eqb, ltb}
use Rattle.refusals.specs.Refusal.{number_of}
use Rattle.refusals.specs.declared.Refusal.TheVariants.{OutcomeRange, NotOpen, AtEnd}
use Rattle.refusals.specs.Search.{tabulate}
use Rattle.cell.specs.declared.Cell.{Cell}
use Rattle.recipe.specs.declared.Recipe.{Recipe}
use Rattle.positions.specs.declared.Configuration.{Configuration}
use Rattle.steps.specs.Lines.{resource_of, to_of, state_of, place_of, kind_of}
use Rattle.steps.specs.Gates.{gate_of}
use Rattle.steps.specs.Carry.{placed}
use Rattle.steps.specs.Entry.{entry_kind, letter, lines_used, is_formed, may_be_taken, end_entry}
use Rattle.chapters.specs.Joined.{Chapters, Point, recipe_at, kind_at, then_at, else_at}
use Rattle.chapters.specs.Sizes.{Measures, entry_in}

-- "It keeps a point, a configuration and a count q."; "A run and the book carry their chapter": the point is one of the joined recipe
pub record Book : Type 0 where
  pub point : Point
  pub configuration : Configuration
  pub q : ℕ

-- "the calls with their outcomes": a next-move call, or a report
pub data Call : Type 0 where
  asks : Call
  reports : ℕ → Call

-- what is answered: a refusal, 0 for none, with the move, or with a point and a configuration
pub data Answer : Type 0 where
  moved : ℕ → ℕ → Answer
  reported : ℕ → Point → Configuration → Answer

-- "It begins with point 0, every state 0, every part outside and q 0; for a list from another position, with that point and configuration."
unfoldable pub opened : Point → Configuration → Book
opened p a = record { point = p; configuration = a; q = 0 }

-- what names the book's move: the outcomes accepted so far, the latest first, and the book
abbrev pub Mover : Type 0
Mover = List ℕ → Book → ℕ

-- "Its move is the entry at its own position."
unfoldable pub by_table : Measures → List ℕ → Mover
by_table zs table accepted b = entry_in zs table b.point b.configuration

-- an end of an earlier chapter is one too
unfoldable pub at_end : Chapters → Book → Bool
at_end rs b = eqb (kind_at rs b.point) 0

-- "At a do or test, a move is open if it has the stated form and its joint step may be taken from the book's configuration:
-- a silent one in kinds 1 and 2, one that carries the book's point in kind 3. At an end kind 4 alone is open."
unfoldable pub is_open : Cell → Chapters → Book → ℕ → Bool
is_open c rs b e =
    let r = recipe_at rs b.point in
    let p = b.point.point in
    cond (at_end rs b) (eqb e end_entry) (is_formed c r p e && may_be_taken c r p b.configuration e)

-- the refusal of a report, e being the book's move: "17 for an outcome above 1, else 18 if the move isn't open, else 19 at an end"
unfoldable pub refusal_of : Cell → Chapters → Book → ℕ → ℕ → ℕ
refusal_of c rs b e outcome =
    cond (ltb 1 outcome) (number_of OutcomeRange)
    (cond (is_open c rs b e) (cond (at_end rs b) (number_of AtEnd) 0) (number_of NotOpen))

-- "Each line taken sets its resource to its `to`": resource k, that was in state s, after the first n lines
unfoldable pub set_to : Cell → (ℕ → ℕ) → ℕ → ℕ → ℕ → ℕ
set_to c ls zero k s = s
set_to c ls (suc n) k s = cond (eqb k (resource_of c (ls n))) (to_of c (ls n)) (set_to c ls n k s)

-- "Kind 2 also puts all parts at a's resource at b's. .. Kind 3 at a do puts the taken parts outside, then each given part at
-- its line's resource; at a test no part moves": part n, that was at place v
unfoldable pub moved_to : Cell → Recipe → ℕ → ℕ → ℕ → ℕ → ℕ
moved_to c r p e n v =
    cond (eqb (entry_kind e) 2) (cond (eqb v (resource_of c (letter e 0) + 1)) (resource_of c (letter e 1) + 1) v)
    (cond (eqb (entry_kind e) 3 && eqb (kind_of r p) 1) (placed c r p (letter e) n v) v)

-- "outcome 0 follows that line, in the book of 01 too": the line that is followed for letter j's line
unfoldable pub line_followed : Cell → Recipe → ℕ → ℕ → ℕ → ℕ → ℕ
line_followed c r p e outcome j =
    cond (eqb (entry_kind e) 3 && (eqb (kind_of r p) 2 && eqb outcome 0)) (gate_of c (letter e j)) (letter e j)

unfoldable pub configuration_after : Cell → Recipe → ℕ → Configuration → ℕ → ℕ → Configuration
configuration_after c r p a e outcome =
    record {
      state = tabulate 6 (λ k. set_to c (line_followed c r p e outcome) (lines_used r p e) k (state_of a k));
      place = tabulate 8 (λ q. moved_to c r p e q (place_of a q));
    }

-- "the point becomes `then`, or `else` for a test at outcome 0"; "A report that reaches an end of an earlier chapter leaves the run,
-- and the book of 01, at point 0 of the next"
unfoldable pub point_after : Chapters → Point → ℕ → Point
point_after rs p outcome = cond (eqb (kind_at rs p) 2 && eqb outcome 0) (else_at rs p) (then_at rs p)

-- the book after its move e is made: "Kinds 1 and 2 add 1 to q. .. After kind 3 the point becomes .., and q becomes 0."
unfoldable pub made : Cell → Chapters → Book → ℕ → ℕ → Book
made c rs b e outcome =
    let a = configuration_after c (recipe_at rs b.point) b.point.point b.configuration e outcome in
    cond (eqb (entry_kind e) 3) (record { point = point_after rs b.point outcome; configuration = a; q = 0 })
    (record { point = b.point; configuration = a; q = b.q + 1 })

-- a report that is not refused
unfoldable pub is_accepted : Cell → Chapters → Book → ℕ → ℕ → Bool
is_accepted c rs b e outcome = eqb (refusal_of c rs b e outcome) 0

-- the book after a call, e being its move: "None of these changes the book .. Any other report makes the move"
unfoldable pub turned : Cell → Chapters → Book → ℕ → Call → Book
turned c rs b e asks = b
turned c rs b e (reports outcome) = cond (is_accepted c rs b e outcome) (made c rs b e outcome) b

-- the outcomes accepted so far, after a call
unfoldable pub noted : Cell → Chapters → Book → ℕ → Call → List ℕ → List ℕ
noted c rs b e asks accepted = accepted
noted c rs b e (reports outcome) accepted = cond (is_accepted c rs b e outcome) (outcome ∷ accepted) accepted

-- the answer to a call: "a refused next-move call also gives entry 0, a refused report the book's point and configuration",
-- and any other report "the book's new point and configuration"
unfoldable pub answer : Cell → Chapters → Book → ℕ → Call → Answer
answer c rs b e asks = cond (is_open c rs b e) (moved 0 e) (moved (number_of NotOpen) 0)
answer c rs b e (reports outcome) =
    let b' = turned c rs b e (reports outcome) in
    reported (refusal_of c rs b e outcome) b'.point b'.configuration

-- a call as the book meets it: the book before it, and its move there
pub record Moment : Type 0 where
  pub book : Book
  pub move : ℕ
  pub call : Call

-- a list of calls as the book meets them
unfoldable pub moments : Cell → Chapters → Mover → List ℕ → Book → List Call → List Moment
moments c rs mover accepted b [] = []
moments c rs mover accepted b (call ∷ calls) =
    let e = mover accepted b in
    record { book = b; move = e; call = call } ∷ moments c rs mover (noted c rs b e call accepted) (turned c rs b e call) calls

-- the answers to them
unfoldable pub answers : Cell → Chapters → List Moment → List Answer
answers c rs [] = []
answers c rs (m ∷ later) = answer c rs m.book m.move m.call ∷ answers c rs later

-- a move that is issued, with the book's configuration before it and the outcome reported
pub record Issue : Type 0 where
  pub entry : ℕ
  pub configuration : Configuration
  pub outcome : ℕ

-- "Any other report makes the move, which is then issued"
unfoldable pub issued_by : Cell → Chapters → Book → ℕ → Call → List Issue → List Issue
issued_by c rs b e asks later = later
issued_by c rs b e (reports outcome) later =
    cond (is_accepted c rs b e outcome) (record { entry = e; configuration = b.configuration; outcome = outcome } ∷ later) later

-- the moves issued, in order
unfoldable pub issued : Cell → Chapters → List Moment → List Issue
issued c rs [] = []
issued c rs (m ∷ later) = issued_by c rs m.book m.move m.call (issued c rs later)
