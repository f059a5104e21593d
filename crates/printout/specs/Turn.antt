-- What a byte of standard input makes of a run, and what is printed for it. Assumes nothing.
use Rattle.std.specs.Prelude.{◌≡◌, Bool, true, false, cond, List, [], ◌∷◌, ◌++◌, ℕ, ◌-◌, ◌≤◌, length, take}
use Rattle.refusals.specs.Refusal.{number_of}
use Rattle.std.specs.Prelude.{Err}
use Rattle.refusals.specs.Verdict.{Verdict, Accepted, first_refusal}
use Rattle.tables.specs.Numbers.{is_digit}
use Rattle.cell.specs.declared.Cell.{Cell}
use Rattle.recipe.specs.declared.Recipe.{Recipe}
use Rattle.positions.specs.Sizes.{sizes_of}
use Rattle.positions.specs.Position.{position_of}
use Rattle.positions.specs.Rules.{check_records, rule16}
use Rattle.run.specs.declared.Run.{Run}
use Rattle.run.specs.Calls.{next_move, report_of}
use Rattle.printout.specs.declared.Answer.{Answer}
use Rattle.printout.specs.Text.{move_line, refusal_line, Put}

-- a number where a verdict accepts
unfoldable pub numbered : Verdict → ℕ → ℕ
numbered Accepted n = n
numbered (Err broken) n = 0

-- the number of the position that a run's point and configuration are; 0 if they are none
unfoldable pub position_in : Cell → Recipe → Run → ℕ
position_in c r run =
    numbered (first_refusal (check_records c r ∷ rule16 (sizes_of c r) run.point run.configuration ∷ []))
    (position_of (sizes_of c r) run.point run.configuration)

-- what is printed for a byte, whether the walk goes on, and the run afterwards
pub record Told : Type 0 where
  pub line : List ℕ
  pub more : Bool
  pub run : Run

-- "A refusal prints as `refused,` and its number .., and ends it."
unfoldable pub reported : Cell → Recipe → ℕ → Run → Verdict → Run → Told
reported c r entry run Accepted next =
    record { line = move_line (position_in c r run) entry (position_in c r next); more = true; run = next }
reported c r entry run (Err broken) next = record { line = refusal_line (number_of broken.rule); more = false; run = next }

-- "digits from standard input, each the outcome of one report; another byte ends it"; the recipe is the one chapter
unfoldable pub told : Cell → Recipe → List ℕ → Run → ℕ → Told
told c r table run byte =
    cond (is_digit byte)
    (reported c r (next_move c (r ∷ []) table run).entry run (report_of c (r ∷ []) table run (byte - 48)).verdict
    (report_of c (r ∷ []) table run (byte - 48)).run)
    (record { line = []; more = false; run = run })

-- the answer to a byte: the line is put into the lent buffer behind its first `at` bytes
pub record Answered (t : Told) (entry exit : List ℕ) (at : ℕ) (answer : Answer) : Type 0 where
  pub line_is : Put entry exit at t.line answer.length
  pub more_is : answer.more ≡ t.more
  pub run_is : answer.run ≡ t.run

-- whether a walk goes on, and the run that it has come to
pub record Walk : Type 0 where
  pub more : Bool
  pub run : Run

-- the walk after some bytes
unfoldable pub walked : Cell → Recipe → List ℕ → Run → List ℕ → Walk
walked c r table run [] = record { more = true; run = run }
walked c r table run (byte ∷ bytes) =
    cond (told c r table run byte).more (walked c r table (told c r table run byte).run bytes)
    (record { more = false; run = (told c r table run byte).run })

-- what is printed for them
unfoldable pub printed : Cell → Recipe → List ℕ → Run → List ℕ → List ℕ
printed c r table run [] = []
printed c r table run (byte ∷ bytes) =
    (told c r table run byte).line
    ++ cond (told c r table run byte).more (printed c r table (told c r table run byte).run bytes) []

-- the answer to some bytes: their lines stand at the lent buffer's start, and the walk goes on exactly if they say so
pub record Answers (c : Cell) (r : Recipe) (table : List ℕ) (run : Run) (bytes exit : List ℕ) (answer : Answer) : Type 0 where
  pub inside : answer.length ≤ length exit
  pub lines_are : take answer.length exit ≡ printed c r table run bytes
  pub more_is : answer.more ≡ (walked c r table run bytes).more
  pub run_is : answer.run ≡ (walked c r table run bytes).run
