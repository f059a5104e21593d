-- "`walk` reads the first 8192 bytes of `cell.csv` and then, unless that is refused, of `recipe.csv` .. and digits from
-- standard input": what it reads, decides and prints. Assumes nothing.
use Rattle.std.specs.Prelude.{◌≡◌, Result, true, false, List, [], ◌∷◌, ◌++◌, ℕ, ◌*◌, ◌≤◌, length, take}
use Rattle.std.specs.declared.option.Option.{Option}
use Rattle.std.specs.Io.KnownBytes.{Appends, Consumes}
use Rattle.refusals.specs.declared.Broken.{Broken}
use Rattle.refusals.specs.Refusal.{number_of}
use Rattle.std.specs.Prelude.{Ok, Err}
use Rattle.refusals.specs.Verdict.{Verdict, Accepted, first_refusal, found_if}
use Rattle.cell.specs.declared.Cell.{Cell}
use Rattle.cell.specs.Reader.{CellReading}
use Rattle.cell.specs.Reader.{read_cell}
use Rattle.recipe.specs.declared.Recipe.{Recipe}
use Rattle.recipe.specs.Reader.{RecipeReading}
use Rattle.recipe.specs.Reader.{read_recipe}
use Rattle.records.specs.Encoding.{recipe_from}
use Rattle.run.specs.declared.Run.{Run}
use Rattle.run.specs.Calls.{fresh_run}
use Rattle.planner.specs.Call.{PlanCall, FixedCall}
use Rattle.walk.specs.declared.Step.{Step}
use Rattle.printout.specs.Text.{refusal_line}
use Rattle.printout.specs.Turn.{walked, printed}

-- the first line, "position,entry,next"
unfoldable pub names_line : List ℕ
names_line =
    112 ∷ 111 ∷ 115 ∷ 105 ∷ 116 ∷ 105 ∷ 111 ∷ 110 ∷ 44 ∷ 101 ∷ 110 ∷ 116 ∷ 114 ∷ 121 ∷ 44 ∷ 110 ∷ 101 ∷ 120 ∷ 116 ∷ 10 ∷ []

-- "A refusal prints as `refused,` and its number below the first line, and ends it.": what stands there, by the verdict on the
-- files and the plan, if these are the lines of the moves
unfoldable pub below : Verdict → List ℕ → List ℕ
below Accepted lines = lines
below (Err broken) lines = refusal_line (number_of broken.rule)

-- "the first 8192 bytes of `cell.csv`": the record of some file
abbrev pub CellRead : CellReading → Type 0
CellRead reading = (file : List ℕ) × (reading ≡ read_cell (take 8192 file))

-- "of `recipe.csv`"
abbrev pub RecipeRead : RecipeReading → Type 0
RecipeRead reading = (file : List ℕ) × (reading ≡ read_recipe (take 8192 file))

-- "and then, unless that is refused, of `recipe.csv`": what is answered behind a cell. The refusal of a cell is handed on, whatever
-- `recipe.csv` holds; a cell goes on with the recipe of some file, or ends at that file's refusal
abbrev pub ReadBehind : Result Cell Broken → Result (Cell × Recipe) Broken → Type 0
ReadBehind (Err broken) answer = answer ≡ Err broken
ReadBehind (Ok cell) answer = (reading : RecipeReading) × RecipeRead reading × (answer ≡ found_if reading.verdict (cell, reading.recipe))

-- "Its table and scratch have 8192 places", the scratch eight in a byte: the table and the verdict that a plan call leaves, of which the
-- recipe is the one chapter
pub record PlanMade (c : Cell) (r : Recipe) (table' : List ℕ) (verdict : Verdict) : Type 0 where
  pub table : List ℕ
  pub scratch : List ℕ
  pub scratch' : List ℕ
  pub table_places : length table ≡ 8192
  pub scratch_places : length scratch * 8 ≡ 8192
  pub call : PlanCall c (r ∷ []) table scratch table' scratch' verdict

-- what two files lead to: the verdict on the cell, then on the recipe, then on the plan, and a planned table
pub record Decided (cell_file recipe_file table : List ℕ) (verdict : Verdict) : Type 0 where
  pub plan : Verdict
  pub verdict_is :
      verdict ≡ first_refusal ((read_cell (take 8192 cell_file)).verdict ∷ (read_recipe (take 8192 recipe_file)).verdict ∷ plan ∷ [])
  pub planned :
      (read_cell (take 8192 cell_file)).verdict ≡ Accepted
      → (read_recipe (take 8192 recipe_file)).verdict ≡ Accepted
      → PlanMade (read_cell (take 8192 cell_file)).cell (read_recipe (take 8192 recipe_file)).recipe table plan

-- "Each entry other than 0 at a do or test is now fixed.": of the table that the plan call leaves, where the two files lead to one
pub record FixedDecided (cell_file recipe_file table : List ℕ) (verdict : Verdict) (decided : Decided cell_file recipe_file table verdict) : Type 0 where
  pub fixed :
      (cell_passes : (read_cell (take 8192 cell_file)).verdict ≡ Accepted)
      → (recipe_passes : (read_recipe (take 8192 recipe_file)).verdict ≡ Accepted)
      → FixedCall (read_cell (take 8192 cell_file)).cell ((read_recipe (take 8192 recipe_file)).recipe ∷ [])
      (decided.planned cell_passes recipe_passes).table (decided.planned cell_passes recipe_passes).scratch table

-- what the files and the plan come to
pub record Ready : Type 0 where
  pub verdict : Verdict
  pub cell : Cell

-- an answer tells of it: the cell, or the refusal
abbrev pub TellsOf : Result Cell Broken → (Ready → Type 0) → Type 0
TellsOf answer Holds = (ready : Ready) × (answer ≡ found_if ready.verdict ready.cell) × Holds ready

-- what the program has when it begins to follow: the verdict, and the records and the table of two files; the recipe's record as bytes
pub record Prepared (recipes table : List ℕ) (ready : Ready) : Type 0 where
  pub cell_file : List ℕ
  pub recipe_file : List ℕ
  pub decided : Decided cell_file recipe_file table ready.verdict
  pub cell_is : ready.cell ≡ (read_cell (take 8192 cell_file)).cell
  pub recipe_is : ready.verdict ≡ Accepted → recipe_from recipes ≡ (read_recipe (take 8192 recipe_file)).recipe

-- and of that table
pub record FixedPrepared (recipes table : List ℕ) (ready : Ready) : Type 0 where
  pub prepared : Prepared recipes table ready
  pub fixed : FixedDecided prepared.cell_file prepared.recipe_file table ready.verdict prepared.decided

-- all that is printed for the bytes of two files and of standard input
pub record Output (cell_file recipe_file input text : List ℕ) : Type 0 where
  pub table : List ℕ
  pub verdict : Verdict
  pub decided : Decided cell_file recipe_file table verdict
  pub text_is :
      text
      ≡ names_line
      ++ below verdict (printed (read_cell (take 8192 cell_file)).cell (read_recipe (take 8192 recipe_file)).recipe table fresh_run input)

-- what one read of standard input leads to: the lines for its bytes stand at the start of the text that is handed over, and
-- the walk goes on exactly if they say so, unless the input has ended or the text could not be written
pub record Stepped (c : Cell) (r : Recipe) (table : List ℕ) (run : Run) (bytes text : List ℕ) (step : Step) : Type 0 where
  pub bytes_inside : step.got ≤ length bytes
  pub text_inside : step.length ≤ length text
  pub text_is : take step.length text ≡ printed c r table run (take step.got bytes)
  pub run_is : step.run ≡ (walked c r table run (take step.got bytes)).run
  pub more_is : (step.got ≡ 0 → ⊥) → step.failed ≡ false → step.more ≡ (walked c r table run (take step.got bytes)).more
  pub ended : step.got ≡ 0 → step.more ≡ false
  pub failed_ends : step.failed ≡ true → step.more ≡ false

-- what the reads of standard input lead to, `reads` of them at most: the walk is that of the bytes which they gave, one behind
-- the other, and it ends only where these say so, the input ends, a text could not be written, or all reads are used up
pub record Followed (c : Cell) (r : Recipe) (table : List ℕ) (reads : ℕ) (step : Step) : Type 0 where
  pub input : List ℕ
  pub run_is : step.run ≡ (walked c r table fresh_run input).run
  pub goes_on : step.more ≡ true → (walked c r table fresh_run input).more ≡ true
  pub stops : step.more ≡ false → (step.got ≡ 0 → ⊥) → step.failed ≡ false → (walked c r table fresh_run input).more ≡ false
  pub used_up : step.more ≡ true → reads ≤ length input

-- and on streams whose bytes are known, the reader's that are left and the writer's that it holds, before and after: those bytes were read,
-- and unless a text could not be written, their lines were printed and nothing else
pub record FollowedOn (c : Cell) (r : Recipe) (table : List ℕ) (reads : ℕ) (step : Step) (left left' held held' : Option (List ℕ)) : Type 0 where
  pub followed : Followed c r table reads step
  pub read : Consumes left left' followed.input
  pub lines : step.failed ≡ false → Appends held held' (printed c r table fresh_run followed.input)

-- a whole walk of which all was written: what was printed is the output for some two files and the bytes that were read
pub record Walk (left left' held held' : Option (List ℕ)) : Type 0 where
  pub cell_file : List ℕ
  pub recipe_file : List ℕ
  pub input : List ℕ
  pub text : List ℕ
  pub output : Output cell_file recipe_file input text
  pub fixed : FixedDecided cell_file recipe_file output.table output.verdict output.decided
  pub read : Consumes left left' input
  pub written : Appends held held' text
