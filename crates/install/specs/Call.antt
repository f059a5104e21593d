-- The install call, which "still takes one recipe": the rules that it tries, its list, and what it leaves of what is lent. Assumes nothing.
use Rattle.std.specs.Prelude.{◌≡◌, Result, Ok, Err, true, List, [], ◌∷◌, ℕ, ◌≤◌, length, leb}
use Rattle.refusals.specs.declared.Broken.{Broken}
use Rattle.refusals.specs.declared.Refusal.TheVariants.{FullCell}
use Rattle.refusals.specs.Verdict.{Verdict, Accepted, first_refusal, no_line}
use Rattle.cell.specs.declared.Cell.{Cell}
use Rattle.cell.specs.declared.OperationLine.{OperationLine}
use Rattle.recipe.specs.declared.Recipe.{Recipe}
use Rattle.simulation.specs.Simulation.{Realisable}
use Rattle.planner.specs.Call.{check_plan}
use Rattle.install.specs.Candidates.{is_candidate, Mends}
use Rattle.install.specs.Order.{is_among, rises, filled_with}

-- "21 for a cell that already has 64 lines"
unfoldable pub rule21 : Cell → Verdict
rule21 c = no_line FullCell (leb 64 c.count)

-- "a call that plans checks as the planner does", "21 .., after 14", "15 isn't given"
unfoldable pub check_install : Cell → Recipe → ℕ → ℕ → Verdict
check_install c r table scratch = first_refusal (check_plan c (r ∷ []) table scratch ∷ rule21 c ∷ [])

-- the lines that mend the cell: all of them, and no other, in their order
pub record Listed (c : Cell) (r : Recipe) (lines : List OperationLine) : Type 0 where
  -- "every operation line .. that isn't in the cell, uses states .. and alone makes the recipe acceptable"
  pub candidates : (l : OperationLine) → is_among l lines ≡ true → is_candidate c r l ≡ true
  pub mend : (l : OperationLine) → is_among l lines ≡ true → Mends c r l
  pub every : (l : OperationLine) → is_candidate c r l ≡ true → Mends c r l → is_among l lines ≡ true
  -- "The list rises by those four numbers in that order, each line once."
  pub order : rises lines ≡ true

-- what an install call answers: its verdict, and how many lines mend the cell, of which the list may have fewer
pub record Listing : Type 0 where
  pub verdict : Verdict
  pub count : ℕ

-- "numbers and counts in a refused answer are 0"
unfoldable pub listing_of : Result ℕ Broken → Listing
listing_of (Ok count) = record { verdict = Accepted; count = count }
listing_of (Err broken) = record { verdict = Err broken; count = 0 }

-- the answer of an install call, and what is lent before and after it
pub record InstallCall (c : Cell) (r : Recipe) (table scratch list table' scratch' list' : List ℕ) (answer : Listing) : Type 0 where
  pub lines : List OperationLine
  pub verdict_is : answer.verdict ≡ check_install c r (length table) (length scratch)
  -- "the result carries the full count"
  pub count_is : answer.count ≡ length lines
  -- there are 6 × 8 × 64 × 8 lines
  pub few : answer.count ≤ 24576
  pub list_is : list' ≡ filled_with lines list
  -- "An acceptable recipe gives count 0", else the list has the lines that mend the cell
  pub none_needed : Realisable c (r ∷ []) → lines ≡ []
  pub listed : check_install c r (length table) (length scratch) ≡ Accepted → (Realisable c (r ∷ []) → ⊥) → Listed c r lines
  -- "numbers and counts in a refused answer are 0", and a refusal changes nothing
  pub none_refused : (check_install c r (length table) (length scratch) ≡ Accepted → ⊥) → lines ≡ []
  pub untouched : (check_install c r (length table) (length scratch) ≡ Accepted → ⊥) → (table' ≡ table) × (scratch' ≡ scratch)
  -- "a lent scratch, and a lent table that isn't the answer, end with free content unless refused"
  pub same_table : length table' ≡ length table
  pub same_scratch : length scratch' ≡ length scratch
