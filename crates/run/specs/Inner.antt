-- What the inner functions answer. Only their contracts cite it; what a call returns is defined without it. Assumes nothing.
use Rattle.std.specs.Prelude.{◌≡◌, Result, true, List, [], ◌∷◌, ℕ, ltb}
use Rattle.refusals.specs.declared.Broken.{Broken}
use Rattle.refusals.specs.Verdict.{Verdict, first_refusal, no_line, found_if}
use Rattle.refusals.specs.declared.Refusal.TheVariants.{TooShort}
use Rattle.cell.specs.declared.Cell.{Cell}
use Rattle.recipe.specs.declared.Recipe.{Recipe}
use Rattle.positions.specs.declared.Sizes.{Sizes}
use Rattle.positions.specs.Rules.{rule13, rule16}
use Rattle.chapters.specs.Joined.{Chapters, chapter_at, is_earlier, landing}
use Rattle.run.specs.declared.Run.{Run}
use Rattle.run.specs.Calls.{point_of, run_at, entry_at, entry_rules}

-- rules 13 and 16, by the sizes of the chapter with most points and by those of the run's
unfoldable pub run_rules_by : Sizes → Sizes → Run → List Verdict
run_rules_by most own run = rule13 most ∷ rule16 own run.point run.configuration ∷ []

-- and with 14 between them, of a table of so many entries where so many are needed
unfoldable pub table_rules_by : Sizes → Sizes → ℕ → ℕ → Run → List Verdict
table_rules_by most own needed entries run =
    rule13 most ∷ no_line TooShort (ltb entries needed) ∷ rule16 own run.point run.configuration ∷ []

-- the entry at the run's position, by the rules up to 16
unfoldable pub find_entry : Cell → Chapters → List ℕ → Run → Result ℕ Broken
find_entry c rs table run = found_if (first_refusal (entry_rules c rs table run)) (entry_at c rs table run)

-- a run of an earlier chapter, and where it lands: of any chapters of which this is the recipe of the run's
pub record Landed (recipe : Recipe) (before after : Run) : Type 0 where
  pub lands :
      (rs : Chapters)
      → recipe ≡ chapter_at rs before.chapter
      → is_earlier rs before.chapter ≡ true
      → after ≡ run_at (landing rs (point_of before)) before.configuration
