-- The rules on a cell and chapters, and those from 13 on that look at their sizes. Assumes nothing.
use Rattle.std.specs.Prelude.{Bool, false, cond, not, ◌&&◌, ◌||◌, List, [], ◌∷◌, ◌++◌, ℕ, zero, suc, ◌+◌, ◌/◌, length, eqb, ltb}
use Rattle.refusals.specs.Verdict.{Verdict, Accepted, first_refusal, no_line}
use Rattle.refusals.specs.declared.Refusal.TheVariants.{TooManyPositions, TooShort, RunRange, Chapters}
use Rattle.refusals.specs.Search.{any_below, greatest_below}
use Rattle.cell.specs.declared.Cell.{Cell}
use Rattle.cell.specs.Rules.{cell_rules}
use Rattle.recipe.specs.declared.Recipe.{Recipe}
use Rattle.recipe.specs.Rules.{recipe_rules}
use Rattle.positions.specs.declared.Configuration.{Configuration}
use Rattle.positions.specs.Rules.{is_position}
use Rattle.steps.specs.Lines.{kind_of}
use Rattle.reached.specs.Reached.{rule22}
use Rattle.chapters.specs.Joined as joined
use Rattle.chapters.specs.Joined.{Point, chapter_at, is_earlier}
use Rattle.chapters.specs.Sizes.{Measures, sizes_in, begins}

-- "24 for no chapters or more than 8"
unfoldable pub rule24 : ℕ → Verdict
rule24 number = no_line Chapters (eqb number 0 || ltb 8 number)

-- "and for an earlier chapter whose point 0 is an end"
unfoldable pub rule24_joint : Bool → Recipe → Verdict
rule24_joint earlier r = no_line Chapters (earlier && eqb (kind_of r 0) 0)

-- the rules on one chapter, of a call that plans or of another: 24 comes "after 22"
unfoldable pub chapter_rules : Bool → Bool → Recipe → List Verdict
chapter_rules plans earlier r = recipe_rules r ++ (cond plans (rule22 r) Accepted ∷ rule24_joint earlier r ∷ [])

-- the rules on each of the first n, one after another
unfoldable pub in_turn : (ℕ → List Verdict) → ℕ → List Verdict
in_turn rules zero = []
in_turn rules (suc n) = in_turn rules n ++ rules n

-- "Chapters are checked in order."
unfoldable pub chapters_rules : Bool → joined.Chapters → List Verdict
chapters_rules plans rs = in_turn (λ k. chapter_rules plans (is_earlier rs k) (chapter_at rs k)) (length rs)

-- "24 for no chapters or more than 8, before the cell's 3"; "cell first: all of its rules, then the recipe's"
unfoldable pub record_rules : Bool → Cell → joined.Chapters → List Verdict
record_rules plans c rs = rule24 (length rs) ∷ cell_rules c ++ chapters_rules plans rs

-- "13. M exceeds 1048576.", in some chapter
unfoldable pub rule13 : Measures → ℕ → Verdict
rule13 zs number = no_line TooManyPositions (any_below (λ k. ltb 1048576 (zs k).positions) number)

-- "then the recipe's, then 13 on"
unfoldable pub check_sizes : Cell → joined.Chapters → Verdict
check_sizes c rs = first_refusal (record_rules false c rs ++ (rule13 (sizes_in c rs) (length rs) ∷ []))

-- "rule 14 takes the sum for the table"
unfoldable pub rule14 : Measures → ℕ → ℕ → Verdict
rule14 zs number entries = no_line TooShort (ltb entries (begins zs number))

-- "and the greatest for the scratch", "M/8 bytes, rounded up"
unfoldable pub rule14_scratch : Measures → ℕ → ℕ → Verdict
rule14_scratch zs number bytes = no_line TooShort (ltb bytes ((greatest_below (λ k. (zs k).positions) number + 7) / 8))

-- a point and a configuration that rule 16 accepts
unfoldable pub is_position_in : Measures → ℕ → Point → Configuration → Bool
is_position_in zs number p a = ltb p.chapter number && is_position (zs p.chapter) p.point a

-- "A run and the book carry their chapter, 16 if a run's isn't there"
unfoldable pub rule16 : Measures → ℕ → Point → Configuration → Verdict
rule16 zs number p a = no_line RunRange (not (is_position_in zs number p a))
