-- What is found out about chapters while their rules are tried, for the contracts of the calls alone. Assumes nothing.
use Rattle.std.specs.Prelude.{◌≡◌, Bool, Result, Ok, Err, cond, ℕ, ◌+◌, ◌≤◌, max, length, eqb, ltb}
use Rattle.refusals.specs.declared.Broken.{Broken}
use Rattle.refusals.specs.Verdict.{Accepted, first_refusal}
use Rattle.refusals.specs.Search.{greatest_below}
use Rattle.cell.specs.declared.Cell.{Cell}
use Rattle.recipe.specs.declared.Recipe.{Recipe}
use Rattle.positions.specs.Radix.{sum_below}
use Rattle.positions.specs.Sizes.{points_of, parts_of}
use Rattle.chapters.specs.declared.Seen.{Seen}
use Rattle.chapters.specs.declared.Survey.{Survey}
use Rattle.chapters.specs.Joined.{Chapters, chapter_at, is_earlier}
use Rattle.chapters.specs.Sizes.{points_at, parts_in}
use Rattle.chapters.specs.Rules.{chapter_rules, chapters_rules, record_rules}

-- a chapter that its rules accept, of which it is said whether another follows, and its points and its parts
pub record SeesAccepted (plans earlier : Bool) (r : Recipe) (s : Seen) : Type 0 where
  pub told : first_refusal (chapter_rules plans earlier r) ≡ Accepted
  pub points_are : s.points ≡ points_of r
  pub parts_are : s.parts ≡ parts_of r

-- what is seen of a chapter: that, or the refusal of its rules
abbrev pub Sees : Bool → Bool → Recipe → Result Seen Broken → Type 0
Sees plans earlier r (Ok seen) = SeesAccepted plans earlier r seen
Sees plans earlier r (Err broken) = first_refusal (chapter_rules plans earlier r) ≡ Err broken

-- of chapter k
abbrev pub SeesAt : Bool → Chapters → ℕ → Result Seen Broken → Type 0
SeesAt plans rs k s = Sees plans (is_earlier rs k) (chapter_at rs k) s

-- the points of the wanted chapter, the points before it, the points of all, the most in one, and the parts
pub record Counted (rs : Chapters) (wanted : ℕ) (s : Survey) : Type 0 where
  pub own_is : s.own ≡ points_at rs wanted
  pub before_is : wanted ≤ length rs → s.before ≡ sum_below (points_at rs) wanted
  pub all_is : s.all ≡ sum_below (points_at rs) (length rs)
  pub most_is : s.most ≡ greatest_below (points_at rs) (length rs)
  pub parts_is : s.parts ≡ parts_in rs

-- what was counted of chapters that their rules accept, or the refusal of these
abbrev pub Surveyed : Bool → Chapters → ℕ → Result Survey Broken → Type 0
Surveyed plans rs wanted (Ok survey) = (first_refusal (chapters_rules plans rs) ≡ Accepted) × Counted rs wanted survey
Surveyed plans rs wanted (Err broken) = first_refusal (chapters_rules plans rs) ≡ Err broken

-- the same with the rules on the number and on the cell before them
abbrev pub Tried : Bool → Cell → Chapters → ℕ → Result Survey Broken → Type 0
Tried plans c rs wanted (Ok survey) = (first_refusal (record_rules plans c rs) ≡ Accepted) × Counted rs wanted survey
Tried plans c rs wanted (Err broken) = first_refusal (record_rules plans c rs) ≡ Err broken

-- what is counted with chapter k, which has so many points and parts
unfoldable pub counted_with : Survey → ℕ → ℕ → ℕ → ℕ → Survey
counted_with counts k wanted points parts =
    record {
      own = cond (eqb k wanted) points counts.own;
      before = cond (ltb k wanted) (counts.before + points) counts.before;
      all = counts.all + points;
      most = max points counts.most;
      parts = max parts counts.parts;
    }
