-- "A rule choosing single moves": rules that keep every promise, and rules that break one. Assumes nothing.
use Rattle.std.specs.Prelude.{List}
use Rattle.cell.specs.declared.Cell.{Cell}
use Rattle.positions.specs.declared.Configuration.{Configuration}
use Rattle.chapters.specs.Joined.{Chapters, Point}
use Rattle.chapters.specs.Sizes.{Measures}
use Rattle.run.specs.Book.{Call}
use Rattle.run.specs.Promises.{Rule, RuleKeeps}

-- the rule "breaks one of these for some list"
pub record Breaks (c : Cell) (rs : Chapters) (zs : Measures) (p : Point) (a : Configuration) (rule : Rule) : Type 0 where
  pub calls : List Call
  pub broken : RuleKeeps c rs zs rule p a calls → ⊥

-- a rule that keeps every promise for every list
pub record Rules (c : Cell) (rs : Chapters) (zs : Measures) (p : Point) (a : Configuration) : Type 0 where
  pub rule : Rule
  pub keeps : (calls : List Call) → RuleKeeps c rs zs rule p a calls
