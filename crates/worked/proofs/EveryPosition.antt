-- A test of every position of every chapter, by number. Assumes nothing.
use mathlib.Core.Path.{◌≡◌}
use mathlib.Core.Bool.{Bool, true}
use Prim.Native.Nat.{ℕ}
use lib.ListN.{length}
use Rattle.refusals.specs.Search.{all_below}
use Rattle.refusals.proofs.EveryBelow.{all_at}
use Rattle.cell.specs.declared.Cell.{Cell}
use Rattle.positions.specs.declared.Configuration.{Configuration}
use Rattle.positions.specs.Position.{point_at, configuration_at}
use Rattle.positions.proofs.CheckedSizes.{checked_fits}
use Rattle.chapters.specs.Joined.{Chapters, Point, point_in, recipe_at}
use Rattle.chapters.specs.Sizes.{Measures}
use Rattle.chapters.specs.Checked.{AllChecked}
use Rattle.simulation.specs.Simulation.{PositionIn}
use Rattle.simulation.proofs.JoinedMachine.{checked_at}
use Rattle.simulation.proofs.NumberedPositions.{by_number}

unfoldable pub in_chapter : Measures → (Point → Configuration → Bool) → ℕ → Bool
in_chapter zs test k = all_below (λ m. test (point_in k (point_at (zs k) m)) (configuration_at (zs k) m)) (zs k).positions

unfoldable pub everywhere : Chapters → Measures → (Point → Configuration → Bool) → Bool
everywhere rs zs test = all_below (in_chapter zs test) (length rs)

module _ (c : Cell) (rs : Chapters) (zs : Measures) (K : AllChecked c rs zs) (test : Point → Configuration → Bool) where
  pub at_position : everywhere rs zs test ≡ true → (p : Point) (a : Configuration) → PositionIn rs zs p a → test p a ≡ true
  unfolding everywhere in_chapter
  at_position all p a at =
      let k = p.chapter in
      by_number (zs k) (checked_fits c (recipe_at rs p) (zs k) (checked_at c rs zs K p a at)) (λ q b. test (point_in k q) b ≡ true)
      (λ m low.
      all_at (λ m. test (point_in k (point_at (zs k) m)) (configuration_at (zs k) m)) (zs k).positions m
      (all_at (in_chapter zs test) (length rs) k all at.there) low)
      p.point a at.here
