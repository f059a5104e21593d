-- A cell that has all lines of another, and beside them operations alone, simulates at least what the other does. Assumes nothing.
use mathlib.Core.Path.{◌≡◌, sym, ap, ◌∙◌}
use mathlib.Core.Bool.{true}
use Prim.Native.Nat.{ℕ, ◌<◌, ◌≤◌}
use Rattle.cell.specs.declared.Cell.{Cell}
use Rattle.recipe.specs.declared.Recipe.{Recipe}
use Rattle.positions.specs.declared.Configuration.{Configuration}
use Rattle.positions.specs.declared.Sizes.{Sizes}
use Rattle.positions.specs.Checked.{Checked}
use Rattle.steps.specs.Lines.{place_of, lines_of, kind_of}
use Rattle.steps.specs.Limits.{none_overfull}
use Rattle.steps.proofs.PointLines.{point_lines}
use Rattle.steps.proofs.StationLoads.{silent_steps}
use Rattle.steps.proofs.AddedOperations.{AddedOperations, moved, added_room, added_after, added_silent, added_after_carry, added_carries}
use Rattle.chapters.specs.Joined.{Chapters, Point, recipe_at, kind_at, then_at, else_at}
use Rattle.chapters.specs.Sizes.{Measures}
use Rattle.chapters.specs.Checked.{AllChecked}
use Rattle.simulation.specs.Simulation.{Position, PositionIn, Silently, none, more, Set, GoesOn, Simulation, Greatest}
use Rattle.simulation.proofs.CellMachine.{position_point, position_places}
use Rattle.simulation.proofs.SinglePaths.{singly_stays}
use Rattle.simulation.proofs.JointIsSingle.{silently_singly}

module _ (c d : Cell) (added : AddedOperations c d) (r : Recipe) (z : Sizes) (K : Checked c r z) where
  module _ (p : ℕ) (some : kind_of r p ≡ 0 → ⊥) (a : Configuration) (here : Position z p a) (fit : none_overfull c a ≡ true) where
    -- what silent joint steps lead to is in range
    path_places : {b : Configuration} → Silently c a b → (q : ℕ) → q < 8 → place_of b q ≤ 6
    path_places {b} path = position_places c r z K p b (singly_stays c r p z K here (silently_singly c r z K p some a here fit path))

    -- silent joint steps of the one cell lead to the same in the other
    silently_there : {b : Configuration} → Silently c a b → Silently d a b
    silently_there (none e) = none e
    silently_there (more {b} x path step e) =
        more (moved added.at x) (silently_there path) (added_silent c d added x b (path_places path) step)
        (e ∙ sym (added_after c d added x b (path_places path) (silent_steps c b x step)))

module _ (c d : Cell) (added : AddedOperations c d) (rs : Chapters) (zs : Measures) (K : AllChecked c rs zs) where
  module _ (p : Point) (some : kind_at rs p ≡ 0 → ⊥) (a : Configuration) (at : PositionIn rs zs p a) (fit : none_overfull c a ≡ true) where
    -- and with a carrying step to the same members
    on_there : (S : Set) → GoesOn c rs S p a → GoesOn d rs S p a
    on_there S next =
        let r = recipe_at rs p in
        let z = zs p.chapter in
        let C : Checked c r z = K.each p.chapter at.there in
        let most : (q : ℕ) → q < 8 → place_of next.before q ≤ 6 = path_places c d added r z C p.point some a at.here fit next.silently in
        let lines : 1 ≤ lines_of r p.point = (point_lines r C.recipe_passes p.point (position_point c r z C p.point a at.here)).some in
        let made = added_after_carry c d added r p.point next.step next.lines next.before next.carrying most C.cell_passes lines in
        record {
          before = next.before;
          silently = silently_there c d added r z C p.point some a at.here fit next.silently;
          step = moved added.at next.step;
          lines = λ j. added.at (next.lines j);
          carrying = added_carries c d added r p.point next.step next.lines next.before next.carrying most C.cell_passes lines;
          then = ap (S (then_at rs p)) (made 1) ∙ next.then;
          otherwise = λ test. ap (S (else_at rs p)) (made 0) ∙ next.otherwise test;
        }

  -- a simulation of the one cell is one of the other
  pub added_simulates : (S : Set) → Simulation c rs zs S → Simulation d rs zs S
  added_simulates S simulation =
      record {
        positions = simulation.positions;
        none_is_overfull = λ p a member. added_room c d added a ∙ simulation.none_is_overfull p a member;
        goes_on =
            λ p a member some. on_there p some a (simulation.positions p a member) (simulation.none_is_overfull p a member) S
            (simulation.goes_on p a member some);
        passes_on = simulation.passes_on;
      }

  -- so what the one's greatest simulation holds, the other's does
  pub added_greatest : (p : Point) (a : Configuration) → Greatest c rs zs p a → Greatest d rs zs p a
  added_greatest p a held =
      record { set = held.set; simulation = added_simulates held.set held.simulation; member = held.member }
