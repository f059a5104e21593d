-- "a position with an overfull station is in no simulation, ends included": so every plan has 0 there, whatever the cell and the
-- recipe. Assumes nothing.
use mathlib.Core.Path.{◌≡◌, sym, ◌∙◌}
use mathlib.Core.Bool.{Bool, false, true≢false}
use mathlib.Core.List.{List, [], ◌∷◌}
use Prim.Native.Nat.{ℕ}
use native.Mathlib.Decide.{ℕ_discrete}
use lib.ListN.{length}
use Rattle.refusals.specs.Verdict.{Verdict, Accepted}
use Rattle.cell.specs.declared.Cell.{Cell}
use Rattle.recipe.specs.declared.Recipe.{Recipe}
use Rattle.positions.specs.declared.Configuration.{Configuration}
use Rattle.positions.specs.Sizes.{sizes_of}
use Rattle.positions.specs.Position.{entry_of}
use Rattle.steps.specs.Limits.{none_overfull}
use Rattle.chapters.specs.Joined.{Chapters, Point, point_in}
use Rattle.chapters.specs.Sizes.{Measures, sizes_in, entry_in}
use Rattle.simulation.specs.Simulation.{Position, PositionIn, Greatest}
use Rattle.simulation.specs.Plan.{Planned}
use Rattle.planner.specs.Call.{check_plan, PlanCall}
use Rattle.worked.proofs.SingleRecipes.{single_entry, single_position}

module _ (c : Cell) (rs : Chapters) (zs : Measures) (p : Point) (a : Configuration) (full : none_overfull c a ≡ false) where
  pub overfull_out : Greatest c rs zs p a → ⊥
  overfull_out held = true≢false (sym (held.simulation.none_is_overfull p a held.member) ∙ full)

  overfull_zero : (before table : List ℕ) (refused : Bool) → Planned c rs zs before table refused → PositionIn rs zs p a → entry_in zs table p a ≡ 0
  overfull_zero before table refused plan valid = decide (ℕ_discrete (entry_in zs table p a) 0)
    where
      decide : Dec (entry_in zs table p a ≡ 0) → entry_in zs table p a ≡ 0
      decide (yes none) = none
      decide (no some) = absurd (overfull_out (plan.entry_holds p a valid some))

-- of every plan call that the rules before 15 let pass, 15 given or not
pub overfull_called :
    (c : Cell) (r : Recipe) (table scratch table' scratch' : List ℕ) (verdict : Verdict)
    → PlanCall c (r ∷ []) table scratch table' scratch' verdict
    → check_plan c (r ∷ []) (length table) (length scratch) ≡ Accepted
    → (p : ℕ) (a : Configuration)
    → Position (sizes_of c r) p a
    → none_overfull c a ≡ false
    → entry_of (sizes_of c r) table' p a ≡ 0
overfull_called c r table scratch table' scratch' verdict call passes p a valid full =
    sym (single_entry c r table' p a)
    ∙ overfull_zero c (r ∷ []) (sizes_in c (r ∷ [])) (point_in 0 p) a full table table' call.refused (call.planned passes) (single_position c r p a valid)
