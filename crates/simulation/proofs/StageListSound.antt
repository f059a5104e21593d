-- Positions that a list of stages shows to be lost: what the checker computes of the list is enough.
-- Assumes nothing.
use mathlib.Core.Path.{◌≡◌, ap}
use mathlib.Core.Logic.{⊎_elim}
use mathlib.Core.Bool.{true, false}
use mathlib.Core.List.{List}
use Prim.Native.Nat.{ℕ, ◌<◌, ◌≤◌}
use lib.Dec.{ltb, leb}
use borrow.Author.Tests.{ltb-true, leb-true}
use Rattle.refusals.proofs.Verdicts.{and_left, and_right}
use Rattle.cell.specs.declared.Cell.{Cell}
use Rattle.recipe.specs.declared.Recipe.{Recipe}
use Rattle.positions.specs.declared.Configuration.{Configuration}
use Rattle.positions.specs.declared.Sizes.{Sizes}
use Rattle.positions.specs.Checked.{Checked}
use Rattle.steps.specs.Lines.{then_of, else_of}
use Rattle.steps.specs.Effect.{carried, effect}
use Rattle.steps.proofs.Effects.{read_carried}
use Rattle.simulation.specs.Simulation.{Position}
use Rattle.simulation.proofs.Machine.{goes, Lost}
use Rattle.simulation.proofs.CellMachine.{kind_in, machine_of, finish_kind, goes_then, goes_else, laws}
use Rattle.simulation.proofs.Stages.{Falls, Stages, staged_lost}
use Rattle.simulation.proofs.StageTest.{stage_of, no_more, lower, are_stages, Staged, stages_hold}

no_more_lem : (s t : ℕ) → no_more s t ≡ true → (0 < s) × (s ≤ t)
unfolding no_more
no_more_lem s t e = (ltb-true 0 s (and_left (ltb 0 s) (leb s t) e), leb-true s t (and_right (ltb 0 s) (leb s t) e))

is_lower : (s t : ℕ) → lower s t ≡ true → (0 < s) × (s < t)
unfolding lower
is_lower s t e = (ltb-true 0 s (and_left (ltb 0 s) (ltb s t) e), ltb-true s t (and_right (ltb 0 s) (ltb s t) e))

module _ (c : Cell) (r : Recipe) (z : Sizes) (stages : List ℕ) (K : Checked c r z) (good : are_stages c r z stages ≡ true) where
  carry_falls :
      (p : ℕ) (a d f : Configuration) (e : ℕ)
      → Staged c r z stages p a
      → effect c r p a e ≡ carried d f
      → Falls (machine_of c r z) (stage_of z stages) p d f (stage_of z stages p a)
  carry_falls p a d f e staged is =
      let some = (read_carried c r p a e is).some in
      ⊎_elim
      (λ low.
      let t = is_lower _ _ low in
      let same : stage_of z stages (goes (kind_in r p) p true) d ≡ stage_of z stages (then_of r p) d =
      ap (λ (q : ℕ). stage_of z stages q d) (goes_then r p some) in
      record { outcome = true; above = rw same t.0; below = rw same t.1 })
      (λ low.
      let t = is_lower _ _ low.1 in
      let same : stage_of z stages (goes (kind_in r p) p false) f ≡ stage_of z stages (else_of r p) f =
      ap (λ (q : ℕ). stage_of z stages q f) (goes_else r p low.0) in
      record { outcome = false; above = rw same t.0; below = rw same t.1 })
      (staged.carry e d f is)

  are_stages_lem : Stages (machine_of c r z) (stage_of z stages)
  are_stages_lem =
      record {
        going = λ p a here fit high done. (stages_hold c r z stages K good p a here fit high).going (finish_kind r p done);
        quiet = λ p a b e here fit high is. no_more_lem _ _ ((stages_hold c r z stages K good p a here fit high).quiet e b is);
        carry = λ p a d f e here fit high is. carry_falls p a d f e (stages_hold c r z stages K good p a here fit high) is;
      }

  -- a position of a stage above 0 is lost
  pub stages_lost : (p : ℕ) (a : Configuration) → Position z p a → 0 < stage_of z stages p a → Lost (machine_of c r z) p a
  stages_lost p a here high = staged_lost (laws c r z K) are_stages_lem p a here high
