-- What computed certificates show of any cell and recipe: moves and ranks that pass the test of a closed table make the recipe
-- realisable, stages that pass theirs show that it is not. Assumes nothing.
use mathlib.Core.Path.{◌≡◌, sym, ◌∙◌}
use mathlib.Core.Bool.{true}
use mathlib.Core.List.{List, [], ◌∷◌}
use Prim.Native.Nat.{ℕ, ◌<◌, ◌≤◌}
use native.Mathlib.Omega.{arith}
use lib.ListN.{length}
use Rattle.refusals.specs.Verdict.{Accepted}
use Rattle.cell.specs.declared.Cell.{Cell}
use Rattle.recipe.specs.declared.Recipe.{Recipe}
use Rattle.positions.specs.declared.Configuration.{Configuration}
use Rattle.positions.specs.Sizes.{sizes_of}
use Rattle.positions.specs.Position.{start, entry_of}
use Rattle.positions.specs.Rules.{check_sizes}
use Rattle.chapters.specs.Joined.{point_in, first_point}
use Rattle.chapters.specs.Sizes.{sizes_in}
use Rattle.run.specs.Book.{Call}
use Rattle.run.specs.Promises.{Promises}
use Rattle.simulation.specs.Simulation.{Position, Greatest, Realisable}
use Rattle.simulation.proofs.ClosedTableTest.{rank_of, is_closed, closed_table}
use Rattle.simulation.proofs.StageTest.{stage_of, are_stages}
use Rattle.simulation.proofs.StageListSound.{stages_lost}
use Rattle.simulation.proofs.CellMachine.{starts}
use Rattle.simulation.proofs.ClosedTablePromises.{closed_promises}
use Rattle.simulation.proofs.SimulationByMoves.{closed_holds, lost_never}
use Rattle.worked.proofs.SingleRecipes.{single_entries, single_entry, single_position, single_checked, all_checked, single_closed, single_lost}

module _ (c : Cell) (r : Recipe) (sized : check_sizes c r ≡ Accepted) where
  -- a position at which a closed table has an entry is in the greatest simulation
  pub entry_greatest :
      (table ranks : List ℕ)
      → is_closed c r (sizes_of c r) table ranks ≡ true
      → (p : ℕ) (a : Configuration)
      → Position (sizes_of c r) p a
      → (entry_of (sizes_of c r) table p a ≡ 0 → ⊥)
      → Greatest c (r ∷ []) (sizes_in c (r ∷ [])) (point_in 0 p) a
  entry_greatest table ranks closed p a here some =
      closed_holds c (r ∷ []) (sizes_in c (r ∷ [])) (all_checked c r sized) table (λ q b. rank_of (sizes_of c r) ranks q.point b)
      (single_closed c r sized table (rank_of (sizes_of c r) ranks)
      (closed_table c r (sizes_of c r) table ranks (single_checked c r sized) closed))
      (point_in 0 p) a (single_position c r p a here) (λ none. some (sym (single_entry c r table p a) ∙ none))

  -- the start is a position
  begins : Position (sizes_of c r) 0 start
  begins = starts c r (sizes_of c r) (single_checked c r sized)

  pub closed_realisable :
      (table ranks : List ℕ)
      → is_closed c r (sizes_of c r) table ranks ≡ true
      → (entry_of (sizes_of c r) table 0 start ≡ 0 → ⊥)
      → Realisable c (r ∷ [])
  closed_realisable table ranks closed = entry_greatest table ranks closed 0 start begins

  -- and it keeps every promise of demand 3 from the start on, for every list of calls
  pub closed_keeps :
      (table ranks : List ℕ)
      → is_closed c r (sizes_of c r) table ranks ≡ true
      → (sizes_of c r).positions ≤ length table
      → (entry_of (sizes_of c r) table 0 start ≡ 0 → ⊥)
      → (calls : List Call)
      → Promises c (r ∷ []) (sizes_in c (r ∷ [])) table first_point start calls
  closed_keeps table ranks closed long some =
      closed_promises c (r ∷ []) table (λ q b. rank_of (sizes_of c r) ranks q.point b) (all_checked c r sized)
      (omega (arith, single_entries c r))
      (single_closed c r sized table (rank_of (sizes_of c r) ranks)
      (closed_table c r (sizes_of c r) table ranks (single_checked c r sized) closed))
      first_point start (single_position c r 0 start begins) (λ none. some (sym (single_entry c r table 0 start) ∙ none))

  pub staged_unrealisable :
      (stages : List ℕ)
      → are_stages c r (sizes_of c r) stages ≡ true
      → 0 < stage_of (sizes_of c r) stages 0 start
      → Realisable c (r ∷ [])
      → ⊥
  staged_unrealisable stages staged high =
      lost_never c (r ∷ []) (sizes_in c (r ∷ [])) (all_checked c r sized) first_point start (single_position c r 0 start begins)
      (single_lost c r sized 0 start begins
      (stages_lost c r (sizes_of c r) stages (single_checked c r sized) staged 0 start begins high))
