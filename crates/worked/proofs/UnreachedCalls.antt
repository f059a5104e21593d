-- What every plan and install call answers for a recipe with a point that nothing leads to: theorems over the calls' contracts,
-- whatever was lent. Assumes nothing.
use mathlib.Core.Path.{◌≡◌, refl, sym}
use mathlib.Core.List.{List, [], ◌∷◌}
use Prim.Native.Nat.{ℕ, ◌<◌}
use native.Mathlib.Omega.{arith}
use lib.ListN.{length}
use Rattle.refusals.specs.declared.Refusal.TheVariants.{UnreachedPoint}
use Rattle.refusals.specs.Verdict.{Verdict, Accepted, Refused}
use Rattle.cell.specs.declared.Cell.{Cell}
use Rattle.recipe.specs.declared.Recipe.{Recipe}
use Rattle.positions.specs.Sizes.{points_of}
use Rattle.positions.specs.Rules.{check_records}
use Rattle.positions.proofs.AcceptedRecords.{both_ok, records_ok}
use Rattle.reached.specs.Reached.{Reached}
use Rattle.reached.proofs.Chains.{one_unreached}
use Rattle.planner.specs.Call.{PlanCall}
use Rattle.planner.proofs.OnePlan.{unreached_checked}
use Rattle.planner.proofs.Demands as demands
use Rattle.install.specs.Call.{Listing, InstallCall}
use Rattle.install.proofs.InstallAnswers.{plan_refused}
use Rattle.worked.specs.Moves.{bench_cell}
use Rattle.worked.specs.Unreached.{forgotten_recipe, loop_recipe, turned_else}
use Rattle.worked.proofs.InstallCalls.{Refuses, refuses}
use Rattle.worked.proofs.UnreachedRecipes.{computed, points}

-- "22 for such a recipe in the planner", "the list of [2] too": nothing that is lent changes, however long it is
pub record Gets22 (c : Cell) (r : Recipe) : Type 0 where
  pub plan :
      (table scratch table' scratch' : List ℕ) (verdict : Verdict)
      → PlanCall c (r ∷ []) table scratch table' scratch' verdict
      → (verdict ≡ Refused UnreachedPoint 0) × (table' ≡ table) × (scratch' ≡ scratch)
  pub install :
      (table scratch list table' scratch' list' : List ℕ) (answer : Listing)
      → InstallCall c r table scratch list table' scratch' list' answer
      → Refuses UnreachedPoint table scratch list table' scratch' list' answer

pub gets_22 : (c : Cell) (r : Recipe) → check_records c r ≡ Accepted → (q : ℕ) → q < points_of r → (Reached r q → ⊥) → Gets22 c r
gets_22 c r fine q low never =
    record {
      plan = λ table scratch table' scratch' verdict call. demands.unreached_refused c r table scratch table' scratch' verdict call fine q low never;
      install =
          λ table scratch list table' scratch' list' answer call.
          let checked =
          unreached_checked c r (length table) (length scratch) fine (one_unreached r (both_ok c r fine).1 q low never) in
          refuses c r table scratch list table' scratch' list' answer call UnreachedPoint
          (sym (plan_refused c r (length table) (length scratch) (sym checked) refl));
    }

pub forgotten_22 : Gets22 bench_cell forgotten_recipe
forgotten_22 = gets_22 bench_cell forgotten_recipe (records_ok _ _ computed.reading.sized) 5 (omega (arith, computed.six)) points.forgotten

pub loop_22 : Gets22 bench_cell loop_recipe
loop_22 = gets_22 bench_cell loop_recipe (records_ok _ _ computed.loop_sized) 6 (omega (arith, computed.seven)) points.loop.1

pub turned_else_22 : Gets22 bench_cell turned_else
turned_else_22 = gets_22 bench_cell turned_else (records_ok _ _ computed.turned_sized) 3 (omega (arith, computed.five)) points.turned_else_lem
