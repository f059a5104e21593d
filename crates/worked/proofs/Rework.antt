-- "a least set, which loses rework loops": the least set lacks the bench example's start, which the greatest simulation holds.
-- Assumes nothing.
use mathlib.Core.Path.{◌≡◌, refl, sym, ap, ◌∙◌}
use mathlib.Core.List.{[], ◌∷◌}
use Prim.Native.Nat.{ℕ}
use native.Mathlib.Omega.{arith}
use Rattle.refusals.specs.Search.{first_below, is_of}
use Rattle.positions.specs.declared.Configuration.{Configuration}
use Rattle.positions.specs.Position.{start}
use Rattle.steps.specs.Lines.{first_line_of, kind_of, then_of, else_of}
use Rattle.simulation.specs.Simulation.{Realisable}
use Rattle.worked.specs.Moves.{filled, bench_cell, bench_recipe}
use Rattle.worked.specs.LeastSet.{Least, at_end, goes_on}
use Rattle.worked.proofs.BenchPlan.{bench_planned}

-- the points of the rework loop: part made, part tested, part taken out
data Looping (p : ℕ) : Type 0 where
  made : p ≡ 0 → Looping p
  tested : p ≡ 1 → Looping p
  taken_out : p ≡ 3 → Looping p

record Computed : Type 0 where
  first_kind : kind_of bench_recipe 0 ≡ 1
  first_then : then_of bench_recipe 0 ≡ 1
  test_kind : kind_of bench_recipe 1 ≡ 2
  test_else : else_of bench_recipe 1 ≡ 3
  out_kind : kind_of bench_recipe 3 ≡ 1
  out_then : then_of bench_recipe 3 ≡ 0

computed : Computed
unfolding is_of first_below first_line_of kind_of then_of else_of filled bench_recipe
computed = record { first_kind = refl; first_then = refl; test_kind = refl; test_else = refl; out_kind = refl; out_then = refl }

looping_goes : (p : ℕ) → Looping p → kind_of bench_recipe p ≡ 0 → ⊥
looping_goes p (made is) none = omega (arith, computed.first_kind, sym (ap (kind_of bench_recipe) is) ∙ none)
looping_goes p (tested is) none = omega (arith, computed.test_kind, sym (ap (kind_of bench_recipe) is) ∙ none)
looping_goes p (taken_out is) none = omega (arith, computed.out_kind, sym (ap (kind_of bench_recipe) is) ∙ none)

-- some outcome always leads on in the loop, so no member of the least set is in it
loop_lacks : {p : ℕ} {a : Configuration} → Least bench_cell bench_recipe p a → Looping p → ⊥
loop_lacks {p} (at_end none) loops = looping_goes p loops none
loop_lacks {p} (goes_on step lines some silently carrying then else) (made is) =
    loop_lacks then (tested (ap (then_of bench_recipe) is ∙ computed.first_then))
loop_lacks {p} (goes_on step lines some silently carrying then else) (tested is) =
    loop_lacks (else (ap (kind_of bench_recipe) is ∙ computed.test_kind)) (taken_out (ap (else_of bench_recipe) is ∙ computed.test_else))
loop_lacks {p} (goes_on step lines some silently carrying then else) (taken_out is) =
    loop_lacks then (made (ap (then_of bench_recipe) is ∙ computed.out_then))

pub record Rework : Type 0 where
  pub least_lacks : Least bench_cell bench_recipe 0 start → ⊥
  pub greatest_holds : Realisable bench_cell (bench_recipe ∷ [])

pub rework : Rework
rework = record { least_lacks = λ member. loop_lacks member (made refl); greatest_holds = bench_planned.accepted_holds refl }
