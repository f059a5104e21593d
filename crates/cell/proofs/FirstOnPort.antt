-- The first line that has an act on a port, and the search for a partner from there on.
-- Assumes nothing.
use mathlib.Core.Path.{◌≡◌}
use mathlib.Core.Bool.{false}
use mathlib.Core.List.{List}
use Prim.Native.Nat.{ℕ, ◌<◌}
use native.Mathlib.Omega.{arith}
use lib.ListN.{get_or}
use native.Mathlib.Decide.{ℕ_discrete}
use borrow.Author.Tests.{eq-eqb, ne_eqb}
use Rattle.cell.specs.Inner.{place, Starts}
use Rattle.cell.specs.Rules.{other_act, partner}

-- no line before k is a partner of line i; what lies past the count may be one
abbrev pub Passed : List ℕ → List ℕ → List ℕ → ℕ → ℕ → ℕ → Type 0
Passed resource act arg count i k = (n : ℕ) → n < k → n < count → partner resource act arg i n ≡ false

module _ (resource act arg : List ℕ) (count i : ℕ) where
  -- a partner has the place of the other act on line i's port, so none stands before the line that is stored there
  pub passed_start :
      (first : List ℕ)
      → Starts act arg count 0 first
      → Passed resource act arg count i (get_or first (place (other_act (get_or act i 0)) (get_or arg i 0)) 0)
  unfolding partner
  passed_start first starts n low high =
      decide (ℕ_discrete (get_or act n 0) (other_act (get_or act i 0))) (ℕ_discrete (get_or arg n 0) (get_or arg i 0))
    where
      decide : Dec (get_or act n 0 ≡ other_act (get_or act i 0)) → Dec (get_or arg n 0 ≡ get_or arg i 0) → partner resource act arg i n ≡ false
      decide (no ne) d = rw (ne_eqb _ _ ne)
      decide (yes e) (no ne) = rw (eq-eqb _ _ e, ne_eqb _ _ ne)
      decide (yes e) (yes f) = absurd (omega (arith, rw (e, f) at (starts n (omega arith) high)))
