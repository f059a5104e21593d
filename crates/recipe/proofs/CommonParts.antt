-- The parts that two sums have in common are those of their bitwise and. Assumes nothing.
use mathlib.Core.Path.{◌≡◌, refl, ap, ◌∙◌}
use mathlib.Core.Bool.{Bool, true, false, not, ◌&&◌}
use Prim.Native.Nat.{ℕ, zero, suc, ◌+◌, ◌*◌, ◌/◌, ◌%◌, ◌^◌, ◌<◌, min}
use native.Mathlib.Nat.{div-lt_iff_lt-mul, pow-suc}
use native.Mathlib.Omega.{arith}
use lib.Bits.{bit_and, and_step, and_shr, and_lt}
use lib.Dec.{eqb}
use lib.Pow.{pow_pos}
use borrow.Author.Tests.{eqb-false, eq-eqb, ne_eqb}
use Rattle.refusals.specs.Search.{any_below}
use Rattle.refusals.proofs.Verdicts.{or_left, or_right}
use Rattle.recipe.specs.Rules.{holds_part, common}

-- a sum below 2 ^ k that holds no part below k is 0
no_part : (sum k : ℕ) → sum < 2 ^ k → any_below (holds_part sum) k ≡ false → sum ≡ 0
unfolding any_below holds_part
no_part sum zero low none = omega arith
no_part sum (suc k) low none =
    let even : sum / 2 ^ k % 2 ≡ 1 → ⊥ = eqb-false _ _ (or_left _ _ none) in
    let top : sum / 2 ^ k < 2 = (div-lt_iff_lt-mul (pow_pos k)).1 (omega (arith, pow-suc 2 k)) in
    let within : sum / 2 ^ k < 1 = omega arith in
    no_part sum k (omega (arith, (div-lt_iff_lt-mul (pow_pos k)).0 within)) (or_right (holds_part sum k) _ none)

-- the last binary digit of a bitwise and is 1 where that of both numbers is
odd : (p q rest : ℕ) → p < 2 → q < 2 → eqb ((rest * 2 + min p q) % 2) 1 ≡ (eqb p 1 && eqb q 1)
odd zero q rest low high = ne_eqb ((rest * 2 + min 0 q) % 2) 1 (λ e. omega arith)
odd (suc zero) zero rest low high = ne_eqb ((rest * 2 + min 1 0) % 2) 1 (λ e. omega arith)
odd (suc zero) (suc zero) rest low high = eq-eqb ((rest * 2 + min 1 1) % 2) 1 (omega arith)
odd (suc zero) (suc (suc q)) rest low high = absurd (omega arith)
odd (suc (suc p)) q rest low high = absurd (omega arith)

both : (a b part : ℕ) → holds_part (bit_and a b) part ≡ (holds_part a part && holds_part b part)
unfolding holds_part
both a b part =
    let x = a / 2 ^ part in
    let y = b / 2 ^ part in
    ap (λ (z : ℕ). eqb (z % 2) 1) (and_shr a b part ∙ and_step x y) ∙ odd (x % 2) (y % 2) (bit_and (x / 2) (y / 2)) (omega arith) (omega arith)

-- the sum of the common parts is 0 exactly if there are none
pub common_and : (a b : ℕ) → a < 256 → b < 256 → not (eqb (bit_and a b) 0) ≡ common a b
unfolding common any_below holds_part
common_and a b low high =
    decide (bit_and a b) (any_below (holds_part (bit_and a b)) 8) (and_lt 8 a b low high) refl ∙ λ i. any_below (λ part. both a b part i) 8
  where
    decide : (sum : ℕ) (found : Bool) → sum < 256 → any_below (holds_part sum) 8 ≡ found → not (eqb sum 0) ≡ found
    decide zero found within e = e
    decide (suc sum) true within e = rw (ne_eqb (suc sum) 0 (λ z. omega arith))
    decide (suc sum) false within e = absurd (omega (arith, no_part (suc sum) 8 within e))
