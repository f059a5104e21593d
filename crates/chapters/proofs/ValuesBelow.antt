-- The sum and the greatest of a function's values below a bound. Assumes nothing.
use mathlib.Core.Path.{◌≡◌, refl, ap, ◌∙◌}
use mathlib.Core.Bool.{Bool, true, false, ◌||◌}
use Prim.Native.Nat.{ℕ, zero, suc, ◌*◌, ◌<◌, ◌≤◌, max}
use native.Mathlib.Nat.{max-eq_left, max-eq_right, mul-le-mul_right}
use native.Mathlib.Decide.{dec_le}
use native.Mathlib.Omega.{arith}
use lib.Dec.{ltb}
use borrow.Author.Tests.{ltb-true, ltb-false, lt-ltb, le-ltb}
use Rattle.refusals.specs.Search.{any_below, greatest_below}
use Rattle.positions.specs.Radix.{sum_below}

-- values of which none is above a number add up to at most so many times that number
pub sum_most : (f : ℕ → ℕ) (n most : ℕ) → ((i : ℕ) → i < n → f i ≤ most) → sum_below f n ≤ n * most
unfolding sum_below
sum_most f zero most each = omega arith
sum_most f (suc n) most each = omega (arith, each n (omega arith), sum_most f n most (λ i low. each i (omega arith)))

-- the greatest of products by one number
pub greatest_times : (f : ℕ → ℕ) (w n : ℕ) → greatest_below (λ i. f i * w) n ≡ greatest_below f n * w
unfolding greatest_below
greatest_times f w zero = omega arith
greatest_times f w (suc n) = rw (greatest_times f w n) (decide (dec_le (greatest_below f n) (f n)))
  where
    decide : Dec (greatest_below f n ≤ f n) → max (f n * w) (greatest_below f n * w) ≡ max (f n) (greatest_below f n) * w
    decide (yes low) = rw (max-eq_left low) (max-eq_left (mul-le-mul_right w low))
    decide (no high) =
        let low : f n ≤ greatest_below f n = omega arith in
        rw (max-eq_right low) (max-eq_right (mul-le-mul_right w low))

-- the greater of two numbers is above a number if one of them is
above_greater : (m a b : ℕ) → ltb m (max a b) ≡ (ltb m a || ltb m b)
above_greater m a b = decide (ltb m a) refl
  where
    decide : (above : Bool) → ltb m a ≡ above → ltb m (max a b) ≡ (above || ltb m b)
    decide true e = lt-ltb m (max a b) (omega (arith, ltb-true m a e))
    decide false e = second (ltb m b) refl
      where
        second : (above : Bool) → ltb m b ≡ above → ltb m (max a b) ≡ above
        second true f = lt-ltb m (max a b) (omega (arith, ltb-true m b f))
        second false f = le-ltb m (max a b) (omega (arith, ltb-false m a e, ltb-false m b f))

-- so the greatest of some values is above it if some value is
pub greatest_above : (f : ℕ → ℕ) (m n : ℕ) → ltb m (greatest_below f n) ≡ any_below (λ i. ltb m (f i)) n
unfolding greatest_below any_below
greatest_above f m zero = le-ltb m 0 (omega arith)
greatest_above f m (suc n) =
    above_greater m (f n) (greatest_below f n) ∙ ap (λ (above : Bool). ltb m (f n) || above) (greatest_above f m n)
