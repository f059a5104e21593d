-- A search over the numbers below a bound, turn by turn: what a loop that counts up has shown, and what it shows next.
-- Assumes nothing.
use mathlib.Core.Path.{◌≡◌, refl, sym, subst, ◌∙◌}
use mathlib.Core.Logic.{⊎_elim}
use mathlib.Core.Bool.{Bool, true, false, cond, not, ◌&&◌, ◌||◌}
use Prim.Native.Nat.{ℕ, zero, suc, ◌+◌, ◌<◌, ◌≤◌, max}
use native.Mathlib.Nat.{le_of_suc-le-suc, eq-or-lt_of_le, not-suc-le-zero, le_trans, le-max_left, le-max_right, max-le, max-eq_left, max-eq_right}
use native.Mathlib.Numerals.{add-one}
use native.Mathlib.Omega.{arith}
use lib.Dec.{eqb}
use borrow.Author.Tests.{eq-eqb, ne_eqb, eqb-true, eqb-false}
use Rattle.refusals.specs.Search.{first_below, any_below, greatest_below}

-- the second of two tests holds
pub or_true : (b t : Bool) → t ≡ true → (b || t) ≡ true
or_true true t e = refl
or_true false t e = e

module _ (f : ℕ → Bool) where
  pub any_more : (i : ℕ) → any_below f i ≡ false → f i ≡ false → any_below f (i + 1) ≡ false
  unfolding any_below
  any_more i before here = rw (add-one, here, before)

  pub any_hit : (i n : ℕ) → i < n → f i ≡ true → any_below f n ≡ true
  unfolding any_below
  any_hit i zero low here = absurd (not-suc-le-zero low)
  any_hit i (suc n) low here =
      ⊎_elim
      (λ e. last (subst (λ (m : ℕ). f m ≡ true) e here))
      (λ lt. or_true (f n) (any_below f n) (any_hit i n lt here))
      (eq-or-lt_of_le (le_of_suc-le-suc low))
    where
      last : f n ≡ true → (f n || any_below f n) ≡ true
      last h = rw h

  pub first_more : (i : ℕ) → first_below f i ≡ i → f i ≡ false → first_below f (i + 1) ≡ i + 1
  unfolding first_below
  first_more i before here = rw (add-one, eq-eqb (first_below f i) i before, here)

  pub first_hit : (i n : ℕ) → i < n → first_below f i ≡ i → f i ≡ true → first_below f n ≡ i
  unfolding first_below
  first_hit i zero low before here = absurd (not-suc-le-zero low)
  first_hit i (suc n) low before here =
      ⊎_elim (λ e. last e) (λ lt. later lt (first_hit i n lt before here)) (eq-or-lt_of_le (le_of_suc-le-suc low))
    where
      last : i ≡ n → first_below f (suc n) ≡ i
      last e = subst (λ (m : ℕ). first_below f (suc m) ≡ i) e (rw (eq-eqb (first_below f i) i before, here))

      later : i < n → first_below f n ≡ i → first_below f (suc n) ≡ i
      later lt e = rw (ne_eqb (first_below f n) n (λ z. omega arith)) e

  pub first_le : (n : ℕ) → first_below f n ≤ n
  unfolding first_below
  first_le zero = omega arith
  first_le (suc n) = step (eqb (first_below f n) n) (f n) (first_le n)
    where
      step : (a b : Bool) → first_below f n ≤ n → cond a (cond b n (suc n)) (first_below f n) ≤ suc n
      step true true h = omega arith
      step true false h = omega arith
      step false b h = omega arith

  pub first_at_most : (i n : ℕ) → i < n → f i ≡ true → first_below f n ≤ i
  unfolding first_below
  first_at_most i zero low here = absurd (not-suc-le-zero low)
  first_at_most i (suc n) low here =
      ⊎_elim
      (λ e. last (eqb (first_below f n) n) (subst (λ (m : ℕ). f m ≡ true) e here) e)
      (λ lt. later lt (first_at_most i n lt here))
      (eq-or-lt_of_le (le_of_suc-le-suc low))
    where
      last : (b : Bool) → f n ≡ true → i ≡ n → cond b (cond (f n) n (suc n)) (first_below f n) ≤ i
      last true h e = rw h (omega arith)
      last false h e = omega (arith, first_le n)

      later : i < n → first_below f n ≤ i → first_below f (suc n) ≤ i
      later lt h = rw (ne_eqb (first_below f n) n (λ (z : first_below f n ≡ n). omega arith)) h

  -- where the search finds nothing below n, no number below n is one
  pub first_none : (i n : ℕ) → i < n → first_below f n ≡ n → f i ≡ false
  first_none i n low none = decide (f i) refl
    where
      decide : (b : Bool) → f i ≡ b → f i ≡ false
      decide false e = e
      decide true e = absurd (omega (arith, first_at_most i n low e))

  -- what the search finds below n is one
  pub first_found : (n : ℕ) → first_below f n < n → f (first_below f n) ≡ true
  unfolding first_below
  first_found zero low = absurd (not-suc-le-zero low)
  first_found (suc n) low = step (first_found n) (eqb (first_below f n) n) refl (f n) refl low
    where
      step :
          (first_below f n < n → f (first_below f n) ≡ true)
          → (a : Bool)
          → eqb (first_below f n) n ≡ a
          → (b : Bool)
          → f n ≡ b
          → cond a (cond b n (suc n)) (first_below f n) < suc n
          → f (cond a (cond b n (suc n)) (first_below f n)) ≡ true
      step before true same true here less = here
      step before true same false here less = absurd (omega arith)
      step before false other b here less = before (omega (arith, first_le n, eqb-false (first_below f n) n other))

  -- the search passes over numbers that are none
  pub first_past : (n : ℕ) → ((i : ℕ) → i < n → f i ≡ false) → first_below f n ≡ n
  unfolding first_below
  first_past zero none = refl
  first_past (suc n) none = rw (eq-eqb _ _ (first_past n (λ i low. none i (omega arith))), none n (omega arith))

  -- and finds the first that is one
  pub first_one : (i n : ℕ) → i < n → f i ≡ true → ((j : ℕ) → j < i → f j ≡ false) → first_below f n ≡ i
  first_one i n low here none = first_hit i n low (first_past i none) here

-- two tests that agree below n find the same
pub first_same : (f g : ℕ → Bool) (n : ℕ) → ((i : ℕ) → i < n → f i ≡ g i) → first_below f n ≡ first_below g n
unfolding first_below
first_same f g zero same = refl
first_same f g (suc n) same = rw (same n (omega arith), first_same f g n (λ i low. same i (omega arith)))

-- a search that goes on below what another found: the first number at which one of the two tests fails
pub first_both : (f g : ℕ → Bool) (n : ℕ) → first_below (λ i. not (g i)) (first_below (λ i. not (f i)) n) ≡ first_below (λ i. not (f i && g i)) n
unfolding first_below
first_both f g zero = refl
first_both f g (suc n) = go (eqb (fails n) n) refl (f n) refl (first_both f g n)
  where
    fails : ℕ → ℕ
    fails = first_below (λ i. not (f i))

    both : ℕ
    both = first_below (λ i. not (f i && g i)) n

    stays : (b : Bool) → eqb both n ≡ b → both ≡ cond (eqb both n) n both
    stays true e = rw e (eqb-true both n e)
    stays false e = rw e

    go : (b : Bool) → eqb (fails n) n ≡ b → (c : Bool) → f n ≡ c → first_below (λ i. not (g i)) (fails n) ≡ both
        → first_below (λ i. not (g i)) (cond (eqb (fails n) n) (cond (not (f n)) n (suc n)) (fails n)) ≡ cond
        (eqb both n) (cond (not (f n && g n)) n (suc n)) both
    go true e true w found =
        let here : first_below (λ i. not (g i)) n ≡ both =
        subst (λ (m : ℕ). first_below (λ i. not (g i)) m ≡ both) (eqb-true (fails n) n e) found in
        rw (e, w, here)
    go true e false w found =
        let here : first_below (λ i. not (g i)) n ≡ both = subst (λ (m : ℕ). first_below (λ i. not (g i)) m ≡ both) (eqb-true (fails n) n e) found in
        rw (e, w) (here ∙ stays (eqb both n) refl)
    go false e c w found =
        let ne : fails n ≡ n → ⊥ = eqb-false (fails n) n e in
        rw (e, ne_eqb both n (λ (z : both ≡ n). omega (arith, found, first_le (λ i. not (g i)) (fails n), first_le (λ i. not (f i)) n))) found

module _ (f : ℕ → ℕ) where
  pub greatest_more : (i : ℕ) → greatest_below f i ≤ f i → greatest_below f (i + 1) ≡ f i
  unfolding greatest_below
  greatest_more i h = rw (add-one i, max-eq_left h)

  pub greatest_same : (i : ℕ) → f i ≤ greatest_below f i → greatest_below f (i + 1) ≡ greatest_below f i
  unfolding greatest_below
  greatest_same i h = rw (add-one i, max-eq_right h)

  pub greatest_next : (i : ℕ) → greatest_below f (i + 1) ≡ max (f i) (greatest_below f i)
  unfolding greatest_below
  greatest_next i = rw (add-one i)

  pub greatest_at : (i n : ℕ) → i < n → f i ≤ greatest_below f n
  unfolding greatest_below
  greatest_at i zero low = absurd (not-suc-le-zero low)
  greatest_at i (suc n) low =
      ⊎_elim
      (λ e. subst (λ (m : ℕ). f m ≤ max (f n) (greatest_below f n)) (sym e) (le-max_left (f n) (greatest_below f n)))
      (λ lt. le_trans (greatest_at i n lt) (le-max_right (f n) (greatest_below f n)))
      (eq-or-lt_of_le (le_of_suc-le-suc low))

  pub greatest_within : (n most : ℕ) → ((i : ℕ) → i < n → f i ≤ most) → greatest_below f n ≤ most
  unfolding greatest_below
  greatest_within zero most each = omega arith
  greatest_within (suc n) most each = max-le (each n (omega arith)) (greatest_within n most (λ i low. each i (omega arith)))

-- one value more that is no greater leaves the greatest
pub greatest_longer : (f g : ℕ → ℕ) (n : ℕ) → ((i : ℕ) → i < n → g i ≡ f i) → g n ≤ greatest_below f n → greatest_below g (suc n) ≡ greatest_below f n
unfolding greatest_below
greatest_longer f g n same last = rw (agree n same) (max-eq_right last)
  where
    agree : (m : ℕ) → ((i : ℕ) → i < m → g i ≡ f i) → greatest_below g m ≡ greatest_below f m
    agree zero each = refl
    agree (suc m) each = rw (each m (omega arith), agree m (λ i low. each i (omega arith)))

-- what a loop that counted up to n has shown: a search that found nothing before n
pub first_all : (f : ℕ → Bool) (first n : ℕ) → first ≡ first_below f n → n ≤ first → first_below f n ≡ n
first_all f first n found high = omega (arith, first_le f n)

module _ (f : ℕ → Bool) (i n : ℕ) (low : i ≤ n) (high : n ≤ i) where
  end : i ≡ n
  end = omega arith

  pub first_end : first_below f i ≡ i → n ≡ first_below f n
  first_end h = sym (subst (λ (m : ℕ). first_below f m ≡ m) end h)

  pub any_end : any_below f i ≡ false → false ≡ any_below f n
  any_end h = sym (subst (λ (m : ℕ). any_below f m ≡ false) end h)
