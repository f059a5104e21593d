-- Tests of every number below a bound, and how many pass. Assumes nothing.
use mathlib.Core.Path.{◌≡◌, refl, sym, subst, ◌∙◌}
use mathlib.Core.Logic.{◌⊎◌, inl, inr, ⊎_elim}
use mathlib.Core.Bool.{Bool, true, false, cond, not, ◌&&◌, and-true, true≢false}
use Prim.Native.Nat.{ℕ, zero, suc, ◌+◌, ◌<◌, ◌≤◌}
use native.Mathlib.Nat.{le_of_suc-le-suc, eq-or-lt_of_le, not-suc-le-zero}
use native.Mathlib.Numerals.{add-one}
use native.Mathlib.Omega.{arith}
use lib.Dec.{eqb}
use borrow.Author.Tests.{eq-eqb, ne_eqb}
use Rattle.refusals.specs.Search.{any_below, all_below, count_below}
use Rattle.refusals.proofs.Scan.{any_hit}
use Rattle.refusals.proofs.Verdicts.{and_left, and_right, or_cases}

module _ (f : ℕ → Bool) where
  pub all_by : (n : ℕ) → ((i : ℕ) → i < n → f i ≡ true) → all_below f n ≡ true
  unfolding all_below
  all_by zero each = refl
  all_by (suc n) each = rw (each n (omega arith), all_by n (λ i low. each i (omega arith)))

  pub all_at : (n i : ℕ) → all_below f n ≡ true → i < n → f i ≡ true
  unfolding all_below
  all_at zero i all low = absurd (not-suc-le-zero low)
  all_at (suc n) i all low =
      ⊎_elim
      (λ e. subst (λ (m : ℕ). f m ≡ true) (sym e) (and_left (f n) (all_below f n) all))
      (λ lt. all_at n i (and_right (f n) (all_below f n) all) lt)
      (eq-or-lt_of_le (le_of_suc-le-suc low))

  -- a loop that counts up: every number so far passes, and this one too
  pub all_more : (i : ℕ) → all_below f i ≡ true → f i ≡ true → all_below f (i + 1) ≡ true
  unfolding all_below
  all_more i before here = rw (add-one i, here, before)

  pub all_end : (i n : ℕ) → i ≤ n → n ≤ i → all_below f i ≡ true → true ≡ all_below f n
  all_end i n low high all = let end : i ≡ n = omega arith in sym (subst (λ (m : ℕ). all_below f m ≡ true) end all)

  -- this one does not
  pub all_fails : (n i : ℕ) → i < n → f i ≡ false → all_below f n ≡ false
  all_fails n i low here = decide (all_below f n) refl
    where
      decide : (b : Bool) → all_below f n ≡ b → all_below f n ≡ false
      decide false e = e
      decide true e = let z : true ≡ false = sym (all_at n i e low) ∙ here in cc

  pub any_none : (n : ℕ) → ((i : ℕ) → i < n → f i ≡ false) → any_below f n ≡ false
  unfolding any_below
  any_none zero none = refl
  any_none (suc n) none = rw (none n (omega arith), any_none n (λ i low. none i (omega arith)))

  -- where no number passes, this one does not
  pub any_not : (n i : ℕ) → any_below f n ≡ false → i < n → f i ≡ false
  any_not n i nowhere low = decide (f i) refl
    where
      decide : (b : Bool) → f i ≡ b → f i ≡ false
      decide false e = e
      decide true e = let z : true ≡ false = sym (any_hit f i n low e) ∙ nowhere in cc

  -- where a search finds one
  pub any_some : (n : ℕ) → any_below f n ≡ true → (i : ℕ) × ((i < n) × (f i ≡ true))
  unfolding any_below
  any_some zero e = absurd (true≢false (sym e))
  any_some (suc n) e = decide (any_some n) (or_cases (f n) (any_below f n) e)
    where
      decide :
          (any_below f n ≡ true → (i : ℕ) × ((i < n) × (f i ≡ true)))
          → (f n ≡ true) ⊎ (any_below f n ≡ true)
          → (i : ℕ) × ((i < suc n) × (f i ≡ true))
      decide on (inl here) = (n, (omega arith, here))
      decide on (inr later) = let s = on later in let low : s.0 < n = s.1.0 in (s.0, (omega arith, s.1.1))

  pub count_none : (n : ℕ) → ((i : ℕ) → i < n → f i ≡ false) → count_below f n ≡ 0
  unfolding count_below
  count_none zero none = refl
  count_none (suc n) none = rw (none n (omega arith)) (count_none n (λ i low. none i (omega arith)))

  -- one number passes, and no other
  pub count_one : (n k : ℕ) → k < n → f k ≡ true → ((i : ℕ) → i < n → (i ≡ k → ⊥) → f i ≡ false) → count_below f n ≡ 1
  unfolding count_below
  count_one zero k low here others = absurd (not-suc-le-zero low)
  count_one (suc n) k low here others =
      ⊎_elim
      (λ (e : k ≡ n).
      rw (subst (λ (m : ℕ). f m ≡ true) e here, count_none n (λ (i : ℕ) (lt : i < n). others i (omega arith) (λ (z : i ≡ k). omega arith))))
      (λ (lt : k < n).
      rw (others n (omega arith) (λ (z : n ≡ k). omega arith)) (count_one n k lt here (λ (i : ℕ) (less : i < n) (ne : i ≡ k → ⊥). others i (omega arith) ne)))
      (eq-or-lt_of_le (le_of_suc-le-suc low))

-- two tests that agree below n pass alike
module _ (f g : ℕ → Bool) where
  pub all_same : (n : ℕ) → ((i : ℕ) → i < n → f i ≡ g i) → all_below f n ≡ all_below g n
  unfolding all_below
  all_same zero same = refl
  all_same (suc n) same = rw (same n (omega arith), all_same n (λ i low. same i (omega arith)))

  -- and as often
  pub count_same : (n : ℕ) → ((i : ℕ) → i < n → f i ≡ g i) → count_below f n ≡ count_below g n
  unfolding count_below
  count_same zero same = refl
  count_same (suc n) same = rw (same n (omega arith), count_same n (λ i low. same i (omega arith)))

  -- and where one passes somewhere, the other does, with a number more too
  pub any_longer : (n : ℕ) → ((i : ℕ) → i < n → f i ≡ g i) → any_below f n ≡ true → any_below g (suc n) ≡ true
  any_longer n same e = decide (any_below g (suc n)) refl
    where
      decide : (b : Bool) → any_below g (suc n) ≡ b → any_below g (suc n) ≡ true
      decide true h = h
      decide false h = let z : true ≡ false = sym e ∙ any_none f n (λ i low. same i low ∙ any_not g (suc n) i h (omega arith)) in cc

-- one that passes at one number more passes once more
pub count_more :
    (f g : ℕ → Bool) (n k : ℕ)
    → k < n
    → f k ≡ false
    → g k ≡ true
    → ((i : ℕ) → i < n → (i ≡ k → ⊥) → f i ≡ g i)
    → count_below g n ≡ suc (count_below f n)
unfolding count_below
count_more f g zero k low before now same = absurd (not-suc-le-zero low)
count_more f g (suc n) k low before now same =
    ⊎_elim
    (λ (e : k ≡ n).
    rw (
      subst (λ (m : ℕ). f m ≡ false) e before,
      subst (λ (m : ℕ). g m ≡ true) e now,
      count_same f g n (λ (i : ℕ) (lt : i < n). same i (omega arith) (λ (z : i ≡ k). omega arith)),
    ))
    (λ (lt : k < n).
    more (f n) (g n) (same n (omega arith) (λ (z : n ≡ k). omega arith))
    (count_more f g n k lt before now (λ (i : ℕ) (less : i < n) (ne : i ≡ k → ⊥). same i (omega arith) ne)))
    (eq-or-lt_of_le (le_of_suc-le-suc low))
  where
    more :
        (a b : Bool)
        → a ≡ b
        → count_below g n ≡ suc (count_below f n)
        → cond b (suc (count_below g n)) (count_below g n) ≡ suc (cond a (suc (count_below f n)) (count_below f n))
    more a true e h = rw (e, h)
    more a false e h = rw (e, h)

-- as many numbers that pass as there are different values of g
pub count_many :
    (f : ℕ → Bool) (g : ℕ → ℕ) (n m : ℕ)
    → ((j : ℕ) → j < m → g j < n)
    → ((j : ℕ) → j < m → f (g j) ≡ true)
    → ((i j : ℕ) → i < j → j < m → g i ≡ g j → ⊥)
    → m ≤ count_below f n
count_many f g n zero low pass differ = omega arith
count_many f g n (suc m) low pass differ =
    let others : ℕ → Bool = λ i. f i && not (eqb i (g m)) in
    let rest : m ≤ count_below others n =
    count_many others g n m (λ j less. low j (omega arith))
    (λ j less. rw (pass j (omega arith), ne_eqb (g j) (g m) (differ j m less (omega arith))))
    (λ i j less most. differ i j less (omega arith)) in
    let one : count_below f n ≡ suc (count_below others n) =
    count_more others f n (g m) (low m (omega arith)) (rw (pass m (omega arith), eq-eqb (g m) (g m) refl))
    (pass m (omega arith)) (λ i less ne. rw (ne_eqb i (g m) ne) (and-true (f i))) in
    omega arith
