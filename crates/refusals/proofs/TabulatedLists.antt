-- The list of a function's values below a bound, and a list that is filled with them from the front.
-- Assumes nothing.
use mathlib.Core.Path.{◌≡◌, refl, sym, ◌∙◌}
use mathlib.Core.Logic.{⊎_elim}
use mathlib.Core.List.{List, [], ◌∷◌, ◌++◌, append_assoc, append-nil}
use Prim.Native.Nat.{ℕ, zero, suc, ◌+◌, ◌<◌, ◌≤◌}
use native.Mathlib.Nat.{le_of_suc-le-suc, eq-or-lt_of_le, not-suc-le-zero}
use native.Mathlib.Decide.{ℕ_discrete}
use native.Mathlib.Numerals.{add-one}
use native.Mathlib.Omega.{arith}
use lib.ListN.{length, get_or, set, drop, length-append, length-set, get_or-append, drop_of_length-le}
use lib.Seq.{get_or_at, set_at, drop-cons, ext_get_or, get_or-set_same, get_or-set_other}
use Rattle.refusals.specs.Search.{tabulate}

module _ (f : ℕ → ℕ) where
  pub length_tabulate : (n : ℕ) → length (tabulate n f) ≡ n
  unfolding tabulate
  length_tabulate zero = refl
  length_tabulate (suc n) = simp length-append (omega (arith, length_tabulate n))

  pub tabulate_at : (n i : ℕ) → i < n → get_or (tabulate n f) i 0 ≡ f i
  unfolding tabulate
  tabulate_at zero i low = absurd (not-suc-le-zero low)
  tabulate_at (suc n) i low = ⊎_elim last (λ lt. earlier lt (tabulate_at n i lt)) (eq-or-lt_of_le (le_of_suc-le-suc low))
    where
      last : i ≡ n → get_or (tabulate n f ++ (f n ∷ [])) i 0 ≡ f i
      last e = rw e (get_or_at (tabulate n f) (f n) [] 0 n (length_tabulate n))

      earlier : i < n → get_or (tabulate n f) i 0 ≡ f i → get_or (tabulate n f ++ (f n ∷ [])) i 0 ≡ f i
      earlier lt here = get_or-append (tabulate n f) (f n ∷ []) 0 i (omega (arith, length_tabulate n)) ∙ here

  -- a store of the next value, in a list of which the first n are stored
  pub fill : (d : List ℕ) (n : ℕ) → n < length d → set (tabulate n f ++ drop n d) n (f n) ≡ tabulate (n + 1) f ++ drop (n + 1) d
  unfolding tabulate
  fill d n low =
      rw (add-one n, drop-cons d n 0)
      (set_at (tabulate n f) (get_or d n 0) (drop (suc n) d) (f n) n (length_tabulate n) ∙ sym (append_assoc (tabulate n f) (f n ∷ []) (drop (suc n) d)))

  -- a list of which every value is stored
  pub filled : (d : List ℕ) (n : ℕ) → length d ≤ n → tabulate n f ++ drop n d ≡ tabulate n f
  filled d n most = rw (drop_of_length-le d most) (append-nil (tabulate n f))

  pub tabulate_is : (l : List ℕ) (n : ℕ) → length l ≡ n → ((i : ℕ) → i < n → f i ≡ get_or l i 0) → tabulate n f ≡ l
  tabulate_is l n size each =
      ext_get_or 0 (tabulate n f) l (length_tabulate n ∙ sym size) (λ i low. at i (omega (arith, length_tabulate n)))
    where
      at : (i : ℕ) → i < n → get_or (tabulate n f) i 0 ≡ get_or l i 0
      at i low = tabulate_at n i low ∙ each i low

-- the values of two functions that agree
pub tabulate_same : (f g : ℕ → ℕ) (n : ℕ) → ((i : ℕ) → i < n → f i ≡ g i) → tabulate n f ≡ tabulate n g
tabulate_same f g n same = tabulate_is f (tabulate n g) n (length_tabulate g n) (λ i low. same i low ∙ sym (tabulate_at g n i low))

-- a store at k, where g has the value that is stored and elsewhere f's values
pub tabulate_set :
    (f g : ℕ → ℕ) (n k : ℕ)
    → k < n
    → ((j : ℕ) → j < n → (j ≡ k → ⊥) → g j ≡ f j)
    → set (tabulate n f) k (g k) ≡ tabulate n g
tabulate_set f g n k low other =
    sym (tabulate_is g (set (tabulate n f) k (g k)) n (length-set (tabulate n f) k (g k) ∙ length_tabulate f n) (λ j lt. at j lt (ℕ_discrete j k)))
  where
    at : (j : ℕ) → j < n → Dec (j ≡ k) → g j ≡ get_or (set (tabulate n f) k (g k)) j 0
    at j lt (yes e) =
        sym (rw e (get_or-set_same (tabulate n f) k (g k) 0 (omega (arith, length_tabulate f n))))
    at j lt (no ne) = other j lt ne ∙ sym (get_or-set_other (tabulate n f) k j (g k) 0 ne ∙ tabulate_at f n j lt)
