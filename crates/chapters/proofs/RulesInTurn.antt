-- Lists of rules tried one after another. Assumes nothing.
use mathlib.Core.Path.{◌≡◌, refl, sym, subst, ◌∙◌}
use mathlib.Core.Logic.{⊎_elim}
use mathlib.Core.List.{List}
use Prim.Native.Nat.{ℕ, zero, suc, ◌<◌}
use native.Mathlib.Nat.{le_of_suc-le-suc, eq-or-lt_of_le, not-suc-le-zero}
use native.Mathlib.Omega.{arith}
use Rattle.std.specs.Prelude.{Err}
use Rattle.refusals.specs.declared.Broken.{Broken}
use Rattle.refusals.specs.Verdict.{Verdict, Accepted, first_refusal}
use Rattle.refusals.proofs.Rules.{left_accepts, right_accepts, part_accepts, part_err, part_ok}
use Rattle.chapters.specs.Rules.{in_turn}

module _ (rules : ℕ → List Verdict) where
  -- where the first k lists accept and the next refuses, that is the refusal of any number that has this one
  pub turn_refuses :
      (k n : ℕ) {e : Broken}
      → k < n
      → first_refusal (in_turn rules k) ≡ Accepted
      → first_refusal (rules k) ≡ Err e
      → first_refusal (in_turn rules n) ≡ Err e
  unfolding in_turn
  turn_refuses k zero low before here = absurd (not-suc-le-zero low)
  turn_refuses k (suc n) {e} low before here =
      ⊎_elim last (λ lt. part_err (in_turn rules n) (rules n) (turn_refuses k n lt before here)) (eq-or-lt_of_le (le_of_suc-le-suc low))
    where
      last : k ≡ n → first_refusal (in_turn rules (suc n)) ≡ Err e
      last is =
          subst (λ (m : ℕ). first_refusal (in_turn rules (suc m)) ≡ Err e) is
          (part_ok (in_turn rules k) (rules k) before ∙ here)

  -- and where it accepts, one more has accepted
  pub turn_accepts :
      (k : ℕ)
      → first_refusal (in_turn rules k) ≡ Accepted
      → first_refusal (rules k) ≡ Accepted
      → first_refusal (in_turn rules (suc k)) ≡ Accepted
  unfolding in_turn
  turn_accepts k before here = sym (part_accepts (in_turn rules k) (rules k) refl before (sym here))

  -- lists that all accept, each by itself
  pub turn_at : (n k : ℕ) → first_refusal (in_turn rules n) ≡ Accepted → k < n → first_refusal (rules k) ≡ Accepted
  unfolding in_turn
  turn_at zero k all low = absurd (not-suc-le-zero low)
  turn_at (suc n) k all low =
      ⊎_elim
      (λ e. subst (λ (m : ℕ). first_refusal (rules m) ≡ Accepted) (sym e) (right_accepts (in_turn rules n) (rules n) all))
      (λ lt. turn_at n k (left_accepts (in_turn rules n) (rules n) all) lt)
      (eq-or-lt_of_le (le_of_suc-le-suc low))

  -- and back
  pub turns_accept : (n : ℕ) → ((k : ℕ) → k < n → first_refusal (rules k) ≡ Accepted) → first_refusal (in_turn rules n) ≡ Accepted
  unfolding in_turn first_refusal
  turns_accept zero each = refl
  turns_accept (suc n) each = turn_accepts n (turns_accept n (λ k low. each k (omega arith))) (each n (omega arith))
