-- The digits at the start of a text, read one by one, and what follows them. Assumes nothing.
use mathlib.Core.Path.{◌≡◌, refl, sym, ap}
use mathlib.Core.Bool.{Bool, true, false, cond, ◌&&◌}
use mathlib.Core.List.{List, [], ◌∷◌, ◌++◌}
use Prim.Native.Nat.{ℕ, suc, ◌+◌, ◌-◌, ◌*◌, ◌^◌, ◌<◌, ◌≤◌}
use native.Mathlib.Nat.{pow-suc, pow-zero}
use native.Mathlib.Numerals.{add-one}
use native.Mathlib.Omega.{arith}
use lib.Dec.{leb}
use lib.ListN.{length, get_or, drop}
use lib.Seq.{drop-cons, drop-length}
use borrow.Author.Tests.{lt-leb, leb-true}
use Rattle.std.specs.Prelude.{Option, None, Some}
use Rattle.std.proofs.lemmas.Option.{cond_some}
use Rattle.refusals.specs.Search.{every}
use Rattle.refusals.proofs.Verdicts.{and_right}
use Rattle.tables.specs.declared.Number.{Number}
use Rattle.tables.specs.Numbers.{is_digit, is_number, decimal}
use Rattle.tables.specs.Reading.{leading, first_number, starts_field, field_of}

digit_most : (b : ℕ) → is_digit b ≡ true → b ≤ 57
unfolding is_digit
digit_most b d = leb-true b 57 (and_right (leb 48 b) (leb b 57) d)

pub leading_within : (s : List ℕ) → length (leading s) ≤ length s
unfolding leading
leading_within [] = omega arith
leading_within (b ∷ s) = step (is_digit b) (leading_within s)
  where
    step : (t : Bool) → length (leading s) ≤ length s → length (cond t (b ∷ leading s) []) ≤ suc (length s)
    step true h = omega arith
    step false h = omega arith

pub leading_digits : (s : List ℕ) → every is_digit (leading s) ≡ true
unfolding leading every
leading_digits [] = refl
leading_digits (b ∷ s) = step (is_digit b) refl (leading_digits s)
  where
    step : (t : Bool) → is_digit b ≡ t → every is_digit (leading s) ≡ true → every is_digit (cond t (b ∷ leading s) []) ≡ true
    step true e h = rw (e, h)
    step false e h = refl

-- the text is its leading digits and what follows them
pub leading_whole : (s : List ℕ) → leading s ++ drop (length (leading s)) s ≡ s
unfolding leading
leading_whole [] = refl
leading_whole (b ∷ s) = step (is_digit b) (leading_whole s)
  where
    step : (t : Bool) → leading s ++ drop (length (leading s)) s ≡ s
        → cond t (b ∷ leading s) [] ++ drop (length (cond t (b ∷ leading s) [])) (b ∷ s) ≡ b ∷ s
    step true h = ap (λ (l : List ℕ). b ∷ l) h
    step false h = refl

-- what follows them is no digit
pub leading_stops : (s : List ℕ) → length (leading s) < length s → is_digit (get_or s (length (leading s)) 0) ≡ false
unfolding leading
leading_stops [] low = absurd (omega arith)
leading_stops (b ∷ s) low = step (is_digit b) refl (λ h. leading_stops s h) low
  where
    step : (t : Bool) → is_digit b ≡ t → (length (leading s) < length s → is_digit (get_or s (length (leading s)) 0) ≡ false)
        → length (cond t (b ∷ leading s) []) < suc (length s)
        → is_digit (get_or (b ∷ s) (length (cond t (b ∷ leading s) [])) 0) ≡ false
    step true e rec h = rec (omega arith)
    step false e rec h = e

module _ (s : List ℕ) (i : ℕ) where
  pub leading_next : i < length s → is_digit (get_or s i 0) ≡ true → leading (drop i s) ≡ get_or s i 0 ∷ leading (drop (i + 1) s)
  unfolding leading
  leading_next low e = rw (add-one, drop-cons s i 0, e)

  pub leading_none : i < length s → is_digit (get_or s i 0) ≡ false → leading (drop i s) ≡ []
  unfolding leading
  leading_none low e = rw (drop-cons s i 0, e)

  pub leading_end : i ≡ length s → leading (drop i s) ≡ []
  unfolding leading
  leading_end e = rw (e, drop-length)

-- the reading of the leading digits, of which i are read and write v
pub record Read (s : List ℕ) (i v : ℕ) : Type 0 where
  pub within : i ≤ length s
  pub few : i ≤ 5
  pub count : i + length (leading (drop i s)) ≡ length (leading s)
  pub value : decimal v (leading (drop i s)) ≡ decimal 0 (leading s)
  pub small : v + 1 ≤ 10 ^ i

pub read_none : (s : List ℕ) → Read s 0 0
read_none s = record { within = omega arith; few = omega arith; count = omega arith; value = refl; small = rw pow-zero (omega arith) }

module _ (s : List ℕ) (i v : ℕ) (R : Read s i v) where
  pub read_more : i < length s → i < 5 → is_digit (get_or s i 0) ≡ true → Read s (i + 1) (v * 10 + (get_or s i 0 - 48))
  unfolding decimal
  read_more low more d =
      let next : leading (drop i s) ≡ get_or s i 0 ∷ leading (drop (i + 1) s) = leading_next s i low d in
      let high : get_or s i 0 ≤ 57 = digit_most (get_or s i 0) d in
      let c = R.count in
      let e = R.value in
      record {
        within = omega arith;
        few = omega arith;
        count = omega (arith, rw next at c);
        value = rw next at e;
        small = rw (add-one i, pow-suc) (omega (arith, R.small));
      }

  -- the digits end here
  pub read_stop : leading (drop i s) ≡ [] → (i ≡ length (leading s)) × (i ≤ 5) × (v ≡ decimal 0 (leading s))
  unfolding decimal
  read_stop e = let c = R.count in let d = R.value in (omega (arith, rw e at c), R.few, rw e at d)

  -- a sixth digit: what is read is no number
  pub read_long : i ≡ 5 → i < length s → is_digit (get_or s i 0) ≡ true → None ≡ first_number s
  unfolding first_number is_number
  read_long five low d =
      let c = R.count in
      let long : 5 < length (leading s) = omega (arith, rw (leading_next s i low d) at c) in
      rw (lt-leb (length (leading s)) 5 long) (shut (every is_digit (leading s)) (leb 1 (length (leading s))))
    where
      shut : (a b : Bool) → ◌≡◌ {A = Option Number} None (cond (a && (b && false)) (Some (record { length = length (leading s); value = decimal 0 (leading s) })) None)
      shut true true = refl
      shut true false = refl
      shut false b = refl

pub leading_first : (s : List ℕ) → 0 < length (leading s) → get_or (leading s) 0 0 ≡ get_or s 0 0
unfolding leading
leading_first [] some = absurd (omega arith)
leading_first (b ∷ s) some = step (is_digit b) some
  where
    step : (t : Bool) → 0 < length (cond t (b ∷ leading s) []) → get_or (cond t (b ∷ leading s) []) 0 0 ≡ b
    step true h = refl
    step false h = absurd (omega arith)

-- where a text starts with no number, it starts with no field
pub field_none : (x : ℕ) (s : List ℕ) → None ≡ first_number s → None ≡ field_of x s
unfolding first_number field_of starts_field
field_none x s found = judge (is_number (leading s)) refl found
  where
    judge : (t : Bool) → is_number (leading s) ≡ t
        → ◌≡◌ {A = Option Number} None (cond t (Some (record { length = length (leading s); value = decimal 0 (leading s) })) None)
        → None ≡ field_of x s
    judge true g e = cc
    judge false g e = rw g

-- a number found at the start of a text, and the byte after it
module _ (s : List ℕ) (N : Number) (found : Some N ≡ first_number s) where
  -- it is the leading digits
  pub record Written : Type 0 where
    pub good : is_number (leading s) ≡ true
    pub length_is : N.length ≡ length (leading s)
    pub value_is : N.value ≡ decimal 0 (leading s)

  pub written : Written
  unfolding first_number
  written =
      let p = cond_some (is_number (leading s)) _ N (sym found) in
      record { good = p.0; length_is = sym (ap (λ (M : Number). M.length) p.1); value_is = sym (ap (λ (M : Number). M.value) p.1) }
