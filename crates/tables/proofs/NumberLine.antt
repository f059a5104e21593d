-- A line of numbers, read field by field: the leading digits of a text, and the byte that ends them. Assumes nothing.
use mathlib.Core.Path.{◌≡◌, refl, sym, ap, ◌∙◌, subst}
use mathlib.Core.Bool.{Bool, true, false, ◌&&◌, false≢true}
use mathlib.Core.List.{List, [], ◌∷◌, ◌++◌, map, append-nil}
use Prim.Native.Nat.{ℕ, suc, ◌+◌, ◌<◌, ◌≤◌}
use native.Mathlib.Decide.{dec_lt, ℕ_discrete}
use native.Mathlib.Omega.{arith}
use lib.Dec.{eqb, ltb}
use lib.ListN.{length, get_or, drop, length-append, drop_of_length-le}
use lib.Seq.{drop-cons}
use borrow.Author.Tests.{eq-eqb, ne_eqb, lt-ltb, le-ltb}
use Rattle.refusals.specs.Search.{every}
use Rattle.tables.specs.Lines.{lengthened, parted}
use Rattle.tables.specs.Numbers.{is_digit, is_number, decimal, is_row}
use Rattle.tables.specs.Reading.{has, leading, starts_field, starts_row, up_to, numbers}
use Rattle.tables.proofs.TextPieces.{pieces}
use Rattle.tables.proofs.LeadingDigits.{leading_digits, leading_whole, leading_stops}

and_false : (a : Bool) → (a && false) ≡ false
and_false true = refl
and_false false = refl

eqb_suc : (a b : ℕ) → eqb (suc a) (suc b) ≡ eqb a b
eqb_suc a b = decide (ℕ_discrete a b)
  where
    decide : Dec (a ≡ b) → eqb (suc a) (suc b) ≡ eqb a b
    decide (yes e) = eq-eqb (suc a) (suc b) (ap suc e) ∙ sym (eq-eqb a b e)
    decide (no ne) = ne_eqb (suc a) (suc b) (λ (z : suc a ≡ suc b). ne (omega arith)) ∙ sym (ne_eqb a b ne)

ltb_shift : (k a b : ℕ) → ltb (k + a) (k + b) ≡ ltb a b
ltb_shift k a b = decide (dec_lt a b)
  where
    decide : Dec (a < b) → ltb (k + a) (k + b) ≡ ltb a b
    decide (yes h) = lt-ltb (k + a) (k + b) (omega arith) ∙ sym (lt-ltb a b h)
    decide (no h) = le-ltb (k + a) (k + b) (omega arith) ∙ sym (le-ltb a b (omega arith))

-- digits before a text: a byte that is no digit is found where it was, and the first piece grows
first_digit : (b : ℕ) (D : List ℕ) → every is_digit (b ∷ D) ≡ true → is_digit b ≡ true
unfolding every
first_digit b D e = split (is_digit b) e
  where
    split : (t : Bool) → (t && every is_digit D) ≡ true → t ≡ true
    split true h = refl
    split false h = h

more_digits : (b : ℕ) (D : List ℕ) → every is_digit (b ∷ D) ≡ true → every is_digit D ≡ true
unfolding every
more_digits b D e = split (is_digit b) e
  where
    split : (t : Bool) → (t && every is_digit D) ≡ true → every is_digit D ≡ true
    split true h = h
    split false h = absurd (false≢true h)

module _ (x : ℕ) (none : is_digit x ≡ false) where
  digit_other : (b : ℕ) → is_digit b ≡ true → eqb b x ≡ false
  digit_other b d = ne_eqb b x (λ (e : b ≡ x). false≢true (sym none ∙ sym (ap is_digit e) ∙ d))

  up_to_digits : (D r : List ℕ) → every is_digit D ≡ true → up_to x (D ++ r) ≡ D ++ up_to x r
  unfolding up_to
  up_to_digits [] r d = refl
  up_to_digits (b ∷ D) r d =
      rw (digit_other b (first_digit b D d)) (ap (λ (l : List ℕ). b ∷ l) (up_to_digits D r (more_digits b D d)))

  parted_digits : (D r first : List ℕ) (more : List (List ℕ)) → every is_digit D ≡ true → parted x r ≡ first ∷ more
      → parted x (D ++ r) ≡ (D ++ first) ∷ more
  unfolding parted lengthened
  parted_digits [] r first more d are = are
  parted_digits (b ∷ D) r first more d are =
      rw (digit_other b (first_digit b D d)) (ap (lengthened b) (parted_digits D r first more (more_digits b D d) are))

-- a text with another byte in it is no number
not_digits : (D r : List ℕ) (b : ℕ) → is_digit b ≡ false → every is_digit (D ++ (b ∷ r)) ≡ false
unfolding every
not_digits [] r b d = rw d
not_digits (a ∷ D) r b d = rw (not_digits D r b d) (and_false (is_digit a))

not_number : (D r : List ℕ) (b : ℕ) → is_digit b ≡ false → is_number (D ++ (b ∷ r)) ≡ false
unfolding is_number
not_number D r b d = rw (not_digits D r b d)

-- a text of digits, the byte b and a rest
module _ (D r : List ℕ) (digits : every is_digit D ≡ true) where
  comma_up_to : up_to 10 (D ++ (44 ∷ r)) ≡ D ++ (44 ∷ up_to 10 r)
  unfolding up_to is_digit
  comma_up_to = up_to_digits 10 refl D (44 ∷ r) digits

  comma_fields : parted 44 (up_to 10 (D ++ (44 ∷ r))) ≡ D ∷ parted 44 (up_to 10 r)
  unfolding parted is_digit
  comma_fields =
      rw comma_up_to
      (parted_digits 44 refl D (44 ∷ up_to 10 r) [] (parted 44 (up_to 10 r)) digits refl ∙ ap (λ (l : List ℕ). l ∷ parted 44 (up_to 10 r)) (append-nil D))

  comma_length : length (up_to 10 (D ++ (44 ∷ r))) ≡ suc (length D) + length (up_to 10 r)
  comma_length = ap length comma_up_to ∙ length-append D (44 ∷ up_to 10 r) ∙ omega arith

  comma_has : has 10 (D ++ (44 ∷ r)) ≡ has 10 r
  unfolding has
  comma_has =
      let all : length (D ++ (44 ∷ r)) ≡ suc (length D) + length r = length-append D (44 ∷ r) ∙ omega arith in
      rw (comma_length, all) (ltb_shift (suc (length D)) (length (up_to 10 r)) (length r))

  line_up_to : up_to 10 (D ++ (10 ∷ r)) ≡ D
  unfolding up_to is_digit
  line_up_to = up_to_digits 10 refl D (10 ∷ r) digits ∙ append-nil D

  line_has : has 10 (D ++ (10 ∷ r)) ≡ true
  unfolding has
  line_has = lt-ltb (length (up_to 10 (D ++ (10 ∷ r)))) (length (D ++ (10 ∷ r))) (omega (arith, ap length line_up_to, length-append D (10 ∷ r)))

  whole_fields : parted 44 D ≡ D ∷ []
  unfolding parted is_digit
  whole_fields =
      ap (parted 44) (sym (append-nil D)) ∙ parted_digits 44 refl D [] [] [] digits refl ∙ ap (λ (l : List ℕ). l ∷ []) (append-nil D)

  whole_up_to : up_to 10 D ≡ D
  unfolding up_to is_digit
  whole_up_to = ap (up_to 10) (sym (append-nil D)) ∙ up_to_digits 10 refl D [] digits ∙ append-nil D

  other_numbers : (b : ℕ) → is_digit b ≡ false → eqb b 10 ≡ false → eqb b 44 ≡ false → every is_number (parted 44 (up_to 10 (D ++ (b ∷ r)))) ≡ false
  unfolding every parted lengthened up_to is_digit
  other_numbers b d ten comma =
      let p = pieces 44 (up_to 10 r) in
      let up : up_to 10 (D ++ (b ∷ r)) ≡ D ++ (b ∷ up_to 10 r) = up_to_digits 10 refl D (b ∷ r) digits ∙ rw ten in
      let are : parted 44 (b ∷ up_to 10 r) ≡ (b ∷ p.first) ∷ p.more = rw (comma, p.are) in
      rw (up, parted_digits 44 refl D (b ∷ up_to 10 r) (b ∷ p.first) p.more digits are, not_number D p.first b d)

-- what a text starts with: digits, and what ends them
pub data Shape (s : List ℕ) : Type 0 where
  sh_end : has 10 s ≡ false → ((x : ℕ) → starts_field x s ≡ false) → Shape s
  sh_comma : (r : List ℕ) → r ≡ drop (suc (length (leading s))) s → starts_field 44 s ≡ is_number (leading s) → starts_field 10 s ≡ false
      → has 10 s ≡ has 10 r
      → parted 44 (up_to 10 s) ≡ leading s ∷ parted 44 (up_to 10 r)
      → length (up_to 10 s) ≡ suc (length (leading s)) + length (up_to 10 r)
      → Shape s
  sh_line : starts_field 44 s ≡ false → starts_field 10 s ≡ is_number (leading s) → has 10 s ≡ true → up_to 10 s ≡ leading s
      → parted 44 (up_to 10 s) ≡ leading s ∷ []
      → Shape s
  sh_other : starts_field 44 s ≡ false → starts_field 10 s ≡ false → every is_number (parted 44 (up_to 10 s)) ≡ false → Shape s

module _ (s : List ℕ) where
  ended_field : (x : ℕ) → length s ≤ length (leading s) → starts_field x s ≡ false
  unfolding starts_field
  ended_field x high = rw (le-ltb (length (leading s)) (length s) high) (and_false (is_number (leading s)))

  this_field : (x : ℕ) → length (leading s) < length s → get_or s (length (leading s)) 0 ≡ x → starts_field x s ≡ is_number (leading s)
  unfolding starts_field
  this_field x low e = rw (lt-ltb (length (leading s)) (length s) low, eq-eqb (get_or s (length (leading s)) 0) x e) (and_true (is_number (leading s)))
    where
      and_true : (t : Bool) → (t && true) ≡ t
      and_true true = refl
      and_true false = refl

  other_field : (x : ℕ) → length (leading s) < length s → (get_or s (length (leading s)) 0 ≡ x → ⊥) → starts_field x s ≡ false
  unfolding starts_field
  other_field x low ne = rw (lt-ltb (length (leading s)) (length s) low, ne_eqb (get_or s (length (leading s)) 0) x ne) (and_false (is_number (leading s)))

  ended : length s ≤ length (leading s) → Shape s
  unfolding has
  ended high =
      let whole : leading s ≡ s =
      sym (ap (λ (l : List ℕ). leading s ++ l) (drop_of_length-le s high) ∙ append-nil (leading s)) ∙ leading_whole s in
      let up : up_to 10 s ≡ s = subst (λ (t : List ℕ). up_to 10 t ≡ t) whole (whole_up_to (leading s) [] (leading_digits s)) in
      sh_end (rw up (le-ltb (length s) (length s) (omega arith))) (λ x. ended_field x high)

  module _ (low : length (leading s) < length s) where
    stopped : (b : ℕ) → get_or s (length (leading s)) 0 ≡ b → leading s ++ (b ∷ drop (suc (length (leading s))) s) ≡ s
    stopped b e =
        ap (λ (n : ℕ). leading s ++ (n ∷ drop (suc (length (leading s))) s)) (sym e)
        ∙ ap (λ (l : List ℕ). leading s ++ l) (sym (drop-cons s (length (leading s)) 0 low))
        ∙ leading_whole s

    by_comma : get_or s (length (leading s)) 0 ≡ 44 → Shape s
    by_comma e =
        let D = leading s in
        let r = drop (suc (length (leading s))) s in
        let d = leading_digits s in
        let whole = stopped 44 e in
        sh_comma r refl (this_field 44 low e) (other_field 10 low (λ (z : get_or s (length (leading s)) 0 ≡ 10). omega arith))
        (subst (λ (t : List ℕ). has 10 t ≡ has 10 r) whole (comma_has D r d))
        (subst (λ (t : List ℕ). parted 44 (up_to 10 t) ≡ D ∷ parted 44 (up_to 10 r)) whole (comma_fields D r d))
        (subst (λ (t : List ℕ). length (up_to 10 t) ≡ suc (length D) + length (up_to 10 r)) whole (comma_length D r d))

    by_line : get_or s (length (leading s)) 0 ≡ 10 → Shape s
    by_line e =
        let D = leading s in
        let r = drop (suc (length (leading s))) s in
        let d = leading_digits s in
        let whole = stopped 10 e in
        let up : up_to 10 s ≡ D = subst (λ (t : List ℕ). up_to 10 t ≡ D) whole (line_up_to D r d) in
        sh_line (other_field 44 low (λ (z : get_or s (length (leading s)) 0 ≡ 44). omega arith)) (this_field 10 low e)
        (subst (λ (t : List ℕ). has 10 t ≡ true) whole (line_has D r d))
        up
        (ap (parted 44) up ∙ whole_fields D [] d)

    by_other : (get_or s (length (leading s)) 0 ≡ 44 → ⊥) → (get_or s (length (leading s)) 0 ≡ 10 → ⊥) → Shape s
    by_other comma ten =
        let b = get_or s (length (leading s)) 0 in
        sh_other (other_field 44 low comma) (other_field 10 low ten)
        (subst (λ (t : List ℕ). every is_number (parted 44 (up_to 10 t)) ≡ false) (stopped b refl)
        (other_numbers (leading s) (drop (suc (length (leading s))) s) (leading_digits s) b (leading_stops s low) (ne_eqb b 10 ten) (ne_eqb b 44 comma)))

    byte : Dec (get_or s (length (leading s)) 0 ≡ 44) → Dec (get_or s (length (leading s)) 0 ≡ 10) → Shape s
    byte (yes e) q = by_comma e
    byte (no ne) (yes e) = by_line e
    byte (no ne) (no n) = by_other ne n

  pub shape : Shape s
  shape = decide (dec_lt (length (leading s)) (length s))
    where
      decide : Dec (length (leading s) < length s) → Shape s
      decide (yes low) = byte low (ℕ_discrete (get_or s (length (leading s)) 0) 44) (ℕ_discrete (get_or s (length (leading s)) 0) 10)
      decide (no high) = ended (omega arith)

-- whether a text starts with a line of numbers: a field and a comma, and so on
module _ (s : List ℕ) where
  pub row_more : (n : ℕ) → starts_row (suc (suc n)) s ≡ (starts_field 44 s && starts_row (suc n) (drop (suc (length (leading s))) s))
  unfolding starts_row is_row every
  row_more n = decide (shape s)
    where
      pull : (h a d q : Bool) → (h && (a && (d && q))) ≡ (d && (h && (a && q)))
      pull h a true q = refl
      pull h a false q = rw (and_false a, and_false h)

      decide : Shape s → starts_row (suc (suc n)) s ≡ (starts_field 44 s && starts_row (suc n) (drop (suc (length (leading s))) s))
      decide (sh_end none shut) = rw (none, shut 44)
      decide (sh_comma r is good bad h f l) =
          rw (good, h, f, ← is, eqb_suc (length (parted 44 (up_to 10 r))) (suc n))
          (pull (has 10 r) (eqb (length (parted 44 (up_to 10 r))) (suc n)) (is_number (leading s)) (every is_number (parted 44 (up_to 10 r))))
      decide (sh_line shut good h up f) = rw (shut, h, f, ne_eqb 1 (suc (suc n)) (λ (z : 1 ≡ suc (suc n)). omega arith))
      decide (sh_other shut bad wrong) = rw (shut, wrong, and_false (eqb (length (parted 44 (up_to 10 s))) (suc (suc n)))) (and_false (has 10 s))

  pub row_last : starts_row 1 s ≡ starts_field 10 s
  unfolding starts_row is_row every
  row_last = decide (shape s)
    where
      and_true : (t : Bool) → (t && true) ≡ t
      and_true true = refl
      and_true false = refl

      decide : Shape s → starts_row 1 s ≡ starts_field 10 s
      decide (sh_end none shut) = rw (none, shut 10)
      decide (sh_comma r is good bad h f l) =
          let p = pieces 44 (up_to 10 r) in
          let two : length (leading s ∷ parted 44 (up_to 10 r)) ≡ suc (suc (length p.more)) = ap (λ (q : List (List ℕ)). suc (length q)) p.are in
          rw (
            bad,
            f,
            ne_eqb (length (leading s ∷ parted 44 (up_to 10 r))) 1
                (λ (z : length (leading s ∷ parted 44 (up_to 10 r)) ≡ 1). omega arith),
          )
          (and_false (has 10 s))
      decide (sh_line shut good h up f) = rw (good, h, f) (and_true (is_number (leading s)))
      decide (sh_other shut bad wrong) = rw (bad, wrong, and_false (eqb (length (parted 44 (up_to 10 s))) 1)) (and_false (has 10 s))

  -- the numbers and the length of a line that starts with a field and a comma
  pub record Splits : Type 0 where
    pub numbers_are : numbers (up_to 10 s) ≡ decimal 0 (leading s) ∷ numbers (up_to 10 (drop (suc (length (leading s))) s))
    pub length_is : length (up_to 10 s) ≡ suc (length (leading s)) + length (up_to 10 (drop (suc (length (leading s))) s))

  pub splits : starts_field 44 s ≡ true → Splits
  unfolding numbers
  splits good = decide (shape s)
    where
      decide : Shape s → Splits
      decide (sh_end none shut) = absurd (false≢true (sym (shut 44) ∙ good))
      decide (sh_comma r is _ _ _ f l) =
          record {
            numbers_are =
                ap (map (decimal 0)) f
                ∙ ap (λ (t : List ℕ). decimal 0 (leading s) ∷ map (decimal 0) (parted 44 (up_to 10 t))) is;
            length_is =
                l ∙ ap (λ (t : List ℕ). suc (length (leading s)) + length (up_to 10 t)) is;
          }
      decide (sh_line shut _ _ _ _) = absurd (false≢true (sym shut ∙ good))
      decide (sh_other shut _ _) = absurd (false≢true (sym shut ∙ good))

  -- and of one that is a field
  pub record Ends : Type 0 where
    pub numbers_are : numbers (up_to 10 s) ≡ decimal 0 (leading s) ∷ []
    pub length_is : length (up_to 10 s) ≡ length (leading s)

  pub ends : starts_field 10 s ≡ true → Ends
  unfolding numbers
  ends good = decide (shape s)
    where
      decide : Shape s → Ends
      decide (sh_end none shut) = absurd (false≢true (sym (shut 10) ∙ good))
      decide (sh_comma _ _ _ bad _ _ _) = absurd (false≢true (sym bad ∙ good))
      decide (sh_line _ _ _ up f) = record { numbers_are = ap (map (decimal 0)) f; length_is = ap length up }
      decide (sh_other _ bad _) = absurd (false≢true (sym bad ∙ good))
