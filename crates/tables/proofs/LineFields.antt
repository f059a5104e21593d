-- The reading of a line: j fields of k are read, and the text from `at` on is left. Assumes nothing.
use mathlib.Core.Path.{◌≡◌, refl, sym, ap, ◌∙◌}
use mathlib.Core.Bool.{Bool, true, false, cond, ◌&&◌, false≢true}
use mathlib.Core.List.{List}
use Prim.Native.Nat.{ℕ, suc, ◌+◌, ◌-◌, ◌<◌, ◌≤◌}
use native.Mathlib.Numerals.{add-one}
use native.Mathlib.Omega.{arith}
use lib.Dec.{eqb, ltb}
use lib.ListN.{length, get_or, set, drop, replicate, length-drop, length-set}
use lib.Seq.{drop-drop, sets}
use borrow.Author.Tests.{ltb-true}
use Rattle.std.specs.Prelude.{Option, None, Some}
use Rattle.std.proofs.lemmas.Option.{cond_some}
use Rattle.tables.specs.declared.Number.{Number}
use Rattle.tables.specs.Numbers.{is_number, decimal}
use Rattle.tables.specs.Reading.{leading, starts_field, field_of, starts_row, line_of, up_to, numbers}
use Rattle.tables.proofs.NumberLine.{row_more, row_last, splits, ends}

field_inside : (x : ℕ) (s : List ℕ) → starts_field x s ≡ true → length (leading s) < length s
unfolding starts_field
field_inside x s good = split (is_number (leading s)) (ltb (length (leading s)) (length s)) refl good
  where
    split : (a b : Bool) → ltb (length (leading s)) (length s) ≡ b → (a && (b && eqb (get_or s (length (leading s)) 0) x)) ≡ true → length (leading s) < length s
    split true true e g = ltb-true (length (leading s)) (length s) e
    split true false e g = absurd (false≢true g)
    split false b e g = absurd (false≢true g)

-- no field that was looked for
no_field : (x : ℕ) (s : List ℕ) → None ≡ field_of x s → starts_field x s ≡ false
unfolding field_of
no_field x s none = judge (starts_field x s) none
  where
    judge : (t : Bool)
        → ◌≡◌ {A = Option Number} None (cond t (Some (record { length = suc (length (leading s)); value = decimal 0 (leading s) })) None)
        → t ≡ false
    judge true e = cc
    judge false e = refl

-- what a field says of the text
module _ (x : ℕ) (s : List ℕ) (F : Number) (is : Some F ≡ field_of x s) where
  pub record Field : Type 0 where
    pub good : starts_field x s ≡ true
    pub length_is : F.length ≡ suc (length (leading s))
    pub value_is : F.value ≡ decimal 0 (leading s)
    pub inside : F.length ≤ length s

  pub a_field : Field
  unfolding field_of
  a_field =
      let p = cond_some (starts_field x s) _ F (sym is) in
      let wide : F.length ≡ suc (length (leading s)) = sym (ap (λ (M : Number). M.length) p.1) in
      record {
        good = p.0;
        length_is = wide;
        value_is = sym (ap (λ (M : Number). M.value) p.1);
        inside = omega (arith, wide, field_inside x s p.0);
      }

pub record Reads (k : ℕ) (s : List ℕ) (at j : ℕ) (vs : List ℕ) : Type 0 where
  pub low : j < k
  pub few : k ≤ 7
  pub within : at ≤ length s
  pub size : length vs ≡ 7
  pub row : starts_row (k - j) (drop at s) ≡ starts_row k s
  pub spans : at + length (up_to 10 (drop at s)) ≡ length (up_to 10 s)
  pub values : sets vs j (numbers (up_to 10 (drop at s))) ≡ sets (replicate 7 0) 0 (numbers (up_to 10 s))

pub reads_none : (k : ℕ) (s : List ℕ) → 0 < k → k ≤ 7 → Reads k s 0 0 (replicate 7 0)
reads_none k s some few =
    let all : k - 0 ≡ k = omega arith in
    record { low = some; few = few; within = omega arith; size = refl; row = rw all; spans = omega arith; values = refl }

module _ (k : ℕ) (s : List ℕ) (at j : ℕ) (vs : List ℕ) (R : Reads k s at j vs) where
  pub field_within : (x : ℕ) (F : Number) → Some F ≡ field_of x (drop at s) → at + F.length ≤ length s
  field_within x F is =
      let f = a_field x (drop at s) F is in
      omega (arith, f.inside, length-drop at s, R.within)

  -- a field and a comma
  module _ (more : j + 1 < k) where
    left : k - j ≡ suc (suc (k - j - 2))
    left = omega arith

    pub reads_broken : None ≡ field_of 44 (drop at s) → None ≡ line_of k s
    unfolding line_of
    reads_broken none =
        let e : starts_row k s ≡ false =
        sym R.row ∙ ap (λ (n : ℕ). starts_row n (drop at s)) left ∙ row_more (drop at s) (k - j - 2) ∙ rw (no_field 44 (drop at s) none) in
        rw e

    pub reads_more : (F : Number) → Some F ≡ field_of 44 (drop at s) → Reads k s (at + F.length) (j + 1) (set vs j F.value)
    reads_more F is =
        let f = a_field 44 (drop at s) F is in
        let p = splits (drop at s) f.good in
        let next : drop (suc (length (leading (drop at s)))) (drop at s) ≡ drop (at + F.length) s =
        drop-drop (suc (length (leading (drop at s)))) at s ∙ ap (λ (n : ℕ). drop (at + n) s) (sym f.length_is) in
        let one : k - (j + 1) ≡ suc (k - j - 2) = omega arith in
        record {
          low = more;
          few = R.few;
          within = field_within 44 F is;
          size = length-set vs j F.value ∙ R.size;
          row =
              rw (one, ← next)
              (sym (sym R.row ∙ ap (λ (n : ℕ). starts_row n (drop at s)) left ∙ row_more (drop at s) (k - j - 2) ∙ rw f.good));
          spans = rw (← next) (omega (arith, p.length_is, f.length_is, R.spans));
          values =
              rw (← next, add-one j, f.value_is)
              (sym (ap (λ (ns : List ℕ). sets vs j ns) p.numbers_are) ∙ R.values);
        }

  -- a field and the line's end
  module _ (end : j + 1 ≡ k) where
    last : starts_row k s ≡ starts_field 10 (drop at s)
    last =
        let one : k - j ≡ 1 = omega arith in
        sym R.row ∙ ap (λ (n : ℕ). starts_row n (drop at s)) one ∙ row_last (drop at s)

    pub reads_unended : None ≡ field_of 10 (drop at s) → None ≡ line_of k s
    unfolding line_of
    reads_unended none = rw (last, no_field 10 (drop at s) none)

    pub reads_line : (F : Number) → Some F ≡ field_of 10 (drop at s) → Some (record { length = at + F.length; values = set vs j F.value }) ≡ line_of k s
    unfolding line_of
    reads_line F is =
        let f = a_field 10 (drop at s) F is in
        let p = ends (drop at s) f.good in
        let size : at + F.length ≡ suc (length (up_to 10 s)) = omega (arith, f.length_is, p.length_is, R.spans) in
        let all : set vs j F.value ≡ sets (replicate 7 0) 0 (numbers (up_to 10 s)) =
        rw f.value_is (sym (ap (λ (ns : List ℕ). sets vs j ns) p.numbers_are) ∙ R.values) in
        rw (last, f.good) (λ i. Some (record { length = size i; values = all i }))
