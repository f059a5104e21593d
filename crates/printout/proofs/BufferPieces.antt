-- Text put into a buffer, piece after piece. Assumes nothing.
use mathlib.Core.Path.{◌≡◌, refl, sym, ap, ◌∙◌, subst}
use mathlib.Core.Bool.{Bool, true, false, cond}
use mathlib.Core.List.{List, [], ◌∷◌, ◌++◌, append_assoc, append-nil}
use Prim.Native.Nat.{ℕ, zero, suc, ◌+◌, ◌-◌, ◌/◌, ◌<◌, ◌≤◌}
use native.Mathlib.Numerals.{add-one, sub-one}
use native.Mathlib.Omega.{arith}
use lib.ListN.{length, take, drop, set, length-set, length-append}
use lib.Seq.{length-take-le, take-suc-set, take_at, sets, sets-eq, length-sets}
use lib.Dec.{ltb}
use borrow.Author.Tests.{lt-ltb, le-ltb}
use Rattle.printout.specs.Text.{last_digit, digits_of, field, move_line, refusal_line, Put}

-- nothing is put
pub put_nothing : (text : List ℕ) (at : ℕ) → at ≤ length text → Put text text at [] at
put_nothing text at fits = record { end_is = omega arith; inside = fits; bytes_are = sym (append-nil (take at text)) }

-- one byte
pub put_one : (text : List ℕ) (at byte : ℕ) → at < length text → Put text (set text at byte) at (byte ∷ []) (at + 1)
put_one text at byte low =
    record {
      end_is = refl;
      inside = simp length-set (omega arith);
      bytes_are = rw (add-one at) (take-suc-set text at byte low);
    }

-- one piece behind another
pub put_then : {first second third : List ℕ} {at middle end : ℕ} {xs ys : List ℕ} → Put first second at xs middle
    → Put second third middle ys end → Put first third at (xs ++ ys) end
put_then {first} {second} {third} {at} {middle} {end} {xs} {ys} p q =
    record {
      end_is = omega (arith, p.end_is, q.end_is, length-append xs ys);
      inside = q.inside;
      bytes_are = q.bytes_are ∙ ap (λ (l : List ℕ). l ++ ys) p.bytes_are ∙ append_assoc (take at first) xs ys;
    }

-- the same piece by another name
pub put_same : {entry exit : List ℕ} {at end : ℕ} {xs ys : List ℕ} → xs ≡ ys → Put entry exit at xs end → Put entry exit at ys end
put_same {entry} {exit} {at} {end} e p = subst (λ (l : List ℕ). Put entry exit at l end) e p

-- no more digits than asked for
pub digits_few : (most n : ℕ) → length (digits_of most n) ≤ most
unfolding digits_of
digits_few zero n = omega arith
digits_few (suc most) n = few (digits_few most (n / 10)) (ltb n 10)
  where
    few : length (digits_of most (n / 10)) ≤ most → (b : Bool) → length (cond b (last_digit n ∷ []) (digits_of most (n / 10) ++ (last_digit n ∷ []))) ≤ suc most
    few h true = omega arith
    few h false = simp length-append (omega arith)

-- the digits of a number, by how the code goes on
pub digits_none : (most n : ℕ) → most ≡ 0 → [] ≡ digits_of most n
unfolding digits_of
digits_none zero n e = refl
digits_none (suc most) n e = absurd (omega arith)

pub digits_one : (most n : ℕ) → (most ≡ 0 → ⊥) → n < 10 → last_digit n ∷ [] ≡ digits_of most n
unfolding digits_of
digits_one zero n some low = absurd (some refl)
digits_one (suc most) n some low = rw (lt-ltb n 10 low)

pub digits_more : (most n : ℕ) → (most ≡ 0 → ⊥) → 10 ≤ n → digits_of (most - 1) (n / 10) ++ (last_digit n ∷ []) ≡ digits_of most n
unfolding digits_of
digits_more zero n some high = absurd (some refl)
digits_more (suc most) n some high = rw (le-ltb n 10 high, sub-one)

-- some bytes are stored behind the first `at`
pub put_stored :
    {exit : List ℕ} (text : List ℕ) (at : ℕ) (bytes : List ℕ)
    → at + length bytes ≤ length text
    → exit ≡ sets text at bytes
    → Put text exit at bytes (at + length bytes)
put_stored text at bytes room stored =
    let before : length (take at text) ≡ at = length-take-le at text (omega arith) in
    let both : length (take at text ++ bytes) ≡ at + length bytes =
    length-append (take at text) bytes ∙ ap (λ (n : ℕ). n + length bytes) before in
    let rest = drop (at + length bytes) text in
    record {
      end_is = refl;
      inside = rw (stored, length-sets text at bytes) room;
      bytes_are =
          ap (take (at + length bytes)) (stored ∙ sets-eq bytes text at room)
          ∙ take_at (take at text ++ bytes) rest (at + length bytes) both;
    }

-- a number has at most 20 digits, and then the byte that ends it
pub field_few : (n last : ℕ) → length (field n last) ≤ 21
unfolding field
field_few n last = omega (arith, digits_few 20 n, length-append (digits_of 20 n) (last ∷ []))

-- so that a line has at most 64 bytes
pub move_few : (position entry next : ℕ) → length (move_line position entry next) ≤ 64
unfolding move_line
move_few position entry next =
    omega (
      arith,
      length-append (field position 44 ++ field entry 44) (field next 10),
      length-append (field position 44) (field entry 44),
      field_few position 44,
      field_few entry 44,
      field_few next 10,
    )

pub refusal_few : (number : ℕ) → length (refusal_line number) ≤ 64
unfolding refusal_line
refusal_few number = simp length-append (omega (arith, field_few number 10))

-- as many bytes as the text that was put
pub put_counts : {entry exit : List ℕ} {bytes : List ℕ} {end : ℕ} → Put entry exit 0 bytes end → end ≡ length (take end exit)
put_counts {exit = exit} {end = end} p = sym (length-take-le end exit p.inside)
