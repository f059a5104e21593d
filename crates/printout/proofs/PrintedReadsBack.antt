-- A number that is printed is the one that a reader of number tables reads. Assumes nothing.
use mathlib.Core.Path.{◌≡◌, refl, ◌∙◌}
use mathlib.Core.Bool.{Bool, true, false, cond}
use mathlib.Core.List.{List, [], ◌∷◌, ◌++◌}
use Prim.Native.Nat.{ℕ, zero, suc, ◌+◌, ◌-◌, ◌*◌, ◌/◌, ◌^◌, ◌<◌}
use native.Mathlib.Nat.{pow-zero, pow-suc}
use native.Mathlib.Omega.{arith}
use lib.Dec.{ltb}
use borrow.Author.Tests.{ltb-true}
use Rattle.tables.specs.Numbers.{decimal}
use Rattle.printout.specs.Text.{last_digit, digits_of}

-- the number that one digit more writes
decimal_last : (n : ℕ) (text : List ℕ) (b : ℕ) → decimal n (text ++ (b ∷ [])) ≡ decimal n text * 10 + (b - 48)
unfolding decimal
decimal_last n [] b = refl
decimal_last n (x ∷ text) b = decimal_last (n * 10 + (x - 48)) text b

pub read_back : (most n : ℕ) → n < 10 ^ most → decimal 0 (digits_of most n) ≡ n
unfolding digits_of decimal last_digit
read_back zero n low = omega (arith, pow-zero 10)
read_back (suc most) n low = go (ltb n 10) refl (λ less. read_back most (n / 10) less)
  where
    go : (b : Bool) → ltb n 10 ≡ b → (n / 10 < 10 ^ most → decimal 0 (digits_of most (n / 10)) ≡ n / 10)
        → decimal 0 (cond b (last_digit n ∷ []) (digits_of most (n / 10) ++ (last_digit n ∷ []))) ≡ n
    go true e h = omega (arith, ltb-true n 10 e)
    go false e h = decimal_last 0 (digits_of most (n / 10)) (last_digit n) ∙ omega (arith, h (omega (arith, pow-suc 10 most)))

-- every number of 64 bits has no more than 20 digits
pub numeral_reads : (n : ℕ) → n < 2 ^ 64 → decimal 0 (digits_of 20 n) ≡ n
numeral_reads n low = read_back 20 n (omega arith)
