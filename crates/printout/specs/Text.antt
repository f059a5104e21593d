-- The lines that `walk` prints: "position, entry, next position", and "`refused,` and its number". Assumes nothing.
use Rattle.std.specs.Prelude.{◌≡◌, cond, List, [], ◌∷◌, ◌++◌, ℕ, zero, suc, ◌+◌, ◌/◌, ◌%◌, ◌≤◌, length, take, ltb}

-- the last digit of a number, in ASCII
unfoldable pub last_digit : ℕ → ℕ
last_digit n = 48 + n % 10

-- the decimal digits of a number without a needless leading zero, the last `most` of them at most
unfoldable pub digits_of : ℕ → ℕ → List ℕ
digits_of zero n = []
digits_of (suc most) n = cond (ltb n 10) (last_digit n ∷ []) (digits_of most (n / 10) ++ (last_digit n ∷ []))

-- a number and the byte that ends it; no number of 64 bits has more than 20 digits
unfoldable pub field : ℕ → ℕ → List ℕ
field n last = digits_of 20 n ++ (last ∷ [])

-- "position, entry, next position", parted by commas and ended by byte 10
unfoldable pub move_line : ℕ → ℕ → ℕ → List ℕ
move_line position entry next = field position 44 ++ field entry 44 ++ field next 10

-- "A refusal prints as `refused,` and its number"
unfoldable pub refusal_line : ℕ → List ℕ
refusal_line number = (114 ∷ 101 ∷ 102 ∷ 117 ∷ 115 ∷ 101 ∷ 100 ∷ 44 ∷ []) ++ field number 10

-- some bytes are put into a buffer behind its first `at`, and end before `end`
pub record Put (entry exit : List ℕ) (at : ℕ) (bytes : List ℕ) (end : ℕ) : Type 0 where
  pub end_is : end ≡ at + length bytes
  pub inside : end ≤ length exit
  pub bytes_are : take end exit ≡ take at entry ++ bytes
