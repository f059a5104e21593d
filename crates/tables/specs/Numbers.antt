-- "decimal numbers, parted by commas". Assumes nothing.
use Rattle.std.specs.Prelude.{Bool, not, ◌&&◌, ◌||◌, List, [], ◌∷◌, ℕ, ◌+◌, ◌-◌, ◌*◌, length, get_or, eqb, leb}
use Rattle.refusals.specs.Search.{every}
use Rattle.tables.specs.Lines.{parted}

-- the byte is one of 0 to 9 in ASCII
unfoldable pub is_digit : ℕ → Bool
is_digit b = leb 48 b && leb b 57

-- "A number has 1 to 5 digits and no needless leading zero."
unfoldable pub is_number : List ℕ → Bool
is_number text = every is_digit text && (leb 1 (length text) && (leb (length text) 5 && (eqb (length text) 1 || not (eqb (get_or text 0 0) 48))))

-- the number that digits write after those of n
unfoldable pub decimal : ℕ → List ℕ → ℕ
decimal n [] = n
decimal n (b ∷ text) = decimal (n * 10 + (b - 48)) text

-- the line is k numbers, parted by commas
unfoldable pub is_row : ℕ → List ℕ → Bool
is_row k line = eqb (length (parted 44 line)) k && every is_number (parted 44 line)
