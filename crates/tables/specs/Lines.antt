-- The lines of a file. "Every line ends with byte 10, the last too." Assumes nothing.
use Rattle.std.specs.Prelude.{cond, List, [], ◌∷◌, ℕ, ◌+◌, ◌-◌, length, get_or, take, drop, eqb, ltb}

-- a byte put before the first of some pieces
unfoldable pub lengthened : ℕ → List (List ℕ) → List (List ℕ)
lengthened b [] = []
lengthened b (piece ∷ pieces) = (b ∷ piece) ∷ pieces

-- the pieces of a text that the byte x parts, one more than it has bytes x
unfoldable pub parted : ℕ → List ℕ → List (List ℕ)
parted x [] = [] ∷ []
parted x (b ∷ text) = cond (eqb b x) ([] ∷ parted x text) (lengthened b (parted x text))

-- "Here a line is only what byte 10 ends, in good files and bad.": all pieces but the last
unfoldable pub lines : List ℕ → List (List ℕ)
lines file = take (length (parted 10 file) - 1) (parted 10 file)

-- "Then come 1 to 64 value lines": the lines after the names line, however many
unfoldable pub value_lines : List ℕ → List (List ℕ)
value_lines file = drop 1 (lines file)

-- "The reader can show value line n as the bytes of the file itself, without byte 10; empty if there is none."
unfoldable pub shown_line : List ℕ → ℕ → List ℕ
shown_line file n = get_or (value_lines file) n []

-- how many bytes some lines take in a file, their bytes 10 too
unfoldable pub extent : List (List ℕ) → ℕ
extent [] = 0
extent (line ∷ rest) = length line + 1 + extent rest

-- where value line n starts in the file: past the names line and the n value lines before it; 0 if there is none
unfoldable pub line_start : List ℕ → ℕ → ℕ
line_start file n = cond (ltb n (length (value_lines file))) (extent (take (n + 1) (lines file))) 0
