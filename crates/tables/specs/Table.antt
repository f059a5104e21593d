-- A number table: a names line, then value lines of k numbers. Rules 1 and 2, which it has to pass, and its columns.
-- Assumes nothing.
use Rattle.std.specs.Prelude.{Bool, true, false, cond, ◌&&◌, ◌||◌, List, [], ◌∷◌, ◌++◌, ℕ, suc, ◌+◌, length, get_or, eqb, ltb}
use Rattle.refusals.specs.Verdict.{Verdict, Accepted, Refused}
use Rattle.refusals.specs.declared.Refusal.TheVariants.{Names, Form}
use Rattle.refusals.specs.Search.{tabulate}
use Rattle.tables.specs.Lines.{parted, lines, value_lines, shown_line, extent}
use Rattle.tables.specs.Numbers.{decimal, is_row}

-- the file's start is the text
unfoldable pub starts : List ℕ → List ℕ → Bool
starts [] file = true
starts (x ∷ text) [] = false
starts (x ∷ text) (b ∷ file) = eqb b x && starts text file

-- "1. The names line differs or lacks byte 10."
unfoldable pub rule1 : List ℕ → List ℕ → Verdict
rule1 names file = cond (starts (names ++ (10 ∷ [])) file) Accepted (Refused Names 1)

-- the place of the first line that isn't k numbers, or how many lines there are
unfoldable pub first_broken : ℕ → List (List ℕ) → ℕ
first_broken k [] = 0
first_broken k (line ∷ rest) = cond (is_row k line) (suc (first_broken k rest)) 0

-- a line isn't k numbers, or something follows the last byte 10
unfoldable pub is_broken : ℕ → List ℕ → Bool
is_broken k file = ltb (first_broken k (value_lines file)) (length (value_lines file)) || ltb (extent (lines file)) (length file)

-- "2. A value line has another count of numbers, another form or no byte 10."
unfoldable pub rule2 : ℕ → List ℕ → Verdict
rule2 k file = cond (is_broken k file) (Refused Form (first_broken k (value_lines file) + 2)) Accepted

-- the number that field j of value line n writes; 0 where there is none
unfoldable pub number_at : List ℕ → ℕ → ℕ → ℕ
number_at file j n = decimal 0 (get_or (parted 44 (shown_line file n)) j [])

-- the numbers j of the first 64 value lines, and zeros where there are no more lines
unfoldable pub column : List ℕ → ℕ → List ℕ
column file j = tabulate 64 (number_at file j)
