-- What the reader's own steps find: a number and a line at the start of a text, the next line, what rules 1 to 3 keep. Only the
-- contracts of these steps cite it; what a reader returns is defined without it. Assumes nothing.
use Rattle.std.specs.Prelude.{◌≡◌, Bool, Option, None, Some, Result, Ok, Err, cond, not, ◌&&◌, ◌||◌, List, [], ◌∷◌, ◌++◌, map, ℕ, suc, ◌+◌, ◌*◌, ◌<◌, ◌≤◌, length, get_or, take, drop, replicate, eqb, ltb, leb}
use Rattle.std.proofs.lemmas.List.Edits.{sets}
use Rattle.refusals.specs.declared.Refusal.TheVariants.{Form}
use Rattle.refusals.specs.declared.Broken.{Broken}
use Rattle.refusals.specs.Search.{first_below, tabulate}
use Rattle.tables.specs.declared.Number.{Number}
use Rattle.tables.specs.declared.Line.{Line}
use Rattle.tables.specs.declared.Column.{Column}
use Rattle.tables.specs.declared.Span.{Span}
use Rattle.tables.specs.Lines.{parted, value_lines, line_start, shown_line}
use Rattle.tables.specs.Numbers.{is_digit, is_number, decimal, is_row}
use Rattle.tables.specs.Table.{first_broken, number_at}

-- the piece of a text before the first byte x, or the whole
unfoldable pub up_to : ℕ → List ℕ → List ℕ
up_to x [] = []
up_to x (b ∷ text) = cond (eqb b x) [] (b ∷ up_to x text)

-- what follows the first byte x, or nothing
unfoldable pub past : ℕ → List ℕ → List ℕ
past x [] = []
past x (b ∷ text) = cond (eqb b x) text (past x text)

-- the byte x stands in the text
unfoldable pub has : ℕ → List ℕ → Bool
has x text = ltb (length (up_to x text)) (length text)

-- all pieces but the last
unfoldable pub ended : List (List ℕ) → List (List ℕ)
ended [] = []
ended (piece ∷ []) = []
ended (piece ∷ (next ∷ pieces)) = piece ∷ ended (next ∷ pieces)

-- the last piece
unfoldable pub last : List (List ℕ) → List ℕ
last [] = []
last (piece ∷ []) = piece
last (piece ∷ (next ∷ pieces)) = last (next ∷ pieces)

-- what no byte 10 ends
unfoldable pub unended : List ℕ → List ℕ
unended file = last (parted 10 file)

-- the digits at the start of a text
unfoldable pub leading : List ℕ → List ℕ
leading [] = []
leading (b ∷ text) = cond (is_digit b) (b ∷ leading text) []

-- the text starts with a number and the byte x
unfoldable pub starts_field : ℕ → List ℕ → Bool
starts_field x text = is_number (leading text) && (ltb (length (leading text)) (length text) && eqb (get_or text (length (leading text)) 0) x)

-- the number at the start of a text, if its leading digits are one
unfoldable pub first_number : List ℕ → Option Number
first_number text = cond (is_number (leading text)) (Some (record { length = length (leading text); value = decimal 0 (leading text) })) None

-- the number at the start of a text that the byte x ends, with the length of both, if there is one
unfoldable pub field_of : ℕ → List ℕ → Option Number
field_of x text = cond (starts_field x text) (Some (record { length = suc (length (leading text)); value = decimal 0 (leading text) })) None

-- the text starts with a line of k numbers
unfoldable pub starts_row : ℕ → List ℕ → Bool
starts_row k text = has 10 text && is_row k (up_to 10 text)

-- the numbers of a line
unfoldable pub numbers : List ℕ → List ℕ
numbers line = map (decimal 0) (parted 44 line)

-- the line of k numbers at the start of a text, with its length, byte 10 included, if there is one
unfoldable pub line_of : ℕ → List ℕ → Option Line
line_of k text =
    cond (starts_row k text) (Some (record { length = suc (length (up_to 10 text)); values = sets (replicate 7 0) 0 (numbers (up_to 10 text)) })) None

-- a value line isn't k numbers, or something follows the last byte 10; no byte of the names line is looked at
unfoldable pub breaks : ℕ → List ℕ → Bool
breaks k file = ltb (first_broken k (value_lines file)) (length (value_lines file)) || ltb 0 (length (unended (past 10 file)))

-- how many value lines there are, or rule 2's refusal with the first broken one
unfoldable pub form_of : ℕ → List ℕ → Result ℕ Broken
form_of k file =
    cond (breaks k file) (Err (record { rule = Form; line = first_broken k (value_lines file) + 2 })) (Ok (length (value_lines file)))

-- value line n lies at the span, inside the file
pub record Lies (file : List ℕ) (n : ℕ) (span : Span) : Type 0 where
  pub there : n < length (value_lines file)
  pub start_is : span.start ≡ line_start file n
  pub length_is : span.length ≡ length (shown_line file n)
  pub inside : span.start + span.length ≤ length file
  pub bytes : take span.length (drop span.start file) ≡ shown_line file n

-- there is no value line n
pub record Lacks (file : List ℕ) (n : ℕ) : Type 0 where
  pub fewer : length (value_lines file) ≤ n
  pub start_is : line_start file n ≡ 0
  pub bytes : shown_line file n ≡ []

-- where value line n lies, if it is there
abbrev pub Found : List ℕ → ℕ → Option Span → Type 0
Found file n (Some span) = Lies file n span
Found file n None = Lacks file n

-- the next line starts at r, past the line at `at` where byte 10 ends that one, or r is the file's end
pub record NextLine (file : List ℕ) (at r : ℕ) : Type 0 where
  pub within : r ≤ length file
  pub rest : drop r file ≡ past 10 (drop at file)
  pub moved : length (up_to 10 (drop at file)) < length (drop at file) → r ≡ at + length (up_to 10 (drop at file)) + 1

-- line n put into a store of seven places a line; a line past the 64th is not kept
unfoldable pub kept_line : List ℕ → ℕ → List ℕ → List ℕ
kept_line store n values = cond (ltb n 64) (take (n * 7) store ++ (values ++ drop (n * 7 + 7) store)) store

-- the store has the k numbers of each of the first `count` value lines, as far as the 64th
pub record Kept (k : ℕ) (file : List ℕ) (count : ℕ) (store : List ℕ) : Type 0 where
  pub number : (i j : ℕ) → i < count → i < 64 → j < k → get_or store (i * 7 + j) 0 ≡ number_at file j i

-- what rule 2 finds in a file, and what it leaves in the store
pub record FormChecked (k : ℕ) (file : List ℕ) (form : Result ℕ Broken) (store : List ℕ) : Type 0 where
  pub form_is : form ≡ form_of k file
  pub kept : (count : ℕ) → form ≡ Ok count → Kept k file count store

-- number j of line i in such a store
unfoldable pub kept_number : List ℕ → ℕ → ℕ → ℕ
kept_number store j i = get_or store (i * 7 + j) 0

-- a number from least to most
unfoldable pub within : ℕ → ℕ → ℕ → Bool
within least most n = leb least n && leb n most

-- the numbers j of the first `count` lines, up to the first that is outside its range
pub record Ranged (store : List ℕ) (count j least most : ℕ) (column : Column) : Type 0 where
  pub fewer : column.lines ≤ count
  pub lines_are : column.lines ≡ first_below (λ i. not (within least most (kept_number store j i))) count
  pub values_are : column.values ≡ tabulate column.lines (kept_number store j) ++ drop column.lines (replicate 64 0)
