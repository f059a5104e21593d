-- The search for the lines that mend a cell: lines by number, groups of candidates, and what is listed so far. Only the contracts of
-- the code cite these. Assumes nothing.
use Rattle.std.specs.Prelude.{◌≡◌, Bool, true, false, List, [], ◌∷◌, ℕ, ◌+◌, ◌*◌, ◌-◌, ◌/◌, ◌%◌, ◌<◌, ◌≤◌, length, get_or, ⊤}
use Rattle.std.specs.declared.option.Option.{Option}
use Rattle.std.specs.declared.option.Option.TheVariants.{None, Some}
use Rattle.cell.specs.declared.Cell.{Cell}
use Rattle.cell.specs.declared.OperationLine.{OperationLine}
use Rattle.cell.specs.Longer.{with_lines}
use Rattle.cell.proofs.LongerCell.{Columns}
use Rattle.recipe.specs.declared.Recipe.{Recipe}
use Rattle.positions.specs.declared.Sizes.{Sizes}
use Rattle.positions.specs.Checked.{Checked}
use Rattle.positions.specs.Sizes.{sizes_of}
use Rattle.install.specs.declared.Group.{Group}
use Rattle.install.specs.declared.Mending.{Mending}
use Rattle.install.specs.declared.candidates.Look.{Look}
use Rattle.install.specs.declared.candidates.Look.TheVariants.{Candidate, Past}
use Rattle.install.specs.declared.Progress.{Progress}
use Rattle.install.specs.Candidates.{is_named, is_candidate, Mends}
use Rattle.install.specs.Order.{is_among, rises, filled_with}

-- the line with a number: rising numbers are rising lines, 4096 of them for a resource
unfoldable pub line_at : ℕ → OperationLine
line_at n = record { resource = n / 4096; from = n / 512 % 8; operation = n / 8 % 64; to = n % 8 }

unfoldable pub number_of : OperationLine → ℕ
number_of l = ((l.resource * 8 + l.from) * 64 + l.operation) * 8 + l.to

-- line n is tried
unfoldable pub is_tried : Cell → Recipe → ℕ → Bool
is_tried c r n = is_candidate c r (line_at n)

-- which operations the recipe names
abbrev pub Named : Recipe → List Bool → Type 0
Named r named = (o : ℕ) → o < 64 → get_or named o false ≡ is_named r o

-- what the search is handed: records that passed, with their sizes, and a free line
pub record Asked (c : Cell) (r : Recipe) (z : Sizes) : Type 0 where
  pub columns : Columns c
  pub checked : Checked c r z
  pub own : z ≡ sizes_of c r
  pub free : c.count < 64

-- and with it the operations that the recipe names
pub record Question (c : Cell) (r : Recipe) (z : Sizes) (named : List Bool) : Type 0 where
  pub asked : Asked c r z
  pub names : Named r named

-- the number behind the last line: there are 4096 lines for each resource, and at most six resources
abbrev pub Ends : Mending → Type 0
Ends m = (m.end ≡ 4096 * m.sizes.now.resources) × (m.end ≤ 24576)

-- one look at line n goes on behind it, and not past the lines of its resource and of the state from which it begins
abbrev pub Onward : ℕ → Look → Type 0
Onward n Candidate = ⊤
Onward n (Past next) = (n < next) × (next ≤ (n / 512 + 1) * 512)

-- and line n is a candidate, or none of the lines before the next to be looked at is
abbrev pub Looked : Cell → Recipe → ℕ → Look → Type 0
Looked c r n Candidate = is_tried c r n ≡ true
Looked c r n (Past next) = (m : ℕ) → n ≤ m → m < next → is_tried c r m ≡ false

-- the next candidate from `from` on is n, or there is none before `end`
abbrev pub Next : Cell → Recipe → ℕ → ℕ → Option ℕ → Type 0
Next c r from end None = (m : ℕ) → from ≤ m → m < end → is_tried c r m ≡ false
Next c r from end (Some n) = ((m : ℕ) → from ≤ m → m < n → is_tried c r m ≡ false) × (is_tried c r n ≡ true)

-- the candidates from `from` on and before `next`, so many, added behind the cell's lines; `last` is the number of the last
pub record Gathered (c : Cell) (r : Recipe) (from next added last : ℕ) (longer : Cell) : Type 0 where
  pub lines : List OperationLine
  pub cell_is : longer ≡ with_lines c lines
  pub added_is : added ≡ length lines
  pub candidates : (l : OperationLine) → is_among l lines ≡ true → is_candidate c r l ≡ true
  pub every : (n : ℕ) → from ≤ n → n < next → is_tried c r n ≡ true → is_among (line_at n) lines ≡ true
  pub alone : added ≡ 1 → lines ≡ line_at last ∷ []

-- a group of at most so many candidates
pub record GroupOf (c : Cell) (r : Recipe) (from end size : ℕ) (group : Group) : Type 0 where
  pub gathered : Gathered c r from group.end group.added group.last group.cell
  pub most : group.added ≤ size
  pub last_from : from ≤ group.last
  pub last_in : 1 ≤ group.added → group.last < group.end
  pub onward : from < group.end
  pub within : group.end ≤ end

-- the lines with a number below n are decided: those of them that mend the cell are listed
pub record SoFar (c : Cell) (r : Recipe) (buffer : List ℕ) (n found : ℕ) (list : List ℕ) : Type 0 where
  pub lines : List OperationLine
  pub count_is : found ≡ length lines
  pub list_is : list ≡ filled_with lines buffer
  pub candidates : (l : OperationLine) → is_among l lines ≡ true → is_candidate c r l ≡ true
  pub mend : (l : OperationLine) → is_among l lines ≡ true → Mends c r l
  pub below : (l : OperationLine) → is_among l lines ≡ true → number_of l < n
  pub every : (m : ℕ) → m < n → is_tried c r m ≡ true → Mends c r (line_at m) → is_among (line_at m) lines ≡ true
  pub order : rises lines ≡ true

-- where a search stands: the next group fits behind the cell's lines
pub record Standing (c : Cell) (end : ℕ) (at : Progress) : Type 0 where
  pub most : end ≤ 24576
  pub within : at.next ≤ end
  pub some : 1 ≤ at.size
  pub fits : c.count + at.size ≤ 64
  pub few : at.found ≤ at.next

-- behind a group that is decided: how many candidates are tried next is free, as long as they are at least one and at most so many
pub record Behind (next found most : ℕ) (at : Progress) : Type 0 where
  pub next_is : at.next ≡ next
  pub found_is : at.found ≡ found
  pub some : 1 ≤ at.size
  pub fits : at.size ≤ most

-- a group was tried: the search goes on behind it, or with a smaller one
pub record Tried (c : Cell) (r : Recipe) (end : ℕ) (at : Progress) (list : List ℕ) (at' : Progress) (list' : List ℕ) : Type 0 where
  pub standing : Standing c end at'
  pub nearer : (end - at'.next) * 65 + at'.size < (end - at.next) * 65 + at.size
  pub so_far : (buffer : List ℕ) → SoFar c r buffer at.next at.found list → SoFar c r buffer at'.next at'.found list'
