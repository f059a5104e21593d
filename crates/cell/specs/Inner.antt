-- What the inner functions answer. Only their contracts cite it; what a call returns is defined without it. Assumes nothing.
use Rattle.std.specs.Prelude.{List, [], ◌∷◌, ℕ, ◌+◌, ◌*◌, ◌%◌, ◌<◌, ◌≤◌, get_or}
use Rattle.refusals.specs.Verdict.{Verdict, no_line, if_accepted}
use Rattle.refusals.specs.declared.Refusal.TheVariants.{LimitResource}
use Rattle.refusals.specs.Search.{any_below}
use Rattle.cell.specs.declared.Cell.{Cell}
use Rattle.cell.specs.Reader.{CellReading}
use Rattle.cell.specs.Rules.{rule4, rule4_limits, greatest_resource, rule5, rule6, limits_absent, rule23}
use Rattle.cell.specs.Reader.{no_cell}

-- rule 4, of the lines and then of the limits
unfoldable pub ranges : Cell → List Verdict
ranges c = rule4 c ∷ rule4_limits c ∷ []

-- what is tried of lines whose numbers are in range, in order, before the limits
unfoldable pub port_rules : Cell → List Verdict
port_rules c = rule5 c ∷ rule6 c ∷ []

-- what the reader tries of such lines, in order: its limits are all 8, so that 20 has nothing to say
unfoldable pub after_range : Cell → List Verdict
after_range c = rule5 c ∷ rule6 c ∷ rule23 c ∷ []

-- the answer of a reader that found the record, with this verdict on it
unfoldable pub reading : Verdict → Cell → CellReading
reading verdict cell = record { verdict = verdict; cell = if_accepted verdict cell no_cell }

-- rule 20 of a record with these limits and lines' resources
unfoldable pub limits_verdict : List ℕ → List ℕ → ℕ → Verdict
limits_verdict limits resource count = no_line LimitResource (any_below (limits_absent limits (greatest_resource resource count + 1)) 6)

-- the place of an act on a port
abbrev pub place : ℕ → ℕ → ℕ
place act arg = act % 4 * 64 + arg % 64

-- for each line from m on, what is stored at its place is no later line
abbrev pub Starts : List ℕ → List ℕ → ℕ → ℕ → List ℕ → Type 0
Starts act arg count m first = (n : ℕ) → m ≤ n → n < count → get_or first (place (get_or act n 0) (get_or arg n 0)) 0 ≤ n
