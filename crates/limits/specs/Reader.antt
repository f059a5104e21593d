-- What the reader of a limits file returns. "A third table, names line `resource,most`, gives the most parts (1 to 8) that a
-- resource (0 to 5) may hold". Assumes nothing.
use Rattle.std.specs.Prelude.{Bool, false, cond, not, ◌&&◌, ◌||◌, List, [], ◌∷◌, ℕ, zero, suc, length, get_or, ltb, leb}
use Rattle.std.specs.Prelude.{Result, Ok, Err}
use Rattle.refusals.specs.declared.Broken.{Broken}
use Rattle.refusals.specs.Verdict.{Verdict, Accepted, Refused, first_refusal, first_line, if_accepted, rule3}
use Rattle.refusals.specs.declared.Refusal.TheVariants.{Range, LimitResource}
use Rattle.refusals.specs.Search.{first_below, is_of, tabulate}
use Rattle.tables.specs.Lines.{value_lines}
use Rattle.tables.specs.Table.{rule1, rule2, column}
use Rattle.cell.specs.declared.Cell.{Cell}
use Rattle.cell.specs.Reader.{CellReading}
use Rattle.cell.specs.Rules.{limit_in_range, resource_count, check_cell}

-- "names line `resource,most`", in ASCII
unfoldable pub limits_names : List ℕ
limits_names = 114 ∷ 101 ∷ 115 ∷ 111 ∷ 117 ∷ 114 ∷ 99 ∷ 101 ∷ 44 ∷ 109 ∷ 111 ∷ 115 ∷ 116 ∷ []

-- "the most parts (1 to 8) that a resource (0 to 5) may hold": one of line n's numbers leaves its range
unfoldable pub leaves_range : List ℕ → List ℕ → ℕ → Bool
leaves_range resource most n = not (leb (get_or resource n 0) 5 && limit_in_range (get_or most n 0))

-- "4. A number leaves its range."
unfoldable pub rule4 : List ℕ → Verdict
rule4 file = first_line Range (leaves_range (column file 0) (column file 1)) (length (value_lines file))

-- "the lines don't rise by resource": line n's isn't greater than that of the line before
unfoldable pub does_not_rise : List ℕ → ℕ → Bool
does_not_rise resource zero = false
does_not_rise resource (suc n) = leb (get_or resource (suc n) 0) (get_or resource n 0)

-- "a resource isn't below R or the lines don't rise by resource", of line n
unfoldable pub misplaced : List ℕ → ℕ → ℕ → Bool
misplaced resource R n = leb R (get_or resource n 0) || does_not_rise resource n

-- "20 if a resource isn't below R or the lines don't rise by resource"
unfoldable pub rule20 : List ℕ → ℕ → Verdict
rule20 file R = first_line LimitResource (misplaced (column file 0) R) (length (value_lines file))

-- "a reader of another file is handed the record it adds to, checks that first (line 0)": the record's refusal, naming no line
unfoldable pub at_no_line : Verdict → Verdict
at_no_line Accepted = Accepted
at_no_line (Err broken) = Refused broken.rule 0

-- "rules 1 to 4 hold for this table too", then 20
unfoldable pub file_rules : List ℕ → Cell → List Verdict
file_rules file c = rule1 limits_names file ∷ rule2 2 file ∷ rule3 (length (value_lines file)) ∷ rule4 file ∷ rule20 file (resource_count c) ∷ []

-- the record's rules, then the file's
unfoldable pub judge_limits : List ℕ → Cell → Verdict
judge_limits file c = first_refusal (at_no_line (check_cell c) ∷ file_rules file c)

-- the limit of resource k: the most of its line, or `without` where it has no line
unfoldable pub limit_by : List ℕ → List ℕ → ℕ → ℕ → ℕ → ℕ
limit_by resource most count without k =
    let n = first_below (is_of resource k) count in
    cond (ltb n count) (get_or most n 0) without

-- "The limit becomes part of the cell record", "a resource without a line has 8": the record, the file's limits in place of its own
unfoldable pub limited : List ℕ → Cell → Cell
limited file c =
    record {
      count = c.count;
      resource = c.resource;
      from = c.from;
      act = c.act;
      arg = c.arg;
      to = c.to;
      limits = tabulate 6 (λ k. limit_by (column file 0) (column file 1) (length (value_lines file)) 8 k);
    }

-- an answer of `read_limits` for a record: it with the file's limits, or a refusal, with which the record stays as it is
unfoldable pub reading_over : Cell → Result Cell Broken → CellReading
reading_over c (Ok cell) = record { verdict = Accepted; cell = cell }
reading_over c (Err broken) = record { verdict = Err broken; cell = c }

-- "and returns it unchanged when it refuses": what the reader returns
unfoldable pub read_limits : List ℕ → Cell → CellReading
read_limits file c = record { verdict = judge_limits file c; cell = if_accepted (judge_limits file c) (limited file c) c }
