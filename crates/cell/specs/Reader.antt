-- What the reader of a cell file returns. Assumes nothing.
use Rattle.std.specs.Prelude.{Result, Ok, Err, List, [], ◌∷◌, ℕ, length, replicate}
use Rattle.refusals.specs.declared.Broken.{Broken}
use Rattle.refusals.specs.Verdict.{Verdict, Accepted, first_refusal, if_accepted}
use Rattle.tables.specs.Lines.{value_lines}
use Rattle.tables.specs.Table.{rule1, rule2, column}
use Rattle.cell.specs.declared.Cell.{Cell}
use Rattle.cell.specs.Rules.{cell_rules}

-- "The first line is exactly `resource,from,act,arg,to`", in ASCII
unfoldable pub cell_names : List ℕ
cell_names =
    114 ∷ 101 ∷ 115 ∷ 111 ∷ 117 ∷ 114 ∷ 99 ∷ 101 ∷ 44 ∷ 102 ∷ 114 ∷ 111 ∷ 109 ∷ 44 ∷ 97 ∷ 99 ∷ 116 ∷ 44 ∷ 97 ∷ 114 ∷ 103 ∷ 44 ∷ 116 ∷ 111 ∷ []

-- "the cell reader's record has 8 everywhere, refused or not": a station without a line in the limits file "has 8"
abbrev pub no_limits : List ℕ
no_limits = replicate 6 8

-- the record that the file's value lines write, five numbers to a line
unfoldable pub cell_of : List ℕ → Cell
cell_of file =
    let field = column file in
    record {
      count = length (value_lines file);
      resource = field 0;
      from = field 1;
      act = field 2;
      arg = field 3;
      to = field 4;
      limits = no_limits;
    }

-- "Each of the two readers tries a rule over the whole file before the next rule."
unfoldable pub judge_cell : List ℕ → Verdict
judge_cell file = first_refusal (rule1 cell_names file ∷ rule2 5 file ∷ cell_rules (cell_of file))

-- "a record of no lines"
abbrev pub no_cell : Cell
no_cell =
    let zeros : List ℕ = replicate 64 0 in
    record { count = 0; resource = zeros; from = zeros; act = zeros; arg = zeros; to = zeros; limits = no_limits }

-- what a reader gives: its verdict and the record
pub record CellReading : Type 0 where
  pub verdict : Verdict
  pub cell : Cell

-- an answer of `read_cell`: the record, or a refusal, with which there is a record of no lines
unfoldable pub reading_of : Result Cell Broken → CellReading
reading_of (Ok cell) = record { verdict = Accepted; cell = cell }
reading_of (Err broken) = record { verdict = Err broken; cell = no_cell }

-- "A cell file .. gets the plan or move it deserves or the first refusal of document 01's list that fits": what the reader returns
unfoldable pub read_cell : List ℕ → CellReading
read_cell file = record { verdict = judge_cell file; cell = if_accepted (judge_cell file) (cell_of file) no_cell }
