-- A cell with operation lines more, behind its own. Assumes nothing.
use Rattle.std.specs.Prelude.{List, [], ◌∷◌, suc, set}
use Rattle.cell.specs.declared.Cell.{Cell}
use Rattle.cell.specs.declared.OperationLine.{OperationLine}

-- "every operation line (resource, from, operation, to)": the cell with this line added behind the others, as one of act 1
unfoldable pub with_line : Cell → OperationLine → Cell
with_line c l =
    record {
      count = suc c.count;
      resource = set c.resource c.count l.resource;
      from = set c.from c.count l.from;
      act = set c.act c.count 1;
      arg = set c.arg c.count l.operation;
      to = set c.to c.count l.to;
      limits = c.limits;
    }

-- and with several, one after another
unfoldable pub with_lines : Cell → List OperationLine → Cell
with_lines c [] = c
with_lines c (l ∷ rest) = with_lines (with_line c l) rest
