use mathlib.Core.Path.{◌≡◌}
use mathlib.Core.List.{◌++◌}
use lib.ListN.{drop, replicate}
use Rattle.refusals.specs.Search.{first_below, tabulate}
use Rattle.tables.specs.Reading.{kept_number}
use Rattle.tables.proofs.Columns.{outside}
use Rattle.tables.proofs.field.column.Given as goal

abbrev pub invariant-loop-i : goal.invariant-loop-i
invariant-loop-i l = record {
  lines_are : first_below (outside l.numbers l.field l.least l.most) l.i ≡ l.i;
  values_are : l.values ≡ tabulate l.i (kept_number l.numbers l.field) ++ drop l.i (replicate 64 0);
}
