-- What the inner functions answer. Only their contracts cite it; what a call returns is defined without it. Assumes nothing.
use Rattle.std.specs.Prelude.{List, ℕ, length}
use Rattle.refusals.specs.Search.{tabulate}
use Rattle.tables.specs.Lines.{value_lines}
use Rattle.tables.specs.Table.{column}
use Rattle.limits.specs.Reader.{limit_by}

-- the limits that the file writes
unfoldable pub limits_of : List ℕ → List ℕ
limits_of file = tabulate 6 (limit_by (column file 0) (column file 1) (length (value_lines file)) 8)
