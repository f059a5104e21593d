-- "Which process to install": the operation lines that are tried, and which of them mend the cell. Assumes nothing.
use Rattle.std.specs.Prelude.{Bool, not, ◌&&◌, [], ◌∷◌, ℕ, get_or, eqb, ltb}
use Rattle.refusals.specs.Search.{any_below}
use Rattle.cell.specs.declared.Cell.{Cell}
use Rattle.cell.specs.declared.OperationLine.{OperationLine}
use Rattle.cell.specs.Rules.{resource_count}
use Rattle.cell.specs.Longer.{with_line}
use Rattle.recipe.specs.declared.Recipe.{Recipe}
use Rattle.positions.specs.Sizes.{state_count}
use Rattle.simulation.specs.Simulation.{Realisable}

-- a line with these numbers is the operation line
unfoldable pub is_operation : ℕ → ℕ → ℕ → ℕ → ℕ → OperationLine → Bool
is_operation resource from act arg to l =
    eqb act 1 && (eqb resource l.resource && (eqb from l.from && (eqb arg l.operation && eqb to l.to)))

-- "in the cell", as its line n
unfoldable pub is_there : Cell → OperationLine → ℕ → Bool
is_there c l n = is_operation (get_or c.resource n 0) (get_or c.from n 0) (get_or c.act n 0) (get_or c.arg n 0) (get_or c.to n 0) l

unfoldable pub is_in_cell : Cell → OperationLine → Bool
is_in_cell c l = any_below (is_there c l) c.count

-- "states that the resource already has": resource k has state s
unfoldable pub has_state : Cell → ℕ → ℕ → Bool
has_state c k s = ltb k (resource_count c) && ltb s (state_count c.resource c.from c.to c.count k)

-- "an operation that the recipe names", at line n: that of a do or of a test
unfoldable pub names_at : Recipe → ℕ → ℕ → Bool
names_at r o n = not (eqb (get_or r.kind n 0) 0) && eqb (get_or r.op n 0) o

unfoldable pub is_named : Recipe → ℕ → Bool
is_named r o = any_below (names_at r o) r.count

-- "every operation line (resource, from, operation, to) that isn't in the cell, uses states that the resource already has and an
-- operation that the recipe names"
unfoldable pub is_candidate : Cell → Recipe → OperationLine → Bool
is_candidate c r l =
    has_state c l.resource l.from && (has_state c l.resource l.to && (is_named r l.operation && not (is_in_cell c l)))

-- "and alone makes the recipe acceptable": it is realisable by the cell with this one line added
abbrev pub Mends : Cell → Recipe → OperationLine → Type 0
Mends c r l = Realisable (with_line c l) (r ∷ [])
