-- The list of operation lines: its order, what is among its lines, and its bytes. Assumes nothing.
use Rattle.std.specs.Prelude.{Bool, true, false, ◌&&◌, ◌||◌, List, [], ◌∷◌, ◌++◌, ℕ, ◌/◌, length, take, drop, eqb, ltb}
use Rattle.cell.specs.declared.OperationLine.{OperationLine}

-- two lines have the same four numbers
unfoldable pub same_line : OperationLine → OperationLine → Bool
same_line l m =
    eqb l.resource m.resource && (eqb l.from m.from && (eqb l.operation m.operation && eqb l.to m.to))

unfoldable pub is_among : OperationLine → List OperationLine → Bool
is_among l [] = false
is_among l (m ∷ rest) = same_line l m || is_among l rest

-- "by those four numbers in that order": l comes before m
unfoldable pub comes_before : OperationLine → OperationLine → Bool
comes_before l m =
    ltb l.resource m.resource
    || (eqb l.resource m.resource
    && (ltb l.from m.from
    || (eqb l.from m.from
    && (ltb l.operation m.operation || (eqb l.operation m.operation && ltb l.to m.to)))))

-- "The list rises .., each line once.": each line comes before all that follow
unfoldable pub is_first : OperationLine → List OperationLine → Bool
is_first l [] = true
is_first l (m ∷ rest) = comes_before l m && is_first l rest

unfoldable pub rises : List OperationLine → Bool
rises [] = true
rises (l ∷ rest) = is_first l rest && rises rest

-- "four bytes a line"
unfoldable pub line_bytes : OperationLine → List ℕ
line_bytes l = l.resource ∷ l.from ∷ l.operation ∷ l.to ∷ []

unfoldable pub bytes_of : List OperationLine → List ℕ
bytes_of [] = []
bytes_of (l ∷ rest) = line_bytes l ++ bytes_of rest

-- "It fills the lent byte buffer, four bytes a line, as far as whole lines fit, the rest keeps its content"
unfoldable pub filled_with : List OperationLine → List ℕ → List ℕ
filled_with lines buffer =
    let bytes = bytes_of (take (length buffer / 4) lines) in
    bytes ++ drop (length bytes) buffer
