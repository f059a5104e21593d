use native.Mathlib.Omega.{arith}
use Rattle.tables.proofs.TextPieces.{rest, next_some, next_none, line_within}
use Rattle.tables.proofs.lines.next_line.Goals as goal

pub overflow_add-end : goal.overflow_add-end
overflow_add-end c = omega (arith, line_within c.args.file.now c.args.at _ c.requires (rw rest at c.line_length.ensures))

pub returns-then-end-file : goal.returns-then-end-file
returns-then-end-file c = next_some c.args.file.now c.args.at _ c.requires (rw rest at c.line_length.ensures) c.if-end-file.true

pub returns-else-end-file : goal.returns-else-end-file
returns-else-end-file c = next_none c.args.file.now c.args.at _ c.requires (rw rest at c.line_length.ensures) c.if-end-file.false
