use mathlib.Core.Path.{◌≡◌}
use native.Mathlib.Omega.{arith}
use Rattle.tables.proofs.TextPieces.{rest}
use Rattle.tables.proofs.LineWalk.{stands_first, stands_next, found_past, found_end, found_line}
use Rattle.tables.proofs.lines.find_line.Goals as goal

pub loop-init : goal.loop-init
loop-init c = stands_first c.args.file.now c.next_line-at.result c.next_line-at.ensures

pub returns-then-at-file : goal.returns-then-at-file
returns-then-at-file c =
    found_past c.args.file.now c.loop.counter c.loop.at c.loop.invariant c.if-at-file.true c.args.n c.loop-test.true

pub next_line-at-requires-in-loop : goal.next_line-at-requires-in-loop
next_line-at-requires-in-loop c = c.loop.invariant.within

pub loop-preserved : goal.loop-preserved
loop-preserved c =
    stands_next c.args.file.now c.loop.counter c.loop.at c.loop.invariant c.next_line-at-in-loop.result c.next_line-at-in-loop.ensures

pub returns-then-length-file : goal.returns-then-length-file
returns-then-length-file c =
    let n-is : c.loop.counter ≡ c.args.n = omega arith in
    found_end c.args.file.now c.args.n c.loop.at (rw n-is at c.loop.invariant) _ (rw rest at c.line_length-length.ensures) c.if-length-file.true

pub returns : goal.returns
returns c =
    let n-is : c.loop.counter ≡ c.args.n = omega arith in
    found_line c.args.file.now c.args.n c.loop.at (rw n-is at c.loop.invariant) _ (rw rest at c.line_length-length.ensures) c.if-length-file.false
