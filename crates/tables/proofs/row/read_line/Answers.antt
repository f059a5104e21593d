use mathlib.Core.Path.{◌≡◌, ◌∙◌}
use Prim.Native.Nat.{◌-◌}
use native.Mathlib.Omega.{arith}
use Rattle.tables.proofs.TextPieces.{rest}
use Rattle.tables.proofs.LineFields.{reads_none, reads_broken, reads_more, reads_unended, reads_line, field_within}
use Rattle.tables.proofs.row.read_line.Goals as goal

pub loop-j-init : goal.loop-j-init
loop-j-init c = reads_none c.args.k c.args.text.now c.requires.0 c.requires.1

pub returns-in_err-field : goal.returns-in_err-field
returns-in_err-field c =
    let l = c.loop-j in
    c.from_residual.ensures ∙ reads_broken c.args.k c.args.text.now l.at l.j l.values l.invariant (omega arith) (rw rest at c.in_err-field.ensures)

pub overflow_add-at : goal.overflow_add-at
overflow_add-at c =
    let l = c.loop-j in
    let within = field_within c.args.k c.args.text.now l.at l.j l.values l.invariant 44 c.in_ok-field.field (rw rest at c.in_ok-field.ensures) in
    omega arith

pub loop-j-preserved : goal.loop-j-preserved
loop-j-preserved c =
    let l = c.loop-j in
    reads_more c.args.k c.args.text.now l.at l.j l.values l.invariant (omega arith) c.in_ok-field.field (rw rest at c.in_ok-field.ensures)

pub returns-in_err-last : goal.returns-in_err-last
returns-in_err-last c =
    let l = c.loop-j in
    c.from_residual-in_err-last.ensures
    ∙ reads_unended c.args.k c.args.text.now l.at l.j l.values l.invariant (omega arith) (rw rest at c.in_err-last.ensures)

pub overflow_add-result : goal.overflow_add-result
overflow_add-result c =
    let l = c.loop-j in
    let within = field_within c.args.k c.args.text.now l.at l.j l.values l.invariant 10 c.in_ok-last.last (rw rest at c.in_ok-last.ensures) in
    omega arith

pub returns : goal.returns
returns c =
    let l = c.loop-j in
    let end : c.args.k - 1 ≡ l.j = omega arith in
    rw end
    (reads_line c.args.k c.args.text.now l.at l.j l.values l.invariant (omega arith) c.in_ok-last.last (rw rest at c.in_ok-last.ensures))
