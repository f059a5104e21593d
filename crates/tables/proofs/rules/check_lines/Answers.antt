use mathlib.Core.Path.{◌≡◌}
use native.Mathlib.Omega.{arith}
use lib.ListN.{drop}
use Rattle.std.specs.Prelude.{Some}
use Rattle.tables.specs.Reading.{line_of}
use Rattle.tables.proofs.TextPieces.{rest}
use Rattle.tables.proofs.ValueLines.{a_row, judges_none, judges_more, judges_broken, judges_end, row_within}
use Rattle.tables.proofs.KeptNumbers.{line_size, line_number, kept_none, kept_more, checked_broken, checked_whole}
use Rattle.tables.proofs.rules.check_lines.Goals as goal

pub loop-at-init : goal.loop-at-init
loop-at-init c = record {
  judges = judges_none c.args.k c.args.file.now c.next_line-at.result c.next_line-at.ensures;
  kept = kept_none c.args.k c.args.file.now c.args.store.now;
}

pub returns-in_default : goal.returns-in_default
returns-in_default c =
    let l = c.loop-at in
    checked_broken c.args.k c.args.file.now _ l.store
    (judges_broken c.args.k c.args.file.now l.n l.at l.invariant.judges c.loop-at-test.true (rw rest at c.in_default.ensures))

pub overflow_add-at : goal.overflow_add-at
overflow_add-at c =
    let l = c.loop-at in
    let within = row_within c.args.k c.args.file.now l.n l.at l.invariant.judges c.in-Some.line (rw rest at c.in-Some.ensures) in
    omega arith

pub loop-at-smaller : goal.loop-at-smaller
loop-at-smaller c =
    let r = a_row c.args.k (drop c.loop-at.at c.args.file.now) c.in-Some.line (rw rest at c.in-Some.ensures) in
    omega (arith, r.length_is)

pub loop-at-preserved : goal.loop-at-preserved
loop-at-preserved c =
    let f = c.args.file.now in
    let l = c.loop-at in
    let L = c.in-Some.line in
    let J = l.invariant.judges in
    let is : Some L ≡ line_of c.args.k (drop l.at f) = rw rest at c.in-Some.ensures in
    let size = line_size c.args.k f l.n l.at J L is c.requires.1 in
    record {
      judges = judges_more c.args.k f l.n l.at J L is;
      kept =
          rw c.keep_line.ensures
          (kept_more c.args.k f l.n l.store L.values (omega arith) size (omega arith) l.invariant.kept
          (line_number c.args.k f l.n l.at J L is c.requires.1));
    }

pub returns : goal.returns
returns c =
    let l = c.loop-at in
    checked_whole c.args.k c.args.file.now l.n l.store
    (judges_end c.args.k c.args.file.now l.n l.at l.invariant.judges c.loop-at-test.false) l.invariant.kept
