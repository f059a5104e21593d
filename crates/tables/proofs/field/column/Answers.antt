use mathlib.Core.Path.{◌≡◌, refl, sym}
use mathlib.Core.Bool.{true, false}
use native.Mathlib.Omega.{arith}
use lib.ListN.{replicate}
use Rattle.std.proofs.lemmas.Bool.Decides.{nat_tests}
use Rattle.refusals.specs.Search.{first_below, tabulate}
use Rattle.refusals.proofs.Scan.{first_more, first_hit}
use Rattle.refusals.proofs.TabulatedLists.{fill}
use Rattle.tables.specs.Reading.{within, kept_number}
use Rattle.tables.proofs.Columns.{outside}
use Rattle.tables.proofs.field.column.Goals as goal

pub loop-i-init : goal.loop-i-init
unfolding first_below tabulate
loop-i-init c = record { lines_are = refl; values_are = refl }

pub returns-then-n-least : goal.returns-then-n-least
unfolding within kept_number
returns-then-n-least c =
    let l = c.loop-i in
    let out : outside c.args.numbers.now c.args.field c.args.least c.args.most l.i ≡ true = grind (arith, nat_tests) in
    record { fewer = l.auto.i-end; lines_are = sym (first_hit _ _ _ c.loop-i-test.true l.invariant.lines_are out); values_are = l.invariant.values_are }

pub loop-i-preserved : goal.loop-i-preserved
unfolding within kept_number
loop-i-preserved c =
    let l = c.loop-i in
    let inside : outside c.args.numbers.now c.args.field c.args.least c.args.most l.i ≡ false = grind (arith, nat_tests) in
    record {
      lines_are = first_more _ _ l.invariant.lines_are inside;
      values_are = rw l.invariant.values_are (fill (kept_number c.args.numbers.now c.args.field) (replicate 64 0) l.i (omega arith));
    }
