use mathlib.Core.Path.{◌≡◌, refl, sym, ◌∙◌}
use native.Mathlib.Omega.{arith}
use lib.ListN.{length}
use Rattle.tables.specs.Numbers.{is_digit}
use Rattle.tables.proofs.LeadingDigits.{Read, read_none, read_more, read_stop, read_long, leading_none, leading_end}
use Rattle.tables.proofs.digits.read_number.Goals as goal

pub loop-i-init : goal.loop-i-init
loop-i-init c = read_none c.args.text.now

pub judge-requires : goal.judge-requires
unfolding is_digit
judge-requires c =
    read_stop c.args.text.now c.loop-i.i c.loop-i.value c.loop-i.invariant
    (leading_none c.args.text.now c.loop-i.i c.loop-i-test.true (sym c.is_ascii_digit.ensures.value ∙ c.if-not-is_ascii_digit.true))

pub returns-then-i-eq5 : goal.returns-then-i-eq5
unfolding is_digit
returns-then-i-eq5 c =
    read_long c.args.text.now c.loop-i.i c.loop-i.value c.loop-i.invariant c.if-i-eq5.true c.loop-i-test.true
    (sym c.is_ascii_digit.ensures.value ∙ c.if-not-is_ascii_digit.false)

pub loop-i-preserved : goal.loop-i-preserved
unfolding is_digit
loop-i-preserved c =
    rw c.from.ensures
    (read_more c.args.text.now c.loop-i.i c.loop-i.value c.loop-i.invariant c.loop-i-test.true (omega arith)
    (sym c.is_ascii_digit.ensures.value ∙ c.if-not-is_ascii_digit.false))

pub judge-requires-2 : goal.judge-requires-2
judge-requires-2 c =
    let s = c.args.text.now in
    let end : c.loop-i.i ≡ length s = omega arith in
    let R : Read s (length s) c.loop-i.value = rw end at c.loop-i.invariant in
    read_stop s (length s) c.loop-i.value R (leading_end s (length s) refl)
