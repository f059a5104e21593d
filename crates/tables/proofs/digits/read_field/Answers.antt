use mathlib.Core.Path.{◌∙◌}
use native.Mathlib.Omega.{arith}
use Rattle.std.proofs.lemmas.Bool.Decides.{nat_tests}
use Rattle.tables.specs.Reading.{starts_field, field_of}
use Rattle.tables.proofs.LeadingDigits.{written, leading_within, field_none}
use Rattle.tables.proofs.digits.read_field.Goals as goal

pub returns-in_err-length : goal.returns-in_err-length
returns-in_err-length c = c.from_residual.ensures ∙ field_none c.args.end c.args.text.now c.in_err-length.ensures

pub bounds-text-length : goal.bounds-text-length
bounds-text-length c =
    let w = written c.args.text.now c.in_ok-length.field-0 c.in_ok-length.ensures in
    omega (arith, w.length_is, leading_within c.args.text.now)

pub returns-then-length-text : goal.returns-then-length-text
unfolding field_of starts_field
returns-then-length-text c =
    let w = written c.args.text.now c.in_ok-length.field-0 c.in_ok-length.ensures in
    rw (w.good, ← w.length_is) (grind (arith, nat_tests))

pub overflow_add-result : goal.overflow_add-result
overflow_add-result c =
    let w = written c.args.text.now c.in_ok-length.field-0 c.in_ok-length.ensures in
    omega (arith, w.length_is, leading_within c.args.text.now)

pub returns : goal.returns
unfolding field_of starts_field
returns c =
    let w = written c.args.text.now c.in_ok-length.field-0 c.in_ok-length.ensures in
    let l = leading_within c.args.text.now in
    rw (w.good, ← w.length_is, ← w.value_is) (grind (arith, nat_tests))
