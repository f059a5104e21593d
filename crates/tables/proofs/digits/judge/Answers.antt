use native.Mathlib.Omega.{arith}
use Rattle.std.proofs.lemmas.Bool.Decides.{nat_tests}
use Rattle.tables.specs.Numbers.{is_number}
use Rattle.tables.specs.Reading.{first_number}
use Rattle.tables.proofs.LeadingDigits.{leading_digits, leading_first, leading_within}
use Rattle.tables.proofs.digits.judge.Goals as goal

pub bounds-text-0 : goal.bounds-text-0
bounds-text-0 c = omega (arith, leading_within c.args.text.now)

pub returns-then-length-eq0 : goal.returns-then-length-eq0
unfolding first_number is_number
returns-then-length-eq0 c = rw (leading_digits c.args.text.now) (grind (arith, nat_tests, leading_first c.args.text.now))

pub returns : goal.returns
unfolding first_number is_number
returns c = rw (leading_digits c.args.text.now) (grind (arith, nat_tests, leading_first c.args.text.now))
