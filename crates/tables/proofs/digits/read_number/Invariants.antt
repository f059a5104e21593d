use Rattle.tables.proofs.LeadingDigits.{Read}
use Rattle.tables.proofs.digits.read_number.Given as goal

abbrev pub invariant-loop-i : goal.invariant-loop-i
invariant-loop-i l = Read l.text l.i l.value
