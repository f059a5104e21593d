use borrow.Author.Rules.{rules}
use Rattle.printout.specs.Text.{last_digit}
use Rattle.printout.proofs.text.last_digit.Goals as goal

pub returns : goal.returns
unfolding last_digit
returns c = search rules
