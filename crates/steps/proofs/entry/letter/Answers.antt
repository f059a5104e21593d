use Rattle.steps.proofs.LetterDigits.{shifted}
use Rattle.steps.proofs.entry.letter.Goals as goal

pub returns : goal.returns
returns c = shifted _ _
