use Rattle.std.proofs.Common.{◌≡◌, Bool, true, ℕ}
use Rattle.refusals.specs.Search.{all_below, Answers}
use Rattle.refusals.proofs.search.all_below.Given as goal

abbrev pub invariant-loop-n : goal.invariant-loop-n
invariant-loop-n g l = (f : ℕ → Bool) → Answers (goal.F-post g l.holds) f l.count → all_below f l.n ≡ true
