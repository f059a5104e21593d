use Rattle.std.proofs.Common.{◌≡◌, Bool, ℕ}
use Rattle.refusals.specs.Search.{first_below, Answers}
use Rattle.refusals.proofs.search.first_below.Given as goal

abbrev pub invariant-loop-n : goal.invariant-loop-n
invariant-loop-n g l = (f : ℕ → Bool) → Answers (goal.F-post g l.holds) f l.count → first_below f l.n ≡ l.n
