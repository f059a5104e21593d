use Rattle.std.proofs.Common.{◌≡◌, Bool, false, ℕ}
use Rattle.refusals.specs.Search.{any_below, Answers}
use Rattle.refusals.proofs.search.any_below.Given as goal

abbrev pub invariant-loop-n : goal.invariant-loop-n
invariant-loop-n g l = (f : ℕ → Bool) → Answers (goal.F-post g l.holds) f l.count → any_below f l.n ≡ false
