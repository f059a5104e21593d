use Rattle.std.proofs.Common.{◌≡◌, get_or}
use Rattle.recipe.proofs.points.point_start.Given as goal

abbrev pub invariant-loop-k : goal.invariant-loop-k
invariant-loop-k l = get_or l.recipe.point l.k 0 ≡ get_or l.recipe.point l.n 0
