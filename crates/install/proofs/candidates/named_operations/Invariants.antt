use Rattle.install.proofs.NamedOperations.{NamedBy}
use Rattle.install.proofs.candidates.named_operations.Given as goal

abbrev pub invariant-loop-n : goal.invariant-loop-n
invariant-loop-n l = NamedBy l.recipe.kind l.recipe.op l.n l.named
