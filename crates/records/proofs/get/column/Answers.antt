use mathlib.Core.Path.{◌≡◌, refl, ap, ◌∙◌}
use mathlib.Core.List.{◌++◌, append-nil}
use Prim.Native.Nat.{ℕ, ◌+◌, ◌*◌}
use native.Mathlib.Omega.{arith}
use lib.ListN.{get_or, drop, replicate}
use Rattle.refusals.specs.Search.{tabulate}
use Rattle.refusals.proofs.TabulatedLists.{fill}
use Rattle.records.specs.Encoding.{column_of}
use Rattle.records.proofs.get.column.Goals as goal

pub loop-n-init : goal.loop-n-init
unfolding tabulate
loop-n-init c = refl

pub loop-n-preserved : goal.loop-n-preserved
loop-n-preserved c =
    let f : ℕ → ℕ = λ row. get_or c.args.bytes.now (1 + row * c.args.width + c.args.i) 0 in
    rw c.loop-n.invariant (fill f (replicate 64 0) c.loop-n.n c.loop-n-test.true)

pub returns : goal.returns
unfolding column_of
returns c =
    let f : ℕ → ℕ = λ row. get_or c.args.bytes.now (1 + row * c.args.width + c.args.i) 0 in
    let end : c.loop-n.n ≡ 64 = omega arith in
    c.loop-n.invariant ∙ ap (λ (n : ℕ). tabulate n f ++ drop n (replicate 64 0)) end ∙ append-nil (tabulate 64 f)
