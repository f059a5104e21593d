use mathlib.Core.Path.{refl}
use native.Mathlib.Omega.{arith}
use Rattle.marks.proofs.MarkSets.{same_room}
use Rattle.install.proofs.ListedSoFar.{so_far_none, so_far_at}
use Rattle.install.proofs.TriedGroups.{numbers_most, standing_first}
use Rattle.install.proofs.search.seek.Goals as goal

pub loop-at-init : goal.loop-at-init
loop-at-init c =
    (refl, refl, refl, standing_first _ _ _ c.requires.asked, so_far_none _ _ _)

pub loop-at-smaller : goal.loop-at-smaller
loop-at-smaller c = c.attempt-at.ensures.nearer

pub shape_of-table : goal.shape_of-table
shape_of-table c = c.loop-at.invariant.0

pub shape_of-scratch : goal.shape_of-scratch
shape_of-scratch c = c.loop-at.invariant.1

pub shape_of-list : goal.shape_of-list
shape_of-list c = c.loop-at.invariant.2

pub returns : goal.returns
returns c =
    let l = c.loop-at in
    let end = l.invariant.3.within in
    (omega (arith, l.invariant.3.few, l.invariant.3.most), so_far_at _ _ _ (omega (arith, c.loop-at-test.false)) l.invariant.4)

pub overflow_mul-end : goal.overflow_mul-end
overflow_mul-end c = omega (arith, numbers_most _ _ _ c.requires.asked)

pub attempt-at-requires-clause-sizes_bound : goal.attempt-at-requires-clause-sizes_bound
attempt-at-requires-clause-sizes_bound c =
    let l = c.loop-at in omega (arith, c.requires.sizes_bound, same_room c.args.scratch.now l.scratch l.invariant.1)
