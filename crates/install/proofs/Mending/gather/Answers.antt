use mathlib.Core.Path.{◌≡◌, ap, ◌∙◌}
use Prim.Native.Nat.{suc, ◌≤◌}
use native.Mathlib.Omega.{arith}
use Rattle.cell.specs.Longer.{with_line}
use Rattle.cell.specs.declared.Cell.{Cell}
use Rattle.install.proofs.GatheredLines.{gathered_none, gathered_more, gathered_end}
use Rattle.install.proofs.Mending.gather.Goals as goal

pub returns-in_default : goal.returns-in_default
returns-in_default c =
    let l = c.loop-added in
    λ r Q. record {
      gathered = gathered_end _ r (l.invariant.5 r Q) (c.in_default.ensures.next r Q);
      most = omega arith;
      last_from = l.invariant.3;
      last_in = λ some. let low = l.invariant.4 some in omega (arith, l.invariant.2);
      onward = c.requires.le_size.1;
      within = omega arith;
    }

pub loop-added-preserved : goal.loop-added-preserved
unfolding with_line
loop-added-preserved c =
    let l = c.loop-added in
    let within = c.in-Some.ensures.within in
    let longer = c.with_line-longer.ensures ∙ ap (with_line l.longer) c.line_at.ensures in
    let count : c.with_line-longer.result.count ≡ suc l.longer.count = ap (λ (d : Cell). d.count) longer in (
      omega (arith, count, l.invariant.0),
      omega (arith, l.invariant.1, within.0),
      omega (arith, within.1),
      omega (arith, l.invariant.1, within.0),
      λ some. omega arith,
      λ r Q. let next = c.in-Some.ensures.next r Q in gathered_more _ r (l.invariant.5 r Q) next.0 next.1 longer,
    )

pub returns : goal.returns
returns c =
    let l = c.loop-added in
    let all : l.added ≡ c.args.size = omega arith in
    let low = l.invariant.4 (omega (arith, c.requires.le_size.0)) in
    λ r Q. record {
      gathered = rw all at (l.invariant.5 r Q);
      most = omega arith;
      last_from = l.invariant.3;
      last_in = λ some. low;
      onward = omega (arith, l.invariant.3);
      within = l.invariant.2;
    }

pub loop-added-init : goal.loop-added-init
loop-added-init c = (
  omega arith,
  omega arith,
  omega (arith, c.requires.le_size.1),
  omega arith,
  λ (some : 1 ≤ 0). absurd (omega arith),
  λ r Q. gathered_none _ r _,
)
