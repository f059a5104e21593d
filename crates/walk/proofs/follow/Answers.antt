use mathlib.Core.Path.{refl, ◌∙◌}
use Prim.Native.Nat.{◌+◌}
use native.Mathlib.Omega.{arith}
use Rattle.std.proofs.lemmas.Bool.{not-true, not-false}
use Rattle.records.specs.Encoding.{recipe_from}
use Rattle.walk.proofs.InputReads.{following_on_none, following_on_next, followed_on_all, followed_on_over}
use Rattle.walk.proofs.follow.Goals as goal

pub loop-init : goal.loop-init
loop-init g c =
    let s = c.args in
    record {
      on = following_on_none s.cell (recipe_from s.recipes.now) s.table.now _ _ c.fresh.result c.fresh.ensures;
      more = refl;
      recipes_len = c.requires;
      bytes_len = refl;
      text_len = refl;
    }

pub returns-then-not-step-clause-streams : goal.returns-then-not-step-clause-streams
returns-then-not-step-clause-streams g c =
    let s = c.args in
    let l = c.loop in
    let took = c.take_some-step in
    followed_on_over s.cell (recipe_from s.recipes.now) s.table.now s.reads (l.counter + 1) took.result _ _ _ _
    (following_on_next s.cell (recipe_from s.recipes.now) s.table.now l.counter l.step took.result took.new.bytes took.new.text _ _ _ _ _ _
    l.invariant.on l.invariant.more took.ensures.stepped took.ensures.read took.ensures.written)
    (not-true _ c.if-not-step.true)

pub returns-then-not-step-clause-followed : goal.returns-then-not-step-clause-followed
returns-then-not-step-clause-followed g c = (returns-then-not-step-clause-streams g c).followed

pub loop-preserved : goal.loop-preserved
loop-preserved g c =
    let s = c.args in
    let l = c.loop in
    let took = c.take_some-step in
    record {
      on =
          following_on_next s.cell (recipe_from s.recipes.now) s.table.now l.counter l.step took.result took.new.bytes took.new.text
          _ _ _ _ _ _ l.invariant.on l.invariant.more took.ensures.stepped took.ensures.read took.ensures.written;
      more = not-false _ c.if-not-step.false;
      recipes_len = l.invariant.recipes_len;
      bytes_len = took.auto.bytes ∙ l.invariant.bytes_len;
      text_len = took.auto.text ∙ l.invariant.text_len;
    }

pub returns-clause-streams : goal.returns-clause-streams
returns-clause-streams g c =
    let s = c.args in
    let l = c.loop in
    followed_on_all s.cell (recipe_from s.recipes.now) s.table.now s.reads l.counter l.step _ _ _ _ l.invariant.on (omega arith)
