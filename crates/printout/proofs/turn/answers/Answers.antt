use mathlib.Core.Path.{refl, ◌∙◌}
use native.Mathlib.Omega.{arith}
use borrow.Author.Tests.{not-true, not-false}
use Rattle.records.specs.Encoding.{recipe_from}
use Rattle.printout.proofs.InputInParts.{answers_none, answers_next, answers_few, answers_ended, answers_all}
use Rattle.printout.proofs.turn.answers.Goals as goal

pub loop-byte-init : goal.loop-byte-init
loop-byte-init c =
    let s = c.args in
    record {
      size = refl;
      few = omega arith;
      more = refl;
      answers = answers_none s.cell (recipe_from s.recipes.now) s.table.now s.run s.bytes.now s.text.now;
    }

pub answer-all-requires : goal.answer-all-requires
answer-all-requires c =
    let before = c.loop-byte.invariant in
    record {
      recipes_len = c.requires.recipes_len;
      at_in_bounds = omega (arith, c.requires.bytes_in_bounds, before.size, before.few);
    }

pub returns-then-not-all : goal.returns-then-not-all
returns-then-not-all c =
    let l = c.loop-byte in
    let s = c.args in
    answers_ended s.cell (recipe_from s.recipes.now) s.table.now s.run s.bytes.now l.text _ l.byte-index (omega arith)
    l.all c.answer-all.result l.invariant.answers l.invariant.more
    c.answer-all.ensures (not-true _ c.if-not-all.true)

pub loop-byte-preserved : goal.loop-byte-preserved
loop-byte-preserved c =
    let l = c.loop-byte in
    let s = c.args in
    let few =
    answers_few s.cell (recipe_from s.recipes.now) s.table.now s.run s.bytes.now l.text _ l.byte-index (omega arith)
    l.all c.answer-all.result l.invariant.answers l.invariant.more
    c.answer-all.ensures in
    record {
      size = c.answer-all.auto.text ∙ l.invariant.size;
      few = omega (arith, few, l.invariant.few);
      more = not-false _ c.if-not-all.false;
      answers =
          answers_next s.cell (recipe_from s.recipes.now) s.table.now s.run s.bytes.now l.text _ l.byte-index (omega arith)
          l.all c.answer-all.result l.invariant.answers l.invariant.more
          c.answer-all.ensures;
    }

pub returns : goal.returns
returns c =
    let s = c.args in
    let l = c.loop-byte in
    answers_all s.cell (recipe_from s.recipes.now) s.table.now s.run s.bytes.now l.byte-index (omega arith) l.invariant.answers
