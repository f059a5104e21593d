use native.Mathlib.Omega.{arith}
use mathlib.Core.Path.{refl, ap, ◌∙◌}
use Prim.Native.Nat.{◌-◌}
use Rattle.std.specs.Prelude.{Ok, Err}
use Rattle.std.proofs.lemmas.Bool.Decides.{nat_tests}
use Rattle.recipe.specs.declared.Recipe.{Recipe}
use Rattle.records.specs.Encoding.{recipe_from}
use Rattle.chapters.specs.Joined.{Chapters}
use Rattle.chapters.proofs.ChapterBytes.{one_record}
use Rattle.run.specs.Calls.{Move, next_move, answered, report_of}
use Rattle.printout.specs.Turn.{position_in}
use Rattle.printout.proofs.ByteAnswers.{no_digit, entry_in, report_made, report_refused}
use Rattle.printout.proofs.turn.answer.Goals as goal

-- The call tells of the number that it is given: here and below arithmetic carries this to the byte.
pub returns-then-not-is_ascii_digit : goal.returns-then-not-is_ascii_digit
returns-then-not-is_ascii_digit c =
    let s = c.args in
    no_digit s.cell (recipe_from s.recipes.now) s.table.now s.run s.byte s.text.now s.at (omega (arith, c.requires.at_in_bounds))
    (grind (arith, nat_tests))

pub returns-in-Ok : goal.returns-in-Ok
unfolding answered
returns-in-Ok c =
    let s = c.args in
    let one = one_record s.recipes.now (omega (arith, c.requires.recipes_len)) (omega (arith, c.requires.recipes_len)) in
    report_made
    s.cell
    (recipe_from s.recipes.now)
    s.table.now
    s.run
    s.byte
    (grind (arith, nat_tests))
    (answered s.run (Ok c.in-Ok.next))
    (c.in-Ok.ensures ∙ ap (λ (rs : Chapters). report_of s.cell rs s.table.now s.run (s.byte - 48)) one)
    c.from.result
    refl
    (c.position_of-here.ensures ∙ ap (λ (x : Recipe). position_in s.cell x s.run) c.get_recipe-recipe.ensures)
    (c.from.ensures
    ∙ c.unwrap_or-entry.ensures
    ∙ entry_in c.next_move.result
    ∙ ap (λ (m : Move). m.entry) c.next_move.ensures
    ∙ ap (λ (rs : Chapters). (next_move s.cell rs s.table.now s.run).entry) one)
    (c.position_of-there.ensures
    ∙ ap (λ (x : Recipe). position_in s.cell x c.in-Ok.next) c.get_recipe-recipe.ensures)
    c.put_move.ensures

pub returns-in-Err : goal.returns-in-Err
unfolding answered
returns-in-Err c =
    let s = c.args in
    let one = one_record s.recipes.now (omega (arith, c.requires.recipes_len)) (omega (arith, c.requires.recipes_len)) in
    report_refused
    s.cell
    (recipe_from s.recipes.now)
    s.table.now
    s.run
    s.byte
    (grind (arith, nat_tests))
    (answered s.run (Err c.in-Err.broken))
    (c.in-Err.ensures ∙ ap (λ (rs : Chapters). report_of s.cell rs s.table.now s.run (s.byte - 48)) one)
    refl
    c.number.ensures
    c.put_refusal.ensures
