use mathlib.Core.Path.{sym, ap, ◌∙◌}
use Prim.Native.Nat.{◌*◌}
use native.Mathlib.Omega.{arith}
use lib.ListN.{get_or-eq_default}
use Rattle.tables.proofs.TextPieces.{rest}
use Rattle.recipe.specs.Reader.{no_recipe}
use Rattle.records.specs.Encoding.{recipe_from}
use Rattle.chapters.specs.Joined.{chapter_at}
use Rattle.chapters.specs.Records.{chapters_from}
use Rattle.chapters.proofs.ChapterBytes.{chapters_length, chapter_at_lem}
use Rattle.chapters.proofs.chapter.Goals as goal

pub returns-then-number-k : goal.returns-then-number-k
unfolding chapter_at
returns-then-number-k c =
    c.no_recipe.ensures
    ∙ sym (get_or-eq_default (chapters_from c.args.recipes.now) no_recipe (omega (arith, c.number.ensures, c.if-number-k.true)))

pub overflow_mul-start : goal.overflow_mul-start
overflow_mul-start c =
    omega (arith, c.number.ensures, chapters_length c.args.recipes.now)

pub slice_bounds-get_recipe-count : goal.slice_bounds-get_recipe-count
slice_bounds-get_recipe-count c =
    omega (arith, c.number.ensures, chapters_length c.args.recipes.now)

pub slice_bounds-get_recipe-start : goal.slice_bounds-get_recipe-start
slice_bounds-get_recipe-start c =
    omega (arith, c.number.ensures, chapters_length c.args.recipes.now)

pub returns : goal.returns
returns c =
    let bytes = c.args.recipes.now in
    let at = c.args.k * 449 in
    c.get_recipe.ensures
    ∙ ap recipe_from (rest bytes at)
    ∙ sym (chapter_at_lem bytes c.args.k (omega (arith, c.number.ensures, chapters_length bytes)))
