-- What the reader answers, by the verdict on the file. Assumes nothing.
use mathlib.Core.Path.{◌≡◌, refl, ap, ◌∙◌}
use mathlib.Core.List.{List}
use Prim.Native.Nat.{ℕ}
use Rattle.std.specs.Prelude.{Result, Err}
use Rattle.refusals.specs.declared.Broken.{Broken}
use Rattle.refusals.specs.Verdict.{Verdict, Accepted, if_accepted, found_if}
use Rattle.recipe.specs.declared.Recipe.{Recipe}
use Rattle.recipe.specs.Reader.{recipe_of, judge_recipe, no_recipe, reading_of, read_recipe}

pub read_refused : {e : Broken} (f : List ℕ) → judge_recipe f ≡ Err e → reading_of (Err e) ≡ read_recipe f
unfolding reading_of read_recipe if_accepted
read_refused f is = rw is

pub read_judged : {r : Result Recipe Broken} (f : List ℕ) → r ≡ found_if (judge_recipe f) (recipe_of f) → reading_of r ≡ read_recipe f
unfolding reading_of read_recipe found_if if_accepted
read_judged f is = ap reading_of is ∙ decide (judge_recipe f)
  where
    decide : (v : Verdict) → reading_of (found_if v (recipe_of f)) ≡ record { verdict = v; recipe = if_accepted v (recipe_of f) no_recipe }
    decide Accepted = refl
    decide (Err broken) = refl
