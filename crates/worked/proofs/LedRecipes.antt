-- The recipes of the other examples pass rule 22: computed. Assumes nothing.
use mathlib.Core.Path.{◌≡◌, refl}
use Prim.Native.Nat.{ℕ}
use Rattle.refusals.specs.Verdict.{Accepted, no_line}
use Rattle.refusals.specs.Search.{any_below, count_below, tabulate, is_of}
use Rattle.recipe.specs.Rules.{point_count}
use Rattle.reached.specs.Reached.{leads, line_leads, leads_on, chained, is_reached, rule22}
use Rattle.worked.specs.Moves.{filled, bench_recipe, limit_recipe}
use Rattle.worked.specs.Plans.{dead_recipe, end_recipe}
use Rattle.worked.specs.Limited.{glue_recipe, mend_recipe, nest_recipe}
use Rattle.worked.specs.Installed.{turned_recipe, single_recipe}
use Rattle.worked.specs.Gated.{again_recipe}

pub record LedRecipes : Type 0 where
  pub bench : rule22 bench_recipe ≡ Accepted
  pub dead : rule22 dead_recipe ≡ Accepted
  pub end : rule22 end_recipe ≡ Accepted
  pub limit : rule22 limit_recipe ≡ Accepted
  pub glue : rule22 glue_recipe ≡ Accepted
  pub mend : rule22 mend_recipe ≡ Accepted
  pub nest : rule22 nest_recipe ≡ Accepted
  pub turned : rule22 turned_recipe ≡ Accepted
  pub again : rule22 again_recipe ≡ Accepted
  pub single : (operation : ℕ) → rule22 (single_recipe operation) ≡ Accepted

pub led_recipes : LedRecipes
unfolding is_of any_below count_below tabulate no_line point_count leads line_leads leads_on chained is_reached rule22 filled bench_recipe dead_recipe
    end_recipe limit_recipe glue_recipe mend_recipe nest_recipe turned_recipe single_recipe again_recipe
led_recipes =
    record {
      bench = refl;
      dead = refl;
      end = refl;
      limit = refl;
      glue = refl;
      mend = refl;
      nest = refl;
      turned = refl;
      again = refl;
      single = λ operation. refl;
    }
