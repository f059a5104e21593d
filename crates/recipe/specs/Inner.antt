-- What the inner functions answer. Only their contracts cite it; what a call returns is defined without it. Assumes nothing.
use Rattle.std.specs.Prelude.{Bool, List, [], ◌∷◌, ℕ, get_or}
use Rattle.refusals.specs.Verdict.{Verdict, if_accepted}
use Rattle.refusals.specs.Search.{any_below, is_of}
use Rattle.recipe.specs.declared.Recipe.{Recipe}
use Rattle.recipe.specs.Reader.{RecipeReading}
use Rattle.recipe.specs.Rules.{lacks_parts, shares_part, leads_out, rule7, rule8, rule9, rule10, rule11, rule12}
use Rattle.recipe.specs.Reader.{no_recipe}

-- line k is of line n's point
abbrev pub same_point : List ℕ → ℕ → ℕ → Bool
same_point point n k = is_of point (get_or point n 0) k

-- line n breaks rule 10, rule 11 or rule 12, of so many points
abbrev pub breaks_parts : List ℕ → List ℕ → List ℕ → ℕ → Bool
breaks_parts kind takes gives n = lacks_parts (get_or kind n 0) (get_or takes n 0) (get_or gives n 0)

abbrev pub breaks_common : List ℕ → List ℕ → List ℕ → ℕ → Bool
breaks_common point takes gives n = any_below (shares_part point takes gives n) n

abbrev pub breaks_target : ℕ → List ℕ → List ℕ → List ℕ → ℕ → Bool
breaks_target points kind then otherwise n = leads_out points (get_or kind n 0) (get_or then n 0) (get_or otherwise n 0)

-- what is tried of a recipe whose numbers are in range, in order
unfoldable pub after_range : Recipe → List Verdict
after_range r = rule7 r ∷ rule8 r ∷ rule9 r ∷ rule10 r ∷ rule11 r ∷ rule12 r ∷ []

-- the answer of a reader that found the record, with this verdict on it
unfoldable pub reading : Verdict → Recipe → RecipeReading
reading verdict recipe = record { verdict = verdict; recipe = if_accepted verdict recipe no_recipe }
