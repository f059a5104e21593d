-- Recipes in chapters over the bench cell: the examples of request 7, "Recipes in chapters". Assumes nothing.
use Rattle.std.specs.Prelude.{[], ◌∷◌, replicate}
use Rattle.recipe.specs.declared.Recipe.{Recipe}
use Rattle.positions.specs.declared.Configuration.{Configuration}
use Rattle.chapters.specs.Joined.{Chapters}
use Rattle.worked.specs.Moves.{filled, bench_recipe}
use Rattle.worked.specs.Plans.{end_recipe}

-- the bench recipe without its rework: `0,1,1,0,1,1,0` `1,2,2,1,0,2,3` `2,1,3,1,0,4,0` `3,1,3,1,0,4,0` `4,0,0,0,0,0,0`
unfoldable pub whole_recipe : Recipe
whole_recipe =
    record {
      count = 5;
      point = filled (0 ∷ 1 ∷ 2 ∷ 3 ∷ 4 ∷ []);
      kind = filled (1 ∷ 2 ∷ 1 ∷ 1 ∷ 0 ∷ []);
      op = filled (1 ∷ 2 ∷ 3 ∷ 3 ∷ 0 ∷ []);
      takes = filled (0 ∷ 1 ∷ 1 ∷ 1 ∷ 0 ∷ []);
      gives = filled (1 ∷ 0 ∷ 0 ∷ 0 ∷ 0 ∷ []);
      then = filled (1 ∷ 2 ∷ 4 ∷ 4 ∷ 0 ∷ []);
      otherwise = filled (0 ∷ 3 ∷ 0 ∷ 0 ∷ 0 ∷ []);
    }

-- its point 0 and an end: `0,1,1,0,1,1,0` `1,0,0,0,0,0,0`
unfoldable pub cut_first : Recipe
cut_first =
    record {
      count = 2;
      point = filled (0 ∷ 1 ∷ []);
      kind = filled (1 ∷ 0 ∷ []);
      op = filled (1 ∷ 0 ∷ []);
      takes = filled [];
      gives = filled (1 ∷ 0 ∷ []);
      then = filled (1 ∷ 0 ∷ []);
      otherwise = filled [];
    }

-- and what follows: `0,2,2,1,0,1,2` `1,1,3,1,0,3,0` `2,1,3,1,0,3,0` `3,0,0,0,0,0,0`
unfoldable pub cut_second : Recipe
cut_second =
    record {
      count = 4;
      point = filled (0 ∷ 1 ∷ 2 ∷ 3 ∷ []);
      kind = filled (2 ∷ 1 ∷ 1 ∷ 0 ∷ []);
      op = filled (2 ∷ 3 ∷ 3 ∷ 0 ∷ []);
      takes = filled (1 ∷ 1 ∷ 1 ∷ 0 ∷ []);
      gives = filled [];
      then = filled (1 ∷ 3 ∷ 3 ∷ 0 ∷ []);
      otherwise = filled (2 ∷ 0 ∷ 0 ∷ 0 ∷ []);
    }

-- the whole as one chapter, and cut in two
unfoldable pub whole : Chapters
whole = whole_recipe ∷ []

unfoldable pub cut : Chapters
cut = cut_first ∷ cut_second ∷ []

-- each half by itself
unfoldable pub first_alone : Chapters
first_alone = cut_first ∷ []

unfoldable pub second_alone : Chapters
second_alone = cut_second ∷ []

-- "Refused together, each accepted alone": the part is put into the cell once more
unfoldable pub twice : Chapters
twice = cut_first ∷ cut_first ∷ []

-- "an earlier chapter whose point 0 is an end": one end, then the bench recipe
unfoldable pub end_earlier : Chapters
end_earlier = end_recipe ∷ bench_recipe ∷ []

-- an earlier chapter whose point 0 is an end and whose point 1 nothing leads to: `0,0,0,0,0,0,0` `1,0,0,0,0,0,0`
unfoldable pub unreached_first : Recipe
unreached_first =
    record {
      count = 2;
      point = filled (0 ∷ 1 ∷ []);
      kind = filled [];
      op = filled [];
      takes = filled [];
      gives = filled [];
      then = filled [];
      otherwise = filled [];
    }

unfoldable pub unreached_earlier : Chapters
unreached_earlier = unreached_first ∷ bench_recipe ∷ []

-- "more than 8": nine chapters
unfoldable pub nine : Recipe → Chapters
nine r = r ∷ r ∷ r ∷ r ∷ r ∷ r ∷ r ∷ r ∷ r ∷ []

-- the configurations that the bench example passes: the part is at station 0, then at station 1, and there behind its test
unfoldable pub at_first : Configuration
at_first = record { state = 1 ∷ replicate 5 0; place = 1 ∷ replicate 7 0 }

unfoldable pub at_second : Configuration
at_second = record { state = 0 ∷ 1 ∷ replicate 4 0; place = 2 ∷ replicate 7 0 }

unfoldable pub tested : Configuration
tested = record { state = 0 ∷ 2 ∷ replicate 4 0; place = 2 ∷ replicate 7 0 }
