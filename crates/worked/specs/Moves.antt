-- The moves that `walk` prints in the bench example, the table that holds them, and the example at the limit. Assumes nothing.
use Rattle.std.specs.Prelude.{cond, ◌||◌, List, [], ◌∷◌, ◌++◌, ℕ, ◌+◌, ◌-◌, length, replicate, eqb, leb}
use Rattle.refusals.specs.Search.{tabulate}
use Rattle.cell.specs.declared.Cell.{Cell}
use Rattle.cell.specs.Reader.{no_limits}
use Rattle.recipe.specs.declared.Recipe.{Recipe}
use Rattle.positions.specs.declared.Sizes.{Sizes}
use Rattle.positions.specs.Sizes.{sizes_of}
use Rattle.positions.specs.Position.{position_of, point_at, configuration_at}
use Rattle.steps.specs.Effect.{opens, makes, leads_to}
use Rattle.chapters.specs.Sizes.{Measures, sizes_in}

-- a field of a record's lines, filled with 0 to 64 lines
unfoldable pub filled : List ℕ → List ℕ
filled lines = lines ++ replicate (64 - length lines) 0

-- the bench example's records
unfoldable pub bench_cell : Cell
bench_cell =
    record {
      count = 5;
      resource = filled (0 ∷ 0 ∷ 1 ∷ 1 ∷ 1 ∷ []);
      from = filled (0 ∷ 1 ∷ 0 ∷ 1 ∷ 2 ∷ []);
      act = filled (1 ∷ 3 ∷ 2 ∷ 1 ∷ 1 ∷ []);
      arg = filled (1 ∷ 5 ∷ 5 ∷ 2 ∷ 3 ∷ []);
      to = filled (1 ∷ 0 ∷ 1 ∷ 2 ∷ 0 ∷ []);
      limits = no_limits;
    }

unfoldable pub bench_recipe : Recipe
bench_recipe =
    record {
      count = 5;
      point = filled (0 ∷ 1 ∷ 2 ∷ 3 ∷ 4 ∷ []);
      kind = filled (1 ∷ 2 ∷ 1 ∷ 1 ∷ 0 ∷ []);
      op = filled (1 ∷ 2 ∷ 3 ∷ 3 ∷ 0 ∷ []);
      takes = filled (0 ∷ 1 ∷ 1 ∷ 1 ∷ 0 ∷ []);
      gives = filled (1 ∷ 0 ∷ 0 ∷ 0 ∷ 0 ∷ []);
      then = filled (1 ∷ 2 ∷ 4 ∷ 0 ∷ 0 ∷ []);
      otherwise = filled (0 ∷ 3 ∷ 0 ∷ 0 ∷ 0 ∷ []);
    }

abbrev pub bench_sizes : Sizes
bench_sizes = sizes_of bench_cell bench_recipe

-- and those that a call takes for it as the one chapter
abbrev pub bench_measures : Measures
bench_measures = sizes_in bench_cell (bench_recipe ∷ [])

-- the next position, from a position by an entry at an outcome; the position itself if the entry isn't a move open there
unfoldable pub next_in : Cell → Recipe → ℕ → ℕ → ℕ → ℕ
next_in c r position entry outcome =
    let z = sizes_of c r in
    let p = point_at z position in
    let a = configuration_at z position in
    cond (opens c r p a entry) (position_of z (leads_to r p entry outcome) (makes c r p a entry outcome)) position

abbrev pub next : ℕ → ℕ → ℕ → ℕ
next = next_in bench_cell bench_recipe

-- the bench example's plan: the moves that `walk` prints, those at other positions from which the recipe can be built, and
-- the entry of an end at each position of point 4, the numbers from 72 on
unfoldable pub bench_entry : ℕ → ℕ
bench_entry m =
    cond (eqb m 0) 50331648
    (cond (eqb m 22) 33554561
    (cond (eqb m 26) 50331843 (cond (eqb m 50 || (eqb m 53 || eqb m 68)) 50331652 (cond (leb 72 m) 67108864 0))))

-- a table of M entries that holds them
unfoldable pub bench_table : List ℕ
bench_table = tabulate 90 bench_entry

-- and how many silent moves each is away from a carry
unfoldable pub bench_ranks : List ℕ
bench_ranks = tabulate 90 (λ m. cond (eqb m 22) 1 0)

-- "R 3, four states each": three stations, of which the first goes to the given state and the others to 3
unfoldable pub limit_cell : ℕ → Cell
limit_cell most =
    record {
      count = 3;
      resource = filled (0 ∷ 1 ∷ 2 ∷ []);
      from = filled [];
      act = filled [];
      arg = filled [];
      to = filled (most ∷ 3 ∷ 3 ∷ []);
      limits = no_limits;
    }

-- "P 5, N 16": fifteen dos in a row that give part 4, and an end
unfoldable pub limit_recipe : Recipe
limit_recipe =
    record {
      count = 16;
      point = filled (tabulate 16 (λ n. n));
      kind = filled (replicate 15 1);
      op = filled [];
      takes = filled [];
      gives = filled (replicate 15 16);
      then = filled (tabulate 15 (λ n. n + 1));
      otherwise = filled [];
    }
