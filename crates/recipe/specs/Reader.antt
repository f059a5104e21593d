-- What the reader of a recipe file returns. Assumes nothing.
use Rattle.std.specs.Prelude.{Result, Ok, Err, List, [], ◌∷◌, ℕ, length, replicate}
use Rattle.refusals.specs.declared.Broken.{Broken}
use Rattle.refusals.specs.Verdict.{Verdict, Accepted, first_refusal, if_accepted}
use Rattle.tables.specs.Lines.{value_lines}
use Rattle.tables.specs.Table.{rule1, rule2, column}
use Rattle.recipe.specs.declared.Recipe.{Recipe}
use Rattle.recipe.specs.Rules.{recipe_rules}

-- "First line `point,kind,op,takes,gives,then,else`", in ASCII
unfoldable pub recipe_names : List ℕ
recipe_names =
    112 ∷ 111 ∷ 105 ∷ 110 ∷ 116 ∷ 44 ∷ 107 ∷ 105 ∷ 110 ∷ 100 ∷ 44 ∷ 111 ∷ 112 ∷ 44 ∷ 116 ∷ 97 ∷ 107 ∷ 101 ∷ 115
    ∷ 44 ∷ 103 ∷ 105 ∷ 118 ∷ 101 ∷ 115 ∷ 44 ∷ 116 ∷ 104 ∷ 101 ∷ 110 ∷ 44 ∷ 101 ∷ 108 ∷ 115 ∷ 101 ∷ []

-- the record that the file's value lines write, seven numbers to a line
unfoldable pub recipe_of : List ℕ → Recipe
recipe_of file =
    let n = length (value_lines file) in
    let at = column file in
    record { count = n; point = at 0; kind = at 1; op = at 2; takes = at 3; gives = at 4; then = at 5; otherwise = at 6 }

-- "Each of the two readers tries a rule over the whole file before the next rule."
unfoldable pub judge_recipe : List ℕ → Verdict
judge_recipe file = first_refusal (rule1 recipe_names file ∷ rule2 7 file ∷ recipe_rules (recipe_of file))

-- "a record of no lines"
abbrev pub no_recipe : Recipe
no_recipe =
    let z : List ℕ = replicate 64 0 in
    record { count = 0; point = z; kind = z; op = z; takes = z; gives = z; then = z; otherwise = z }

-- what the reader gives: its verdict and the record
pub record RecipeReading : Type 0 where
  pub verdict : Verdict
  pub recipe : Recipe

-- an answer of `read_recipe`: the record, or a refusal, with which there is a record of no lines
unfoldable pub reading_of : Result Recipe Broken → RecipeReading
reading_of (Ok recipe) = record { verdict = Accepted; recipe = recipe }
reading_of (Err broken) = record { verdict = Err broken; recipe = no_recipe }

-- "a recipe file .. gets the plan or move it deserves or the first refusal of document 01's list that fits": what the reader returns
unfoldable pub read_recipe : List ℕ → RecipeReading
read_recipe file = record { verdict = judge_recipe file; recipe = if_accepted (judge_recipe file) (recipe_of file) no_recipe }
