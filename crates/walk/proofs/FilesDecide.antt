-- What the files and the plan come to, by where it was refused. Assumes nothing.
use mathlib.Core.Path.{◌≡◌, refl, sym, ap, subst, ◌∙◌}
use mathlib.Core.List.{List, [], ◌∷◌, ◌++◌}
use Prim.Native.Nat.{ℕ, ◌*◌, ◌≤◌}
use native.Mathlib.Omega.{arith}
use lib.ListN.{length, take, drop, length-take, length-append, length-drop}
use lib.Seq.{take_all}
use Rattle.refusals.specs.declared.Refusal.{Refusal}
use Rattle.refusals.specs.declared.Broken.{Broken}
use Rattle.refusals.specs.Refusal.{number_of}
use Rattle.std.specs.Prelude.{Result, Ok, Err}
use Rattle.refusals.specs.Verdict.{Verdict, Accepted, Refused, first_refusal, if_accepted, found_if}
use Rattle.refusals.specs.Search.{tabulate}
use Rattle.tables.specs.Table.{column}
use Rattle.cell.specs.Reader.{CellReading}
use Rattle.cell.specs.Reader as cell
use Rattle.cell.specs.Reader.{no_cell, read_cell}
use Rattle.cell.specs.declared.Cell.{Cell}
use Rattle.recipe.specs.Reader.{RecipeReading}
use Rattle.recipe.specs.declared.Recipe.{Recipe}
use Rattle.recipe.specs.Reader as recipe
use Rattle.recipe.specs.Reader.{recipe_of, judge_recipe, no_recipe, read_recipe}
use Rattle.recipe.proofs.AcceptedRecord.{read_few}
use Rattle.recipe.proofs.ReadRecord.{read_refused}
use Rattle.records.specs.Encoding.{recipe_bytes, recipe_from}
use Rattle.records.proofs.RecordsRoundTrip.{WholeRecipe, recipe_length, recipe_back}
use Rattle.chapters.specs.Joined.{Chapters}
use Rattle.chapters.specs.Records.{chapters_from}
use Rattle.chapters.proofs.ChapterBytes.{one_record}
use Rattle.planner.specs.Call.{PlanCall, FixedCall}
use Rattle.refusals.proofs.Verdicts.{refused_not}
use Rattle.refusals.proofs.Rules.{part_refuses, part_accepts, decides, refused_of, accepted_of, found_of}
use Rattle.printout.specs.Text.{refusal_line, Put}
use Rattle.walk.specs.Output.{below, CellRead, RecipeRead, ReadBehind, TellsOf, Prepared, FixedPrepared}

-- a buffer of 8192 bytes holds the start of a file
in_start : (n : ℕ) (start : List ℕ) → length start ≡ 8192 → take 8192 (take n start) ≡ take n start
in_start n start long = take_all 8192 (take n start) (omega (arith, length-take n start))

pub cell_start : {reading : CellReading} (n : ℕ) (start : List ℕ) → length start ≡ 8192 → reading ≡ read_cell (take n start) → CellRead reading
cell_start n start long is = (take n start, is ∙ ap read_cell (sym (in_start n start long)))

pub recipe_start : {reading : RecipeReading} (n : ℕ) (start : List ℕ) → length start ≡ 8192 → reading ≡ read_recipe (take n start) → RecipeRead reading
recipe_start n start long is = (take n start, is ∙ ap read_recipe (sym (in_start n start long)))

-- the recipe that is not read
pub recipe_none : {reading : RecipeReading} → reading ≡ read_recipe [] → RecipeRead reading
recipe_none is = ([], is)

-- what is answered behind a cell, by what the recipe's reader answered
abbrev pub answer_behind : Result Cell Broken → Result Recipe Broken → Result (Cell × Recipe) Broken
answer_behind (Err broken) read = Err broken
answer_behind (Ok found) (Err broken) = Err broken
answer_behind (Ok found) (Ok r) = Ok (found, r)

pub read_behind : (cell : Result Cell Broken) (read : Result Recipe Broken) {answer : Result (Cell × Recipe) Broken}
    → RecipeRead (recipe.reading_of read) → answer ≡ answer_behind cell read → ReadBehind cell answer
unfolding recipe.reading_of found_if
read_behind (Err broken) read recipe_read is = is
read_behind (Ok found) (Err broken) recipe_read is = (recipe.reading_of (Err broken), recipe_read, is)
read_behind (Ok found) (Ok r) recipe_read is = (recipe.reading_of (Ok r), recipe_read, is)

-- and of what the recipe's reader answered, by what is answered behind a cell
recipe_refused : {reading : RecipeReading} {broken : Broken} → RecipeRead reading → reading.verdict ≡ Err broken → RecipeRead (recipe.reading_of (Err broken))
unfolding read_recipe
recipe_refused read told = (read.0, read_refused (take 8192 read.0) (ap (λ (x : RecipeReading). x.verdict) (sym read.1) ∙ told))

recipe_accepted : {reading : RecipeReading} {r : Recipe} → RecipeRead reading → reading.verdict ≡ Accepted → r ≡ reading.recipe → RecipeRead (recipe.reading_of (Ok r))
unfolding recipe.reading_of
recipe_accepted read told is = (read.0, (λ i. record { verdict = sym told i; recipe = is i }) ∙ read.1)

-- a cell and a recipe that are answered were both read
pub both_read : (answer : Result Cell Broken) (found : Cell) (r : Recipe)
    → CellRead (cell.reading_of answer) → ReadBehind answer (Ok (found, r))
    → CellRead (cell.reading_of (Ok found)) × RecipeRead (recipe.reading_of (Ok r))
both_read (Err broken) found r read is = cc
both_read (Ok c) found r read behind =
    let both = found_of _ _ (sym behind.2) in (
      subst (λ (x : Cell). CellRead (cell.reading_of (Ok x))) (ap (λ (x : Cell × Recipe). x.0) (sym both)) read,
      recipe_accepted behind.1 (accepted_of _ _ (sym behind.2)) (ap (λ (x : Cell × Recipe). x.1) both),
    )

-- what is handed over below the first line
pub line_below : {verdict : Verdict} {refusal : Refusal} {line number end : ℕ} {entry exit : List ℕ}
    → verdict ≡ Refused refusal line → number ≡ number_of refusal
    → Put entry exit 0 (refusal_line number) end
    → take end exit ≡ below verdict []
unfolding below
line_below is numbered put = put.bytes_are ∙ ap refusal_line numbered ∙ ap (λ (v : Verdict). below v []) (sym is)

-- a reader's record has all of its fields, refused or not
whole_read : (file : List ℕ) → WholeRecipe (read_recipe file).recipe
unfolding read_recipe if_accepted recipe_of column tabulate
whole_read file = judge (judge_recipe file)
  where
    judge : (v : Verdict) → WholeRecipe (if_accepted v (recipe_of file) no_recipe)
    judge Accepted = record { point = refl; kind = refl; op = refl; takes = refl; gives = refl; then = refl; otherwise = refl }
    judge (Err broken) = record { point = refl; kind = refl; op = refl; takes = refl; gives = refl; then = refl; otherwise = refl }

pub few_lines : {reading : RecipeReading} → RecipeRead reading → reading.recipe.count ≤ 64
few_lines read = subst (λ (x : RecipeReading). x.recipe.count ≤ 64) (sym read.1) (read_few (take 8192 read.0))

-- so its bytes hold it
module _ (reading : RecipeReading) (read : RecipeRead reading) (before bytes : List ℕ)
    (long : length before ≡ 449) (put : bytes ≡ recipe_bytes reading.recipe ++ drop 449 before) where
  pub kept_recipe : recipe_from bytes ≡ reading.recipe
  kept_recipe =
      ap recipe_from put
      ∙ recipe_back reading.recipe (drop 449 before)
      (subst (λ (x : RecipeReading). WholeRecipe x.recipe) (sym read.1) (whole_read (take 8192 read.0)))

  kept_long : length bytes ≡ 449
  kept_long =
      ap (λ (l : List ℕ). length l) put ∙ length-append (recipe_bytes reading.recipe) (drop 449 before)
      ∙ omega (arith, recipe_length reading.recipe, length-drop 449 before)

  pub kept_chapter : chapters_from bytes ≡ reading.recipe ∷ []
  kept_chapter =
      one_record bytes (omega (arith, kept_long)) (omega (arith, kept_long)) ∙ ap (λ (r : Recipe). r ∷ []) kept_recipe

module _ (recipes table : List ℕ) (cell : CellReading) (recipe : RecipeReading) (cell_read : CellRead cell) (recipe_read : RecipeRead recipe) where
  abbrev readings : List Verdict
  readings = (read_cell (take 8192 cell_read.0)).verdict ∷ (read_recipe (take 8192 recipe_read.0)).verdict ∷ []

  pub judged_is : first_refusal (cell.verdict ∷ recipe.verdict ∷ []) ≡ first_refusal readings
  judged_is = λ i. first_refusal ((cell_read.1 i).verdict ∷ (recipe_read.1 i).verdict ∷ [])

  unfoldable pub prepared_refused : (verdict : Verdict) {refusal : Refusal} {line : ℕ}
      → verdict ≡ first_refusal (cell.verdict ∷ recipe.verdict ∷ []) → verdict ≡ Refused refusal line
      → Prepared recipes table (record { verdict = verdict; cell = cell.cell })
  unfolding first_refusal
  prepared_refused verdict is told =
      let judged = is ∙ judged_is in
      record {
        cell_file = cell_read.0;
        recipe_file = recipe_read.0;
        decided =
            record {
              plan = Accepted;
              verdict_is = part_refuses readings (Accepted ∷ []) judged told;
              planned = λ first second. absurd (refused_not told (judged ∙ (λ i. first_refusal (first i ∷ second i ∷ []))));
            };
        cell_is = ap (λ (x : CellReading). x.cell) cell_read.1;
        recipe_is = λ accepted. absurd (refused_not told accepted);
      }

  unfoldable pub prepared_planned : (verdict plan : Verdict) (entry scratch scratch' : List ℕ)
      → verdict ≡ first_refusal (cell.verdict ∷ recipe.verdict ∷ []) → verdict ≡ Accepted
      → length entry ≡ 8192
      → length scratch * 8 ≡ 8192
      → recipe_from recipes ≡ recipe.recipe
      → {rs : Chapters}
      → rs ≡ recipe.recipe ∷ []
      → PlanCall cell.cell rs entry scratch table scratch' plan
      → Prepared recipes table (record { verdict = plan; cell = cell.cell })
  prepared_planned verdict plan entry scratch scratch' is told long wide kept chapter call =
      record {
        cell_file = cell_read.0;
        recipe_file = recipe_read.0;
        decided =
            record {
              plan = plan;
              verdict_is = part_accepts readings (plan ∷ []) (is ∙ judged_is) told (decides refl);
              planned =
                  λ first second. record {
                    table = entry;
                    scratch = scratch;
                    scratch' = scratch';
                    table_places = long;
                    scratch_places = wide;
                    call =
                        subst
                        (λ (x : CellReading). PlanCall x.cell ((read_recipe (take 8192 recipe_read.0)).recipe ∷ []) entry
                        scratch table scratch' plan)
                        cell_read.1
                        (subst (λ (x : RecipeReading). PlanCall cell.cell (x.recipe ∷ []) entry scratch table scratch' plan) recipe_read.1
                        (subst (λ (rs : Chapters). PlanCall cell.cell rs entry scratch table scratch' plan) chapter call));
                  };
            };
        cell_is = ap (λ (x : CellReading). x.cell) cell_read.1;
        recipe_is = λ accepted. kept ∙ ap (λ (x : RecipeReading). x.recipe) recipe_read.1;
      }

  pub fixed_refused : (verdict : Verdict) {refusal : Refusal} {line : ℕ}
      → verdict ≡ first_refusal (cell.verdict ∷ recipe.verdict ∷ []) → verdict ≡ Refused refusal line
      → FixedPrepared recipes table (record { verdict = verdict; cell = cell.cell })
  unfolding first_refusal prepared_refused
  fixed_refused verdict is told =
      record {
        prepared = prepared_refused verdict is told;
        fixed =
            record {
              fixed = λ first second. absurd (refused_not told (is ∙ judged_is ∙ (λ i. first_refusal (first i ∷ second i ∷ []))));
            };
      }

  pub fixed_planned : (verdict plan : Verdict) (entry scratch scratch' : List ℕ)
      → (is : verdict ≡ first_refusal (cell.verdict ∷ recipe.verdict ∷ []))
      → (told : verdict ≡ Accepted)
      → (long : length entry ≡ 8192)
      → (wide : length scratch * 8 ≡ 8192)
      → (kept : recipe_from recipes ≡ recipe.recipe)
      → {rs : Chapters}
      → (chapter : rs ≡ recipe.recipe ∷ [])
      → PlanCall cell.cell rs entry scratch table scratch' plan
      → FixedCall cell.cell rs entry scratch table
      → FixedPrepared recipes table (record { verdict = plan; cell = cell.cell })
  unfolding prepared_planned
  fixed_planned verdict plan entry scratch scratch' is told long wide kept chapter call fixed =
      record {
        prepared = prepared_planned verdict plan entry scratch scratch' is told long wide kept chapter call;
        fixed =
            record {
              fixed =
                  λ first second.
                  subst (λ (x : CellReading). FixedCall x.cell ((read_recipe (take 8192 recipe_read.0)).recipe ∷ []) entry scratch table) cell_read.1
                  (subst (λ (x : RecipeReading). FixedCall cell.cell (x.recipe ∷ []) entry scratch table) recipe_read.1
                  (subst (λ (rs : Chapters). FixedCall cell.cell rs entry scratch table) chapter fixed));
            };
      }

-- and what is answered: the refusal of the cell, the recipe or the plan, or the cell
module _ {recipes table : List ℕ} where
  pub prepared_of : {answer : Result Cell Broken} → TellsOf answer (FixedPrepared recipes table) → TellsOf answer (Prepared recipes table)
  prepared_of told = (told.0, told.1, told.2.prepared)

  pub told_cell : {broken : Broken} → CellRead (cell.reading_of (Err broken)) → TellsOf (Err broken) (FixedPrepared recipes table)
  unfolding cell.reading_of found_if first_refusal
  told_cell {broken} read =
      (record { verdict = Err broken; cell = no_cell }, refl, fixed_refused recipes table _ _ read (recipe_none refl) (Err broken) refl refl)

  pub told_recipe : (found : Cell) {broken : Broken} → CellRead (cell.reading_of (Ok found)) → RecipeRead (recipe.reading_of (Err broken))
      → TellsOf (Err broken) (FixedPrepared recipes table)
  unfolding cell.reading_of recipe.reading_of found_if first_refusal
  told_recipe found {broken} cell_read read =
      (record { verdict = Err broken; cell = found }, refl, fixed_refused recipes table _ _ cell_read read (Err broken) refl refl)

  -- the first of the two that is refused
  pub told_behind : (answer : Result Cell Broken) {broken : Broken}
      → CellRead (cell.reading_of answer) → ReadBehind answer (Err broken)
      → TellsOf (Err broken) (FixedPrepared recipes table)
  told_behind (Err first) {broken} read is =
      let same : first ≡ broken = cc in subst (λ (x : Broken). TellsOf (Err x) (FixedPrepared recipes table)) same (told_cell read)
  told_behind (Ok found) read behind = told_recipe found read (recipe_refused behind.1 (refused_of _ _ (sym behind.2)))

  pub told_plan : {found : Cell} (r : Recipe) (plan : Verdict) {entry scratch scratch' : List ℕ} (before : List ℕ)
      → CellRead (cell.reading_of (Ok found)) → RecipeRead (recipe.reading_of (Ok r))
      → length before ≡ 449
      → recipes ≡ recipe_bytes r ++ drop 449 before
      → length entry ≡ 8192
      → length scratch * 8 ≡ 8192
      → PlanCall found (chapters_from recipes) entry scratch table scratch' plan
      → FixedCall found (chapters_from recipes) entry scratch table
      → TellsOf (found_if plan found) (FixedPrepared recipes table)
  unfolding cell.reading_of recipe.reading_of first_refusal
  told_plan {found} r plan {entry} {scratch} {scratch'} before cell_read read long put places wide call fixed =
      let kept = kept_recipe (recipe.reading_of (Ok r)) read before recipes long put in
      let chapter = kept_chapter (recipe.reading_of (Ok r)) read before recipes long put in (
        record { verdict = plan; cell = found },
        refl,
        fixed_planned recipes table _ _ cell_read read Accepted plan entry scratch scratch' refl refl places wide kept chapter call fixed,
      )
