-- The whole walk, by what is printed below the first line. Assumes nothing.
use mathlib.Core.Path.{◌≡◌, refl, sym, ap, subst, ◌∙◌}
use mathlib.Core.Bool.{false}
use mathlib.Core.List.{List, [], ◌++◌}
use Prim.Native.Nat.{ℕ}
use Rattle.std.specs.declared.option.Option.{Option}
use Rattle.std.specs.Io.KnownBytes.{Appends}
use Rattle.std.proofs.KnownBytes.{Appends-trans, Consumes-nil}
use Rattle.std.specs.Prelude.{Ok, Err}
use Rattle.refusals.specs.declared.Broken.{Broken}
use Rattle.refusals.specs.Verdict.{Verdict, Accepted}
use Rattle.refusals.proofs.Rules.{refused_of, accepted_of, found_of}
use Rattle.cell.specs.declared.Cell.{Cell}
use Rattle.records.specs.Encoding.{recipe_from}
use Rattle.run.specs.Calls.{fresh_run}
use Rattle.printout.specs.Turn.{printed}
use Rattle.walk.specs.declared.Step.{Step}
use Rattle.walk.specs.Output.{names_line, below, Ready, TellsOf, FixedPrepared, FollowedOn, Walk}

module _ (recipes table : List ℕ) (ready : Ready) (made : FixedPrepared recipes table ready) where
  -- no input is read where the files or the plan are refused
  pub walk_refused : (left held holds held' : Option (List ℕ))
      → Appends held holds names_line
      → Appends holds held' (below ready.verdict [])
      → Walk left left held held'
  unfolding printed
  walk_refused left held holds held' names line =
      record {
        cell_file = made.prepared.cell_file;
        recipe_file = made.prepared.recipe_file;
        input = [];
        text = names_line ++ below ready.verdict [];
        output = record { table = table; verdict = ready.verdict; decided = made.prepared.decided; text_is = refl };
        fixed = made.fixed;
        read = Consumes-nil left;
        written = Appends-trans held holds held' names_line (below ready.verdict []) names line;
      }

  pub walk_followed : (left left' held holds held' : Option (List ℕ)) (reads : ℕ) (step : Step)
      → ready.verdict ≡ Accepted
      → Appends held holds names_line
      → FollowedOn ready.cell (recipe_from recipes) table reads step left left' holds held'
      → step.failed ≡ false
      → Walk left left' held held'
  unfolding below
  walk_followed left left' held holds held' reads step accepted names on kept =
      let input = on.followed.input in
      let lines = printed ready.cell (recipe_from recipes) table fresh_run input in
      record {
        cell_file = made.prepared.cell_file;
        recipe_file = made.prepared.recipe_file;
        input = input;
        text = names_line ++ lines;
        output =
            record {
              table = table;
              verdict = ready.verdict;
              decided = made.prepared.decided;
              text_is =
                  ap (λ (v : Verdict). names_line ++ below v lines) (sym accepted)
                  ∙ (λ i. names_line ++ below ready.verdict (printed (made.prepared.cell_is i) (made.prepared.recipe_is accepted i) table fresh_run input));
            };
        fixed = made.fixed;
        read = on.read;
        written = Appends-trans held holds held' names_line lines names (on.lines kept);
      }

-- and by what `prepare` answers
module _ {recipes table : List ℕ} where
  pub told_refused : {broken : Broken} {left held held' : Option (List ℕ)} (holds : Option (List ℕ))
      → TellsOf (Err broken) (FixedPrepared recipes table)
      → Appends held holds names_line
      → Appends holds held' (below (Err broken) [])
      → Walk left left held held'
  told_refused {left = left} {held} {held'} holds told names line =
      walk_refused recipes table told.0 told.2 left held holds held' names
      (subst (λ (v : Verdict). Appends holds held' (below v [])) (sym (refused_of _ _ (sym told.1))) line)

  pub told_followed : {found : Cell} {left left' held held' : Option (List ℕ)} (holds : Option (List ℕ)) {reads : ℕ} {step : Step}
      → TellsOf (Ok found) (FixedPrepared recipes table)
      → Appends held holds names_line
      → FollowedOn found (recipe_from recipes) table reads step left left' holds held'
      → step.failed ≡ false
      → Walk left left' held held'
  told_followed {left = left} {left'} {held} {held'} holds {reads} {step} told names on kept =
      walk_followed recipes table told.0 told.2 left left' held holds held' reads step (accepted_of _ _ (sym told.1)) names
      (subst (λ (c : Cell). FollowedOn c (recipe_from recipes) table reads step left left' holds held') (found_of _ _ (sym told.1)) on) kept
