-- "`walk` with it": what is printed is determined by the two files and the input, whatever plan call was made. Assumes nothing.
use mathlib.Core.Path.{◌≡◌, refl, sym, ap, ◌∙◌}
use mathlib.Core.Bool.{Bool, true, false, cond}
use mathlib.Core.List.{List, [], ◌∷◌, ◌++◌}
use Prim.Native.Nat.{ℕ, ◌-◌}
use native.Mathlib.Omega.{arith}
use lib.ListN.{length, take}
use borrow.Author.Tests.{not-false}
use Rattle.refusals.specs.Refusal.{number_of}
use Rattle.refusals.specs.declared.Refusal.{Refusal}
use Rattle.std.specs.Prelude.{Err}
use Rattle.refusals.specs.Verdict.{Verdict, Accepted, Refused, first_refusal, if_accepted}
use Rattle.refusals.proofs.Verdicts.{no_line_accepts}
use Rattle.refusals.proofs.Rules.{first_accepts, rest_accepts, right_accepts, decides}
use Rattle.tables.specs.Numbers.{is_digit}
use Rattle.cell.specs.declared.Cell.{Cell}
use Rattle.cell.specs.Reader.{read_cell}
use Rattle.recipe.specs.declared.Recipe.{Recipe}
use Rattle.recipe.specs.Reader.{read_recipe}
use Rattle.steps.specs.Effect.{opens}
use Rattle.chapters.specs.Joined.{Chapters, recipe_at}
use Rattle.chapters.specs.Sizes.{sizes_in}
use Rattle.chapters.specs.Rules.{rule14}
use Rattle.chapters.specs.Checked.{AllChecked}
use Rattle.run.specs.declared.Run.{Run}
use Rattle.run.specs.Calls.{point_of, entry_at, entry_rules, report_rules, rule17, rule18, rule19, next_move, next_run, report_of, fresh_run}
use Rattle.simulation.specs.Simulation.{PositionIn}
use Rattle.simulation.proofs.JoinedMachine.{joined_starts, open_at}
use Rattle.simulation.proofs.PlannedEntries.{same_entry}
use Rattle.planner.specs.Call.{check_plan, FixedCall}
use Rattle.planner.proofs.PlanAnswers.{plan_checked, refused_kept}
use Rattle.planner.proofs.Demands.{same_verdict}
use Rattle.printout.specs.Text.{refusal_line}
use Rattle.printout.specs.Turn.{reported, told, printed}
use Rattle.walk.specs.Output.{names_line, below, PlanMade, Decided, FixedDecided, Output}
use Rattle.walk.proofs.SamePrintout.{Along, printed_same, call_length}

-- a run that is at a position
abbrev Placed : Cell → Chapters → Run → Type 0
Placed c rs run = PositionIn rs (sizes_in c rs) (point_of run) run.configuration

-- a report leaves it at one, refused or not
module _ (c : Cell) (rs : Chapters) (K : AllChecked c rs (sizes_in c rs)) (table : List ℕ) (run : Run) (outcome : ℕ) (at : Placed c rs run) where
  next_placed : first_refusal (report_rules c rs table run outcome) ≡ Accepted → Placed c rs (next_run c rs table run outcome)
  unfolding report_rules rule18 next_run
  next_placed passes =
      let last : List Verdict = rule17 outcome ∷ rule18 c rs table run ∷ rule19 rs run ∷ [] in
      let able : opens c (recipe_at rs (point_of run)) run.point run.configuration (entry_at c rs table run) ≡ true =
      not-false _ (no_line_accepts _ _ (first_accepts _ _ (rest_accepts _ _ (right_accepts (entry_rules c rs table run) last passes)))) in
      open_at c rs (sizes_in c rs) K (point_of run) run.configuration (entry_at c rs table run) outcome at able

  report_placed : Placed c rs (report_of c rs table run outcome).run
  unfolding report_of if_accepted
  report_placed = decide (first_refusal (report_rules c rs table run outcome)) refl
    where
      decide : (v : Verdict) → first_refusal (report_rules c rs table run outcome) ≡ v → Placed c rs (if_accepted v (next_run c rs table run outcome) run)
      decide Accepted passes = next_placed passes
      decide (Err broken) breaks = at

-- and so does a byte of standard input
told_placed : (c : Cell) (r : Recipe) → AllChecked c (r ∷ []) (sizes_in c (r ∷ [])) → (table : List ℕ) (run : Run) (byte : ℕ)
    → Placed c (r ∷ []) run → Placed c (r ∷ []) (told c r table run byte).run
unfolding told reported
told_placed c r K table run byte at = decide (is_digit byte) (report_of c (r ∷ []) table run (byte - 48)).verdict
  where
    decide : (digit : Bool) (v : Verdict)
        → Placed c (r ∷ [])
        (cond digit (reported c r (next_move c (r ∷ []) table run).entry run v (report_of c (r ∷ []) table run (byte - 48)).run) (record { line = []; more = false; run = run })).run
    decide false v = at
    decide true Accepted = report_placed c (r ∷ []) K table run (byte - 48) at
    decide true (Err broken) = report_placed c (r ∷ []) K table run (byte - 48) at

-- two tables with the same entries at every position have the same ones along a walk
module _ (c : Cell) (r : Recipe) (K : AllChecked c (r ∷ []) (sizes_in c (r ∷ []))) (table table' : List ℕ)
    (same : (run : Run) → Placed c (r ∷ []) run → entry_at c (r ∷ []) table run ≡ entry_at c (r ∷ []) table' run) where
  along : (run : Run) (bytes : List ℕ) → Placed c (r ∷ []) run → Along c r table table' run bytes
  unfolding Along
  along run [] at = tt
  along run (byte ∷ bytes) at = (same run at, along (told c r table' run byte).run bytes (told_placed c r K table' run byte at))

-- two plan calls on the records of the same two files
module _ (c : Cell) (r : Recipe) (table table' : List ℕ) (v v' : Verdict) (made : PlanMade c r table v) (other : PlanMade c r table' v')
    (fixed : FixedCall c (r ∷ []) made.table made.scratch table) (other_fixed : FixedCall c (r ∷ []) other.table other.scratch table') where
  abbrev rs : Chapters
  rs = r ∷ []

  -- the rules before 15 look at the lengths of what is lent alone
  same_check : check_plan c rs (length made.table) (length made.scratch) ≡ check_plan c rs (length other.table) (length other.scratch)
  same_check =
      let long : length made.table ≡ length other.table = omega (arith, made.table_places, other.table_places) in
      let wide : length made.scratch ≡ length other.scratch = omega (arith, made.scratch_places, other.scratch_places) in
      λ i. check_plan c rs (long i) (wide i)

  same_decision : v ≡ v'
  same_decision = decide (check_plan c rs (length made.table) (length made.scratch)) refl
    where
      decide : (w : Verdict) → check_plan c rs (length made.table) (length made.scratch) ≡ w → v ≡ v'
      decide Accepted is =
          same_verdict c rs made.table made.scratch table made.scratch' v made.call is
          other.table other.scratch table' other.scratch' v' other.call (sym same_check ∙ is) fixed other_fixed
      decide (Err broken) is =
          (refused_kept c rs made.table made.scratch table made.scratch' made.call is).0
          ∙ sym (refused_kept c rs other.table other.scratch table' other.scratch' other.call (sym same_check ∙ is)).0

  module _ (passes : check_plan c rs (length made.table) (length made.scratch) ≡ Accepted) (input : List ℕ) where
    same_lines : printed c r table fresh_run input ≡ printed c r table' fresh_run input
    unfolding fresh_run
    same_lines =
        let K = plan_checked c rs (length made.table) (length made.scratch) passes in
        let long : length table ≡ length table' =
        omega (arith, call_length made.call, call_length other.call, made.table_places, other.table_places) in
        printed_same c r table table' (ap (rule14 (sizes_in c rs) 1) long) fresh_run input
        (along c r K table table'
        (λ run at.
        same_entry c rs (sizes_in c rs) K made.table table other.table table' made.call.refused other.call.refused
        (made.call.planned passes) (other.call.planned (sym same_check ∙ passes)) (fixed.fixed passes) (other_fixed.fixed (sym same_check ∙ passes)) (point_of run) run.configuration at)
        fresh_run input (joined_starts c rs (sizes_in c rs) K))

  -- below the first line both print the same
  same_below : (input : List ℕ) → below v (printed c r table fresh_run input) ≡ below v' (printed c r table' fresh_run input)
  unfolding below
  same_below input = decide (check_plan c rs (length made.table) (length made.scratch)) refl
    where
      decide : (w : Verdict) → check_plan c rs (length made.table) (length made.scratch) ≡ w
          → below v (printed c r table fresh_run input) ≡ below v' (printed c r table' fresh_run input)
      decide Accepted is = λ i. below (same_decision i) (same_lines is input i)
      decide (Err broken) is =
          let told : v ≡ Refused broken.rule broken.line = (refused_kept c rs made.table made.scratch table made.scratch' made.call is).0 in
          ap (λ (w : Verdict). below w (printed c r table fresh_run input)) told
          ∙ ap (λ (w : Verdict). below w (printed c r table' fresh_run input)) (sym told ∙ same_decision)

-- the verdict on two files, by those on each of them
module _ (cell_file recipe_file table : List ℕ) (verdict : Verdict) (decided : Decided cell_file recipe_file table verdict) where
  cell_refused : {refusal : Refusal} {line : ℕ} → (read_cell (take 8192 cell_file)).verdict ≡ Refused refusal line → verdict ≡ Refused refusal line
  unfolding first_refusal
  cell_refused is = decided.verdict_is ∙ (λ i. first_refusal (is i ∷ (read_recipe (take 8192 recipe_file)).verdict ∷ decided.plan ∷ []))

  module _ (read : (read_cell (take 8192 cell_file)).verdict ≡ Accepted) where
    recipe_refused : {refusal : Refusal} {line : ℕ} → (read_recipe (take 8192 recipe_file)).verdict ≡ Refused refusal line → verdict ≡ Refused refusal line
    unfolding first_refusal
    recipe_refused is = decided.verdict_is ∙ (λ i. first_refusal (read i ∷ is i ∷ decided.plan ∷ []))

    both_read : (read_recipe (take 8192 recipe_file)).verdict ≡ Accepted → verdict ≡ decided.plan
    unfolding first_refusal
    both_read is = decided.verdict_is ∙ (λ i. first_refusal (read i ∷ is i ∷ decided.plan ∷ [])) ∙ sym (decides refl)

refused_below : {refusal : Refusal} {line : ℕ} (v : Verdict) (lines : List ℕ) → v ≡ Refused refusal line → below v lines ≡ refusal_line (number_of refusal)
unfolding below
refused_below v lines is = ap (λ (w : Verdict). below w lines) is

-- "Planner output is compared entry for entry with this rule, and `walk` with it.": two outputs for the same files and the same input
pub one_output :
    (cell_file recipe_file input text text' : List ℕ)
    → (first : Output cell_file recipe_file input text)
    → (second : Output cell_file recipe_file input text')
    → FixedDecided cell_file recipe_file first.table first.verdict first.decided
    → FixedDecided cell_file recipe_file second.table second.verdict second.decided
    → text ≡ text'
one_output cell_file recipe_file input text text' first second first_fixed second_fixed =
    first.text_is
    ∙ ap (λ (l : List ℕ). names_line ++ l) (decide (read_cell (take 8192 cell_file)).verdict refl (read_recipe (take 8192 recipe_file)).verdict refl)
    ∙ sym second.text_is
  where
    c : Cell
    c = (read_cell (take 8192 cell_file)).cell

    r : Recipe
    r = (read_recipe (take 8192 recipe_file)).recipe

    decide :
        (v : Verdict)
        → (read_cell (take 8192 cell_file)).verdict ≡ v
        → (w : Verdict)
        → (read_recipe (take 8192 recipe_file)).verdict ≡ w
        → below first.verdict (printed c r first.table fresh_run input) ≡ below second.verdict (printed c r second.table fresh_run input)
    decide (Err broken) is w told =
        refused_below _ _ (cell_refused cell_file recipe_file _ _ first.decided is)
        ∙ sym (refused_below _ _ (cell_refused cell_file recipe_file _ _ second.decided is))
    decide Accepted is (Err broken) told =
        refused_below _ _ (recipe_refused cell_file recipe_file _ _ first.decided is told)
        ∙ sym (refused_below _ _ (recipe_refused cell_file recipe_file _ _ second.decided is told))
    decide Accepted is Accepted told =
        ap (λ (w : Verdict). below w (printed c r first.table fresh_run input)) (both_read cell_file recipe_file _ _ first.decided is told)
        ∙ same_below c r first.table second.table first.decided.plan second.decided.plan (first.decided.planned is told)
        (second.decided.planned is told) (first_fixed.fixed is told) (second_fixed.fixed is told) input
        ∙ ap (λ (w : Verdict). below w (printed c r second.table fresh_run input)) (sym (both_read cell_file recipe_file _ _ second.decided is told))
