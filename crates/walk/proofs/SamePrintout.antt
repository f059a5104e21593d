-- What is printed for two tables that have the same entries where the walk leads. Assumes nothing.
use mathlib.Core.Path.{◌≡◌, refl, sym, ap, ◌∙◌}
use mathlib.Core.Bool.{false, cond, not}
use mathlib.Core.List.{List, [], ◌∷◌, ◌++◌}
use Prim.Native.Nat.{ℕ, ◌-◌}
use lib.ListN.{length}
use Rattle.std.specs.Prelude.{Err}
use Rattle.refusals.specs.Verdict.{Verdict, Accepted, first_refusal, no_line, if_accepted}
use Rattle.refusals.specs.declared.Refusal.TheVariants.{NotOpen}
use Rattle.refusals.proofs.Verdicts.{refused_not}
use Rattle.tables.specs.Numbers.{is_digit}
use Rattle.cell.specs.declared.Cell.{Cell}
use Rattle.recipe.specs.declared.Recipe.{Recipe}
use Rattle.steps.specs.Effect.{opens, makes}
use Rattle.chapters.specs.Joined.{Chapters, recipe_at}
use Rattle.chapters.specs.Sizes.{sizes_in}
use Rattle.chapters.specs.Rules as rules
use Rattle.run.specs.declared.Run.{Run}
use Rattle.run.specs.Calls.{point_of, run_at, table_rules, entry_at, entry_rules, move_rules, report_rules, rule17, rule18, rule19, next_move, next_point, next_run, report_of}
use Rattle.planner.specs.Call.{check_plan, PlanCall}
use Rattle.printout.specs.Turn.{Told, reported, told, printed}

-- two tables have the same entries where the second one leads
unfoldable pub Along : Cell → Recipe → List ℕ → List ℕ → Run → List ℕ → Type 0
Along c r planned other run [] = Unit {0}
Along c r planned other run (byte ∷ bytes) =
    (entry_at c (r ∷ []) planned run ≡ entry_at c (r ∷ []) other run) × Along c r planned other (told c r other run byte).run bytes

-- a turn looks at one entry of the table alone, and at whether the table is long enough
module _ (c : Cell) (r : Recipe) (planned other : List ℕ)
    (both : rules.rule14 (sizes_in c (r ∷ [])) 1 (length planned) ≡ rules.rule14 (sizes_in c (r ∷ [])) 1 (length other)) where
  told_by : Run → ℕ → Verdict → ℕ → Told
  told_by run byte fits entry =
      let rs = r ∷ [] in
      let zs = sizes_in c rs in
      let a = run.configuration in
      let checked = rules.record_rules false c rs ++ (rules.rule13 zs 1 ∷ fits ∷ rules.rule16 zs 1 (point_of run) a ∷ []) in
      let opened = no_line NotOpen (not (opens c (recipe_at rs (point_of run)) run.point a entry)) in
      let outcome = byte - 48 in
      let verdict = first_refusal (checked ++ (rule17 outcome ∷ opened ∷ rule19 rs run ∷ [])) in
      let next = run_at (next_point rs (point_of run) entry outcome) (makes c (recipe_at rs (point_of run)) run.point a entry outcome) in
      let move = if_accepted (first_refusal (checked ++ (opened ∷ []))) entry 0 in
      cond (is_digit byte) (reported c r move run verdict (if_accepted verdict next run)) (record { line = []; more = false; run = run })

  told_by_lem : (table : List ℕ) (run : Run) (byte : ℕ)
      → told c r table run byte ≡ told_by run byte (rules.rule14 (sizes_in c (r ∷ [])) 1 (length table)) (entry_at c (r ∷ []) table run)
  unfolding told told_by next_move report_of table_rules entry_rules move_rules report_rules rule18 next_run
  told_by_lem table run byte = refl

  told_same : (run : Run) (byte : ℕ) → entry_at c (r ∷ []) planned run ≡ entry_at c (r ∷ []) other run
      → told c r planned run byte ≡ told c r other run byte
  told_same run byte e = told_by_lem planned run byte ∙ (λ i. told_by run byte (both i) (e i)) ∙ sym (told_by_lem other run byte)

  pub printed_same : (run : Run) (bytes : List ℕ) → Along c r planned other run bytes → printed c r planned run bytes ≡ printed c r other run bytes
  unfolding printed Along
  printed_same run [] along = refl
  printed_same run (byte ∷ bytes) along =
      let same = told_same run byte along.0 in
      (λ i. (same i).line ++ cond (same i).more (printed c r planned (same i).run bytes) [])
      ∙ ap (λ (l : List ℕ). (told c r other run byte).line ++ cond (told c r other run byte).more l [])
      (printed_same (told c r other run byte).run bytes along.1)

-- every plan call leaves a table of the length that was lent
pub call_length : {c : Cell} {rs : Chapters} {lent scratch planned scratch' : List ℕ} {verdict : Verdict}
    → PlanCall c rs lent scratch planned scratch' verdict → length planned ≡ length lent
call_length {c} {rs} {lent} {scratch} {planned} call = go (check_plan c rs (length lent) (length scratch)) refl
  where
    go : (v : Verdict) → check_plan c rs (length lent) (length scratch) ≡ v → length planned ≡ length lent
    go Accepted is = (call.planned is).same_length
    go (Err broken) is =
        ap (λ (l : List ℕ). length l) (call.untouched (refused_not is)).0
