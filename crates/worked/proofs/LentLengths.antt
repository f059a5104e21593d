-- What a plan call answers for lent lengths, of any cell and recipe that pass the rules before 14: a scratch that is too short gives
-- 14, and if nothing is too short the call accepts what is realisable and refuses all else. Assumes nothing.
use mathlib.Core.Path.{◌≡◌, refl, sym, ◌∙◌}
use mathlib.Core.List.{List, [], ◌∷◌}
use Prim.Native.Nat.{ℕ, ◌+◌, ◌/◌, ◌<◌, ◌≤◌}
use lib.ListN.{length}
use lib.Dec.{ltb}
use borrow.Author.Tests.{lt-ltb, le-ltb}
use Rattle.refusals.specs.declared.Refusal.TheVariants.{TooShort, NotRealisable}
use Rattle.refusals.specs.Verdict.{Verdict, Accepted, Refused, no_line}
use Rattle.refusals.proofs.Verdicts.{no_line_broken, no_line_kept}
use Rattle.refusals.proofs.Rules.{accepts, decides, part_accepts}
use Rattle.cell.specs.declared.Cell.{Cell}
use Rattle.recipe.specs.declared.Recipe.{Recipe}
use Rattle.positions.specs.Sizes.{sizes_of}
use Rattle.positions.specs.Rules.{record_rules, check_records, check_sizes}
use Rattle.positions.proofs.AcceptedRecords.{records_ok, few_ok}
use Rattle.simulation.specs.Simulation.{Realisable}
use Rattle.reached.specs.Reached.{rule22}
use Rattle.planner.specs.Call.{check_plan, PlanCall}
use Rattle.planner.specs.Inner.{length_rules, one_rules}
use Rattle.planner.proofs.PlanAnswers.{refused_kept}
use Rattle.planner.proofs.OnePlan.{one_plan}
use Rattle.planner.proofs.Demands.{realisable_accepted, unrealisable_refused}

-- the rules before 15, for lent lengths
module _ (c : Cell) (r : Recipe) (sized : check_sizes c r ≡ Accepted) (led : rule22 r ≡ Accepted) (table scratch : ℕ) (long : (sizes_of c r).positions ≤ table) where
  checked : {v : Verdict} → v ≡ no_line TooShort (ltb scratch (((sizes_of c r).positions + 7) / 8)) → check_plan c (r ∷ []) table scratch ≡ v
  unfolding check_records one_rules length_rules
  checked e =
      one_plan c r table scratch
      ∙ sym
      (part_accepts (record_rules c r) (one_rules r (sizes_of c r) table scratch) refl (records_ok c r sized)
      (accepts _ refl led
      (accepts _ refl (few_ok c r sized) (accepts _ refl (no_line_kept TooShort _ (le-ltb _ _ long)) (decides e)))))

  pub check_passes : ((sizes_of c r).positions + 7) / 8 ≤ scratch → check_plan c (r ∷ []) table scratch ≡ Accepted
  check_passes wide = checked (sym (no_line_kept TooShort _ (le-ltb _ _ wide)))

  pub check_short : scratch < ((sizes_of c r).positions + 7) / 8 → check_plan c (r ∷ []) table scratch ≡ Refused TooShort 0
  check_short narrow = checked (sym (no_line_broken TooShort _ (lt-ltb _ _ narrow)))

-- the answers, whatever is lent
module _
    (c : Cell) (r : Recipe) (sized : check_sizes c r ≡ Accepted) (led : rule22 r ≡ Accepted) (table scratch table' scratch' : List ℕ) (verdict : Verdict)
    (call : PlanCall c (r ∷ []) table scratch table' scratch' verdict)
    (long : (sizes_of c r).positions ≤ length table)
  where
    module _ (narrow : length scratch < ((sizes_of c r).positions + 7) / 8) where
      short : check_plan c (r ∷ []) (length table) (length scratch) ≡ Refused TooShort 0
      short = check_short c r sized led (length table) (length scratch) long narrow

      pub short_refused : verdict ≡ Refused TooShort 0
      short_refused = (refused_kept c (r ∷ []) table scratch table' scratch' call short).0

      pub short_untouched : (table' ≡ table) × (scratch' ≡ scratch)
      short_untouched = let kept = refused_kept c (r ∷ []) table scratch table' scratch' call short in (kept.1, kept.2)

    module _ (wide : ((sizes_of c r).positions + 7) / 8 ≤ length scratch) where
      passes : check_plan c (r ∷ []) (length table) (length scratch) ≡ Accepted
      passes = check_passes c r sized led (length table) (length scratch) long wide

      pub call_accepts : Realisable c (r ∷ []) → verdict ≡ Accepted
      call_accepts = realisable_accepted c (r ∷ []) table scratch table' scratch' verdict call passes

      pub call_refuses : (Realisable c (r ∷ []) → ⊥) → verdict ≡ Refused NotRealisable 0
      call_refuses = unrealisable_refused c (r ∷ []) table scratch table' scratch' verdict call passes
