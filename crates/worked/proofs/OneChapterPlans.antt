-- "A single recipe is one chapter": what every plan call leaves of it, by the greatest simulation of the recipe by itself. Assumes nothing.
use mathlib.Core.Path.{◌≡◌, sym, ap, subst, ◌∙◌}
use mathlib.Core.List.{List, [], ◌∷◌}
use Prim.Native.Nat.{ℕ, ◌≤◌}
use native.Mathlib.Omega.{arith}
use lib.ListN.{length, get_or}
use Rattle.refusals.specs.declared.Refusal.{Refusal}
use Rattle.refusals.specs.declared.Refusal.TheVariants.{NotRealisable}
use Rattle.refusals.specs.Verdict.{Verdict, Accepted, Refused}
use Rattle.refusals.proofs.Verdicts.{refused_not}
use Rattle.cell.specs.declared.Cell.{Cell}
use Rattle.recipe.specs.declared.Recipe.{Recipe}
use Rattle.positions.specs.declared.Configuration.{Configuration}
use Rattle.positions.specs.declared.Sizes.{Sizes}
use Rattle.positions.specs.Sizes.{sizes_of}
use Rattle.positions.specs.Position.{start, entry_of}
use Rattle.steps.specs.Lines.{kind_of}
use Rattle.chapters.specs.Joined.{chapter_at, point_in}
use Rattle.chapters.specs.Sizes.{sizes_in, begins}
use Rattle.chapters.proofs.OneChapter.{begins_second, one_sizes}
use Rattle.simulation.specs.Simulation.{Position, PositionIn, Greatest}
use Rattle.simulation.specs.Shortest.{Shortest}
use Rattle.simulation.specs.Plan.{Planned}
use Rattle.planner.specs.Call.{check_plan, PlanCall, FixedCall}
use Rattle.planner.proofs.PlanAnswers.{refused_kept}
use Rattle.planner.proofs.Demands.{accepted_realisable, realisable_accepted, unrealisable_refused}
use Rattle.worked.specs.OneRecipe as single
use Rattle.worked.proofs.OneChapterCalls.{same_plan, same_entry}
use Rattle.worked.proofs.OneChapterSimulations.{one_greatest, greatest_one}

module _ (c : Cell) (r : Recipe) where
  -- the greatest simulation holds the same positions
  pub single_holds : (p : ℕ) (a : Configuration) → Greatest c (r ∷ []) (sizes_in c (r ∷ [])) (point_in 0 p) a → single.Greatest c r (sizes_of c r) p a
  single_holds p a held =
      subst (λ (z : Sizes). single.Greatest c r z p a) (one_sizes r c) (one_greatest c r (sizes_in c (r ∷ [])) p a held)

  pub chapter_holds : (p : ℕ) (a : Configuration) → single.Greatest c r (sizes_of c r) p a → Greatest c (r ∷ []) (sizes_in c (r ∷ [])) (point_in 0 p) a
  chapter_holds p a held =
      greatest_one c r (sizes_in c (r ∷ [])) p a (subst (λ (z : Sizes). single.Greatest c r z p a) (sym (one_sizes r c)) held)

  module _
      (table scratch table' scratch' : List ℕ) (verdict : Verdict)
      (call : PlanCall c (r ∷ []) table scratch table' scratch' verdict)
    where
      -- "All but 15 change nothing."
      pub refused_before :
          (refusal : Refusal) (line : ℕ)
          → single.check_plan c r (length table) (length scratch) ≡ Refused refusal line
          → (verdict ≡ Refused refusal line) × (table' ≡ table) × (scratch' ≡ scratch)
      refused_before refusal line told =
          refused_kept c (r ∷ []) table scratch table' scratch' call (same_plan c r (length table) (length scratch) ∙ told)

      module _ (passes : single.check_plan c r (length table) (length scratch) ≡ Accepted) where
        checked : check_plan c (r ∷ []) (length table) (length scratch) ≡ Accepted
        checked = same_plan c r (length table) (length scratch) ∙ passes

        plan : Planned c (r ∷ []) (sizes_in c (r ∷ [])) table table' call.refused
        plan = call.planned checked

        at_first : (p : ℕ) (a : Configuration) → Position (sizes_of c r) p a → PositionIn (r ∷ []) (sizes_in c (r ∷ [])) (point_in 0 p) a
        at_first p a here = record { there = omega arith; here = subst (λ (z : Sizes). Position z p a) (sym (one_sizes r c)) here }

        -- "a table entry is other than 0 exactly at the positions which that simulation holds"
        pub entry_holds :
            (p : ℕ) (a : Configuration)
            → Position (sizes_of c r) p a
            → (entry_of (sizes_of c r) table' p a ≡ 0 → ⊥)
            → single.Greatest c r (sizes_of c r) p a
        entry_holds p a here some =
            single_holds p a (plan.entry_holds (point_in 0 p) a (at_first p a here) (λ none. some (sym (same_entry c r p a table') ∙ none)))

        pub zero_lacks :
            (p : ℕ) (a : Configuration)
            → Position (sizes_of c r) p a
            → entry_of (sizes_of c r) table' p a ≡ 0
            → single.Greatest c r (sizes_of c r) p a
            → ⊥
        zero_lacks p a here none held =
            plan.zero_lacks (point_in 0 p) a (at_first p a here) (same_entry c r p a table' ∙ none) (chapter_holds p a held)

        -- "Each entry other than 0 at a do or test is now fixed.", over the one chapter
        pub entry_fixed :
            FixedCall c (r ∷ []) table scratch table'
            → (p : ℕ) (a : Configuration)
            → Position (sizes_of c r) p a
            → (kind_of r p ≡ 0 → ⊥)
            → (entry_of (sizes_of c r) table' p a ≡ 0 → ⊥)
            → Shortest c (r ∷ []) (sizes_in c (r ∷ [])) (point_in 0 p) a (entry_of (sizes_of c r) table' p a)
        unfolding chapter_at
        entry_fixed fixed p a here going some =
            subst (λ (e : ℕ). Shortest c (r ∷ []) (sizes_in c (r ∷ [])) (point_in 0 p) a e) (same_entry c r p a table')
            ((fixed.fixed checked).shortest (point_in 0 p) a (at_first p a here) going (λ none. some (sym (same_entry c r p a table') ∙ none)))

        -- "Entries past M keep their content."
        pub past_stay : (n : ℕ) → (sizes_of c r).positions ≤ n → get_or table' n 0 ≡ get_or table n 0
        past_stay n past =
            let all : begins (sizes_in c (r ∷ [])) 1 ≡ (sizes_of c r).positions =
            begins_second (sizes_in c (r ∷ [])) ∙ ap (λ (z : Sizes). z.positions) (one_sizes r c) in
            plan.past_stay n (omega (arith, all))

        -- "accepted exactly when the greatest simulation .. holds the start", and 15 exactly if it doesn't
        pub accepted_holds : verdict ≡ Accepted → single.Realisable c r
        accepted_holds told =
            single_holds 0 start (accepted_realisable c (r ∷ []) table scratch table' scratch' verdict call checked told)

        pub holds_accepted : single.Realisable c r → verdict ≡ Accepted
        holds_accepted held =
            realisable_accepted c (r ∷ []) table scratch table' scratch' verdict call checked (chapter_holds 0 start held)

        pub lacks_refused : (single.Realisable c r → ⊥) → verdict ≡ Refused NotRealisable 0
        lacks_refused never =
            unrealisable_refused c (r ∷ []) table scratch table' scratch' verdict call checked (λ held. never (single_holds 0 start held))

        pub refused_lacks : verdict ≡ Refused NotRealisable 0 → single.Realisable c r → ⊥
        refused_lacks told held = refused_not told (holds_accepted held)
