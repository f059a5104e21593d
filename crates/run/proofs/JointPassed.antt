-- Where a run of an earlier chapter lands, by the kind of its point. Assumes nothing.
use mathlib.Core.Path.{◌≡◌, sym, ap, ◌∙◌}
use Prim.Native.Nat.{ℕ, suc, ◌+◌}
use native.Mathlib.Omega.{arith}
use Rattle.recipe.specs.declared.Recipe.{Recipe}
use Rattle.steps.specs.Lines.{kind_of}
use Rattle.chapters.specs.Joined.{Point, point_in}
use Rattle.chapters.proofs.Landing.{landing_joint, landing_going}
use Rattle.run.specs.declared.Run.{Run}
use Rattle.run.specs.Calls.{point_of, run_at}
use Rattle.run.specs.Inner.{Landed}

module _ (recipe : Recipe) (run : Run) (kind : ℕ) (kind_is : kind ≡ kind_of recipe run.point) where
  -- past an end at point 0 of the next chapter, in the same configuration
  pub joint_passed : (after : Run) → kind ≡ 0 → after ≡ run_at (point_in (run.chapter + 1) 0) run.configuration → Landed recipe run after
  joint_passed after end e =
      record {
        lands = λ rs own earlier.
            let next : run.chapter + 1 ≡ suc run.chapter = omega arith in
            let here = ap (λ (r : Recipe). kind_of r run.point) (sym own) ∙ sym kind_is ∙ end in
            e ∙ ap (λ (k : ℕ). run_at (point_in k 0) run.configuration) next
            ∙ ap (λ (p : Point). run_at p run.configuration) (sym (landing_joint rs (point_of run) earlier here));
      }

  -- a do or a test stays where it is
  pub joint_ahead : (kind ≡ 0 → ⊥) → Landed recipe run run
  joint_ahead going =
      record {
        lands = λ rs own earlier.
            ap (λ (p : Point). run_at p run.configuration)
            (sym
            (landing_going rs (point_of run) (λ end. going (kind_is ∙ ap (λ (r : Recipe). kind_of r run.point) own ∙ end))));
      }
