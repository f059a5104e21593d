-- The answers of the install call, by the rule at which it stops. Assumes nothing.
use mathlib.Core.Path.{◌≡◌, refl, sym}
use mathlib.Core.List.{List, [], ◌∷◌}
use Prim.Native.Nat.{ℕ, ◌*◌, ◌<◌, ◌≤◌}
use native.Mathlib.Omega.{arith}
use lib.ListN.{length}
use borrow.Author.Tests.{le-leb, lt-leb}
use Rattle.std.specs.Prelude.{Ok, Err}
use Rattle.refusals.specs.declared.Broken.{Broken}
use Rattle.refusals.specs.declared.Refusal.{Refusal}
use Rattle.refusals.specs.declared.Refusal.TheVariants.{FullCell}
use Rattle.refusals.specs.Verdict.{Verdict, Accepted, Refused}
use Rattle.refusals.proofs.Verdicts.{refused_not, no_line_broken, no_line_kept}
use Rattle.refusals.proofs.Rules.{refuses, accepts, decides}
use Rattle.cell.specs.declared.Cell.{Cell}
use Rattle.recipe.specs.declared.Recipe.{Recipe}
use Rattle.positions.specs.declared.Sizes.{Sizes}
use Rattle.simulation.specs.Simulation.{Realisable}
use Rattle.planner.specs.Call.{check_plan}
use Rattle.install.specs.Call.{rule21, check_install, listing_of, InstallCall}
use Rattle.install.specs.Search.{Asked, SoFar}
use Rattle.install.proofs.FilledList.{filled_none}
use Rattle.install.proofs.ListedSoFar.{so_far_all}
use Rattle.install.proofs.CandidateLines.{own_resources}

-- the rules, as the call tries them: the planner's, then 21
module _ (c : Cell) (r : Recipe) (table scratch : ℕ) where
  pub plan_refused : {v : Verdict} {refusal : Refusal} {line : ℕ} → v ≡ check_plan c (r ∷ []) table scratch → v ≡ Refused refusal line → v ≡ check_install c r table scratch
  unfolding check_install
  plan_refused e told = refuses _ e told

  module _ (passed : check_plan c (r ∷ []) table scratch ≡ Accepted) where
    pub full_refused : c.count ≡ 64 → Refused FullCell 0 ≡ check_install c r table scratch
    unfolding check_install rule21
    full_refused full = accepts _ refl passed (decides (sym (no_line_broken FullCell _ (le-leb 64 c.count (omega arith)))))

    pub free_accepted : c.count < 64 → check_install c r table scratch ≡ Accepted
    unfolding check_install rule21
    free_accepted free = sym (accepts _ refl passed (decides (sym (no_line_kept FullCell _ (lt-leb 64 c.count free)))))

module _ (c : Cell) (r : Recipe) (table scratch list : List ℕ) where
  pub install_refused :
      {e : Broken}
      → check_install c r (length table) (length scratch) ≡ Err e
      → InstallCall c r table scratch list table scratch list (listing_of (Err e))
  unfolding listing_of
  install_refused told =
      record {
        lines = [];
        verdict_is = sym told;
        count_is = refl;
        few = omega arith;
        list_is = sym (filled_none list);
        none_needed = λ realisable. refl;
        listed = λ accepted. absurd (refused_not told accepted);
        none_refused = λ refused. refl;
        untouched = λ refused. (refl, refl);
        same_table = refl;
        same_scratch = refl;
      }

  -- the rules accept: table and scratch end with free content
  module _ {table' scratch' : List ℕ} (accepted : check_install c r (length table) (length scratch) ≡ Accepted)
      (same_table : length table' ≡ length table) (same_scratch : length scratch' ≡ length scratch) where
    pub install_none : Realisable c (r ∷ []) → InstallCall c r table scratch list table' scratch' list (listing_of (Ok 0))
    unfolding listing_of
    install_none realisable =
        record {
          lines = [];
          verdict_is = sym accepted;
          count_is = refl;
          few = omega arith;
          list_is = sym (filled_none list);
          none_needed = λ again. refl;
          listed = λ passed lacks. absurd (lacks realisable);
          none_refused = λ refused. refl;
          untouched = λ refused. absurd (refused accepted);
          same_table = same_table;
          same_scratch = same_scratch;
        }

    pub install_listed :
        (z : Sizes)
        → Asked c r z
        → (Realisable c (r ∷ []) → ⊥)
        → {found : ℕ} {list' : List ℕ}
        → found ≤ 24576
        → SoFar c r list (4096 * z.resources) found list'
        → InstallCall c r table scratch list table' scratch' list' (listing_of (Ok found))
    unfolding listing_of
    install_listed z A lacks few F =
        record {
          lines = F.lines;
          verdict_is = sym accepted;
          count_is = F.count_is;
          few = few;
          list_is = F.list_is;
          none_needed = λ realisable. absurd (lacks realisable);
          listed = λ passed again. so_far_all c r list z A.checked (omega (arith, own_resources c r z A.own)) F;
          none_refused = λ refused. absurd (refused accepted);
          untouched = λ refused. absurd (refused accepted);
          same_table = same_table;
          same_scratch = same_scratch;
        }
