-- 24: no chapters or more than 8 of them, and an earlier chapter that begins at an end. Computed, whatever run and table are handed
-- in. Assumes nothing.
use mathlib.Core.Path.{◌≡◌, refl, sym}
use mathlib.Core.Bool.{Bool, true, false}
use mathlib.Core.List.{List, [], ◌∷◌, ◌++◌}
use Prim.Native.Nat.{ℕ}
use lib.ListN.{length}
use Rattle.refusals.specs.declared.Refusal.{Refusal}
use Rattle.refusals.specs.declared.Refusal.TheVariants.{UnreachedPoint, Chapters}
use Rattle.refusals.specs.Verdict.{Verdict, Refused, first_refusal, first_line, no_line, if_accepted, rule3, line_verdict}
use Rattle.refusals.specs.Search.{first_below, any_below, all_below, count_below, greatest_below, tabulate, is_of}
use Rattle.refusals.proofs.Rules.{part_refuses}
use Rattle.cell.specs.declared.Cell.{Cell}
use Rattle.cell.specs.Rules as cell
use Rattle.recipe.specs.declared.Recipe.{Recipe}
use Rattle.recipe.specs.Rules as recipe
use Rattle.steps.specs.Lines.{first_line_of, kind_of}
use Rattle.reached.specs.Reached.{leads, line_leads, leads_on, chained, is_reached, rule22}
use Rattle.chapters.specs.Joined as joined
use Rattle.chapters.specs.Joined.{chapter_at, is_earlier}
use Rattle.chapters.specs.Sizes.{sizes_in}
use Rattle.chapters.specs.Rules.{rule24, rule24_joint, chapter_rules, in_turn, chapters_rules, record_rules, rule13, check_sizes}
use Rattle.run.specs.declared.Run.{Run}
use Rattle.run.specs.Calls.{run_rules, table_rules, place_rules, entry_rules, rule17, rule18, rule19, move_rules, report_rules, next_move, report_of, part_place}
use Rattle.planner.specs.Call.{lent_rules, check_plan, PlanCall}
use Rattle.planner.proofs.PlanAnswers.{refused_kept}
use Rattle.worked.specs.Moves.{filled, bench_cell, bench_recipe}
use Rattle.worked.specs.Plans.{end_recipe}
use Rattle.worked.specs.Chaptered.{end_earlier, unreached_first, unreached_earlier, nine}

-- every plan call answers this refusal, whatever is lent, and changes nothing
pub record PlanGets (refusal : Refusal) (c : Cell) (rs : joined.Chapters) : Type 0 where
  pub check : (table scratch : ℕ) → check_plan c rs table scratch ≡ Refused refusal 0
  pub plan :
      (table scratch table' scratch' : List ℕ) (verdict : Verdict)
      → PlanCall c rs table scratch table' scratch' verdict
      → (verdict ≡ Refused refusal 0) × (table' ≡ table) × (scratch' ≡ scratch)

-- and every call on a run does, whatever is handed in beside: the run stays
pub record RunGets (refusal : Refusal) (c : Cell) (rs : joined.Chapters) : Type 0 where
  pub sizes : check_sizes c rs ≡ Refused refusal 0
  pub move : (table : List ℕ) (run : Run) → next_move c rs table run ≡ record { verdict = Refused refusal 0; entry = 0 }
  pub report : (table : List ℕ) (run : Run) (outcome : ℕ) → report_of c rs table run outcome ≡ record { verdict = Refused refusal 0; run = run }
  pub place : (run : Run) (part : ℕ) → part_place c rs run part ≡ record { verdict = Refused refusal 0; place = 255 }

-- where the rules on the records give it
module _ (refusal : Refusal) (c : Cell) (rs : joined.Chapters) where
  pub plan_gets : first_refusal (record_rules true c rs) ≡ Refused refusal 0 → PlanGets refusal c rs
  unfolding check_plan
  plan_gets told =
      record {
        check = checked;
        plan = λ table scratch table' scratch' verdict call. refused_kept c rs table scratch table' scratch' call (checked (length table) (length scratch));
      }
    where
      checked : (table scratch : ℕ) → check_plan c rs table scratch ≡ Refused refusal 0
      checked table scratch =
          sym (part_refuses (record_rules true c rs) (lent_rules (sizes_in c rs) (length rs) table scratch) (sym told) refl)

  module _ (told : first_refusal (record_rules false c rs) ≡ Refused refusal 0) where
    tried : (rest : List Verdict) → first_refusal (record_rules false c rs ++ rest) ≡ Refused refusal 0
    tried rest = sym (part_refuses (record_rules false c rs) rest (sym told) refl)

    before_entry : (table : List ℕ) (run : Run) (rest : List Verdict) → first_refusal (entry_rules c rs table run ++ rest) ≡ Refused refusal 0
    unfolding entry_rules
    before_entry table run rest =
        let rules = record_rules false c rs ++ table_rules (sizes_in c rs) (length rs) (length table) run in
        sym (part_refuses rules rest (sym (tried (table_rules (sizes_in c rs) (length rs) (length table) run))) refl)

    pub run_gets : RunGets refusal c rs
    unfolding check_sizes next_move report_of part_place move_rules report_rules place_rules if_accepted
    run_gets =
        record {
          sizes = tried (rule13 (sizes_in c rs) (length rs) ∷ []);
          move = λ table run. rw (before_entry table run (rule18 c rs table run ∷ []));
          report = λ table run outcome. rw (before_entry table run (rule17 outcome ∷ rule18 c rs table run ∷ rule19 rs run ∷ []));
          place = λ run part. rw (tried (run_rules (sizes_in c rs) (length rs) run));
        }

-- what is computed of the rules on the records
record Computed : Type 0 where
  end_earlier_lem : (plans : Bool) → first_refusal (record_rules plans bench_cell end_earlier) ≡ Refused Chapters 0
  unreached_plan : first_refusal (record_rules true bench_cell unreached_earlier) ≡ Refused UnreachedPoint 0
  unreached_run : first_refusal (record_rules false bench_cell unreached_earlier) ≡ Refused Chapters 0
  none : (plans : Bool) (c : Cell) → first_refusal (record_rules plans c []) ≡ Refused Chapters 0
  many : (plans : Bool) (c : Cell) (r : Recipe) → first_refusal (record_rules plans c (nine r)) ≡ Refused Chapters 0

computed : Computed
unfolding is_of first_below any_below all_below count_below greatest_below tabulate first_refusal first_line no_line rule3 cell.leaves_range
    cell.rule4 cell.greatest_resource cell.rule5 cell.other_act cell.partner cell.unpaired cell.limit_in_range cell.limit_leaves_range
    cell.rule4_limits cell.rule6 cell.limits_absent cell.rule20 cell.alike cell.stray cell.rule23 cell.cell_rules recipe.leaves_range
    recipe.rule4 recipe.breaks_order recipe.rule7 recipe.clashes recipe.breaks_repeat recipe.rule8 recipe.breaks_unused recipe.rule9
    recipe.lacks_parts recipe.rule10 recipe.holds_part recipe.common recipe.shares_part recipe.rule11 recipe.point_count recipe.leads_out
    recipe.rule12 recipe.recipe_rules first_line_of kind_of filled bench_cell bench_recipe end_recipe end_earlier unreached_first unreached_earlier
    nine leads line_leads leads_on chained is_reached rule22 chapter_at is_earlier rule24 rule24_joint chapter_rules in_turn chapters_rules
    record_rules cell.in_range cell.gap cell.has_no_line recipe.in_range recipe.has_unused line_verdict
computed =
    record {
      end_earlier_lem = by_call;
      unreached_plan = refl;
      unreached_run = refl;
      none = λ plans c. refl;
      many = λ plans c r. refl;
    }
  where
    by_call : (plans : Bool) → first_refusal (record_rules plans bench_cell end_earlier) ≡ Refused Chapters 0
    by_call true = refl
    by_call false = refl

pub record JointRefusals : Type 0 where
  -- "24 for no chapters", whatever the cell: "before the cell's 3"
  pub none_plan : (c : Cell) → PlanGets Chapters c []
  pub none_run : (c : Cell) → RunGets Chapters c []
  -- "or more than 8", whatever the cell and the chapters are
  pub many_plan : (c : Cell) (r : Recipe) → PlanGets Chapters c (nine r)
  pub many_run : (c : Cell) (r : Recipe) → RunGets Chapters c (nine r)
  -- "and for an earlier chapter whose point 0 is an end": one end, then the bench recipe
  pub end_plan : PlanGets Chapters bench_cell end_earlier
  pub end_run : RunGets Chapters bench_cell end_earlier
  -- "after 22": with a point that nothing leads to behind that end, a call that plans gives 22, and one that doesn't gives 24
  pub unreached_plan : PlanGets UnreachedPoint bench_cell unreached_earlier
  pub unreached_run : RunGets Chapters bench_cell unreached_earlier

pub joint_refusals : JointRefusals
joint_refusals =
    record {
      none_plan = λ c. plan_gets Chapters c [] (computed.none true c);
      none_run = λ c. run_gets Chapters c [] (computed.none false c);
      many_plan = λ c r. plan_gets Chapters c (nine r) (computed.many true c r);
      many_run = λ c r. run_gets Chapters c (nine r) (computed.many false c r);
      end_plan = plan_gets Chapters bench_cell end_earlier (computed.end_earlier_lem true);
      end_run = run_gets Chapters bench_cell end_earlier (computed.end_earlier_lem false);
      unreached_plan = plan_gets UnreachedPoint bench_cell unreached_earlier computed.unreached_plan;
      unreached_run = run_gets Chapters bench_cell unreached_earlier computed.unreached_run;
    }
