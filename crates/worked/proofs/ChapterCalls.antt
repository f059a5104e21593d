-- What every plan call leaves of the recipes in chapters over the bench cell, and how the runs by its tables go on: theorems over the
-- call's contract, whatever table and scratch were lent. Assumes nothing.
use mathlib.Core.Path.{◌≡◌, refl, sym, ap, ◌∙◌}
use mathlib.Core.Bool.{Bool, true, false, cond}
use mathlib.Core.List.{List, [], ◌∷◌, ◌++◌}
use Prim.Native.Nat.{ℕ, ◌≤◌}
use native.Mathlib.Omega.{arith}
use lib.ListN.{length}
use lib.Dec.{eqb, ltb}
use borrow.Author.Tests.{eqb-false, lt-ltb, le-ltb}
use Rattle.refusals.specs.declared.Refusal.TheVariants.{TooShort, NotRealisable, RunRange, OutcomeRange, NotOpen, AtEnd}
use Rattle.refusals.specs.Verdict.{Verdict, Accepted, Refused, first_refusal, if_accepted}
use Rattle.refusals.proofs.Rules.{accepts, decides, part_accepts}
use Rattle.refusals.proofs.Verdicts.{no_line_broken, no_line_kept}
use Rattle.positions.specs.declared.Configuration.{Configuration}
use Rattle.positions.specs.Position.{start}
use Rattle.steps.specs.Effect.{opens}
use Rattle.steps.proofs.OpenByKind.{open_end}
use Rattle.chapters.specs.Joined.{Chapters, Point, point_in, recipe_at, kind_at}
use Rattle.chapters.specs.Sizes.{begins, entry_in}
use Rattle.chapters.specs.Rules.{record_rules, rule14, is_position_in, rule16}
use Rattle.chapters.specs.Checked.{AllChecked}
use Rattle.chapters.proofs.AcceptedChapters.{rules_of}
use Rattle.run.specs.Calls.{run_at, table_rules, entry_rules, rule17, rule18, rule19, move_rules, report_rules, next_move, next_run, report_of}
use Rattle.simulation.specs.Simulation.{PositionIn, Greatest, Realisable}
use Rattle.simulation.specs.Plan.{Planned}
use Rattle.planner.specs.Call.{check_plan, PlanCall}
use Rattle.planner.proofs.Demands.{realisable_accepted, unrealisable_refused}
use Rattle.worked.specs.Moves.{bench_cell}
use Rattle.worked.specs.Chaptered.{whole, cut, first_alone, second_alone, twice, at_first, at_second, tested}
use Rattle.worked.specs.ChapteredPlans.{whole_table, cut_table}
use Rattle.simulation.proofs.PlannedEntries.{plan_opens, lost_planned}
use Rattle.worked.proofs.ChapterCertificates.{sole_planned}
use Rattle.worked.proofs.FineChapters.{fine_in_passes}
use Rattle.worked.proofs.ChapterPlans.{bench_in, Fine, fine_checked, Passed, Ended, Leads, either, computed, whole_holds, cut_holds}
use Rattle.worked.proofs.ChapterPlans.{whole_realisable, cut_realisable, first_realisable, second_unrealisable, twice_unrealisable, joint_lacks}

module _
    (rs : Chapters) (entries bytes : ℕ) (fine : Fine rs entries bytes)
    (table scratch table' scratch' : List ℕ) (verdict : Verdict)
    (call : PlanCall bench_cell rs table scratch table' scratch' verdict)
    (long : entries ≤ length table) (wide : bytes ≤ length scratch)
  where
    checked : AllChecked bench_cell rs (bench_in rs)
    checked = fine_checked rs entries bytes fine

    -- nothing that is lent is too short
    passes : check_plan bench_cell rs (length table) (length scratch) ≡ Accepted
    passes =
        fine_in_passes bench_cell rs entries bytes (record { records = fine.records; few = fine.few; all = fine.all; most = fine.most })
        (length table) (length scratch) long wide

    plan : Planned bench_cell rs (bench_in rs) table table' call.refused
    plan = call.planned passes

    call_accepted : Realisable bench_cell rs → verdict ≡ Accepted
    call_accepted = realisable_accepted bench_cell rs table scratch table' scratch' verdict call passes

    call_refused : (Realisable bench_cell rs → ⊥) → verdict ≡ Refused NotRealisable 0
    call_refused = unrealisable_refused bench_cell rs table scratch table' scratch' verdict call passes

    -- the rules before the entry is looked at accept a run that is at a position
    module _ (p : Point) (a : Configuration) (at : PositionIn rs (bench_in rs) p a) where
      entry_then : {v : Verdict} (rest : List Verdict) → v ≡ first_refusal rest → v ≡ first_refusal (entry_rules bench_cell rs table' (run_at p a) ++ rest)
      unfolding entry_rules table_rules rule14 rule16 is_position_in
      entry_then rest next =
          let rules = table_rules (bench_in rs) (length rs) (length table') (run_at p a) in
          part_accepts (record_rules false bench_cell rs ++ rules) rest refl
          (sym
          (part_accepts (record_rules false bench_cell rs) rules refl (rules_of bench_cell rs (bench_in rs) checked)
          (accepts _ refl fine.few
          (accepts _ refl
          (no_line_kept TooShort _ (le-ltb (length table') (begins (bench_in rs) (length rs)) (omega (arith, fine.all, plan.same_length))))
          (decides (sym (no_line_kept RunRange _ (rw (lt-ltb p.chapter (length rs) at.there, at.here.is_in_range)))))))))
          next

      -- "18 .. the entry isn't a move open here, 0 included"
      shut_here : entry_in (bench_in rs) table' p a ≡ 0 → opens bench_cell (recipe_at rs p) p.point a 0 ≡ false
          → next_move bench_cell rs table' (run_at p a) ≡ record { verdict = Refused NotOpen 0; entry = 0 }
      unfolding next_move move_rules rule18 if_accepted
      shut_here none shuts =
          let told : Refused NotOpen 0 ≡ first_refusal (entry_rules bench_cell rs table' (run_at p a) ++ (rule18 bench_cell rs table' (run_at p a) ∷ [])) =
          entry_then (rule18 bench_cell rs table' (run_at p a) ∷ []) (decides (sym (no_line_broken NotOpen _ (rw (none, shuts))))) in
          rw (← told)

      -- a report makes the open move that is the entry, and lands where it leads
      report_leaves :
          (x : ℕ) (outcome : Bool) (q : Point) (b : Configuration)
          → entry_in (bench_in rs) table' p a ≡ x
          → eqb (kind_at rs p) 0 ≡ false
          → opens bench_cell (recipe_at rs p) p.point a x ≡ true
          → Leads rs p a x (cond outcome 1 0) q b
          → report_of bench_cell rs table' (run_at p a) (cond outcome 1 0) ≡ record { verdict = Accepted; run = run_at q b }
      unfolding report_of report_rules rule17 rule18 rule19 next_run if_accepted
      report_leaves x outcome q b is going able on =
          let run = run_at p a in
          let told : Accepted ≡ first_refusal (entry_rules bench_cell rs table' run
          ++ (rule17 (cond outcome 1 0) ∷ rule18 bench_cell rs table' run ∷ rule19 rs run ∷ [])) =
          entry_then _
          (accepts _ refl (no_line_kept OutcomeRange _ (few outcome))
          (accepts _ refl (no_line_kept NotOpen _ (rw (is, able))) (decides (sym (no_line_kept AtEnd _ going))))) in
          rw (← told, is, on.next, on.makes_it)
        where
          few : (o : Bool) → ltb 1 (cond o 1 0) ≡ false
          few true = refl
          few false = refl

    -- where the greatest simulation holds each position at which the table shown has an entry
    module _
        (shown : List ℕ)
        (holds : (p : Point) (a : Configuration) → PositionIn rs (bench_in rs) p a → (entry_in (bench_in rs) shown p a ≡ 0 → ⊥) → Greatest bench_cell rs (bench_in rs) p a)
      where
        module _ (p : Point) (a : Configuration) (x : ℕ) (passed : Passed rs shown p a x) where
          held : Greatest bench_cell rs (bench_in rs) p a
          held = holds p a passed.position (λ none. eqb-false x 0 passed.some (sym passed.shows ∙ none))

          -- the entry is the only open move
          move : entry_in (bench_in rs) table' p a ≡ x
          move = sole_planned bench_cell rs (bench_in rs) checked table table' call.refused plan p a passed.position x passed.sole held

          report : (outcome : Bool) (q : Point) (b : Configuration) → Leads rs p a x (cond outcome 1 0) q b
              → report_of bench_cell rs table' (run_at p a) (cond outcome 1 0) ≡ record { verdict = Accepted; run = run_at q b }
          report outcome q b on =
              report_leaves p a passed.position x outcome q b move passed.going
              (ap (opens bench_cell (recipe_at rs p) p.point a) (sym move)
              ∙ plan_opens bench_cell rs (bench_in rs) checked table table' call.refused plan p a passed.position held)
              on

        -- an end's entry is kind 4
        end_move : (p : Point) (a : Configuration) → Ended rs shown p a → entry_in (bench_in rs) table' p a ≡ 67108864
        end_move p a ended =
            open_end bench_cell (recipe_at rs p) p.point a (entry_in (bench_in rs) table' p a) ended.done
            (plan_opens bench_cell rs (bench_in rs) checked table table' call.refused plan p a ended.position
            (holds p a ended.position (λ none. omega (arith, ended.shows, none))))

-- what every plan has of the bench example without rework, at the points at which it begins, tests, takes out what is good and what is
-- bad, and ends: the moves at the positions that a run from the start passes, and the runs that its reports leave, at both outcomes
pub record Follows (rs : Chapters) (table : List ℕ) (verdict : Verdict) (begin test good bad end : Point) : Type 0 where
  pub accepted : verdict ≡ Accepted
  pub begin_move : entry_in (bench_in rs) table begin start ≡ 50331648
  pub hand_on_move : entry_in (bench_in rs) table test at_first ≡ 33554561
  pub test_move : entry_in (bench_in rs) table test at_second ≡ 50331843
  pub good_move : entry_in (bench_in rs) table good tested ≡ 50331652
  pub bad_move : entry_in (bench_in rs) table bad tested ≡ 50331652
  pub end_move : entry_in (bench_in rs) table end start ≡ 67108864
  pub begins : (outcome : Bool) → report_of bench_cell rs table (run_at begin start) (cond outcome 1 0) ≡ record { verdict = Accepted; run = run_at test at_first }
  pub hands_on : (outcome : Bool) → report_of bench_cell rs table (run_at test at_first) (cond outcome 1 0) ≡ record { verdict = Accepted; run = run_at test at_second }
  pub passes : report_of bench_cell rs table (run_at test at_second) 1 ≡ record { verdict = Accepted; run = run_at good tested }
  pub fails : report_of bench_cell rs table (run_at test at_second) 0 ≡ record { verdict = Accepted; run = run_at bad tested }
  pub good_leaves : (outcome : Bool) → report_of bench_cell rs table (run_at good tested) (cond outcome 1 0) ≡ record { verdict = Accepted; run = run_at end start }
  pub bad_leaves : (outcome : Bool) → report_of bench_cell rs table (run_at bad tested) (cond outcome 1 0) ≡ record { verdict = Accepted; run = run_at end start }

module _ (table scratch table' scratch' : List ℕ) (verdict : Verdict) where
  module _ (call : PlanCall bench_cell whole table scratch table' scratch' verdict) (long : 90 ≤ length table) (wide : 12 ≤ length scratch) where
    whole_move : (p : Point) (a : Configuration) (x : ℕ) → Passed whole whole_table p a x → entry_in (bench_in whole) table' p a ≡ x
    whole_move = move whole 90 12 computed.whole_fine table scratch table' scratch' verdict call long wide whole_table whole_holds

    whole_report :
        (p : Point) (a : Configuration) (x : ℕ)
        → Passed whole whole_table p a x
        → (outcome : Bool) (q : Point) (b : Configuration)
        → Leads whole p a x (cond outcome 1 0) q b
        → report_of bench_cell whole table' (run_at p a) (cond outcome 1 0) ≡ record { verdict = Accepted; run = run_at q b }
    whole_report = report whole 90 12 computed.whole_fine table scratch table' scratch' verdict call long wide whole_table whole_holds

    pub whole_called : Follows whole table' verdict (point_in 0 0) (point_in 0 1) (point_in 0 2) (point_in 0 3) (point_in 0 4)
    whole_called =
        let at = computed.whole_passed in
        let on = computed.whole_leads in
        record {
          accepted = call_accepted whole 90 12 computed.whole_fine table scratch table' scratch' verdict call long wide whole_realisable;
          begin_move = whole_move _ _ _ at.fed;
          hand_on_move = whole_move _ _ _ at.handed_on;
          test_move = whole_move _ _ _ at.under_test;
          good_move = whole_move _ _ _ at.good;
          bad_move = whole_move _ _ _ at.bad;
          end_move = end_move whole 90 12 computed.whole_fine table scratch table' scratch' verdict call long wide whole_table whole_holds _ _ at.finished;
          begins = λ outcome. whole_report _ _ _ at.fed outcome _ _ (either _ _ _ _ _ _ on.fed outcome);
          hands_on = λ outcome. whole_report _ _ _ at.handed_on outcome _ _ (either _ _ _ _ _ _ on.handed_on outcome);
          passes = whole_report _ _ _ at.under_test true _ _ on.good;
          fails = whole_report _ _ _ at.under_test false _ _ on.bad;
          good_leaves = λ outcome. whole_report _ _ _ at.good outcome _ _ (either _ _ _ _ _ _ on.good_out outcome);
          bad_leaves = λ outcome. whole_report _ _ _ at.bad outcome _ _ (either _ _ _ _ _ _ on.bad_out outcome);
        }

  module _ (call : PlanCall bench_cell cut table scratch table' scratch' verdict) (long : 108 ≤ length table) (wide : 9 ≤ length scratch) where
    cut_move : (p : Point) (a : Configuration) (x : ℕ) → Passed cut cut_table p a x → entry_in (bench_in cut) table' p a ≡ x
    cut_move = move cut 108 9 computed.cut_fine table scratch table' scratch' verdict call long wide cut_table cut_holds

    cut_report :
        (p : Point) (a : Configuration) (x : ℕ)
        → Passed cut cut_table p a x
        → (outcome : Bool) (q : Point) (b : Configuration)
        → Leads cut p a x (cond outcome 1 0) q b
        → report_of bench_cell cut table' (run_at p a) (cond outcome 1 0) ≡ record { verdict = Accepted; run = run_at q b }
    cut_report = report cut 108 9 computed.cut_fine table scratch table' scratch' verdict call long wide cut_table cut_holds

    -- "A report that reaches an end of an earlier chapter leaves the run .. at point 0 of the next": the test is the next chapter's
    pub cut_called : Follows cut table' verdict (point_in 0 0) (point_in 1 0) (point_in 1 1) (point_in 1 2) (point_in 1 3)
    cut_called =
        let at = computed.cut_passed in
        let on = computed.cut_leads in
        record {
          accepted = call_accepted cut 108 9 computed.cut_fine table scratch table' scratch' verdict call long wide cut_realisable;
          begin_move = cut_move _ _ _ at.fed;
          hand_on_move = cut_move _ _ _ at.handed_on;
          test_move = cut_move _ _ _ at.under_test;
          good_move = cut_move _ _ _ at.good;
          bad_move = cut_move _ _ _ at.bad;
          end_move = end_move cut 108 9 computed.cut_fine table scratch table' scratch' verdict call long wide cut_table cut_holds _ _ at.finished;
          begins = λ outcome. cut_report _ _ _ at.fed outcome _ _ (either _ _ _ _ _ _ on.fed outcome);
          hands_on = λ outcome. cut_report _ _ _ at.handed_on outcome _ _ (either _ _ _ _ _ _ on.handed_on outcome);
          passes = cut_report _ _ _ at.under_test true _ _ on.good;
          fails = cut_report _ _ _ at.under_test false _ _ on.bad;
          good_leaves = λ outcome. cut_report _ _ _ at.good outcome _ _ (either _ _ _ _ _ _ on.good_out outcome);
          bad_leaves = λ outcome. cut_report _ _ _ at.bad outcome _ _ (either _ _ _ _ _ _ on.bad_out outcome);
        }

  -- each half by itself
  pub first_called : PlanCall bench_cell first_alone table scratch table' scratch' verdict → 36 ≤ length table → 5 ≤ length scratch → verdict ≡ Accepted
  first_called call long wide = call_accepted first_alone 36 5 computed.first_fine table scratch table' scratch' verdict call long wide first_realisable

  pub second_called :
      PlanCall bench_cell second_alone table scratch table' scratch' verdict
      → 72 ≤ length table
      → 9 ≤ length scratch
      → verdict ≡ Refused NotRealisable 0
  second_called call long wide =
      call_refused second_alone 72 9 computed.second_fine table scratch table' scratch' verdict call long wide second_unrealisable

  -- the first twice
  module _ (call : PlanCall bench_cell twice table scratch table' scratch' verdict) (long : 72 ≤ length table) (wide : 5 ≤ length scratch) where
    pub twice_called : verdict ≡ Refused NotRealisable 0
    twice_called = call_refused twice 72 5 computed.twice_fine table scratch table' scratch' verdict call long wide twice_unrealisable

    twice_planned : Planned bench_cell twice (bench_in twice) table table' call.refused
    twice_planned = plan twice 72 5 computed.twice_fine table scratch table' scratch' verdict call long wide

    -- "an end position there has kind 4 exactly if that next position's entry is other than 0": with the part at station 0 it isn't
    pub joint_entry : entry_in (bench_in twice) table' (point_in 0 1) at_first ≡ 0
    joint_entry =
        let next : entry_in (bench_in twice) table' (point_in 1 0) at_first ≡ 0 =
        lost_planned bench_cell twice (bench_in twice) (fine_checked twice 72 5 computed.twice_fine) table table' call.refused twice_planned
        (point_in 1 0) at_first computed.joint_next joint_lacks in
        twice_planned.joint_entry (point_in 0 1) at_first computed.joint computed.joint_end computed.joint_next.there
        ∙ ap (λ (e : ℕ). cond (eqb e 0) 0 67108864) next

    -- so a run handed in there gets 18
    pub joint_shut : next_move bench_cell twice table' (run_at (point_in 0 1) at_first) ≡ record { verdict = Refused NotOpen 0; entry = 0 }
    joint_shut =
        shut_here twice 72 5 computed.twice_fine table scratch table' scratch' verdict call long wide (point_in 0 1) at_first computed.joint
        joint_entry computed.joint_shuts
