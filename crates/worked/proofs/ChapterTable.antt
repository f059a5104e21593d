-- The worked examples of request 7, "Recipes in chapters", as one table. Each row is computed, or follows from what is computed.
-- Assumes nothing.
use mathlib.Core.Path.{◌≡◌, sym, ◌∙◌}
use mathlib.Core.List.{List}
use Prim.Native.Nat.{ℕ, ◌≤◌}
use lib.ListN.{length}
use Rattle.refusals.specs.declared.Refusal.TheVariants.{NotRealisable, NotOpen}
use Rattle.refusals.specs.Verdict.{Verdict, Accepted, Refused}
use Rattle.positions.specs.Position.{start}
use Rattle.chapters.specs.Joined.{point_in}
use Rattle.chapters.specs.Sizes.{entry_in}
use Rattle.run.specs.Calls.{run_at, next_move}
use Rattle.planner.specs.Call.{PlanCall}
use Rattle.worked.specs.Moves.{bench_cell}
use Rattle.worked.specs.Chaptered.{whole, cut, first_alone, second_alone, twice, at_first, at_second, tested}
use Rattle.worked.proofs.JointRefusals.{JointRefusals, joint_refusals}
use Rattle.worked.proofs.ChapterPlans.{bench_in}
use Rattle.worked.proofs.ChapterCalls.{Follows, whole_called, cut_called, first_called, second_called, twice_called, joint_entry, joint_shut}

-- at each position that a run passes, the entry of a table of the whole and that of a table of the cut
pub record SameMoves (one two : List ℕ) : Type 0 where
  pub begin : entry_in (bench_in whole) one (point_in 0 0) start ≡ entry_in (bench_in cut) two (point_in 0 0) start
  pub hand_on : entry_in (bench_in whole) one (point_in 0 1) at_first ≡ entry_in (bench_in cut) two (point_in 1 0) at_first
  pub test : entry_in (bench_in whole) one (point_in 0 1) at_second ≡ entry_in (bench_in cut) two (point_in 1 0) at_second
  pub good : entry_in (bench_in whole) one (point_in 0 2) tested ≡ entry_in (bench_in cut) two (point_in 1 1) tested
  pub bad : entry_in (bench_in whole) one (point_in 0 3) tested ≡ entry_in (bench_in cut) two (point_in 1 2) tested
  pub end : entry_in (bench_in whole) one (point_in 0 4) start ≡ entry_in (bench_in cut) two (point_in 1 3) start

pub record ChapterTable : Type 0 where
  -- "24 for no chapters or more than 8, before the cell's 3, and for an earlier chapter whose point 0 is an end, after 22"
  pub of_refusals : JointRefusals
  -- the recipe as a whole, and cut in two: accepted, with the same moves at both outcomes. The report that carries the first chapter's
  -- do leaves the run at point 0 of the second, in the configuration that the whole has at its point 1
  pub of_whole :
      (table scratch table' scratch' : List ℕ) (verdict : Verdict)
      → PlanCall bench_cell whole table scratch table' scratch' verdict
      → 90 ≤ length table
      → 12 ≤ length scratch
      → Follows whole table' verdict (point_in 0 0) (point_in 0 1) (point_in 0 2) (point_in 0 3) (point_in 0 4)
  pub of_cut :
      (table scratch table' scratch' : List ℕ) (verdict : Verdict)
      → PlanCall bench_cell cut table scratch table' scratch' verdict
      → 108 ≤ length table
      → 9 ≤ length scratch
      → Follows cut table' verdict (point_in 0 0) (point_in 1 0) (point_in 1 1) (point_in 1 2) (point_in 1 3)
  pub of_same_moves :
      (table scratch one scratch' : List ℕ) (verdict : Verdict)
      → PlanCall bench_cell whole table scratch one scratch' verdict
      → 90 ≤ length table
      → 12 ≤ length scratch
      → (lent marks two marks' : List ℕ) (told : Verdict)
      → PlanCall bench_cell cut lent marks two marks' told
      → 108 ≤ length lent
      → 9 ≤ length marks
      → SameMoves one two
  -- "that a later chapter alone would get 15 is no reason": the second does
  pub of_second_alone :
      (table scratch table' scratch' : List ℕ) (verdict : Verdict)
      → PlanCall bench_cell second_alone table scratch table' scratch' verdict
      → 72 ≤ length table
      → 9 ≤ length scratch
      → verdict ≡ Refused NotRealisable 0
  -- the first is accepted alone, and gets 15 where it is to be done twice
  pub of_first_alone :
      (table scratch table' scratch' : List ℕ) (verdict : Verdict)
      → PlanCall bench_cell first_alone table scratch table' scratch' verdict
      → 36 ≤ length table
      → 5 ≤ length scratch
      → verdict ≡ Accepted
  pub of_twice :
      (table scratch table' scratch' : List ℕ) (verdict : Verdict)
      → PlanCall bench_cell twice table scratch table' scratch' verdict
      → 72 ≤ length table
      → 5 ≤ length scratch
      → verdict ≡ Refused NotRealisable 0
  -- "an end position there has kind 4 exactly if that next position's entry is other than 0": with the part at station 0 the earlier
  -- end has entry 0, so a run handed in there gets 18
  pub of_joint_entry :
      (table scratch table' scratch' : List ℕ) (verdict : Verdict)
      → PlanCall bench_cell twice table scratch table' scratch' verdict
      → 72 ≤ length table
      → 5 ≤ length scratch
      → entry_in (bench_in twice) table' (point_in 0 1) at_first ≡ 0
  pub of_joint_shut :
      (table scratch table' scratch' : List ℕ) (verdict : Verdict)
      → PlanCall bench_cell twice table scratch table' scratch' verdict
      → 72 ≤ length table
      → 5 ≤ length scratch
      → next_move bench_cell twice table' (run_at (point_in 0 1) at_first) ≡ record { verdict = Refused NotOpen 0; entry = 0 }

pub chapter_table : ChapterTable
chapter_table =
    record {
      of_refusals = joint_refusals;
      of_whole = whole_called;
      of_cut = cut_called;
      of_same_moves =
          λ table scratch one scratch' verdict call long wide lent marks two marks' told other much room.
          let W = whole_called table scratch one scratch' verdict call long wide in
          let C = cut_called lent marks two marks' told other much room in
          record {
            begin = W.begin_move ∙ sym C.begin_move;
            hand_on = W.hand_on_move ∙ sym C.hand_on_move;
            test = W.test_move ∙ sym C.test_move;
            good = W.good_move ∙ sym C.good_move;
            bad = W.bad_move ∙ sym C.bad_move;
            end = W.end_move ∙ sym C.end_move;
          };
      of_second_alone = second_called;
      of_first_alone = first_called;
      of_twice = twice_called;
      of_joint_entry = joint_entry;
      of_joint_shut = joint_shut;
    }
