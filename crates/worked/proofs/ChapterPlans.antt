-- The recipes in chapters over the bench cell: which of them can be built, by moves, ranks and stages that are computed. Assumes nothing.
use mathlib.Core.Path.{◌≡◌, refl}
use mathlib.Core.Bool.{Bool, true, false, cond}
use mathlib.Core.List.{List}
use Prim.Native.Nat.{ℕ, ◌+◌, ◌/◌}
use native.Mathlib.Omega.{arith}
use lib.ListN.{length}
use lib.Dec.{eqb}
use Rattle.refusals.specs.Verdict.{Accepted, first_refusal, first_line, no_line, rule3, line_verdict}
use Rattle.refusals.specs.Search.{first_below, any_below, all_below, count_below, greatest_below, tabulate, is_of}
use Rattle.cell.specs.Rules as cell
use Rattle.recipe.specs.Rules as recipe
use Rattle.positions.specs.declared.Configuration.{Configuration}
use Rattle.positions.specs.Radix.{sum_below, product_below}
use Rattle.positions.specs.Sizes as sizes
use Rattle.positions.specs.Sizes.{state_count, state_counts, part_count, joint_count, sizes_for, farthest}
use Rattle.positions.specs.Position.{start, state_number, place_number, position_of, state_weight, point_at, state_at, place_at, configuration_at, entry_of}
use Rattle.positions.specs.Rules.{place_count, is_position, place_fits, state_fits}
use Rattle.steps.specs.Lines.{first_line_of, lines_of, kind_of, then_of, else_of, is_taken, is_given}
use Rattle.steps.specs.Limits.{load, keeps_limits, none_overfull}
use Rattle.steps.specs.Gates.{gate_among, gate_of, gated}
use Rattle.steps.specs.Lanes.{is_loaded, lane_starts}
use Rattle.steps.specs.Joint.{out_starts, may_do, acts, acts_on, how_many, port_fits, is_step, is_silent_step, state_after, receiver, handed, place_after, after, is_silent}
use Rattle.steps.specs.Carry.{serves, matches, stands_at, present, free, suits, carries, put_there, placed, parts_moved, after_carry, is_free}
use Rattle.steps.specs.Entry.{entry_kind, letter, unused, lines_used, carry_letters, letters_used, names_gate, is_line, is_formed, only, step_of, may_be_taken}
use Rattle.steps.specs.Effect.{taken, effect, is_move, opens, leaves, makes, leads_to}
use Rattle.steps.proofs.EntryForms.{carry_entry}
use Rattle.reached.specs.Reached as reached
use Rattle.chapters.specs.Joined.{Chapters, chapter_at, Point, point_in, first_point, recipe_at, kind_at, is_earlier, landing, then_at, else_at}
use Rattle.chapters.specs.Sizes.{points_at, parts_in, Measures, sizes_in, begins, position_in, entry_in}
use Rattle.chapters.specs.Rules.{rule24, rule24_joint, chapter_rules, in_turn, chapters_rules, record_rules, rule13}
use Rattle.chapters.specs.Checked.{AllChecked}
use Rattle.chapters.proofs.AcceptedChapters.{all_checked}
use Rattle.run.specs.Calls.{next_point}
use Rattle.simulation.specs.Simulation.{PositionIn, Greatest, Realisable}
use Rattle.simulation.proofs.JoinedMachine.{joined_starts}
use Rattle.simulation.proofs.ClosedTableTest.{rank_of, has_entry, leads_on, closed_at, is_closed}
use Rattle.worked.specs.Moves.{filled, bench_cell}
use Rattle.worked.specs.Chaptered.{whole_recipe, cut_first, cut_second, whole, cut, first_alone, second_alone, twice, at_first, at_second, tested}
use Rattle.worked.specs.ChapteredPlans.{whole_table, whole_ranks, cut_table, cut_ranks, first_table, first_ranks, second_stages, twice_stages}
use Rattle.worked.proofs.FormedEntries.{formed_pass}
use Rattle.worked.proofs.ChapterStages.{lowers, keeps_in, staged_in, are_stages_in}
use Rattle.worked.proofs.ChapterCertificates.{passes_at, closed_in, are_closed, sole_at, entry_greatest, closed_realisable, staged_never}

-- the sizes of chapters over the bench cell
abbrev pub bench_in : Chapters → Measures
bench_in rs = sizes_in bench_cell rs

-- chapters that pass the rules before 14, with so many entries and scratch bytes
pub record Fine (rs : Chapters) (entries bytes : ℕ) : Type 0 where
  pub records : first_refusal (record_rules true bench_cell rs) ≡ Accepted
  pub few : rule13 (bench_in rs) (length rs) ≡ Accepted
  pub all : begins (bench_in rs) (length rs) ≡ entries
  pub most : (greatest_below (λ k. (bench_in rs k).positions) (length rs) + 7) / 8 ≡ bytes

-- a position at which the table shown has the entry x, and no other move is open
pub record Passed (rs : Chapters) (shown : List ℕ) (p : Point) (a : Configuration) (x : ℕ) : Type 0 where
  pub position : PositionIn rs (bench_in rs) p a
  pub shows : entry_in (bench_in rs) shown p a ≡ x
  pub sole : sole_at bench_cell rs p a x ≡ true
  pub going : eqb (kind_at rs p) 0 ≡ false
  pub some : eqb x 0 ≡ false

-- an end at which it has the entry of an end
pub record Ended (rs : Chapters) (shown : List ℕ) (p : Point) (a : Configuration) : Type 0 where
  pub position : PositionIn rs (bench_in rs) p a
  pub shows : entry_in (bench_in rs) shown p a ≡ 67108864
  pub done : kind_at rs p ≡ 0

-- where the move x leads at an outcome
pub record Leads (rs : Chapters) (p : Point) (a : Configuration) (x outcome : ℕ) (q : Point) (b : Configuration) : Type 0 where
  pub next : next_point rs p x outcome ≡ q
  pub makes_it : makes bench_cell (recipe_at rs p) p.point a x outcome ≡ b

-- at both outcomes to the same position
pub record LeadsOn (rs : Chapters) (p : Point) (a : Configuration) (x : ℕ) (q : Point) (b : Configuration) : Type 0 where
  passed : Leads rs p a x 1 q b
  failed : Leads rs p a x 0 q b

pub either : (rs : Chapters) (p : Point) (a : Configuration) (x : ℕ) (q : Point) (b : Configuration) → LeadsOn rs p a x q b
    → (outcome : Bool) → Leads rs p a x (cond outcome 1 0) q b
either rs p a x q b on true = on.passed
either rs p a x q b on false = on.failed

-- the positions that a run of the whole passes from the start, and those that one of the cut passes
pub record WholePassed : Type 0 where
  pub fed : Passed whole whole_table (point_in 0 0) start 50331648
  pub handed_on : Passed whole whole_table (point_in 0 1) at_first 33554561
  pub under_test : Passed whole whole_table (point_in 0 1) at_second 50331843
  pub good : Passed whole whole_table (point_in 0 2) tested 50331652
  pub bad : Passed whole whole_table (point_in 0 3) tested 50331652
  pub finished : Ended whole whole_table (point_in 0 4) start

pub record CutPassed : Type 0 where
  pub fed : Passed cut cut_table (point_in 0 0) start 50331648
  pub handed_on : Passed cut cut_table (point_in 1 0) at_first 33554561
  pub under_test : Passed cut cut_table (point_in 1 0) at_second 50331843
  pub good : Passed cut cut_table (point_in 1 1) tested 50331652
  pub bad : Passed cut cut_table (point_in 1 2) tested 50331652
  pub finished : Ended cut cut_table (point_in 1 3) start

-- where their moves lead: a do and a silent move at either outcome
pub record WholeLeads : Type 0 where
  pub fed : LeadsOn whole (point_in 0 0) start 50331648 (point_in 0 1) at_first
  pub handed_on : LeadsOn whole (point_in 0 1) at_first 33554561 (point_in 0 1) at_second
  pub good : Leads whole (point_in 0 1) at_second 50331843 1 (point_in 0 2) tested
  pub bad : Leads whole (point_in 0 1) at_second 50331843 0 (point_in 0 3) tested
  pub good_out : LeadsOn whole (point_in 0 2) tested 50331652 (point_in 0 4) start
  pub bad_out : LeadsOn whole (point_in 0 3) tested 50331652 (point_in 0 4) start

pub record CutLeads : Type 0 where
  pub fed : LeadsOn cut (point_in 0 0) start 50331648 (point_in 1 0) at_first
  pub handed_on : LeadsOn cut (point_in 1 0) at_first 33554561 (point_in 1 0) at_second
  pub good : Leads cut (point_in 1 0) at_second 50331843 1 (point_in 1 1) tested
  pub bad : Leads cut (point_in 1 0) at_second 50331843 0 (point_in 1 2) tested
  pub good_out : LeadsOn cut (point_in 1 1) tested 50331652 (point_in 1 3) start
  pub bad_out : LeadsOn cut (point_in 1 2) tested 50331652 (point_in 1 3) start

pub record Computed : Type 0 where
  pub whole_fine : Fine whole 90 12
  pub cut_fine : Fine cut 108 9
  pub first_fine : Fine first_alone 36 5
  pub second_fine : Fine second_alone 72 9
  pub twice_fine : Fine twice 72 5
  whole_closed : are_closed bench_cell whole (bench_in whole) whole_table whole_ranks ≡ true
  cut_closed : are_closed bench_cell cut (bench_in cut) cut_table cut_ranks ≡ true
  first_closed : are_closed bench_cell first_alone (bench_in first_alone) first_table first_ranks ≡ true
  second_staged : are_stages_in bench_cell second_alone (bench_in second_alone) second_stages ≡ true
  twice_staged : are_stages_in bench_cell twice (bench_in twice) twice_stages ≡ true
  pub whole_passed : WholePassed
  pub cut_passed : CutPassed
  pub whole_leads : WholeLeads
  pub cut_leads : CutLeads
  first_begun : entry_in (bench_in first_alone) first_table first_point start ≡ 50331648
  second_start : entry_in (bench_in second_alone) second_stages first_point start ≡ 1
  twice_start : entry_in (bench_in twice) twice_stages first_point start ≡ 2
  -- with the part at station 0: at the end of the first chapter, which passes on to the second
  pub joint : PositionIn twice (bench_in twice) (point_in 0 1) at_first
  pub joint_end : kind_at twice (point_in 0 1) ≡ 0
  pub joint_shuts : opens bench_cell (recipe_at twice (point_in 0 1)) 1 at_first 0 ≡ false
  pub joint_next : PositionIn twice (bench_in twice) (point_in 1 0) at_first
  joint_stage : entry_in (bench_in twice) twice_stages (point_in 1 0) at_first ≡ 1

pub computed : Computed
unfolding is_of first_below any_below all_below count_below greatest_below tabulate first_refusal first_line no_line rule3 cell.leaves_range
    cell.rule4 cell.greatest_resource cell.rule5 cell.other_act cell.partner cell.unpaired cell.limit_in_range cell.limit_leaves_range
    cell.rule4_limits cell.rule6 cell.limits_absent cell.rule20 cell.alike cell.stray cell.rule23 cell.cell_rules recipe.leaves_range
    recipe.rule4 recipe.breaks_order recipe.rule7 recipe.clashes recipe.breaks_repeat recipe.rule8 recipe.breaks_unused recipe.rule9
    recipe.lacks_parts recipe.rule10 recipe.holds_part recipe.common recipe.shares_part recipe.rule11 recipe.point_count recipe.leads_out
    recipe.rule12 recipe.recipe_rules sum_below product_below state_count state_counts sizes.parts_in part_count joint_count sizes_for start
    state_number place_number position_of state_weight point_at state_at place_at configuration_at first_line_of
    lines_of kind_of then_of else_of is_taken is_given entry_of rank_of has_entry leads_on closed_at is_closed
    carry_entry filled bench_cell whole_recipe cut_first cut_second whole cut first_alone second_alone twice
    whole_table whole_ranks cut_table cut_ranks first_table first_ranks second_stages twice_stages is_loaded lane_starts out_starts may_do acts acts_on how_many port_fits is_step
    is_silent_step load keeps_limits none_overfull gate_among gate_of gated suits state_after receiver handed place_after after serves matches
    stands_at present free carries put_there placed parts_moved after_carry entry_kind letter unused lines_used carry_letters letters_used
    names_gate is_line is_formed only step_of may_be_taken taken effect is_move opens leaves makes leads_to cell.in_range cell.gap cell.has_no_line
    recipe.in_range recipe.has_unused farthest is_silent is_free line_verdict reached.leads reached.line_leads reached.leads_on reached.chained
    reached.is_reached reached.rule22 chapter_at is_earlier landing then_at else_at points_at parts_in sizes_in begins position_in entry_in rule24
    rule24_joint chapter_rules in_turn chapters_rules record_rules rule13 formed_pass lowers keeps_in staged_in are_stages_in passes_at closed_in
    are_closed sole_at at_first at_second tested place_count is_position place_fits state_fits next_point
computed =
    record {
      whole_fine = record { records = refl; few = refl; all = refl; most = refl };
      cut_fine = record { records = refl; few = refl; all = refl; most = refl };
      first_fine = record { records = refl; few = refl; all = refl; most = refl };
      second_fine = record { records = refl; few = refl; all = refl; most = refl };
      twice_fine = record { records = refl; few = refl; all = refl; most = refl };
      whole_closed = refl;
      cut_closed = refl;
      first_closed = refl;
      second_staged = refl;
      twice_staged = refl;
      whole_passed = record {
        fed = record { position = record { there = omega arith; here = record { is_in_range = refl; six = refl; eight = refl } }; shows = refl; sole = refl; going = refl; some = refl };
        handed_on = record { position = record { there = omega arith; here = record { is_in_range = refl; six = refl; eight = refl } }; shows = refl; sole = refl; going = refl; some = refl };
        under_test = record { position = record { there = omega arith; here = record { is_in_range = refl; six = refl; eight = refl } }; shows = refl; sole = refl; going = refl; some = refl };
        good = record { position = record { there = omega arith; here = record { is_in_range = refl; six = refl; eight = refl } }; shows = refl; sole = refl; going = refl; some = refl };
        bad = record { position = record { there = omega arith; here = record { is_in_range = refl; six = refl; eight = refl } }; shows = refl; sole = refl; going = refl; some = refl };
        finished = record { position = record { there = omega arith; here = record { is_in_range = refl; six = refl; eight = refl } }; shows = refl; done = refl };
      };
      cut_passed = record {
        fed = record { position = record { there = omega arith; here = record { is_in_range = refl; six = refl; eight = refl } }; shows = refl; sole = refl; going = refl; some = refl };
        handed_on = record { position = record { there = omega arith; here = record { is_in_range = refl; six = refl; eight = refl } }; shows = refl; sole = refl; going = refl; some = refl };
        under_test = record { position = record { there = omega arith; here = record { is_in_range = refl; six = refl; eight = refl } }; shows = refl; sole = refl; going = refl; some = refl };
        good = record { position = record { there = omega arith; here = record { is_in_range = refl; six = refl; eight = refl } }; shows = refl; sole = refl; going = refl; some = refl };
        bad = record { position = record { there = omega arith; here = record { is_in_range = refl; six = refl; eight = refl } }; shows = refl; sole = refl; going = refl; some = refl };
        finished = record { position = record { there = omega arith; here = record { is_in_range = refl; six = refl; eight = refl } }; shows = refl; done = refl };
      };
      whole_leads = record {
        fed = record { passed = record { next = refl; makes_it = refl }; failed = record { next = refl; makes_it = refl } };
        handed_on = record { passed = record { next = refl; makes_it = refl }; failed = record { next = refl; makes_it = refl } };
        good = record { next = refl; makes_it = refl };
        bad = record { next = refl; makes_it = refl };
        good_out = record { passed = record { next = refl; makes_it = refl }; failed = record { next = refl; makes_it = refl } };
        bad_out = record { passed = record { next = refl; makes_it = refl }; failed = record { next = refl; makes_it = refl } };
      };
      cut_leads = record {
        fed = record { passed = record { next = refl; makes_it = refl }; failed = record { next = refl; makes_it = refl } };
        handed_on = record { passed = record { next = refl; makes_it = refl }; failed = record { next = refl; makes_it = refl } };
        good = record { next = refl; makes_it = refl };
        bad = record { next = refl; makes_it = refl };
        good_out = record { passed = record { next = refl; makes_it = refl }; failed = record { next = refl; makes_it = refl } };
        bad_out = record { passed = record { next = refl; makes_it = refl }; failed = record { next = refl; makes_it = refl } };
      };
      first_begun = refl;
      second_start = refl;
      twice_start = refl;
      joint = record { there = omega arith; here = record { is_in_range = refl; six = refl; eight = refl } };
      joint_end = refl;
      joint_shuts = refl;
      joint_next = record { there = omega arith; here = record { is_in_range = refl; six = refl; eight = refl } };
      joint_stage = refl;
    }

-- what passes the rules before 14 is checked
pub fine_checked : (rs : Chapters) (entries bytes : ℕ) → Fine rs entries bytes → AllChecked bench_cell rs (bench_in rs)
fine_checked rs entries bytes fine = all_checked true bench_cell rs fine.records fine.few

-- the whole and the cut, at each position at which the table shown has an entry, and the first chapter alone
pub whole_holds : (p : Point) (a : Configuration) → PositionIn whole (bench_in whole) p a → (entry_in (bench_in whole) whole_table p a ≡ 0 → ⊥)
    → Greatest bench_cell whole (bench_in whole) p a
whole_holds = entry_greatest bench_cell whole (bench_in whole) (fine_checked whole 90 12 computed.whole_fine) whole_table whole_ranks computed.whole_closed

pub cut_holds : (p : Point) (a : Configuration) → PositionIn cut (bench_in cut) p a → (entry_in (bench_in cut) cut_table p a ≡ 0 → ⊥)
    → Greatest bench_cell cut (bench_in cut) p a
cut_holds = entry_greatest bench_cell cut (bench_in cut) (fine_checked cut 108 9 computed.cut_fine) cut_table cut_ranks computed.cut_closed

pub whole_realisable : Realisable bench_cell whole
whole_realisable =
    let fed = computed.whole_passed.fed in
    whole_holds first_point start fed.position (λ none. omega (arith, fed.shows, none))

pub cut_realisable : Realisable bench_cell cut
cut_realisable =
    let fed = computed.cut_passed.fed in
    cut_holds first_point start fed.position (λ none. omega (arith, fed.shows, none))

pub first_realisable : Realisable bench_cell first_alone
first_realisable =
    closed_realisable bench_cell first_alone (bench_in first_alone) (fine_checked first_alone 36 5 computed.first_fine) first_table first_ranks
    computed.first_closed (λ none. omega (arith, computed.first_begun, none))

-- the second alone
pub second_unrealisable : Realisable bench_cell second_alone → ⊥
second_unrealisable =
    let checked = fine_checked second_alone 72 9 computed.second_fine in
    staged_never bench_cell second_alone (bench_in second_alone) checked second_stages computed.second_staged first_point start
    (joined_starts bench_cell second_alone (bench_in second_alone) checked) (omega (arith, computed.second_start))

-- the first twice, and where its first chapter's end passes on with the part at station 0
twice_checked : AllChecked bench_cell twice (bench_in twice)
twice_checked = fine_checked twice 72 5 computed.twice_fine

pub twice_unrealisable : Realisable bench_cell twice → ⊥
twice_unrealisable =
    staged_never bench_cell twice (bench_in twice) twice_checked twice_stages computed.twice_staged first_point start
    (joined_starts bench_cell twice (bench_in twice) twice_checked) (omega (arith, computed.twice_start))

pub joint_lacks : Greatest bench_cell twice (bench_in twice) (point_in 1 0) at_first → ⊥
joint_lacks =
    staged_never bench_cell twice (bench_in twice) twice_checked twice_stages computed.twice_staged (point_in 1 0) at_first
    computed.joint_next (omega (arith, computed.joint_stage))
