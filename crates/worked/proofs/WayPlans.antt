-- The cells of request 9: the tables shown are the ones that every plan call leaves, by tests that are computed. Assumes nothing.
use mathlib.Core.Path.{◌≡◌, refl}
use mathlib.Core.Bool.{Bool, true, false}
use mathlib.Core.List.{List, [], ◌∷◌}
use Prim.Native.Nat.{ℕ}
use native.Mathlib.Omega.{arith}
use lib.ListN.{length, get_or}
use lib.Dec.{eqb}
use Rattle.refusals.specs.Verdict.{Accepted, first_refusal, first_line, no_line, rule3, line_verdict}
use Rattle.refusals.specs.Search.{first_below, any_below, all_below, count_below, greatest_below, tabulate, is_of}
use Rattle.cell.specs.declared.Cell.{Cell}
use Rattle.cell.specs.Rules as cell
use Rattle.recipe.specs.Rules as recipe
use Rattle.positions.specs.Radix.{sum_below, product_below}
use Rattle.positions.specs.Sizes.{state_count, state_counts, parts_in, part_count, joint_count, sizes_for, sizes_of, farthest}
use Rattle.positions.specs.Position.{start, state_number, place_number, position_of, state_weight, point_at, state_at, place_at, configuration_at, entry_of}
use Rattle.positions.specs.Rules as alone
use Rattle.steps.specs.Lines.{first_line_of, lines_of, kind_of, then_of, else_of, is_taken, is_given}
use Rattle.steps.specs.Limits.{load, keeps_limits, none_overfull}
use Rattle.steps.specs.Gates.{gate_among, gate_of, gated}
use Rattle.steps.specs.Lanes.{is_loaded, lane_starts}
use Rattle.steps.specs.Joint.{out_starts, may_do, acts, acts_on, how_many, port_fits, is_step, is_silent_step, state_after, receiver, handed, place_after, after, is_silent}
use Rattle.steps.specs.Carry.{serves, matches, stands_at, present, free, suits, carries, put_there, placed, parts_moved, after_carry, is_free}
use Rattle.steps.specs.Entry.{entry_kind, letter, unused, lines_used, carry_letters, letters_used, names_gate, is_line, is_formed, only, step_of, may_be_taken}
use Rattle.steps.specs.Effect.{taken, effect, is_move, opens, leaves, makes, leads_to}
use Rattle.steps.proofs.EntryForms.{carry_entry}
use Rattle.reached.specs.Reached.{leads, line_leads, leads_on, chained, is_reached, rule22}
use Rattle.chapters.specs.Joined.{Chapters, chapter_at, first_point, is_earlier, landing, then_at, else_at}
use Rattle.chapters.specs.Sizes as sizes
use Rattle.chapters.specs.Sizes.{Measures, points_at, sizes_in, begins, position_in, entry_in}
use Rattle.chapters.specs.Rules.{rule24, rule24_joint, chapter_rules, in_turn, chapters_rules, record_rules, rule13}
use Rattle.run.specs.Book.{Call}
use Rattle.run.specs.Promises.{Promises}
use Rattle.simulation.specs.Plan.{Planned, Fixed}
use Rattle.simulation.proofs.ClosedTableTest as closed
use Rattle.simulation.proofs.ClosedTableTest.{rank_of, has_entry, closed_at, is_closed}
use Rattle.simulation.proofs.PlannedEntries.{same_number}
use Rattle.worked.specs.Moves.{filled}
use Rattle.worked.specs.Installed.{single_recipe}
use Rattle.worked.specs.Ways.{lost_at_once, either_cell, either_recipe, either_table, side_cell, side_table, side_ranks, longer_table, longer_ranks}
use Rattle.worked.specs.Ways.{outcome_cell, outcome_recipe, under_test, outcome_table, ahead_cell, taken_recipe, ahead_chapters, alone_table, ahead_table, ahead_stages, ahead_ranks}
use Rattle.worked.proofs.EveryPosition.{in_chapter, everywhere}
use Rattle.worked.proofs.FormedEntries.{pairs_pass, few_formed_pass}
use Rattle.worked.proofs.FineChapters.{FineIn, fine_in_checked}
use Rattle.worked.proofs.Certificates.{closed_keeps}
use Rattle.worked.proofs.ChapterStages.{lowers, keeps_in, few_staged_in, are_few_stages_in}
use Rattle.worked.proofs.ChapterCertificates.{passes_at, closed_in, are_closed}
use Rattle.worked.proofs.ShownTables.{no_better, soonest_at, lost_at, joint_at, is_shown, shown_planned, Leaves, leaves_shown, shown_fixed}

-- chapters with a table that passes the tests
record Shows (c : Cell) (rs : Chapters) (entries bytes : ℕ) (table ranks stages : List ℕ) : Type 0 where
  fine : FineIn c rs entries bytes
  shown : is_shown c rs (sizes_in c rs) table ranks stages ≡ true
  enough : length table ≡ entries
  begun : eqb (entry_in (sizes_in c rs) table first_point start) 0 ≡ false

-- what is computed
pub record Computed : Type 0 where
  either : Shows either_cell (either_recipe ∷ []) 18 3 either_table [] (lost_at_once either_table 18)
  side : Shows side_cell (single_recipe 1 ∷ []) 48 6 side_table side_ranks (lost_at_once side_table 48)
  outcome : Shows outcome_cell (outcome_recipe ∷ []) 30 4 outcome_table [] (lost_at_once outcome_table 30)
  alone_first : Shows ahead_cell (single_recipe 1 ∷ []) 16 2 alone_table [] (lost_at_once alone_table 16)
  ahead : Shows ahead_cell ahead_chapters 32 2 ahead_table ahead_ranks ahead_stages
  -- the moves that are open there too, and are not taken
  pub other_letters : opens either_cell either_recipe 0 start 50331840 ≡ true
  pub longer_way : opens side_cell (single_recipe 1) 0 start 16777216 ≡ true
  pub one_outcome : opens outcome_cell outcome_recipe 1 under_test 50331713 ≡ true
  -- a table that takes the longer way is closed
  longer_sized : alone.check_sizes side_cell (single_recipe 1) ≡ Accepted
  longer_positions : (sizes_of side_cell (single_recipe 1)).positions ≡ 48
  longer_closed : is_closed side_cell (single_recipe 1) (sizes_of side_cell (single_recipe 1)) longer_table longer_ranks ≡ true
  longer_entries : length longer_table ≡ 48
  longer_begun : entry_of (sizes_of side_cell (single_recipe 1)) longer_table 0 start ≡ 16777216
  longer_first : get_or longer_table 0 0 ≡ 16777216
  side_first : get_or side_table 0 0 ≡ 33554691

pub computed : Computed
unfolding is_of first_below any_below all_below count_below greatest_below tabulate first_refusal first_line no_line rule3 cell.leaves_range
    cell.rule4 cell.greatest_resource cell.rule5 cell.other_act cell.partner cell.unpaired cell.limit_in_range cell.limit_leaves_range
    cell.rule4_limits cell.rule6 cell.limits_absent cell.rule20 cell.alike cell.stray cell.rule23 cell.cell_rules cell.check_cell recipe.leaves_range recipe.rule4
    recipe.breaks_order recipe.rule7 recipe.clashes recipe.breaks_repeat recipe.rule8 recipe.breaks_unused recipe.rule9 recipe.lacks_parts
    recipe.rule10 recipe.holds_part recipe.common recipe.shares_part recipe.rule11 recipe.point_count recipe.leads_out recipe.rule12
    recipe.recipe_rules recipe.check_recipe sum_below product_below state_count state_counts parts_in part_count joint_count sizes_for start
    state_number place_number position_of state_weight point_at state_at place_at configuration_at alone.record_rules alone.rule13 alone.check_sizes
    first_line_of lines_of kind_of then_of else_of is_taken is_given entry_of rank_of has_entry closed.leads_on closed_at is_closed carry_entry filled
    is_loaded lane_starts out_starts may_do acts acts_on how_many port_fits is_step is_silent_step load keeps_limits none_overfull gate_among gate_of gated suits
    state_after receiver handed place_after after serves matches stands_at present free carries put_there placed parts_moved after_carry entry_kind
    letter unused lines_used carry_letters letters_used names_gate is_line is_formed only step_of may_be_taken taken effect is_move opens leaves makes leads_to cell.in_range cell.gap
    cell.has_no_line recipe.in_range recipe.has_unused farthest is_silent is_free line_verdict chapter_at is_earlier landing then_at
    else_at points_at sizes.parts_in sizes_in begins position_in entry_in rule24 rule24_joint chapter_rules in_turn chapters_rules record_rules rule13
    leads line_leads leads_on chained is_reached rule22 pairs_pass few_formed_pass in_chapter everywhere lowers keeps_in few_staged_in are_few_stages_in passes_at
    closed_in are_closed no_better soonest_at lost_at joint_at is_shown single_recipe lost_at_once either_cell either_recipe either_table side_cell side_table side_ranks
    longer_table longer_ranks outcome_cell outcome_recipe under_test outcome_table ahead_cell taken_recipe ahead_chapters alone_table ahead_table ahead_stages ahead_ranks
computed =
    record {
      either = record { fine = record { records = refl; few = refl; all = refl; most = refl }; shown = refl; enough = refl; begun = refl };
      side = record { fine = record { records = refl; few = refl; all = refl; most = refl }; shown = refl; enough = refl; begun = refl };
      outcome = record { fine = record { records = refl; few = refl; all = refl; most = refl }; shown = refl; enough = refl; begun = refl };
      alone_first = record { fine = record { records = refl; few = refl; all = refl; most = refl }; shown = refl; enough = refl; begun = refl };
      ahead = record { fine = record { records = refl; few = refl; all = refl; most = refl }; shown = refl; enough = refl; begun = refl };
      other_letters = refl;
      longer_way = refl;
      one_outcome = refl;
      longer_sized = refl;
      longer_positions = refl;
      longer_closed = refl;
      longer_entries = refl;
      longer_begun = refl;
      longer_first = refl;
      side_first = refl;
    }

leaves_it : (c : Cell) (rs : Chapters) (entries bytes : ℕ) (table ranks stages : List ℕ) → Shows c rs entries bytes table ranks stages
    → Leaves c rs entries bytes table
leaves_it c rs entries bytes table ranks stages S = leaves_shown c rs entries bytes S.fine table ranks stages S.shown S.enough S.begun

pub either_left : Leaves either_cell (either_recipe ∷ []) 18 3 either_table
either_left = leaves_it either_cell (either_recipe ∷ []) 18 3 either_table [] (lost_at_once either_table 18) computed.either

pub side_left : Leaves side_cell (single_recipe 1 ∷ []) 48 6 side_table
side_left = leaves_it side_cell (single_recipe 1 ∷ []) 48 6 side_table side_ranks (lost_at_once side_table 48) computed.side

pub outcome_left : Leaves outcome_cell (outcome_recipe ∷ []) 30 4 outcome_table
outcome_left = leaves_it outcome_cell (outcome_recipe ∷ []) 30 4 outcome_table [] (lost_at_once outcome_table 30) computed.outcome

pub alone_left : Leaves ahead_cell (single_recipe 1 ∷ []) 16 2 alone_table
alone_left = leaves_it ahead_cell (single_recipe 1 ∷ []) 16 2 alone_table [] (lost_at_once alone_table 16) computed.alone_first

pub ahead_left : Leaves ahead_cell ahead_chapters 32 2 ahead_table
ahead_left = leaves_it ahead_cell ahead_chapters 32 2 ahead_table ahead_ranks ahead_stages computed.ahead

-- the sizes of the cell with two ways
abbrev pub side_measures : Measures
side_measures = sizes_in side_cell (single_recipe 1 ∷ [])

-- a table that takes the longer way keeps every promise for every list of calls
pub longer_keeps : (calls : List Call) → Promises side_cell (single_recipe 1 ∷ []) side_measures longer_table first_point start calls
longer_keeps =
    closed_keeps side_cell (single_recipe 1) computed.longer_sized longer_table longer_ranks computed.longer_closed
    (omega (arith, computed.longer_positions, computed.longer_entries)) (λ none. omega (arith, computed.longer_begun, none))

-- but its entries are not the fixed ones any more
pub longer_not :
    (before : List ℕ) (refused : Bool)
    → Planned side_cell (single_recipe 1 ∷ []) side_measures before longer_table refused
    → Fixed side_cell (single_recipe 1 ∷ []) side_measures longer_table
    → ⊥
longer_not before refused plan fixed =
    let S = computed.side in
    let K = fine_in_checked side_cell (single_recipe 1 ∷ []) 48 6 S.fine in
    let shown = shown_planned side_cell (single_recipe 1 ∷ []) K side_table side_ranks (lost_at_once side_table 48) S.shown
    (omega (arith, S.fine.all, S.enough)) in
    let shown_ways = shown_fixed side_cell (single_recipe 1 ∷ []) K side_table side_ranks (lost_at_once side_table 48) S.shown
    (omega (arith, S.fine.all, S.enough)) in
    let same : get_or longer_table 0 0 ≡ get_or side_table 0 0 =
    same_number side_cell (single_recipe 1 ∷ []) side_measures K before longer_table side_table side_table refused _ plan shown fixed shown_ways
    0 (omega (arith, S.fine.all)) in
    omega (arith, computed.longer_first, computed.side_first)
