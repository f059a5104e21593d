-- The cells that lack an operation line: which lines mend them, and that no other does, by moves, ranks and stages that are computed.
-- Assumes nothing.
use mathlib.Core.Path.{◌≡◌, refl, sym}
use mathlib.Core.Logic.{⊎_elim}
use mathlib.Core.Bool.{Bool, true, false, ◌||◌, true≢false}
use mathlib.Core.List.{[], ◌∷◌}
use native.Mathlib.Omega.{arith}
use lib.ListN.{length}
use Rattle.refusals.proofs.Verdicts.{or_cases}
use Rattle.refusals.specs.Verdict.{Accepted, first_refusal, first_line, no_line, rule3, line_verdict}
use Rattle.refusals.specs.Search.{first_below, any_below, all_below, count_below, greatest_below, tabulate, is_of, every}
use Rattle.cell.specs.Rules as cell
use Rattle.cell.specs.declared.OperationLine.{OperationLine}
use Rattle.cell.specs.Longer.{with_line, with_lines}
use Rattle.recipe.specs.Rules as recipe
use Rattle.positions.specs.Radix.{sum_below, product_below}
use Rattle.positions.specs.Sizes.{state_count, state_counts, parts_in, part_count, joint_count, sizes_for, sizes_of, farthest}
use Rattle.positions.specs.Position.{start, state_number, place_number, position_of, state_weight, point_at, state_at, place_at, configuration_at, entry_of}
use Rattle.positions.specs.Rules.{record_rules, rule13, check_sizes}
use Rattle.steps.specs.Lines.{first_line_of, lines_of, kind_of, then_of, else_of, is_taken, is_given}
use Rattle.steps.specs.Limits.{load, keeps_limits, none_overfull}
use Rattle.steps.specs.Gates.{gate_among, gate_of, gated}
use Rattle.steps.specs.Lanes.{is_loaded, lane_starts}
use Rattle.steps.specs.Joint.{out_starts, may_do, acts, acts_on, how_many, port_fits, is_step, is_silent_step, state_after, receiver, handed, place_after, after, is_silent}
use Rattle.steps.specs.Carry.{serves, matches, stands_at, present, free, suits, carries, put_there, placed, parts_moved, after_carry, is_free}
use Rattle.steps.specs.Entry.{entry_kind, letter, unused, lines_used, carry_letters, letters_used, names_gate, is_line, is_formed, only, step_of, may_be_taken}
use Rattle.steps.specs.Effect.{taken, effect, leads_to}
use Rattle.steps.proofs.EntryForms.{carry_entry}
use Rattle.simulation.specs.Simulation.{Realisable}
use Rattle.simulation.proofs.ClosedTableTest.{rank_of, has_entry, leads_on, closed_at, is_closed}
use Rattle.simulation.proofs.StageTest.{stage_of, no_more, lower, keeps_stage, stays_staged, moves_staged, position_staged, are_stages}
use Rattle.install.specs.Candidates.{is_operation, is_there, is_in_cell, has_state, names_at, is_named, is_candidate, Mends}
use Rattle.install.specs.Order.{same_line, is_among, comes_before, is_first, rises}
use Rattle.install.specs.Call.{Listed}
use Rattle.worked.specs.Moves.{filled, bench_recipe}
use Rattle.worked.specs.Limited.{one_line}
use Rattle.worked.specs.Installed.{line, untested_cell, unfed_cell, lines_doing, without, other_feeding, other_testing, other_ending}
use Rattle.worked.specs.Installed.{all_others, idle_feeding, idle_behind, testing_lines, feeding_lines}
use Rattle.worked.specs.Installed.{turned_cell, turned_recipe, turning_lines, other_turning, single_cell, single_recipe, single_lines, full_cell}
use Rattle.worked.specs.InstalledPlans.{testing_table, feeding_table, hand_ranks, feeding_stages, testing_stages, ending_stages, together_table}
use Rattle.worked.specs.InstalledPlans.{idle_stages, first_stages, staying_table, leaving_table, turned_stages, single_table}
use Rattle.worked.proofs.Certificates.{closed_realisable}
use Rattle.worked.proofs.InstallTests.{among_either, among_none, MendedBy, Idle, lines_pass, candidates_pass, is_accounted, Accounted}
use Rattle.worked.proofs.InstallTests.{line_mends, unmended, idle_mends_none, listed}

-- the candidates that do not mend a cell, by the groups in which they are tried
unfoldable pub other_tested : OperationLine → Bool
other_tested l = is_among l other_feeding || (is_among l other_testing || is_among l other_ending)

unfoldable pub other_fed : OperationLine → Bool
other_fed l = is_among l idle_feeding || is_among l idle_behind

unfoldable pub other_turned : OperationLine → Bool
other_turned l = is_among l other_turning

unfoldable pub other_single : OperationLine → Bool
other_single l = false

-- what is computed
pub record Computed : Type 0 where
  -- the bench example without line 3
  pub untested : Accounted untested_cell bench_recipe testing_lines other_tested
  pub untested_positions : (sizes_of untested_cell bench_recipe).positions ≡ 90
  untested_idle : Idle untested_cell bench_recipe [] ending_stages
  testing : MendedBy untested_cell bench_recipe (line 1 1 2 2) testing_table hand_ranks
  feeding_idle : Idle untested_cell bench_recipe other_feeding feeding_stages
  testing_idle : Idle untested_cell bench_recipe other_testing testing_stages
  ending_idle : Idle untested_cell bench_recipe other_ending ending_stages
  together_many : length all_others ≡ 36
  together_sized : check_sizes (with_lines untested_cell all_others) bench_recipe ≡ Accepted
  together_closed :
      is_closed (with_lines untested_cell all_others) bench_recipe (sizes_of (with_lines untested_cell all_others) bench_recipe) together_table []
      ≡ true
  together_begun : entry_of (sizes_of (with_lines untested_cell all_others) bench_recipe) together_table 0 start ≡ 50331648
  -- and without line 0
  pub unfed : Accounted unfed_cell bench_recipe feeding_lines other_fed
  pub unfed_positions : (sizes_of unfed_cell bench_recipe).positions ≡ 90
  unfed_idle : Idle unfed_cell bench_recipe [] (first_stages 90)
  feeding : MendedBy unfed_cell bench_recipe (line 0 0 1 1) feeding_table hand_ranks
  feeding_there : MendedBy unfed_cell bench_recipe (line 1 0 1 1) feeding_table hand_ranks
  idle_feeding_lem : Idle unfed_cell bench_recipe idle_feeding idle_stages
  idle_behind_lem : Idle unfed_cell bench_recipe idle_behind (first_stages 90)
  -- the station of two states
  pub turned : Accounted turned_cell turned_recipe turning_lines other_turned
  pub turned_positions : (sizes_of turned_cell turned_recipe).positions ≡ 24
  turned_idle : Idle turned_cell turned_recipe [] turned_stages
  staying : MendedBy turned_cell turned_recipe (line 0 0 2 0) staying_table []
  leaving : MendedBy turned_cell turned_recipe (line 0 1 1 0) leaving_table []
  leaving_late : MendedBy turned_cell turned_recipe (line 0 1 1 1) leaving_table []
  turning_idle : Idle turned_cell turned_recipe other_turning turned_stages
  -- the station of one state
  pub single : Accounted single_cell (single_recipe 2) single_lines other_single
  pub single_positions : (sizes_of single_cell (single_recipe 2)).positions ≡ 4
  single_idle : Idle single_cell (single_recipe 2) [] (first_stages 4)
  placing : MendedBy single_cell (single_recipe 2) (line 0 0 2 0) (single_table 1) []
  -- a full cell, and its recipe
  pub full_sized : check_sizes full_cell (single_recipe 1) ≡ Accepted
  pub full_positions : (sizes_of full_cell (single_recipe 1)).positions ≡ 4
  pub full_count : full_cell.count ≡ 64
  full_closed : is_closed full_cell (single_recipe 1) (sizes_of full_cell (single_recipe 1)) (single_table 0) [] ≡ true
  full_begun : entry_of (sizes_of full_cell (single_recipe 1)) (single_table 0) 0 start ≡ 50331648

pub computed : Computed
unfolding is_of first_below any_below all_below count_below greatest_below tabulate first_refusal first_line no_line rule3 cell.leaves_range
    cell.rule4 cell.greatest_resource cell.rule5 cell.other_act cell.partner cell.unpaired cell.limit_in_range cell.limit_leaves_range
    cell.rule4_limits cell.rule6 cell.limits_absent cell.rule20 cell.alike cell.stray cell.rule23 cell.cell_rules recipe.leaves_range recipe.rule4 recipe.breaks_order
    recipe.rule7 recipe.clashes recipe.breaks_repeat recipe.rule8 recipe.breaks_unused recipe.rule9 recipe.lacks_parts recipe.rule10
    recipe.holds_part recipe.common recipe.shares_part recipe.rule11 recipe.point_count recipe.leads_out recipe.rule12 recipe.recipe_rules
    sum_below product_below state_count state_counts parts_in part_count joint_count sizes_for start state_number place_number position_of
    state_weight point_at state_at place_at configuration_at record_rules rule13 check_sizes first_line_of lines_of kind_of then_of else_of is_taken
    is_given entry_of rank_of has_entry leads_on closed_at is_closed stage_of no_more lower keeps_stage stays_staged moves_staged carry_entry position_staged
    are_stages lines_pass candidates_pass is_accounted is_operation is_there is_in_cell has_state names_at is_named is_candidate is_among comes_before
    is_first rises every other_tested other_fed other_turned other_single filled one_line bench_recipe untested_cell unfed_cell lines_doing
    without other_feeding other_testing other_ending all_others idle_feeding idle_behind testing_lines feeding_lines turned_cell turned_recipe
    turning_lines other_turning single_cell single_recipe single_lines full_cell same_line with_line with_lines testing_table feeding_table
    hand_ranks feeding_stages testing_stages ending_stages together_table idle_stages first_stages staying_table leaving_table turned_stages
    single_table is_loaded lane_starts out_starts may_do acts acts_on how_many port_fits is_step is_silent_step load keeps_limits none_overfull gate_among gate_of gated suits state_after receiver handed
    place_after after serves matches stands_at present free carries put_there placed parts_moved after_carry entry_kind letter unused
    lines_used carry_letters letters_used names_gate is_line is_formed only step_of may_be_taken taken effect leads_to cell.in_range cell.gap cell.has_no_line recipe.in_range
    recipe.has_unused farthest is_silent is_free line_verdict
computed =
    record {
      untested =
          record {
            sized = refl;
            free = refl;
            columns = record { resource = refl; from = refl; act = refl; arg = refl; to = refl };
            candidates = refl;
            covered = refl;
            order = refl;
          };
      untested_positions = refl;
      untested_idle = record { few = refl; sized = refl; sizes = refl; staged = refl; high = refl };
      testing = record { sized = refl; closed = refl; begun = refl };
      feeding_idle = record { few = refl; sized = refl; sizes = refl; staged = refl; high = refl };
      testing_idle = record { few = refl; sized = refl; sizes = refl; staged = refl; high = refl };
      ending_idle = record { few = refl; sized = refl; sizes = refl; staged = refl; high = refl };
      together_many = refl;
      together_sized = refl;
      together_closed = refl;
      together_begun = refl;
      unfed =
          record {
            sized = refl;
            free = refl;
            columns = record { resource = refl; from = refl; act = refl; arg = refl; to = refl };
            candidates = refl;
            covered = refl;
            order = refl;
          };
      unfed_positions = refl;
      unfed_idle = record { few = refl; sized = refl; sizes = refl; staged = refl; high = refl };
      feeding = record { sized = refl; closed = refl; begun = refl };
      feeding_there = record { sized = refl; closed = refl; begun = refl };
      idle_feeding_lem = record { few = refl; sized = refl; sizes = refl; staged = refl; high = refl };
      idle_behind_lem = record { few = refl; sized = refl; sizes = refl; staged = refl; high = refl };
      turned =
          record {
            sized = refl;
            free = refl;
            columns = record { resource = refl; from = refl; act = refl; arg = refl; to = refl };
            candidates = refl;
            covered = refl;
            order = refl;
          };
      turned_positions = refl;
      turned_idle = record { few = refl; sized = refl; sizes = refl; staged = refl; high = refl };
      staying = record { sized = refl; closed = refl; begun = refl };
      leaving = record { sized = refl; closed = refl; begun = refl };
      leaving_late = record { sized = refl; closed = refl; begun = refl };
      turning_idle = record { few = refl; sized = refl; sizes = refl; staged = refl; high = refl };
      single =
          record {
            sized = refl;
            free = refl;
            columns = record { resource = refl; from = refl; act = refl; arg = refl; to = refl };
            candidates = refl;
            covered = refl;
            order = refl;
          };
      single_positions = refl;
      single_idle = record { few = refl; sized = refl; sizes = refl; staged = refl; high = refl };
      placing = record { sized = refl; closed = refl; begun = refl };
      full_sized = refl;
      full_positions = refl;
      full_count = refl;
      full_closed = refl;
      full_begun = refl;
    }

-- without line 3 the recipe is not realisable, and 1,1,2,2 alone mends the cell
pub untested_fails : Realisable untested_cell (bench_recipe ∷ []) → ⊥
untested_fails = unmended untested_cell bench_recipe ending_stages computed.untested_idle

pub untested_listed : Listed untested_cell bench_recipe testing_lines
unfolding testing_lines other_tested
untested_listed =
    let idle = idle_mends_none untested_cell bench_recipe testing_lines other_tested computed.untested in
    listed untested_cell bench_recipe testing_lines other_tested computed.untested
    (among_either (Mends untested_cell bench_recipe) (line 1 1 2 2) []
    (line_mends untested_cell bench_recipe (line 1 1 2 2) testing_table hand_ranks computed.testing)
    (among_none (Mends untested_cell bench_recipe)))
    (λ l h. ⊎_elim (idle other_feeding feeding_stages computed.feeding_idle l)
    (λ g. ⊎_elim (idle other_testing testing_stages computed.testing_idle l) (idle other_ending ending_stages computed.ending_idle l)
    (or_cases (is_among l other_testing) _ g))
    (or_cases (is_among l other_feeding) _ h))

-- "alone": all 36 others together would make it realisable, yet none is listed
pub record Together : Type 0 where
  pub many : length all_others ≡ 36
  pub builds : Realisable (with_lines untested_cell all_others) (bench_recipe ∷ [])

pub together : Together
together =
    record {
      many = computed.together_many;
      builds =
          closed_realisable (with_lines untested_cell all_others) bench_recipe computed.together_sized together_table [] computed.together_closed
          (λ none. omega (arith, computed.together_begun, none));
    }

-- without line 0 it is 0,0,1,1 and 1,0,1,1
pub unfed_fails : Realisable unfed_cell (bench_recipe ∷ []) → ⊥
unfed_fails = unmended unfed_cell bench_recipe (first_stages 90) computed.unfed_idle

pub unfed_listed : Listed unfed_cell bench_recipe feeding_lines
unfolding feeding_lines other_fed
unfed_listed =
    let idle = idle_mends_none unfed_cell bench_recipe feeding_lines other_fed computed.unfed in
    listed unfed_cell bench_recipe feeding_lines other_fed computed.unfed
    (among_either (Mends unfed_cell bench_recipe) (line 0 0 1 1) (line 1 0 1 1 ∷ [])
    (line_mends unfed_cell bench_recipe (line 0 0 1 1) feeding_table hand_ranks computed.feeding)
    (among_either (Mends unfed_cell bench_recipe) (line 1 0 1 1) []
    (line_mends unfed_cell bench_recipe (line 1 0 1 1) feeding_table hand_ranks computed.feeding_there)
    (among_none (Mends unfed_cell bench_recipe))))
    (λ l h. ⊎_elim (idle idle_feeding idle_stages computed.idle_feeding_lem l) (idle idle_behind (first_stages 90) computed.idle_behind_lem l)
    (or_cases (is_among l idle_feeding) _ h))

-- the station of two states: three lines
pub turned_fails : Realisable turned_cell (turned_recipe ∷ []) → ⊥
turned_fails = unmended turned_cell turned_recipe turned_stages computed.turned_idle

pub turned_listed : Listed turned_cell turned_recipe turning_lines
unfolding turning_lines other_turned
turned_listed =
    listed turned_cell turned_recipe turning_lines other_turned computed.turned
    (among_either (Mends turned_cell turned_recipe) (line 0 0 2 0) (line 0 1 1 0 ∷ line 0 1 1 1 ∷ [])
    (line_mends turned_cell turned_recipe (line 0 0 2 0) staying_table [] computed.staying)
    (among_either (Mends turned_cell turned_recipe) (line 0 1 1 0) (line 0 1 1 1 ∷ [])
    (line_mends turned_cell turned_recipe (line 0 1 1 0) leaving_table [] computed.leaving)
    (among_either (Mends turned_cell turned_recipe) (line 0 1 1 1) []
    (line_mends turned_cell turned_recipe (line 0 1 1 1) leaving_table [] computed.leaving_late)
    (among_none (Mends turned_cell turned_recipe)))))
    (idle_mends_none turned_cell turned_recipe turning_lines other_turned computed.turned other_turning turned_stages computed.turning_idle)

-- the station of one state: one line, and no other is tried
pub single_fails : Realisable single_cell (single_recipe 2 ∷ []) → ⊥
single_fails = unmended single_cell (single_recipe 2) (first_stages 4) computed.single_idle

pub single_listed : Listed single_cell (single_recipe 2) single_lines
unfolding single_lines other_single
single_listed =
    listed single_cell (single_recipe 2) single_lines other_single computed.single
    (among_either (Mends single_cell (single_recipe 2)) (line 0 0 2 0) []
    (line_mends single_cell (single_recipe 2) (line 0 0 2 0) (single_table 1) [] computed.placing)
    (among_none (Mends single_cell (single_recipe 2))))
    (λ l (h : false ≡ true). absurd (true≢false (sym h)))

-- the full cell builds its recipe
pub full_builds : Realisable full_cell (single_recipe 1 ∷ [])
full_builds =
    closed_realisable full_cell (single_recipe 1) computed.full_sized (single_table 0) [] computed.full_closed
    (λ none. omega (arith, computed.full_begun, none))
