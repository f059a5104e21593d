-- The cell that needs an empty pallet: every plan call on it, by moves, ranks and stages that are computed. Assumes nothing.
use mathlib.Core.Path.{◌≡◌, refl}
use mathlib.Core.Bool.{true}
use mathlib.Core.List.{List, [], ◌∷◌}
use Prim.Native.Nat.{ℕ, ◌≤◌}
use native.Mathlib.Omega.{arith}
use lib.ListN.{length}
use Rattle.refusals.specs.declared.Refusal.TheVariants.{NotRealisable}
use Rattle.refusals.specs.Verdict.{Verdict, Accepted, Refused, first_refusal, first_line, no_line, rule3, line_verdict}
use Rattle.refusals.specs.Search.{first_below, any_below, all_below, count_below, greatest_below, tabulate, is_of}
use Rattle.cell.specs.Rules as cell
use Rattle.recipe.specs.Rules as recipe
use Rattle.positions.specs.Radix.{sum_below, product_below}
use Rattle.positions.specs.declared.Sizes.{Sizes}
use Rattle.positions.specs.Sizes.{state_count, state_counts, parts_in, part_count, joint_count, sizes_for, sizes_of, farthest}
use Rattle.positions.specs.Position.{start, state_number, place_number, position_of, state_weight, point_at, state_at, place_at, configuration_at, entry_of}
use Rattle.positions.specs.Rules.{record_rules, rule13, check_sizes}
use Rattle.steps.specs.Lines.{first_line_of, lines_of, kind_of, then_of, else_of, is_taken, is_given}
use Rattle.steps.specs.Limits.{load, keeps_limits, none_overfull}
use Rattle.steps.specs.Gates.{gate_among, gate_of, gated}
use Rattle.steps.specs.Lanes.{is_loaded, lane_starts}
use Rattle.steps.specs.Joint.{out_starts, may_do, acts, acts_on, how_many, port_fits, is_step, is_silent_step, state_after, receiver, handed, place_after, after, is_silent}
use Rattle.steps.specs.Carry.{serves, matches, stands_at, present, free, suits, carries, put_there, placed, parts_moved, after_carry, is_free}
use Rattle.steps.specs.Entry.{entry_kind, letter, unused, lines_used, carry_letters, letters_used, names_gate, is_line, is_formed, only, step_of, may_be_taken}
use Rattle.steps.specs.Effect.{taken, effect, is_move, opens, leaves, makes, leads_to}
use Rattle.steps.proofs.EntryForms.{carry_entry}
use Rattle.simulation.proofs.ClosedTableTest.{rank_of, has_entry, leads_on, closed_at, is_closed}
use Rattle.simulation.proofs.StageTest.{stage_of, no_more, lower, keeps_stage, stays_staged, moves_staged, position_staged, are_stages}
use Rattle.simulation.specs.Simulation.{Realisable}
use Rattle.planner.specs.Call.{PlanCall}
use Rattle.worked.specs.Moves.{filled}
use Rattle.worked.specs.Installed.{single_recipe}
use Rattle.worked.specs.InstalledPlans.{first_stages}
use Rattle.worked.specs.Laned.{pallet_cell, pallet_table, pallet_ranks}
use Rattle.worked.proofs.LedRecipes.{led_recipes}
use Rattle.worked.proofs.LentLengths.{call_accepts, call_refuses}
use Rattle.worked.proofs.Certificates.{closed_realisable, staged_unrealisable}

abbrev pub pallet_sizes : ℕ → Sizes
pallet_sizes port = sizes_of (pallet_cell port) (single_recipe 1)

-- the rules before 13 pass with the port between the stations
pub record Sized (port : ℕ) : Type 0 where
  pub checked : check_sizes (pallet_cell port) (single_recipe 1) ≡ Accepted
  pub positions : (pallet_sizes port).positions ≡ 24

-- the pallet comes, and the part is put on it
pub record Comes (port : ℕ) : Type 0 where
  pub sized : Sized port
  closed : is_closed (pallet_cell port) (single_recipe 1) (pallet_sizes port) pallet_table pallet_ranks ≡ true
  begun : entry_of (pallet_sizes port) pallet_table 0 start ≡ 33554496

-- it does not
record Stays (port : ℕ) : Type 0 where
  sized : Sized port
  staged : are_stages (pallet_cell port) (single_recipe 1) (pallet_sizes port) (first_stages 24) ≡ true
  begun : stage_of (pallet_sizes port) (first_stages 24) 0 start ≡ 1

-- what is computed
pub record Computed : Type 0 where
  through_5 : Stays 5
  through_31 : Stays 31
  pub through_32 : Comes 32
  through_40 : Comes 40

pub computed : Computed
unfolding is_of first_below any_below all_below count_below greatest_below tabulate first_refusal first_line no_line rule3 cell.leaves_range
    cell.rule4 cell.greatest_resource cell.rule5 cell.other_act cell.partner cell.unpaired cell.limit_in_range cell.limit_leaves_range
    cell.rule4_limits cell.rule6 cell.limits_absent cell.rule20 cell.alike cell.stray cell.rule23 cell.cell_rules recipe.leaves_range
    recipe.rule4 recipe.breaks_order recipe.rule7 recipe.clashes recipe.breaks_repeat recipe.rule8 recipe.breaks_unused recipe.rule9
    recipe.lacks_parts recipe.rule10 recipe.holds_part recipe.common recipe.shares_part recipe.rule11 recipe.point_count recipe.leads_out
    recipe.rule12 recipe.recipe_rules sum_below product_below state_count state_counts parts_in part_count joint_count sizes_for start
    state_number place_number position_of state_weight point_at state_at place_at configuration_at record_rules rule13 check_sizes first_line_of
    lines_of kind_of then_of else_of is_taken is_given entry_of rank_of has_entry leads_on closed_at is_closed stage_of no_more lower keeps_stage
    stays_staged moves_staged carry_entry position_staged are_stages filled single_recipe first_stages pallet_cell pallet_table pallet_ranks is_loaded lane_starts out_starts may_do acts acts_on how_many port_fits is_step
    is_silent_step load keeps_limits none_overfull gate_among gate_of gated suits state_after receiver handed place_after after serves matches
    stands_at present free carries put_there placed parts_moved after_carry entry_kind letter unused lines_used carry_letters letters_used
    names_gate is_line is_formed only step_of may_be_taken taken effect is_move opens leaves makes leads_to cell.in_range cell.gap cell.has_no_line
    recipe.in_range recipe.has_unused farthest is_silent is_free line_verdict
computed =
    record {
      through_5 = record { sized = record { checked = refl; positions = refl }; staged = refl; begun = refl };
      through_31 = record { sized = record { checked = refl; positions = refl }; staged = refl; begun = refl };
      through_32 = record { sized = record { checked = refl; positions = refl }; closed = refl; begun = refl };
      through_40 = record { sized = record { checked = refl; positions = refl }; closed = refl; begun = refl };
    }

-- every plan call on the cell with this port answers so
abbrev pub Answers : ℕ → Verdict → Type 0
Answers port answer =
    (table scratch table' scratch' : List ℕ) (verdict : Verdict)
    → PlanCall (pallet_cell port) (single_recipe 1 ∷ []) table scratch table' scratch' verdict
    → 24 ≤ length table
    → 3 ≤ length scratch
    → verdict ≡ answer

pub comes_realisable : (port : ℕ) → Comes port → Realisable (pallet_cell port) (single_recipe 1 ∷ [])
comes_realisable port C =
    closed_realisable (pallet_cell port) (single_recipe 1) C.sized.checked pallet_table pallet_ranks C.closed
    (λ none. omega (arith, C.begun, none))

accepts : (port : ℕ) → Comes port → Answers port Accepted
accepts port C table scratch table' scratch' verdict call long wide =
    call_accepts (pallet_cell port) (single_recipe 1) C.sized.checked (led_recipes.single 1) table scratch table' scratch' verdict call
    (omega (arith, C.sized.positions)) (omega (arith, C.sized.positions)) (comes_realisable port C)

refuses : (port : ℕ) → Stays port → Answers port (Refused NotRealisable 0)
refuses port S table scratch table' scratch' verdict call long wide =
    call_refuses (pallet_cell port) (single_recipe 1) S.sized.checked (led_recipes.single 1) table scratch table' scratch' verdict call
    (omega (arith, S.sized.positions)) (omega (arith, S.sized.positions))
    (staged_unrealisable (pallet_cell port) (single_recipe 1) S.sized.checked (first_stages 24) S.staged (omega (arith, S.begun)))

pub refused_5 : Answers 5 (Refused NotRealisable 0)
refused_5 = refuses 5 computed.through_5

pub refused_31 : Answers 31 (Refused NotRealisable 0)
refused_31 = refuses 31 computed.through_31

pub accepted_32 : Answers 32 Accepted
accepted_32 = accepts 32 computed.through_32

pub accepted_40 : Answers 40 Accepted
accepted_40 = accepts 40 computed.through_40
