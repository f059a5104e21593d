-- The cell that needs an empty pallet: which operation would do without it, by moves and stages that are computed. Assumes nothing.
use mathlib.Core.Path.{◌≡◌, refl}
use mathlib.Core.Bool.{Bool, true}
use mathlib.Core.List.{List, [], ◌∷◌}
use Prim.Native.Nat.{ℕ, ◌≤◌}
use native.Mathlib.Omega.{arith}
use lib.ListN.{length}
use borrow.Author.Tests.{ltb-true}
use Rattle.refusals.specs.Search.{first_below, any_below, all_below, count_below, greatest_below, tabulate, is_of, every}
use Rattle.refusals.specs.Verdict.{first_refusal, first_line, no_line, rule3, line_verdict}
use Rattle.cell.specs.Rules as cell
use Rattle.cell.specs.declared.OperationLine.{OperationLine}
use Rattle.cell.specs.Longer.{with_line, with_lines}
use Rattle.recipe.specs.Rules as recipe
use Rattle.positions.specs.Radix.{sum_below, product_below}
use Rattle.positions.specs.Sizes.{state_count, state_counts, parts_in, part_count, joint_count, sizes_for, sizes_of, farthest}
use Rattle.positions.specs.Position.{start, state_number, place_number, position_of, state_weight, point_at, state_at, place_at, configuration_at, entry_of}
use Rattle.positions.specs.Rules.{record_rules, rule13, check_sizes}
use Rattle.steps.specs.Lines.{first_line_of, lines_of, kind_of, then_of, else_of, is_taken, is_given}
use Rattle.steps.specs.Limits.{load, keeps_limits, none_overfull}
use Rattle.steps.specs.Gates.{gate_among, gate_of, gated}
use Rattle.steps.specs.Lanes.{is_loaded, lane_starts}
use Rattle.steps.specs.Joint.{out_starts, may_do, acts, acts_on, how_many, port_fits, is_step, is_silent_step, state_after, receiver, handed, place_after, after, is_silent}
use Rattle.steps.specs.Carry.{serves, matches, stands_at, present, free, suits, carries, put_there, placed, parts_moved, after_carry, is_free}
use Rattle.steps.specs.Entry.{entry_kind, letter, unused, lines_used, carry_letters, letters_used, names_gate, is_line, is_formed, only, step_of, may_be_taken}
use Rattle.steps.specs.Effect.{taken, effect, leads_to}
use Rattle.steps.proofs.EntryForms.{carry_entry}
use Rattle.simulation.proofs.ClosedTableTest.{rank_of, has_entry, leads_on, closed_at, is_closed}
use Rattle.simulation.proofs.StageTest.{stage_of, no_more, lower, keeps_stage, stays_staged, moves_staged, position_staged, are_stages}
use Rattle.install.specs.Candidates.{is_operation, is_there, is_in_cell, has_state, names_at, is_named, is_candidate, Mends}
use Rattle.install.specs.Order.{same_line, is_among, comes_before, is_first, rises}
use Rattle.install.specs.Call.{Listing, Listed}
use Rattle.install.specs.Call.{InstallCall}
use Rattle.worked.specs.Moves.{filled}
use Rattle.worked.specs.Installed.{line, single_recipe}
use Rattle.worked.specs.InstalledPlans.{first_stages}
use Rattle.worked.specs.Laned.{pallet_cell, pallet_lines, other_pallets, put_table}
use Rattle.worked.proofs.LedRecipes.{led_recipes}
use Rattle.worked.proofs.InstallTests.{among_either, among_none, MendedBy, Idle, lines_pass, candidates_pass, is_accounted, Accounted}
use Rattle.worked.proofs.InstallTests.{line_mends, unmended, idle_mends_none, listed}
use Rattle.worked.proofs.InstallCalls.{Lists, NoneNeeded, call_lists, call_needs_none}
use Rattle.worked.proofs.LanePlans.{computed as plans, comes_realisable}

unfoldable is_other : OperationLine → Bool
is_other l = is_among l other_pallets

-- what is computed, of the cell through port 5
record Computed : Type 0 where
  accounted : Accounted (pallet_cell 5) (single_recipe 1) pallet_lines is_other
  positions : (sizes_of (pallet_cell 5) (single_recipe 1)).positions ≡ 24
  fails : Idle (pallet_cell 5) (single_recipe 1) [] (first_stages 24)
  others : Idle (pallet_cell 5) (single_recipe 1) other_pallets (first_stages 24)
  stays : MendedBy (pallet_cell 5) (single_recipe 1) (line 0 0 1 0) put_table []
  turns : MendedBy (pallet_cell 5) (single_recipe 1) (line 0 0 1 1) put_table []
  stays_there : MendedBy (pallet_cell 5) (single_recipe 1) (line 1 0 1 0) put_table []
  turns_there : MendedBy (pallet_cell 5) (single_recipe 1) (line 1 0 1 1) put_table []

computed : Computed
unfolding is_of first_below any_below all_below count_below greatest_below tabulate first_refusal first_line no_line rule3 cell.leaves_range
    cell.rule4 cell.greatest_resource cell.rule5 cell.other_act cell.partner cell.unpaired cell.limit_in_range cell.limit_leaves_range
    cell.rule4_limits cell.rule6 cell.limits_absent cell.rule20 cell.alike cell.stray cell.rule23 cell.cell_rules recipe.leaves_range recipe.rule4 recipe.breaks_order
    recipe.rule7 recipe.clashes recipe.breaks_repeat recipe.rule8 recipe.breaks_unused recipe.rule9 recipe.lacks_parts recipe.rule10
    recipe.holds_part recipe.common recipe.shares_part recipe.rule11 recipe.point_count recipe.leads_out recipe.rule12 recipe.recipe_rules
    sum_below product_below state_count state_counts parts_in part_count joint_count sizes_for start state_number place_number position_of
    state_weight point_at state_at place_at configuration_at record_rules rule13 check_sizes first_line_of lines_of kind_of then_of else_of is_taken
    is_given entry_of rank_of has_entry leads_on closed_at is_closed stage_of no_more lower keeps_stage stays_staged moves_staged carry_entry position_staged
    are_stages lines_pass candidates_pass is_accounted is_operation is_there is_in_cell has_state names_at is_named is_candidate is_among comes_before
    is_first rises every is_other filled single_recipe pallet_cell pallet_lines other_pallets put_table first_stages same_line with_line with_lines is_loaded lane_starts out_starts may_do acts acts_on how_many port_fits is_step is_silent_step load keeps_limits none_overfull gate_among gate_of gated suits state_after receiver handed
    place_after after serves matches stands_at present free carries put_there placed parts_moved after_carry entry_kind letter unused
    lines_used carry_letters letters_used names_gate is_line is_formed only step_of may_be_taken taken effect leads_to cell.in_range cell.gap cell.has_no_line recipe.in_range
    recipe.has_unused farthest is_silent is_free line_verdict
computed =
    record {
      accounted =
          record {
            sized = refl;
            free = refl;
            columns = record { resource = refl; from = refl; act = refl; arg = refl; to = refl };
            candidates = refl;
            covered = refl;
            order = refl;
          };
      positions = refl;
      fails = record { few = refl; sized = refl; sizes = refl; staged = refl; high = refl };
      others = record { few = refl; sized = refl; sizes = refl; staged = refl; high = refl };
      stays = record { sized = refl; closed = refl; begun = refl };
      turns = record { sized = refl; closed = refl; begun = refl };
      stays_there = record { sized = refl; closed = refl; begun = refl };
      turns_there = record { sized = refl; closed = refl; begun = refl };
    }

pallet_listed : Listed (pallet_cell 5) (single_recipe 1) pallet_lines
unfolding pallet_lines is_other
pallet_listed =
    listed (pallet_cell 5) (single_recipe 1) pallet_lines is_other computed.accounted
    (either (line 0 0 1 0) (line 0 0 1 1 ∷ line 1 0 1 0 ∷ line 1 0 1 1 ∷ []) (mends (line 0 0 1 0) computed.stays)
    (either (line 0 0 1 1) (line 1 0 1 0 ∷ line 1 0 1 1 ∷ []) (mends (line 0 0 1 1) computed.turns)
    (either (line 1 0 1 0) (line 1 0 1 1 ∷ []) (mends (line 1 0 1 0) computed.stays_there)
    (either (line 1 0 1 1) [] (mends (line 1 0 1 1) computed.turns_there)
    (among_none (Mends (pallet_cell 5) (single_recipe 1)))))))
    (idle_mends_none (pallet_cell 5) (single_recipe 1) pallet_lines is_other computed.accounted other_pallets (first_stages 24) computed.others)
  where
    either :
        (m : OperationLine) (rest : List OperationLine)
        → Mends (pallet_cell 5) (single_recipe 1) m
        → ((l : OperationLine) → is_among l rest ≡ true → Mends (pallet_cell 5) (single_recipe 1) l)
        → (l : OperationLine)
        → is_among l (m ∷ rest) ≡ true
        → Mends (pallet_cell 5) (single_recipe 1) l
    either = among_either (Mends (pallet_cell 5) (single_recipe 1))

    mends : (l : OperationLine) → MendedBy (pallet_cell 5) (single_recipe 1) l put_table [] → Mends (pallet_cell 5) (single_recipe 1) l
    mends l M = line_mends (pallet_cell 5) (single_recipe 1) l put_table [] M

module _ (table scratch list table' scratch' list' : List ℕ) (answer : Listing) where
  -- where the lane won't start empty, four lines are listed
  pub pallet_called :
      (call : InstallCall (pallet_cell 5) (single_recipe 1) table scratch list table' scratch' list' answer)
      → 24 ≤ length table
      → 3 ≤ length scratch
      → Lists pallet_lines 4 call.lines list list' answer
  unfolding pallet_lines
  pallet_called call long wide =
      call_lists (pallet_cell 5) (single_recipe 1) computed.accounted.sized (led_recipes.single 1) table scratch list table' scratch' list'
      answer call (omega (arith, computed.positions)) (omega (arith, computed.positions)) (ltb-true _ 64 computed.accounted.free)
      (unmended (pallet_cell 5) (single_recipe 1) (first_stages 24) computed.fails) pallet_lines 4 pallet_listed refl

  -- where it does, none is needed
  pub pallet_needs_none :
      InstallCall (pallet_cell 32) (single_recipe 1) table scratch list table' scratch' list' answer
      → 24 ≤ length table
      → 3 ≤ length scratch
      → NoneNeeded list list' answer
  unfolding pallet_cell
  pallet_needs_none call long wide =
      call_needs_none (pallet_cell 32) (single_recipe 1) plans.through_32.sized.checked (led_recipes.single 1) table scratch list table'
      scratch' list' answer call (omega (arith, plans.through_32.sized.positions)) (omega (arith, plans.through_32.sized.positions))
      (ltb-true 3 64 refl) (comes_realisable 32 plans.through_32)
