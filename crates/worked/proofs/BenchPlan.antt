-- The bench example's plan: its table is one, the stages show what is lost, and both are computed. Assumes nothing.
use mathlib.Core.Path.{◌≡◌, refl, sym, ap, ◌∙◌}
use mathlib.Core.Bool.{Bool, true, false, not, ◌||◌}
use mathlib.Core.List.{List, [], ◌∷◌}
use Prim.Native.Nat.{ℕ, suc, ◌<◌}
use native.Mathlib.Decide.{ℕ_discrete}
use native.Mathlib.Omega.{arith}
use lib.ListN.{length, get_or}
use lib.Dec.{eqb, ltb}
use borrow.Author.Tests.{eq-eqb, eqb-true, ltb-true}
use Rattle.refusals.specs.Verdict.{Accepted, first_refusal, first_line, no_line, rule3, line_verdict}
use Rattle.refusals.specs.Search.{first_below, any_below, all_below, count_below, greatest_below, tabulate, is_of}
use Rattle.refusals.proofs.EveryBelow.{all_at}
use Rattle.cell.specs.declared.Cell.{Cell}
use Rattle.chapters.specs.Joined.{Chapters, chapter_at, Point, point_in, first_point, kind_at, is_earlier, landing, then_at, else_at}
use Rattle.chapters.specs.Sizes.{Measures, sizes_in, entry_in, points_at, begins, position_in}
use Rattle.chapters.specs.Checked.{AllChecked}
use Rattle.chapters.proofs.OneChapter.{one_lands}
use Rattle.run.specs.Book.{asks, opened, at_end, is_open}
use Rattle.cell.specs.Rules as cell
use Rattle.recipe.specs.Rules as recipe
use Rattle.positions.specs.declared.Configuration.{Configuration}
use Rattle.positions.specs.declared.Sizes.{Sizes}
use Rattle.positions.specs.Radix.{sum_below, product_below}
use Rattle.positions.specs.Sizes.{state_count, state_counts, parts_in, part_count, joint_count, sizes_for, sizes_of, farthest}
use Rattle.positions.specs.Position.{start, state_number, place_number, position_of, state_weight, point_at, state_at, place_at, configuration_at, entry_of}
use Rattle.positions.specs.Rules.{record_rules, rule13, check_sizes, place_count, is_position, place_fits, state_fits}
use Rattle.positions.specs.Checked.{Checked}
use Rattle.positions.proofs.CheckedSizes.{checked_fits}
use Rattle.positions.proofs.PositionNumbers.{position_lt}
use Rattle.steps.specs.Lines.{first_line_of, lines_of, kind_of, then_of, else_of, is_taken, is_given}
use Rattle.steps.specs.Limits.{load, keeps_limits, none_overfull}
use Rattle.steps.specs.Gates.{gate_among, gate_of, gated}
use Rattle.steps.specs.Lanes.{is_loaded, lane_starts}
use Rattle.steps.specs.Joint.{out_starts, may_do, acts, acts_on, how_many, port_fits, is_step, is_silent_step, state_after, receiver, handed, place_after, after, is_silent}
use Rattle.steps.specs.Carry.{serves, matches, stands_at, present, free, suits, carries, put_there, placed, parts_moved, after_carry, is_free}
use Rattle.steps.specs.Entry.{entry_kind, letter, unused, lines_used, carry_letters, letters_used, names_gate, is_line, is_formed, only, step_of, may_be_taken}
use Rattle.steps.specs.Effect.{taken, effect, is_move, opens, leaves, makes, leads_to}
use Rattle.steps.proofs.StationLoads.{all_kept}
use Rattle.steps.proofs.EntryForms.{carry_entry}
use Rattle.simulation.specs.Simulation.{Position, PositionIn, Set, Greatest, Realisable}
use Rattle.simulation.specs.Plan.{Planned, Fixed}
use Rattle.simulation.proofs.Machine.{Lost}
use Rattle.simulation.proofs.CellMachine.{machine_of}
use Rattle.simulation.proofs.JoinedMachine.{joined_machine, joined_starts}
use Rattle.simulation.proofs.ClosedTableTest.{rank_of, has_entry, leads_on, closed_at, is_closed, closed_table}
use Rattle.simulation.proofs.StageTest.{stage_of, no_more, lower, keeps_stage, stays_staged, moves_staged, position_staged, are_stages}
use Rattle.simulation.proofs.StageListSound.{stages_lost}
use Rattle.simulation.proofs.JointIsSingle.{SingleGoesOn, SingleSimulation, within, is_within, single_joint}
use Rattle.simulation.proofs.ClosedTableIsPlan.{planned}
use Rattle.simulation.proofs.PlannedEntries.{promised_open, same_number}
use Rattle.worked.specs.Moves.{filled, bench_cell, bench_recipe, bench_sizes, bench_measures, bench_entry, bench_table, bench_ranks}
use Rattle.worked.specs.Plans.{bench_stages, dead_recipe, dead_stages, end_recipe}
use Rattle.worked.proofs.SingleRecipes.{single_entries, single_entry, single_numbered, single_position, single_only, single_checked, all_checked, single_closed, single_lost}
use Rattle.worked.proofs.Certificates.{staged_unrealisable}
use Rattle.worked.proofs.EveryPosition.{in_chapter, everywhere}
use Rattle.worked.proofs.FormedEntries.{pairs_pass, few_formed_pass}
use Rattle.worked.proofs.ChapterStages.{lowers, keeps_in, few_staged_in, are_few_stages_in}
use Rattle.worked.proofs.ChapterCertificates.{passes_at, closed_in, are_closed}
use Rattle.worked.proofs.ShownTables.{no_better, soonest_at, lost_at, joint_at, is_shown, shown_fixed}
use Rattle.chapters.specs.Sizes as sizes

abbrev dead_sizes : Sizes
dead_sizes = sizes_of bench_cell dead_recipe

-- position m has no entry
record NoEntry (m : ℕ) : Type 0 where
  number : position_of bench_sizes (point_at bench_sizes m) (configuration_at bench_sizes m) ≡ m
  range : is_position bench_sizes (point_at bench_sizes m) (configuration_at bench_sizes m) ≡ true
  six : length (configuration_at bench_sizes m).state ≡ 6
  eight : length (configuration_at bench_sizes m).place ≡ 8
  none : get_or bench_table m 0 ≡ 0

-- what is computed
pub record Computed : Type 0 where
  pub sized : check_sizes bench_cell bench_recipe ≡ Accepted
  pub positions : bench_sizes.positions ≡ 90
  pub closed : is_closed bench_cell bench_recipe bench_sizes bench_table bench_ranks ≡ true
  staged : are_stages bench_cell bench_recipe bench_sizes bench_stages ≡ true
  -- every position without an entry has a stage
  rest : all_below (λ m. not (eqb (get_or bench_table m 0) 0) || ltb 0 (get_or bench_stages m 0)) 90 ≡ true
  -- ranks and stages show that its entries are the fixed ones
  shown : is_shown bench_cell (bench_recipe ∷ []) bench_measures bench_table bench_ranks bench_stages ≡ true
  pub entries : length bench_table ≡ 90
  pub begun : entry_of bench_sizes bench_table 0 start ≡ 50331648
  pub dead_sized : check_sizes bench_cell dead_recipe ≡ Accepted
  dead_staged : are_stages bench_cell dead_recipe dead_sizes dead_stages ≡ true
  dead_start : stage_of dead_sizes dead_stages 0 start ≡ 3
  six : length start.state ≡ 6
  eight : length start.place ≡ 8
  -- positions 1 and 23, which have no entry
  first : NoEntry 1
  empty_lane : NoEntry 23
  -- position 72, point 4 with the starting configuration, which is an end
  last_number : position_of bench_sizes 4 start ≡ 72
  last_range : is_position bench_sizes 4 start ≡ true
  last_some : get_or bench_table 72 0 ≡ 67108864
  last_end : kind_of bench_recipe 4 ≡ 0
  -- one fewer than before lanes had to be loaded: position 23 has none
  pub many : count_below (λ m. not (eqb (get_or bench_table m 0) 0)) 90 ≡ 24
  pub end_sized : check_sizes bench_cell end_recipe ≡ Accepted
  end_ends : kind_of end_recipe 0 ≡ 0
  -- no station of the bench example has a limit
  unlimited : any_below (cell.limits_absent bench_cell.limits 0) 6 ≡ false

pub computed : Computed
unfolding is_of first_below any_below all_below count_below greatest_below tabulate first_refusal first_line no_line rule3 cell.leaves_range
    cell.rule4 cell.greatest_resource cell.rule5 cell.other_act cell.partner cell.unpaired cell.limit_in_range cell.limit_leaves_range
    cell.rule4_limits cell.rule6 cell.limits_absent cell.rule20 cell.alike cell.stray cell.rule23 cell.cell_rules cell.check_cell recipe.leaves_range recipe.rule4
    recipe.breaks_order recipe.rule7 recipe.clashes recipe.breaks_repeat recipe.rule8 recipe.breaks_unused recipe.rule9 recipe.lacks_parts
    recipe.rule10 recipe.holds_part recipe.common recipe.shares_part recipe.rule11 recipe.point_count recipe.leads_out recipe.rule12
    recipe.recipe_rules recipe.check_recipe sum_below product_below state_count state_counts parts_in part_count joint_count sizes_for start
    state_number place_number position_of state_weight point_at state_at place_at configuration_at record_rules rule13 check_sizes place_count
    is_position first_line_of lines_of kind_of then_of else_of is_taken is_given entry_of rank_of has_entry leads_on closed_at is_closed stage_of no_more
    lower keeps_stage stays_staged moves_staged carry_entry position_staged are_stages filled bench_cell bench_recipe bench_entry bench_table bench_ranks
    bench_stages dead_recipe dead_stages end_recipe is_loaded lane_starts out_starts may_do acts acts_on how_many port_fits is_step is_silent_step load keeps_limits none_overfull gate_among gate_of gated suits
    state_after receiver handed place_after after serves matches stands_at present free carries put_there placed parts_moved after_carry entry_kind
    letter unused lines_used carry_letters letters_used names_gate is_line is_formed only step_of may_be_taken taken effect is_move opens leaves makes leads_to cell.in_range cell.gap
    cell.has_no_line recipe.in_range recipe.has_unused farthest state_fits place_fits is_silent is_free line_verdict
    chapter_at is_earlier landing then_at else_at points_at sizes.parts_in sizes_in begins position_in entry_in pairs_pass few_formed_pass in_chapter everywhere lowers keeps_in few_staged_in are_few_stages_in passes_at closed_in are_closed no_better soonest_at lost_at joint_at is_shown
computed =
    record {
      sized = refl;
      positions = refl;
      closed = refl;
      staged = refl;
      rest = refl;
      shown = refl;
      entries = refl;
      begun = refl;
      dead_sized = refl;
      dead_staged = refl;
      dead_start = refl;
      six = refl;
      eight = refl;
      first = record { number = refl; range = refl; six = refl; eight = refl; none = refl };
      empty_lane = record { number = refl; range = refl; six = refl; eight = refl; none = refl };
      last_number = refl;
      last_range = refl;
      last_some = refl;
      last_end = refl;
      many = refl;
      end_sized = refl;
      end_ends = refl;
      unlimited = refl;
    }

bench_checked : Checked bench_cell bench_recipe bench_sizes
bench_checked = single_checked bench_cell bench_recipe computed.sized

passes : (x y : Bool) → (not x || y) ≡ true → x ≡ true → y ≡ true
passes true y e h = e
passes false y e h = cc

-- a position without an entry is lost
zeros : (p : ℕ) (a : Configuration) → Position bench_sizes p a → entry_of bench_sizes bench_table p a ≡ 0
    → Lost (machine_of bench_cell bench_recipe bench_sizes) p a
unfolding entry_of stage_of
zeros p a valid none =
    let m : ℕ = position_of bench_sizes p a in
    let low : m < bench_sizes.positions =
    position_lt bench_sizes (checked_fits bench_cell bench_recipe bench_sizes bench_checked) p a valid.is_in_range in
    let here : (not (eqb (get_or bench_table m 0) 0) || ltb 0 (get_or bench_stages m 0)) ≡ true =
    all_at (λ n. not (eqb (get_or bench_table n 0) 0) || ltb 0 (get_or bench_stages n 0)) 90 m computed.rest (omega (arith, computed.positions)) in
    let high : 0 < get_or bench_stages m 0 = ltb-true 0 _ (passes (eqb (get_or bench_table m 0) 0) _ here (eq-eqb _ 0 none)) in
    stages_lost bench_cell bench_recipe bench_sizes bench_stages bench_checked computed.staged p a valid high

-- the table is a plan: its 24 entries stand at the positions of the greatest simulation, and they keep every promise
pub bench_planned : Planned bench_cell (bench_recipe ∷ []) bench_measures bench_table bench_table false
bench_planned =
    planned bench_cell (bench_recipe ∷ []) (all_checked bench_cell bench_recipe computed.sized) bench_table bench_table
    (λ p a. rank_of bench_sizes bench_ranks p.point a) false
    (omega (arith, single_entries bench_cell bench_recipe, computed.positions, computed.entries))
    (single_closed bench_cell bench_recipe computed.sized bench_table (rank_of bench_sizes bench_ranks)
    (closed_table bench_cell bench_recipe bench_sizes bench_table bench_ranks bench_checked computed.closed))
    (single_only bench_cell bench_recipe
    (λ (p : Point) (a : Configuration).
    entry_in bench_measures bench_table p a ≡ 0 → Lost (joined_machine bench_cell (bench_recipe ∷ []) bench_measures) p a)
    (λ p a valid none.
    single_lost bench_cell bench_recipe computed.sized p a valid
    (zeros p a valid (sym (single_entry bench_cell bench_recipe bench_table p a) ∙ none))))
    (λ p a valid end (next : suc p.chapter < 1). absurd (omega arith))
    (λ e zero. omega (arith, sym (single_entry bench_cell bench_recipe bench_table 0 start) ∙ zero, computed.begun))
    (λ e. cc)
    refl
    (λ n high. refl)

bench_all_checked : AllChecked bench_cell (bench_recipe ∷ []) bench_measures
bench_all_checked = all_checked bench_cell bench_recipe computed.sized

-- each entry begins a shortest way
pub bench_fixed : Fixed bench_cell (bench_recipe ∷ []) bench_measures bench_table
bench_fixed =
    shown_fixed bench_cell (bench_recipe ∷ []) bench_all_checked bench_table bench_ranks bench_stages computed.shown
    (omega (arith, single_entries bench_cell bench_recipe, computed.positions, computed.entries))

-- so it has the entries of any table of which both holds
pub bench_entries :
    (before table : List ℕ) (refused : Bool)
    → Planned bench_cell (bench_recipe ∷ []) bench_measures before table refused
    → Fixed bench_cell (bench_recipe ∷ []) bench_measures table
    → (n : ℕ)
    → n < 90
    → get_or table n 0 ≡ get_or bench_table n 0
bench_entries before table refused plan fixed n low =
    same_number bench_cell (bench_recipe ∷ []) bench_measures bench_all_checked before table bench_table bench_table refused false plan bench_planned
    fixed bench_fixed n (omega (arith, single_entries bench_cell bench_recipe, computed.positions))

-- ‡ "point 3 as `3,2,2,1,0,2,2` gives 15, the station having left state 1": no simulation holds the start
pub dead_recipe_lem : Realisable bench_cell (dead_recipe ∷ []) → ⊥
dead_recipe_lem =
    staged_unrealisable bench_cell dead_recipe computed.dead_sized dead_stages computed.dead_staged (omega (arith, computed.dead_start))

end_entry_lem : (c : Cell) (rs : Chapters) (p : Point) (a : Configuration) (e : ℕ) → kind_at rs p ≡ 0 → is_open c rs (opened p a) e ≡ true → e ≡ 67108864
unfolding is_open at_end opened
end_entry_lem c rs p a e done way = eqb-true e 67108864 (rw (eq-eqb (kind_at rs p) 0 done) at way)

-- of any table that is a plan
module _ (before table : List ℕ) (refused : Bool) (plan : Planned bench_cell (bench_recipe ∷ []) bench_measures before table refused) where
  entry_none : (m : ℕ) → NoEntry m → get_or table m 0 ≡ 0
  entry_none m lacks = decide (ℕ_discrete (get_or table m 0) 0)
    where
      here : PositionIn (bench_recipe ∷ []) bench_measures (point_in 0 (point_at bench_sizes m)) (configuration_at bench_sizes m)
      here = single_position bench_cell bench_recipe _ _ (record { is_in_range = lacks.range; six = lacks.six; eight = lacks.eight })

      numbered : (t : List ℕ) → entry_in bench_measures t (point_in 0 (point_at bench_sizes m)) (configuration_at bench_sizes m) ≡ get_or t m 0
      numbered t = single_numbered bench_cell bench_recipe t (point_at bench_sizes m) (configuration_at bench_sizes m) m lacks.number

      decide : Dec (get_or table m 0 ≡ 0) → get_or table m 0 ≡ 0
      decide (yes e) = e
      decide (no some) =
          absurd
          (bench_planned.zero_lacks _ _ here (numbered bench_table ∙ lacks.none)
          (plan.entry_holds _ _ here (λ e. some (sym (numbered table) ∙ e))))

  -- ‡ "entry 1 is 0"
  pub entry_one : get_or table 1 0 ≡ 0
  entry_one = entry_none 1 computed.first

  -- request 8: at position 23 the lane would start empty
  pub entry_empty_lane : get_or table 23 0 ≡ 0
  entry_empty_lane = entry_none 23 computed.empty_lane

  -- ‡ "entry 72 is 67108864"
  pub entry_last : get_or table 72 0 ≡ 67108864
  unfolding chapter_at
  entry_last =
      let at : Point = point_in 0 4 in
      let last : PositionIn (bench_recipe ∷ []) bench_measures at start =
      single_position bench_cell bench_recipe 4 start (record { is_in_range = computed.last_range; six = computed.six; eight = computed.eight }) in
      let held : Greatest bench_cell (bench_recipe ∷ []) bench_measures at start =
      bench_planned.entry_holds at start last (λ e. omega (arith, sym (numbered bench_table) ∙ e, computed.last_some)) in
      let some : entry_in bench_measures table at start ≡ 0 → ⊥ = λ e. plan.zero_lacks at start last e held in
      sym (numbered table)
      ∙ end_entry_lem bench_cell (bench_recipe ∷ []) at start _ computed.last_end
      (promised_open bench_cell (bench_recipe ∷ []) bench_measures table at start (plan.promises at start last some (asks ∷ [])))
    where
      numbered : (t : List ℕ) → entry_in bench_measures t (point_in 0 4) start ≡ get_or t 72 0
      numbered t = single_numbered bench_cell bench_recipe t 4 start 72 computed.last_number

-- ‡ "a recipe of one end is accepted": it passes the rules before 15, and is realisable
pub one_end : Realisable bench_cell (end_recipe ∷ [])
unfolding none_overfull chapter_at
one_end =
    record {
      set = within (end_recipe ∷ []) zs ends;
      simulation = single_joint bench_cell (end_recipe ∷ []) zs checked ends none_left;
      member = is_within (end_recipe ∷ []) zs ends first_point start (joined_starts bench_cell (end_recipe ∷ []) zs checked) refl;
    }
  where
    zs : Measures
    zs = sizes_in bench_cell (end_recipe ∷ [])

    checked : AllChecked bench_cell (end_recipe ∷ []) zs
    checked = all_checked bench_cell end_recipe computed.end_sized

    ends : Set
    ends p a = eqb p.point 0

    none_left : SingleSimulation bench_cell (end_recipe ∷ []) zs ends
    none_left =
        record {
          none_is_overfull = λ p a valid member. all_kept bench_cell.limits a.place computed.unlimited;
          goes_on =
              single_only bench_cell end_recipe
              (λ (p : Point) (a : Configuration).
              ends p a ≡ true → (kind_at (end_recipe ∷ []) p ≡ 0 → ⊥) → SingleGoesOn bench_cell (end_recipe ∷ []) ends p a)
              (λ p a valid member some. absurd (some (ap (kind_of end_recipe) (eqb-true p 0 member) ∙ computed.end_ends)));
          passes_on = λ p a valid member end. ap (λ (q : Point). ends q a) (one_lands end_recipe p) ∙ member;
        }
