-- ‡ "these four moves": what `walk` prints for the bench example and `0010`, whatever plan the planner has made.
-- Assumes nothing.
use mathlib.Core.Path.{◌≡◌, refl, sym, ap, subst, ◌∙◌}
use mathlib.Core.List.{List, [], ◌∷◌, ◌++◌}
use Prim.Native.Nat.{ℕ, ◌≤◌}
use native.Mathlib.Omega.{arith}
use lib.ListN.{length, take, get_or}
use borrow.Author.Tests.{le-ltb}
use Rattle.refusals.specs.Verdict.{Verdict, Accepted, first_refusal, first_line, no_line, rule3, if_accepted, line_verdict}
use Rattle.refusals.specs.Search.{first_below, any_below, all_below, count_below, greatest_below, tabulate, is_of}
use Rattle.tables.specs.Numbers.{is_digit}
use Rattle.cell.specs.Reader.{CellReading}
use Rattle.cell.specs.Rules as cell
use Rattle.cell.specs.Reader.{cell_names, read_cell}
use Rattle.recipe.specs.Reader.{RecipeReading}
use Rattle.recipe.specs.Rules as recipe
use Rattle.recipe.specs.Reader.{recipe_names, read_recipe}
use Rattle.positions.specs.Radix.{sum_below, product_below}
use Rattle.positions.specs.Sizes.{state_count, state_counts, parts_in, part_count, joint_count, sizes_for, sizes_of, farthest}
use Rattle.positions.specs.Position.{start, state_number, place_number, position_of, entry_of, state_weight}
use Rattle.positions.specs.Rules.{check_records, record_rules, rule13, rule14, place_count, is_position, rule16, place_fits, state_fits}
use Rattle.steps.specs.Lines.{first_line_of, lines_of, kind_of, then_of, else_of, is_taken, is_given}
use Rattle.steps.specs.Limits.{load, keeps_limits, none_overfull}
use Rattle.steps.specs.Gates.{gate_among, gate_of, gated}
use Rattle.steps.specs.Lanes.{is_loaded, lane_starts}
use Rattle.steps.specs.Joint.{out_starts, may_do, acts, acts_on, how_many, port_fits, is_step, is_silent_step, state_after, receiver, handed, place_after, after, is_silent}
use Rattle.steps.specs.Carry.{serves, matches, stands_at, present, free, suits, carries, put_there, placed, parts_moved, after_carry, is_free}
use Rattle.steps.specs.Entry.{entry_kind, letter, unused, lines_used, carry_letters, letters_used, names_gate, is_line, is_formed, only, step_of, may_be_taken}
use Rattle.steps.specs.Effect.{taken, effect, is_move, opens, leaves, makes, leads_to}
use Rattle.chapters.specs.Joined.{chapter_at, is_earlier, landing}
use Rattle.chapters.specs.Sizes as sizes
use Rattle.chapters.specs.Sizes.{sizes_in, points_at, begins, entry_in}
use Rattle.chapters.specs.Rules as rules
use Rattle.chapters.proofs.OneChapter.{one_rule14}
use Rattle.run.specs.Calls.{table_rules, fresh_run, entry_rules, move_rules, report_rules, rule17, rule18, rule19, next_move, next_point}
use Rattle.run.specs.Calls.{next_run, report_of}
use Rattle.planner.specs.Call.{PlanCall}
use Rattle.worked.specs.Bench.{digits, row, cell_file, recipe_with, recipe_file}
use Rattle.worked.specs.Moves.{filled, bench_cell, bench_recipe, bench_entry, bench_table}
use Rattle.worked.proofs.Table.{table}
use Rattle.printout.specs.Text.{last_digit, digits_of, field, move_line}
use Rattle.printout.specs.Turn.{numbered, position_in, reported, told, printed}
use Rattle.walk.specs.Output.{names_line, below, Output}
use Rattle.walk.proofs.SamePrintout.{Along, printed_same, call_length}

-- `0010`
abbrev pub outcomes : List ℕ
outcomes = 48 ∷ 48 ∷ 49 ∷ 48 ∷ []

-- the lines below the first one: `0,50331648,22` `22,33554561,26` `26,50331843,50` `50,50331652,72`
abbrev pub four_moves : List ℕ
four_moves =
    48 ∷ 44 ∷ 53 ∷ 48 ∷ 51 ∷ 51 ∷ 49 ∷ 54 ∷ 52 ∷ 56 ∷ 44 ∷ 50 ∷ 50 ∷ 10
    ∷ 50 ∷ 50 ∷ 44 ∷ 51 ∷ 51 ∷ 53 ∷ 53 ∷ 52 ∷ 53 ∷ 54 ∷ 49 ∷ 44 ∷ 50 ∷ 54 ∷ 10
    ∷ 50 ∷ 54 ∷ 44 ∷ 53 ∷ 48 ∷ 51 ∷ 51 ∷ 49 ∷ 56 ∷ 52 ∷ 51 ∷ 44 ∷ 53 ∷ 48 ∷ 10
    ∷ 53 ∷ 48 ∷ 44 ∷ 53 ∷ 48 ∷ 51 ∷ 51 ∷ 49 ∷ 54 ∷ 53 ∷ 50 ∷ 44 ∷ 55 ∷ 50 ∷ 10 ∷ []

-- what is computed: the lines of the bench example's own table, and at which entries they are found
record Computed : Type 0 where
  lines : printed bench_cell bench_recipe bench_table fresh_run outcomes ≡ four_moves
  entries : length bench_table ≡ 90
  cell_start : take 8192 (cell_file 5) ≡ cell_file 5
  recipe_start : take 8192 recipe_file ≡ recipe_file
  positions : (sizes_of bench_cell bench_recipe).positions ≡ 90
  same :
      (planned : List ℕ)
      → get_or planned 0 0 ≡ 50331648
      → get_or planned 22 0 ≡ 33554561
      → get_or planned 26 0 ≡ 50331843
      → get_or planned 50 0 ≡ 50331652
      → Along bench_cell bench_recipe planned bench_table fresh_run outcomes

computed : Computed
unfolding is_of first_below any_below all_below count_below greatest_below tabulate first_refusal first_line no_line rule3 cell.leaves_range
    cell.rule4 cell.greatest_resource cell.rule5 cell.other_act cell.partner cell.unpaired cell.limit_in_range cell.limit_leaves_range
    cell.rule4_limits cell.rule6 cell.limits_absent cell.rule20 cell.alike cell.stray cell.rule23 cell.cell_rules recipe.leaves_range recipe.rule4 recipe.breaks_order recipe.rule7
    recipe.clashes recipe.breaks_repeat recipe.rule8 recipe.breaks_unused recipe.rule9 recipe.lacks_parts recipe.rule10 recipe.holds_part
    recipe.common recipe.shares_part recipe.rule11 recipe.point_count recipe.leads_out recipe.rule12 recipe.recipe_rules sum_below product_below
    state_count state_counts parts_in part_count joint_count sizes_for start state_number place_number position_of check_records record_rules rule13
    rule14 place_count is_position rule16 first_line_of lines_of kind_of then_of else_of is_taken is_given fresh_run entry_of table_rules entry_rules
    move_rules report_rules rule17 rule18 rule19 next_move next_run report_of filled bench_cell bench_recipe bench_entry bench_table is_digit
    if_accepted last_digit digits_of field move_line digits row cell_file recipe_with recipe_file cell_names recipe_names numbered position_in
    reported told printed Along is_loaded lane_starts out_starts may_do acts acts_on how_many port_fits is_step is_silent_step load keeps_limits none_overfull gate_among gate_of gated suits state_after
    receiver handed place_after after serves matches stands_at present free carries put_there placed parts_moved after_carry entry_kind letter
    unused lines_used carry_letters letters_used names_gate is_line is_formed only step_of may_be_taken taken effect is_move opens leaves makes leads_to cell.in_range cell.gap
    cell.has_no_line recipe.in_range recipe.has_unused farthest state_weight state_fits place_fits is_silent is_free line_verdict chapter_at is_earlier landing sizes_in points_at sizes.parts_in begins
    sizes.position_in entry_in rules.rule24 rules.rule24_joint rules.chapter_rules rules.in_turn rules.chapters_rules rules.record_rules rules.rule13
    rules.rule14 rules.is_position_in rules.rule16 next_point
computed =
    record {
      lines =
          refl;
      entries =
          refl;
      cell_start =
          refl;
      recipe_start =
          refl;
      positions = refl;
      same = λ planned first second third fourth. (first, (second, (third, (fourth, tt))));
    }

long_enough : (n : ℕ) → 90 ≤ n → rules.rule14 (sizes_in bench_cell (bench_recipe ∷ [])) 1 n ≡ Accepted
unfolding rule14 no_line
long_enough n long =
    one_rule14 bench_recipe bench_cell n
    ∙ rw (le-ltb n (sizes_of bench_cell bench_recipe).positions (omega (arith, computed.positions)))

-- ‡ "these four moves", of every plan call that keeps its contract
module _
    (lent scratch planned scratch' : List ℕ) (verdict : Verdict)
    (call : PlanCall bench_cell (bench_recipe ∷ []) lent scratch planned scratch' verdict)
    (long : 90 ≤ length lent)
    (wide : 12 ≤ length scratch)
  where
    pub four_moves_lem : names_line ++ printed bench_cell bench_recipe planned fresh_run outcomes ≡ names_line ++ four_moves
    four_moves_lem =
        let bench = table.of_bench_calls lent scratch planned scratch' verdict call long wide in
        ap (λ (l : List ℕ). names_line ++ l)
        (printed_same bench_cell bench_recipe planned bench_table
        (long_enough (length planned) (omega (arith, call_length call)) ∙ sym (long_enough (length bench_table) (omega (arith, computed.entries))))
        fresh_run outcomes (computed.same planned bench.entry_0 bench.entry_22 bench.entry_26 bench.entry_50)
        ∙ computed.lines)

-- and of the whole output, from the bytes of the two files on
pub example : (text : List ℕ) → Output (cell_file 5) recipe_file outcomes text → text ≡ names_line ++ four_moves
unfolding below first_refusal
example text output =
    let read = cell_reading ∙ table.of_files.cell_read in
    let recipe_read = recipe_reading ∙ table.of_files.recipe_read in
    let made = output.decided.planned (λ i. (read i).verdict) (λ i. (recipe_read i).verdict) in
    let call =
    subst (λ (x : CellReading). PlanCall x.cell (bench_recipe ∷ []) made.table made.scratch output.table made.scratch' output.decided.plan) read
    (subst
    (λ (x : RecipeReading). PlanCall (read_cell (take 8192 (cell_file 5))).cell (x.recipe ∷ []) made.table
    made.scratch output.table made.scratch' output.decided.plan)
    recipe_read
    made.call) in
    let bench =
    table.of_bench_calls made.table made.scratch output.table made.scratch' output.decided.plan
    call (omega (arith, made.table_places)) (omega (arith, made.scratch_places)) in
    let accepted : output.verdict ≡ Accepted = output.decided.verdict_is ∙ passes (λ i. (read i).verdict) (λ i. (recipe_read i).verdict) bench.accepted in
    output.text_is
    ∙ (λ i. names_line ++ below (accepted i) (printed (read i).cell (recipe_read i).recipe output.table fresh_run outcomes))
    ∙ four_moves_lem made.table made.scratch output.table made.scratch' output.decided.plan call
    (omega (arith, made.table_places)) (omega (arith, made.scratch_places))
  where
    cell_reading : read_cell (take 8192 (cell_file 5)) ≡ read_cell (cell_file 5)
    cell_reading = ap read_cell computed.cell_start

    recipe_reading : read_recipe (take 8192 recipe_file) ≡ read_recipe recipe_file
    recipe_reading = ap read_recipe computed.recipe_start

    passes : {v w x : Verdict} → v ≡ Accepted → w ≡ Accepted → x ≡ Accepted → first_refusal (v ∷ w ∷ x ∷ []) ≡ Accepted
    passes first second third = λ i. first_refusal (first i ∷ second i ∷ third i ∷ [])
