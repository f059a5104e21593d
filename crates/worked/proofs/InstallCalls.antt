-- What every install call answers for the cells that lack an operation line, for one that lacks none and for a full one: theorems over
-- the call's contract, whatever was lent. Assumes nothing.
use mathlib.Core.Path.{◌≡◌, refl, sym, ap, ◌∙◌}
use mathlib.Core.List.{List, [], ◌∷◌, ◌++◌}
use Prim.Native.Nat.{ℕ, suc, ◌+◌, ◌-◌, ◌/◌, ◌<◌, ◌≤◌}
use native.Mathlib.Omega.{arith}
use lib.ListN.{length, take, drop}
use lib.Seq.{take-nil}
use borrow.Author.Tests.{ltb-true}
use Rattle.refusals.specs.declared.Refusal.{Refusal}
use Rattle.refusals.specs.declared.Refusal.TheVariants.{TooShort, FullCell}
use Rattle.refusals.specs.Verdict.{Accepted, Refused}
use Rattle.refusals.proofs.Verdicts.{refused_not}
use Rattle.cell.specs.declared.Cell.{Cell}
use Rattle.cell.specs.declared.OperationLine.{OperationLine}
use Rattle.recipe.specs.declared.Recipe.{Recipe}
use Rattle.positions.specs.Sizes.{sizes_of}
use Rattle.positions.specs.Rules.{check_sizes}
use Rattle.simulation.specs.Simulation.{Realisable}
use Rattle.reached.specs.Reached.{rule22}
use Rattle.planner.specs.Call.{check_plan}
use Rattle.install.specs.Order.{line_bytes, bytes_of, filled_with}
use Rattle.install.specs.Call.{Listing, check_install, Listed, InstallCall}
use Rattle.install.proofs.FilledList.{filled_none}
use Rattle.install.proofs.InstallAnswers.{plan_refused, full_refused, free_accepted}
use Rattle.install.proofs.OneList.{listed_once}
use Rattle.worked.specs.Moves.{bench_cell, bench_recipe}
use Rattle.worked.specs.Installed.{line, untested_cell, unfed_cell, testing_lines, feeding_lines, turned_cell, turned_recipe, turning_lines}
use Rattle.worked.specs.Installed.{single_cell, single_recipe, single_lines, full_cell}
use Rattle.worked.proofs.LedRecipes.{led_recipes}
use Rattle.worked.proofs.LentLengths.{check_passes, check_short}
use Rattle.worked.proofs.BenchPlan.{computed as bench, bench_planned}
use Rattle.worked.proofs.InstallPlans.{computed, untested_fails, untested_listed, unfed_fails, unfed_listed, turned_fails}
use Rattle.worked.proofs.InstallPlans.{turned_listed, single_fails, single_listed}

-- "lists every operation line .. that .. alone makes the recipe acceptable": exactly these, so many
pub record Lists (lines : List OperationLine) (count : ℕ) (found : List OperationLine) (list list' : List ℕ) (answer : Listing) : Type 0 where
  pub accepted : answer.verdict ≡ Accepted
  pub exactly : found ≡ lines
  pub full_count : answer.count ≡ count
  pub bytes : list' ≡ filled_with lines list

-- "An acceptable recipe gives count 0"
pub record NoneNeeded (list list' : List ℕ) (answer : Listing) : Type 0 where
  pub accepted : answer.verdict ≡ Accepted
  pub none : answer.count ≡ 0
  pub same_list : list' ≡ list

-- refused: nothing changes, and the count is 0
pub record Refuses (refusal : Refusal) (table scratch list table' scratch' list' : List ℕ) (answer : Listing) : Type 0 where
  pub refused : answer.verdict ≡ Refused refusal 0
  pub none : answer.count ≡ 0
  pub same_table : table' ≡ table
  pub same_scratch : scratch' ≡ scratch
  pub same_list : list' ≡ list

-- a list of no line leaves the buffer
none_filled : (lines : List OperationLine) (list list' : List ℕ) → list' ≡ filled_with lines list → lines ≡ [] → list' ≡ list
none_filled lines list list' is none = is ∙ ap (λ (xs : List OperationLine). filled_with xs list) none ∙ filled_none list

-- of a buffer for one line or more the first four bytes are the first line's, and if there is but one the rest keeps its content
one_filled : (l : OperationLine) (list : List ℕ) → 4 ≤ length list
    → filled_with (l ∷ []) list ≡ l.resource ∷ l.from ∷ l.operation ∷ l.to ∷ drop 4 list
unfolding filled_with bytes_of line_bytes
one_filled l list room =
    let more : length list / 4 ≡ suc (length list / 4 - 1) = omega arith in
    ap (λ (n : ℕ). bytes_of (take n (l ∷ [])) ++ drop (length (bytes_of (take n (l ∷ [])))) list) more
    ∙ ap (λ (xs : List OperationLine). bytes_of (l ∷ xs) ++ drop (length (bytes_of (l ∷ xs))) list) (take-nil (length list / 4 - 1))

seven_filled : (l m : OperationLine) (list : List ℕ) → length list ≡ 7
    → filled_with (l ∷ m ∷ []) list ≡ l.resource ∷ l.from ∷ l.operation ∷ l.to ∷ drop 4 list
unfolding filled_with bytes_of line_bytes
seven_filled l m list seven =
    let once : length list / 4 ≡ 1 = omega arith in
    ap (λ (n : ℕ). bytes_of (take n (l ∷ m ∷ [])) ++ drop (length (bytes_of (take n (l ∷ m ∷ [])))) list) once

-- a call that is refused, at no line
module _
    (c : Cell) (r : Recipe) (table scratch list table' scratch' list' : List ℕ) (answer : Listing)
    (call : InstallCall c r table scratch list table' scratch' list' answer)
  where
    pub refuses :
        (refusal : Refusal)
        → check_install c r (length table) (length scratch) ≡ Refused refusal 0
        → Refuses refusal table scratch list table' scratch' list' answer
    refuses refusal is =
        let none : call.lines ≡ [] = call.none_refused (refused_not is) in
        record {
          refused = call.verdict_is ∙ is;
          none = call.count_is ∙ ap (λ (xs : List OperationLine). length xs) none;
          same_table = (call.untouched (refused_not is)).0;
          same_scratch = (call.untouched (refused_not is)).1;
          same_list = none_filled call.lines list list' call.list_is none;
        }

-- the answers, of any cell and recipe that pass the rules before 14, for a table that is not too short
module _
    (c : Cell) (r : Recipe) (sized : check_sizes c r ≡ Accepted) (led : rule22 r ≡ Accepted)
    (table scratch list table' scratch' list' : List ℕ) (answer : Listing)
    (call : InstallCall c r table scratch list table' scratch' list' answer)
    (long : (sizes_of c r).positions ≤ length table)
  where
    pub call_short : length scratch < ((sizes_of c r).positions + 7) / 8 → Refuses TooShort table scratch list table' scratch' list' answer
    call_short narrow =
        let short = check_short c r sized led (length table) (length scratch) long narrow in
        refuses c r table scratch list table' scratch' list' answer call TooShort (sym (plan_refused c r (length table) (length scratch) (sym short) refl))

    -- and a scratch that isn't either
    module _ (wide : ((sizes_of c r).positions + 7) / 8 ≤ length scratch) where
      before : check_plan c (r ∷ []) (length table) (length scratch) ≡ Accepted
      before = check_passes c r sized led (length table) (length scratch) long wide

      module _ (free : c.count < 64) where
        passes : check_install c r (length table) (length scratch) ≡ Accepted
        passes = free_accepted c r (length table) (length scratch) before free

        pub call_lists :
            (Realisable c (r ∷ []) → ⊥)
            → (lines : List OperationLine) (count : ℕ)
            → Listed c r lines
            → length lines ≡ count
            → Lists lines count call.lines list list' answer
        call_lists fails lines count is many =
            let same : call.lines ≡ lines = listed_once c r call.lines lines (call.listed passes fails) is in
            record {
              accepted = call.verdict_is ∙ passes;
              exactly = same;
              full_count = call.count_is ∙ ap (λ (xs : List OperationLine). length xs) same ∙ many;
              bytes = call.list_is ∙ ap (λ (xs : List OperationLine). filled_with xs list) same;
            }

        pub call_needs_none : Realisable c (r ∷ []) → NoneNeeded list list' answer
        call_needs_none builds =
            record {
              accepted = call.verdict_is ∙ passes;
              none = call.count_is ∙ ap (λ (xs : List OperationLine). length xs) (call.none_needed builds);
              same_list = none_filled call.lines list list' call.list_is (call.none_needed builds);
            }

      pub call_full : c.count ≡ 64 → Refuses FullCell table scratch list table' scratch' list' answer
      call_full whole =
          refuses c r table scratch list table' scratch' list' answer call FullCell
          (sym (full_refused c r (length table) (length scratch) before whole))

module _ (table scratch list table' scratch' list' : List ℕ) (answer : Listing) where
  -- the bench example without its line 3
  module _
      (call : InstallCall untested_cell bench_recipe table scratch list table' scratch' list' answer)
      (long : 90 ≤ length table)
      (wide : 12 ≤ length scratch)
    where
      pub untested_called : Lists testing_lines 1 call.lines list list' answer
      unfolding testing_lines
      untested_called =
          call_lists untested_cell bench_recipe computed.untested.sized led_recipes.bench table scratch list table' scratch' list' answer call
          (omega (arith, computed.untested_positions)) (omega (arith, computed.untested_positions)) (ltb-true _ 64 computed.untested.free)
          untested_fails testing_lines 1 untested_listed refl

      pub untested_bytes : 4 ≤ length list → list' ≡ 1 ∷ 1 ∷ 2 ∷ 2 ∷ drop 4 list
      unfolding testing_lines
      untested_bytes room = untested_called.bytes ∙ one_filled (line 1 1 2 2) list room

  -- and without its line 0
  module _
      (call : InstallCall unfed_cell bench_recipe table scratch list table' scratch' list' answer)
      (long : 90 ≤ length table)
      (wide : 12 ≤ length scratch)
    where
      pub unfed_called : Lists feeding_lines 2 call.lines list list' answer
      unfolding feeding_lines
      unfed_called =
          call_lists unfed_cell bench_recipe computed.unfed.sized led_recipes.bench table scratch list table' scratch' list' answer call
          (omega (arith, computed.unfed_positions)) (omega (arith, computed.unfed_positions)) (ltb-true _ 64 computed.unfed.free)
          unfed_fails feeding_lines 2 unfed_listed refl

      pub unfed_bytes : length list ≡ 7 → list' ≡ 0 ∷ 0 ∷ 1 ∷ 1 ∷ drop 4 list
      unfolding feeding_lines
      unfed_bytes seven = unfed_called.bytes ∙ seven_filled (line 0 0 1 1) (line 1 0 1 1) list seven

  -- the station of two states
  pub turned_called :
      (call : InstallCall turned_cell turned_recipe table scratch list table' scratch' list' answer)
      → 24 ≤ length table
      → 3 ≤ length scratch
      → Lists turning_lines 3 call.lines list list' answer
  unfolding turning_lines
  turned_called call long wide =
      call_lists turned_cell turned_recipe computed.turned.sized led_recipes.turned table scratch list table' scratch' list' answer call
      (omega (arith, computed.turned_positions)) (omega (arith, computed.turned_positions)) (ltb-true _ 64 computed.turned.free)
      turned_fails turning_lines 3 turned_listed refl

  -- the station of one state
  pub single_called :
      (call : InstallCall single_cell (single_recipe 2) table scratch list table' scratch' list' answer)
      → 4 ≤ length table
      → 1 ≤ length scratch
      → Lists single_lines 1 call.lines list list' answer
  unfolding single_lines
  single_called call long wide =
      call_lists single_cell (single_recipe 2) computed.single.sized (led_recipes.single 2) table scratch list table' scratch' list' answer call
      (omega (arith, computed.single_positions)) (omega (arith, computed.single_positions)) (ltb-true _ 64 computed.single.free)
      single_fails single_lines 1 single_listed refl

  -- the bench example itself
  pub bench_needs_none :
      InstallCall bench_cell bench_recipe table scratch list table' scratch' list' answer
      → 90 ≤ length table
      → 12 ≤ length scratch
      → NoneNeeded list list' answer
  unfolding bench_cell
  bench_needs_none call long wide =
      call_needs_none bench_cell bench_recipe bench.sized led_recipes.bench table scratch list table' scratch' list' answer call
      (omega (arith, bench.positions)) (omega (arith, bench.positions)) (ltb-true 5 64 refl) (bench_planned.accepted_holds refl)

  -- with 11 bytes of scratch
  pub bench_short :
      InstallCall bench_cell bench_recipe table scratch list table' scratch' list' answer
      → 90 ≤ length table
      → length scratch ≤ 11
      → Refuses TooShort table scratch list table' scratch' list' answer
  bench_short call long narrow =
      call_short bench_cell bench_recipe bench.sized led_recipes.bench table scratch list table' scratch' list' answer call
      (omega (arith, bench.positions)) (omega (arith, bench.positions))

  -- a cell of 64 lines
  pub full_called :
      InstallCall full_cell (single_recipe 1) table scratch list table' scratch' list' answer
      → 4 ≤ length table
      → 1 ≤ length scratch
      → Refuses FullCell table scratch list table' scratch' list' answer
  full_called call long wide =
      call_full full_cell (single_recipe 1) computed.full_sized (led_recipes.single 1) table scratch list table' scratch' list' answer call
      (omega (arith, computed.full_positions)) (omega (arith, computed.full_positions)) computed.full_count
