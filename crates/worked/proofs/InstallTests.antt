-- What computed certificates show of a cell that lacks an operation line: lines that mend it, groups of lines of which none does, and
-- with both which lines are listed. Assumes nothing.
use mathlib.Core.Path.{◌≡◌, refl, sym, subst}
use mathlib.Core.Logic.{◌⊎◌, inl, inr}
use mathlib.Core.Bool.{Bool, true, false, not, ◌||◌, true≢false}
use mathlib.Core.List.{List, [], ◌∷◌}
use Prim.Native.Nat.{ℕ, ◌+◌}
use lib.ListN.{length, get_or}
use lib.Dec.{eqb, ltb, leb}
use borrow.Author.Tests.{eqb-true, eqb-false, ltb-true, leb-true}
use Rattle.refusals.specs.Verdict.{Accepted}
use Rattle.refusals.specs.Search.{all_below, every}
use Rattle.refusals.proofs.EveryBelow.{all_at, any_some}
use Rattle.refusals.proofs.Verdicts.{and_left, and_right, or_cases}
use Rattle.cell.specs.declared.Cell.{Cell}
use Rattle.cell.specs.declared.OperationLine.{OperationLine}
use Rattle.cell.specs.Longer.{with_line, with_lines}
use Rattle.cell.proofs.LongerCell.{Columns}
use Rattle.recipe.specs.declared.Recipe.{Recipe}
use Rattle.positions.specs.Sizes.{resource_count, state_count, sizes_of}
use Rattle.positions.specs.Checked.{Checked}
use Rattle.positions.specs.Position.{start, entry_of}
use Rattle.positions.specs.Rules.{check_sizes}
use Rattle.positions.proofs.LongerSizes.{Suits}
use Rattle.positions.proofs.CheckedSizes.{sizes_checked}
use Rattle.chapters.specs.Joined.{first_point}
use Rattle.simulation.specs.Simulation.{Greatest, Realisable}
use Rattle.simulation.proofs.OneRecipe.{alone}
use Rattle.simulation.proofs.ClosedTableTest.{is_closed}
use Rattle.simulation.proofs.StageTest.{stage_of, are_stages}
use Rattle.planner.proofs.OnePlan.{held_realisable, realisable_held}
use Rattle.install.specs.Candidates.{names_at, is_named, is_candidate, Mends}
use Rattle.install.specs.Order.{same_line, is_among, rises}
use Rattle.install.specs.Call.{Listed}
use Rattle.install.proofs.Members.{same_line_lem, none_among}
use Rattle.install.proofs.CandidateLines.{candidate_suits, candidate_named}
use Rattle.install.proofs.GroupsOfLines.{group_mends_none}
use Rattle.worked.specs.Installed.{line}
use Rattle.worked.proofs.Certificates.{closed_realisable, staged_unrealisable}

-- what holds of the first line of a list and of the others holds of each
pub among_either :
    (P : OperationLine → Type 0) (m : OperationLine) (rest : List OperationLine)
    → P m
    → ((l : OperationLine) → is_among l rest ≡ true → P l)
    → (l : OperationLine)
    → is_among l (m ∷ rest) ≡ true
    → P l
unfolding is_among
among_either P m rest first others l there = decide (or_cases (same_line l m) (is_among l rest) there)
  where
    decide : (same_line l m ≡ true) ⊎ (is_among l rest ≡ true) → P l
    decide (inl same) = subst P (sym (same_line_lem l m same)) first
    decide (inr later) = others l later

pub among_none : (P : OperationLine → Type 0) (l : OperationLine) → is_among l [] ≡ true → P l
among_none P l there = absurd (none_among l there)

-- a test that passes at every line of a list
tested_among : (test : OperationLine → Bool) (lines : List OperationLine) → every test lines ≡ true
    → (l : OperationLine) → is_among l lines ≡ true → test l ≡ true
unfolding every
tested_among test [] all l there = among_none (λ (m : OperationLine). test m ≡ true) l there
tested_among test (m ∷ rest) all l there =
    among_either (λ (k : OperationLine). test k ≡ true) m rest (and_left (test m) (every test rest) all)
    (tested_among test rest (and_right (test m) (every test rest) all)) l there

-- what is computed of a line that mends the cell: moves and ranks with it
pub record MendedBy (c : Cell) (r : Recipe) (l : OperationLine) (table ranks : List ℕ) : Type 0 where
  pub sized : check_sizes (with_line c l) r ≡ Accepted
  pub closed : is_closed (with_line c l) r (sizes_of (with_line c l) r) table ranks ≡ true
  pub begun : eqb (entry_of (sizes_of (with_line c l) r) table 0 start) 0 ≡ false

-- of a group of lines that does not help: stages with all of them
pub record Idle (c : Cell) (r : Recipe) (lines : List OperationLine) (stages : List ℕ) : Type 0 where
  pub few : leb (c.count + length lines) 64 ≡ true
  pub sized : check_sizes (with_lines c lines) r ≡ Accepted
  pub sizes : sizes_of (with_lines c lines) r ≡ sizes_of c r
  pub staged : are_stages (with_lines c lines) r (sizes_of (with_lines c lines) r) stages ≡ true
  pub high : ltb 0 (stage_of (sizes_of (with_lines c lines) r) stages 0 start) ≡ true

-- a test passes at every line of resource k between so many states, of an operation of the recipe
unfoldable pub lines_pass : Recipe → (OperationLine → Bool) → ℕ → ℕ → Bool
lines_pass r test k states =
    all_below (λ f. all_below (λ t. all_below (λ n. test (line k f (get_or r.op n 0) t)) r.count) states) states

-- and at all of these, between the states that each resource has
unfoldable pub candidates_pass : Cell → Recipe → (OperationLine → Bool) → Bool
candidates_pass c r test =
    all_below (λ k. lines_pass r test k (state_count c.resource c.from c.to c.count k)) (resource_count c)

-- a candidate is one of the lines, or one of the others
unfoldable pub is_accounted : Cell → Recipe → List OperationLine → (OperationLine → Bool) → OperationLine → Bool
is_accounted c r lines others l = not (is_candidate c r l) || (is_among l lines || others l)

-- of the cell itself, and of the list
pub record Accounted (c : Cell) (r : Recipe) (lines : List OperationLine) (others : OperationLine → Bool) : Type 0 where
  pub sized : check_sizes c r ≡ Accepted
  pub free : ltb c.count 64 ≡ true
  pub columns : Columns c
  pub candidates : every (is_candidate c r) lines ≡ true
  pub covered : candidates_pass c r (is_accounted c r lines others) ≡ true
  pub order : rises lines ≡ true

module _ (c : Cell) (r : Recipe) where
  -- moves and ranks with the line show that it mends the cell
  pub line_mends : (l : OperationLine) (table ranks : List ℕ) → MendedBy c r l table ranks → Mends c r l
  line_mends l table ranks M =
      closed_realisable (with_line c l) r M.sized table ranks M.closed (eqb-false _ 0 M.begun)

  -- not realisable by the cell with the group
  none_holds : (lines : List OperationLine) (stages : List ℕ) → Idle c r lines stages
      → Greatest (with_lines c lines) (r ∷ []) (alone (sizes_of c r)) first_point start → ⊥
  none_holds lines stages I held =
      staged_unrealisable (with_lines c lines) r I.sized stages I.staged (ltb-true 0 _ I.high)
      (held_realisable (with_lines c lines) r (sizes_of c r) (sym I.sizes) held)

  -- nor by the cell itself, if that is the group
  pub unmended : (stages : List ℕ) → Idle c r [] stages → Realisable c (r ∷ []) → ⊥
  unfolding with_lines
  unmended stages I able = none_holds [] stages I (realisable_held c r (sizes_of c r) refl able)

  -- a test that passes at all those lines passes at every candidate
  candidate_passes :
      check_sizes c r ≡ Accepted
      → (test : OperationLine → Bool)
      → candidates_pass c r test ≡ true
      → (l : OperationLine)
      → is_candidate c r l ≡ true
      → test l ≡ true
  unfolding candidates_pass lines_pass is_named names_at
  candidate_passes sized test all l is =
      let S : ℕ = state_count c.resource c.from c.to c.count l.resource in
      let K : Checked c r (sizes_of c r) = sizes_checked c r sized in
      let suits : Suits c l = candidate_suits c r (sizes_of c r) K l is in
      let named = any_some (names_at r l.operation) r.count (candidate_named c r (sizes_of c r) K l is) in
      let at-resource =
      all_at (λ k. lines_pass r test k (state_count c.resource c.from c.to c.count k)) (resource_count c) l.resource all suits.resource in
      let at_from =
      all_at (λ f. all_below (λ t. all_below (λ n. test (line l.resource f (get_or r.op n 0) t)) r.count) S) S l.from at-resource suits.from in
      let at-to =
      all_at (λ t. all_below (λ n. test (line l.resource l.from (get_or r.op n 0) t)) r.count) S l.to at_from suits.to in
      let at-line =
      all_at (λ n. test (line l.resource l.from (get_or r.op n 0) l.to)) r.count named.0 at-to named.1.0 in
      let operation : get_or r.op named.0 0 ≡ l.operation =
      eqb-true _ _ (and_right (not (eqb (get_or r.kind named.0 0) 0)) _ named.1.1) in
      subst (λ (o : ℕ). test (line l.resource l.from o l.to) ≡ true) operation at-line

  module _ (lines : List OperationLine) (others : OperationLine → Bool) (S : Accounted c r lines others) where
    -- of a group that does not help, no line mends the cell
    pub idle_mends_none :
        (group : List OperationLine) (stages : List ℕ)
        → Idle c r group stages
        → (l : OperationLine)
        → is_among l group ≡ true
        → is_candidate c r l ≡ true
        → Mends c r l
        → ⊥
    idle_mends_none group stages I =
        group_mends_none c r (sizes_of c r) S.columns (sizes_checked c r S.sized) refl group (leb-true _ 64 I.few)
        (none_holds group stages I)

    -- what is accounted for is listed: the lines mend the cell, and no other candidate does
    pub listed :
        ((l : OperationLine) → is_among l lines ≡ true → Mends c r l)
        → ((l : OperationLine) → others l ≡ true → is_candidate c r l ≡ true → Mends c r l → ⊥)
        → Listed c r lines
    unfolding is_accounted
    listed mends none =
        record {
          candidates = tested_among (is_candidate c r) lines S.candidates;
          mend = mends;
          every = λ l is mend. accounted l is mend (is_candidate c r l) is (candidate_passes S.sized (is_accounted c r lines others) S.covered l is);
          order = S.order;
        }
      where
        decide : (l : OperationLine) → is_candidate c r l ≡ true → Mends c r l → (is_among l lines ≡ true) ⊎ (others l ≡ true)
            → is_among l lines ≡ true
        decide l is mend (inl there) = there
        decide l is mend (inr idle) = absurd (none l idle is mend)

        accounted :
            (l : OperationLine)
            → is_candidate c r l ≡ true
            → Mends c r l
            → (b : Bool)
            → b ≡ true
            → (not b || (is_among l lines || others l)) ≡ true
            → is_among l lines ≡ true
        accounted l is mend true e h = decide l is mend (or_cases (is_among l lines) (others l) h)
        accounted l is mend false e h = absurd (true≢false (sym e))
