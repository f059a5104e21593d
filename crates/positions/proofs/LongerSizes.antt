-- A cell with operation lines more, behind its own, of resources and states that it has: its sizes stay, and so does what was checked.
-- Assumes nothing.
use mathlib.Core.Path.{◌≡◌, refl, sym, ap, subst, ◌∙◌}
use mathlib.Core.Bool.{Bool, true, false, cond}
use mathlib.Core.List.{List, [], ◌∷◌}
use Prim.Native.Nat.{ℕ, ◌+◌, ◌<◌, ◌≤◌, max}
use native.Mathlib.Nat.{max-le}
use native.Mathlib.Omega.{arith}
use lib.ListN.{length}
use lib.Dec.{eqb}
use borrow.Author.Tests.{eqb-true}
use Rattle.refusals.specs.Search.{greatest_below, is_of}
use Rattle.refusals.proofs.Scan.{greatest_longer}
use Rattle.refusals.proofs.TabulatedLists.{tabulate_same}
use Rattle.refusals.specs.Verdict.{Accepted}
use Rattle.cell.specs.declared.Cell.{Cell}
use Rattle.cell.specs.declared.OperationLine.{OperationLine}
use Rattle.cell.specs.Rules.{check_cell}
use Rattle.cell.specs.Longer.{with_line, with_lines}
use Rattle.cell.proofs.LongerCell.{Columns, columns_longer, line_kept, line_added, longer_resources, longer_accepted}
use Rattle.recipe.specs.declared.Recipe.{Recipe}
use Rattle.positions.specs.declared.Sizes.{Sizes}
use Rattle.positions.specs.Sizes.{resource_count, farthest, state_count, state_counts, sizes_for, points_of}
use Rattle.positions.specs.Checked.{Checked}
use Rattle.positions.proofs.SizeBounds.{resources_six, counts_most, count_at}

-- an operation line of a resource and of states that the cell has
pub record Suits (c : Cell) (l : OperationLine) : Type 0 where
  pub resource : l.resource < resource_count c
  pub from : l.from < state_count c.resource c.from c.to c.count l.resource
  pub to : l.to < state_count c.resource c.from c.to c.count l.resource
  pub operation : l.operation ≤ 63

-- whose resource has at most eight states
pub states_most : (c : Cell) (l : OperationLine) → check_cell c ≡ Accepted → Suits c l → state_count c.resource c.from c.to c.count l.resource ≤ 8
states_most c l accepted S =
    let low : l.resource < 6 = omega (arith, S.resource, resources_six c accepted) in
    omega (arith, counts_most c accepted l.resource low, count_at c accepted l.resource low)

module _ (c : Cell) (l : OperationLine) (C : Columns c) (few : c.count < 64) (S : Suits c l) where
  -- the added line goes no farther than its resource does
  no_farther : (k : ℕ) → farthest (with_line c l).resource (with_line c l).from (with_line c l).to k c.count
      ≤ greatest_below (farthest c.resource c.from c.to k) c.count
  unfolding farthest is_of state_count
  no_farther k =
      let L = line_added c l C few in
      rw (L.resource, L.from, L.to) (by (eqb l.resource k) refl)
    where
      own : max l.from l.to ≤ greatest_below (farthest c.resource c.from c.to l.resource) c.count
      own = max-le (omega (arith, S.from)) (omega (arith, S.to))

      by : (b : Bool) → eqb l.resource k ≡ b → cond b (max l.from l.to) 0 ≤ greatest_below (farthest c.resource c.from c.to k) c.count
      by true e =
          subst (λ (j : ℕ). max l.from l.to ≤ greatest_below (farthest c.resource c.from c.to j) c.count) (eqb-true l.resource k e) own
      by false e = omega arith

  -- so no resource has a state more
  longer_count :
      (k : ℕ)
      → state_count (with_line c l).resource (with_line c l).from (with_line c l).to (with_line c l).count k
      ≡ state_count c.resource c.from c.to c.count k
  unfolding state_count farthest is_of with_line
  longer_count k =
      ap (λ (n : ℕ). n + 1)
      (greatest_longer (farthest c.resource c.from c.to k)
      (farthest (with_line c l).resource (with_line c l).from (with_line c l).to k) c.count same (no_farther k))
    where
      same : (n : ℕ) → n < c.count → farthest (with_line c l).resource (with_line c l).from (with_line c l).to k n ≡ farthest c.resource c.from c.to k n
      same n low = let K = line_kept c l n low in rw (K.resource, K.from, K.to)

  -- of all six
  longer_counts : state_counts (with_line c l) ≡ state_counts c
  unfolding state_counts
  longer_counts = tabulate_same _ _ 6 (λ k low. longer_count k)

  -- the sizes are the cell's
  pub longer_sizes : (N P : ℕ) → sizes_for (with_line c l) N P ≡ sizes_for c N P
  unfolding sizes_for
  longer_sizes N P = rw (longer_resources c l C few S.resource, longer_counts)

  -- what suits the cell suits it with the line
  longer_suits : {m : OperationLine} → Suits c m → Suits (with_line c l) m
  longer_suits {m} T =
      record {
        resource = omega (arith, T.resource, longer_resources c l C few S.resource);
        from = omega (arith, T.from, longer_count m.resource);
        to = omega (arith, T.to, longer_count m.resource);
        operation = T.operation;
      }

  module _ (r : Recipe) (z : Sizes) (checked : Checked c r z) where
    -- the states of the added line are in range
    pub longer_checked : Checked (with_line c l) r z
    longer_checked =
        let states = states_most c l checked.cell_passes S in
        record {
          cell_passes = longer_accepted c l checked.cell_passes C few S.resource (omega (arith, S.from)) S.operation (omega (arith, S.to));
          recipe_passes = checked.recipe_passes;
          measured = checked.measured ∙ sym (longer_sizes (points_of r) z.parts);
          parts_held = checked.parts_held;
          parts_most = checked.parts_most;
          few = checked.few;
        }

-- each line of a list suits the cell
pub data EachSuits (c : Cell) : List OperationLine → Type 0 where
  suits_none : EachSuits c []
  suits_more : {l : OperationLine} {ls : List OperationLine} → Suits c l → EachSuits c ls → EachSuits c (l ∷ ls)

-- what suits the cell suits it with a line
each_longer : (c : Cell) (l : OperationLine) → Columns c → c.count < 64 → Suits c l → (ls : List OperationLine) → EachSuits c ls → EachSuits (with_line c l) ls
each_longer c l C few S [] suits_none = suits_none
each_longer c l C few S (m ∷ ls) (suits_more T each) = suits_more (longer_suits c l C few S T) (each_longer c l C few S ls each)

-- what was checked of the cell holds of it with all lines of a list
pub lines_checked :
    (c : Cell) (ls : List OperationLine) (r : Recipe) (z : Sizes)
    → Columns c
    → c.count + length ls ≤ 64
    → EachSuits c ls
    → Checked c r z
    → Checked (with_lines c ls) r z
unfolding with_line with_lines
lines_checked c [] r z C few suits_none checked = checked
lines_checked c (l ∷ ls) r z C few (suits_more S each) checked =
    let low : c.count < 64 = omega arith in
    lines_checked (with_line c l) ls r z (columns_longer c l C) (omega arith) (each_longer c l C low S ls each) (longer_checked c l C low S r z checked)
