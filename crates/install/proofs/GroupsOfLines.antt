-- Candidates in groups: a cell with a group of operation lines simulates at least what it does with one of them alone, so where the
-- group does not make a recipe realisable, none of its lines does. Assumes nothing.
use mathlib.Core.Path.{◌≡◌, sym, subst, ◌∙◌}
use mathlib.Core.Bool.{Bool, true, cond}
use mathlib.Core.List.{List, [], ◌∷◌, ◌++◌}
use Prim.Native.Nat.{ℕ, suc, ◌+◌, ◌<◌, ◌≤◌}
use native.Mathlib.Decide.{dec_lt}
use native.Mathlib.Omega.{arith}
use lib.ListN.{length, get_or, length-append}
use lib.Dec.{ltb}
use borrow.Author.Tests.{lt-ltb, le-ltb}
use Rattle.cell.specs.declared.Cell.{Cell}
use Rattle.cell.specs.declared.OperationLine.{OperationLine}
use Rattle.cell.specs.Longer.{with_line, with_lines}
use Rattle.cell.proofs.LongerCell.{Columns, line_kept, line_added, lines_kept, lines_added, lines_count, lines_limits, lines_act}
use Rattle.recipe.specs.declared.Recipe.{Recipe}
use Rattle.positions.specs.declared.Sizes.{Sizes}
use Rattle.positions.specs.Sizes.{sizes_of, points_of, parts_of}
use Rattle.positions.specs.Position.{start}
use Rattle.positions.specs.Checked.{Checked}
use Rattle.positions.proofs.LongerSizes.{longer_sizes, longer_checked}
use Rattle.steps.specs.Lines.{act_of}
use Rattle.steps.proofs.AddedOperations.{AddedOperations}
use Rattle.simulation.specs.Simulation.{Greatest}
use Rattle.chapters.specs.Joined.{first_point}
use Rattle.chapters.proofs.OneChapter.{one_checked}
use Rattle.simulation.proofs.AddedOperations.{added_greatest}
use Rattle.simulation.proofs.OneRecipe.{alone}
use Rattle.planner.proofs.OnePlan.{held_realisable, realisable_held}
use Rattle.install.specs.Candidates.{is_candidate, Mends}
use Rattle.install.specs.Order.{is_among}
use Rattle.install.proofs.Members.{Stands, among_stands}
use Rattle.install.proofs.CandidateLines.{candidate_suits}

module _
    (c : Cell) (C : Columns c) (before : List OperationLine) (l : OperationLine) (after : List OperationLine)
    (few : c.count + length (before ++ (l ∷ after)) ≤ 64)
  where
    -- the cell's own lines stay where they are, and the one line stands behind those before it
    place : ℕ → ℕ
    place n = cond (ltb n c.count) n (c.count + length before)

    by_place :
        (P : ℕ → ℕ → Type 0)
        → ((n : ℕ) → n < c.count → P n n)
        → P c.count (c.count + length before)
        → (n : ℕ)
        → n < suc c.count
        → P n (place n)
    unfolding place
    by_place P own one n low = decide (dec_lt n c.count)
      where
        decide : Dec (n < c.count) → P n (cond (ltb n c.count) n (c.count + length before))
        decide (yes less) = subst (λ (b : Bool). P n (cond b n (c.count + length before))) (sym (lt-ltb n c.count less)) (own n less)
        decide (no past) =
            let here : c.count ≡ n = omega arith in
            subst (λ (b : Bool). P n (cond b n (c.count + length before))) (sym (le-ltb n c.count (omega arith)))
            (subst (λ (k : ℕ). P k (c.count + length before)) here one)

    group : Cell
    group = with_lines c (before ++ (l ∷ after))

    pub one_of_group : AddedOperations (with_line c l) (with_lines c (before ++ (l ∷ after)))
    unfolding with_line place group
    one_of_group =
        let counted = lines_count c (before ++ (l ∷ after)) in
        let kept = lines_kept c (before ++ (l ∷ after)) in
        let here = lines_added c before l after C few in
        let low : c.count < 64 = omega (arith, few, length-append before (l ∷ after)) in
        let alone = line_added c l C low in
        record {
          at = place;
          there =
              by_place (λ (n m : ℕ). m < group.count) (λ n low. omega (arith, counted)) (omega (arith, counted, length-append before (l ∷ after)));
          same_resource =
              by_place (λ (n m : ℕ). get_or group.resource m 0 ≡ get_or (with_line c l).resource n 0)
              (λ n low. (kept n low).resource ∙ sym (line_kept c l n low).resource) (here.resource ∙ sym alone.resource);
          same_from =
              by_place (λ (n m : ℕ). get_or group.from m 0 ≡ get_or (with_line c l).from n 0)
              (λ n low. (kept n low).from ∙ sym (line_kept c l n low).from) (here.from ∙ sym alone.from);
          same_act =
              by_place (λ (n m : ℕ). get_or group.act m 0 ≡ get_or (with_line c l).act n 0)
              (λ n low. (kept n low).act ∙ sym (line_kept c l n low).act) (here.act ∙ sym alone.act);
          same_arg =
              by_place (λ (n m : ℕ). get_or group.arg m 0 ≡ get_or (with_line c l).arg n 0)
              (λ n low. (kept n low).arg ∙ sym (line_kept c l n low).arg) (here.arg ∙ sym alone.arg);
          same_to =
              by_place (λ (n m : ℕ). get_or group.to m 0 ≡ get_or (with_line c l).to n 0)
              (λ n low. (kept n low).to ∙ sym (line_kept c l n low).to) (here.to ∙ sym alone.to);
          same_limits = lines_limits c (before ++ (l ∷ after));
          others = λ m low other. own m (dec_lt m c.count) low other;
        }
      where
        own : (m : ℕ) → Dec (m < c.count) → m < group.count → (act_of group m ≡ 1 → ⊥) → (k : ℕ) × ((k < suc c.count) × (place k ≡ m))
        own m (yes less) low other = (m, (omega arith, rw (lt-ltb m c.count less)))
        own m (no past) low other = absurd (other (lines_act c (before ++ (l ∷ after)) C few m (omega arith) low))

module _ (c : Cell) (r : Recipe) (z : Sizes) (C : Columns c) (K : Checked c r z) (own : z ≡ sizes_of c r) where
  -- one line more leaves the sizes
  alone_sizes : (l : OperationLine) → c.count < 64 → is_candidate c r l ≡ true → sizes_of (with_line c l) r ≡ z
  alone_sizes l few is = longer_sizes c l C few (candidate_suits c r z K l is) (points_of r) (parts_of r) ∙ sym own

  -- where the group does not make the recipe realisable, none of its lines does
  pub group_mends_none :
      (lines : List OperationLine)
      → c.count + length lines ≤ 64
      → (Greatest (with_lines c lines) (r ∷ []) (alone z) first_point start → ⊥)
      → (l : OperationLine)
      → is_among l lines ≡ true
      → is_candidate c r l ≡ true
      → Mends c r l
      → ⊥
  group_mends_none lines few none l there is mends =
      let S : Stands l lines = among_stands l lines there in
      let whole : c.count + length (S.before ++ (l ∷ S.after)) ≤ 64 = subst (λ (xs : List OperationLine). c.count + length xs ≤ 64) S.split few in
      let one : c.count < 64 = omega (arith, whole, length-append S.before (l ∷ S.after)) in
      let single : Greatest (with_line c l) (r ∷ []) (alone z) first_point start = realisable_held (with_line c l) r z (sym (alone_sizes l one is)) mends in
      none
      (subst (λ (xs : List OperationLine). Greatest (with_lines c xs) (r ∷ []) (alone z) first_point start) (sym S.split)
      (added_greatest (with_line c l) (with_lines c (S.before ++ (l ∷ S.after))) (one_of_group c C S.before l S.after whole) (r ∷ []) (alone z)
      (one_checked r (with_line c l) z (longer_checked c l C one (candidate_suits c r z K l is) r z K)) first_point start single))

  -- and a group of one line is that line
  pub one_mends :
      (lines : List OperationLine) (l : OperationLine)
      → lines ≡ l ∷ []
      → c.count < 64
      → is_candidate c r l ≡ true
      → Greatest (with_lines c lines) (r ∷ []) (alone z) first_point start
      → Mends c r l
  unfolding with_lines
  one_mends lines l one few is holds =
      held_realisable (with_line c l) r z (sym (alone_sizes l few is))
      (subst (λ (xs : List OperationLine). Greatest (with_lines c xs) (r ∷ []) (alone z) first_point start) one holds)
