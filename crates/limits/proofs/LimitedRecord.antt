-- The record with a file's limits: when the reader returns it, and that it passes the rules of a cell record.
-- Assumes nothing.
use mathlib.Core.Path.{◌≡◌, refl, ◌∙◌}
use mathlib.Core.Bool.{Bool, true, false, cond, ◌&&◌}
use mathlib.Core.List.{List}
use Prim.Native.Nat.{ℕ, ◌+◌, ◌<◌, ◌≤◌}
use native.Mathlib.Decide.{dec_lt}
use native.Mathlib.Omega.{arith}
use lib.ListN.{length, get_or}
use lib.Dec.{ltb, leb}
use borrow.Author.Tests.{leb-true, leb-false, ltb-true, le-ltb, ne_eqb, not-false}
use Rattle.std.specs.Prelude.{Err}
use Rattle.refusals.specs.Verdict.{Verdict, Accepted, first_refusal, line_verdict, first_line}
use Rattle.refusals.specs.declared.Refusal.TheVariants.{Range, LimitResource}
use Rattle.refusals.specs.Search.{first_below, any_below, is_of, tabulate}
use Rattle.refusals.proofs.Scan.{first_past}
use Rattle.refusals.proofs.EveryBelow.{any_none}
use Rattle.refusals.proofs.TabulatedLists.{tabulate_at}
use Rattle.refusals.proofs.Verdicts.{and_left, and_right, or_left, none_breaks, no_line_kept}
use Rattle.refusals.proofs.Rules.{first_accepts, rest_accepts}
use Rattle.tables.specs.Lines.{value_lines}
use Rattle.tables.specs.Table.{column}
use Rattle.cell.specs.declared.Cell.{Cell}
use Rattle.cell.specs.Rules as cell
use Rattle.cell.specs.Rules.{limit_in_range, limit_leaves_range, greatest_resource, resource_count, limits_absent, cell_rules, check_cell}
use Rattle.cell.proofs.StationLimits.{limit_fits, limit_present, limit_eight}
use Rattle.cell.proofs.AcceptedRecord.{each_accepts}
use Rattle.limits.specs.Reader.{leaves_range, rule4, misplaced, rule20, at_no_line, file_rules, judge_limits, limit_by, limited}
use Rattle.limits.specs.Inner.{limits_of}

-- rule 20, by the first line that breaks it, and the limits, of the columns of a file, in a cell with this greatest resource
module _
    (f : List ℕ) (c : Cell) (resource most : List ℕ) (count : ℕ)
    (resources_are : resource ≡ column f 0)
    (mosts_are : most ≡ column f 1)
    (all : count ≡ length (value_lines f))
  where
    pub order_judged :
        {greatest first : ℕ}
        → greatest ≡ greatest_resource c.resource c.count
        → first ≡ first_below (misplaced resource (greatest + 1)) count
        → line_verdict LimitResource first count ≡ rule20 f (resource_count c)
    unfolding first_line rule20
    order_judged greatest first = rw (first, greatest, resources_are, all)

    pub limits_judged : tabulate 6 (limit_by resource most count 8) ≡ limits_of f
    unfolding limits_of
    limits_judged = rw (resources_are, mosts_are, all)

-- a record that gets the limits of an accepted file passes its own rules
module _ (f : List ℕ) (c : Cell) (accepted : judge_limits f c ≡ Accepted) where
  record_accepted : check_cell c ≡ Accepted
  unfolding judge_limits at_no_line
  record_accepted = passed (check_cell c) (first_accepts _ _ accepted)
    where
      passed : (v : Verdict) → at_no_line v ≡ Accepted → v ≡ Accepted
      passed Accepted e = refl
      passed (Err broken) e = cc

  range_accepted : rule4 f ≡ Accepted
  unfolding judge_limits file_rules
  range_accepted = search (first_accepts, rest_accepts)

  order_accepted : rule20 f (resource_count c) ≡ Accepted
  unfolding judge_limits file_rules
  order_accepted = search (first_accepts, rest_accepts)

  count : ℕ
  count = length (value_lines f)

  line_in_range : (n : ℕ) → n < count → (1 ≤ get_or (column f 1) n 0) × (get_or (column f 1) n 0 ≤ 8)
  unfolding count rule4 leaves_range limit_in_range
  line_in_range n low =
      let fits : (leb (get_or (column f 0) n 0) 5 && limit_in_range (get_or (column f 1) n 0)) ≡ true =
      not-false _ (none_breaks Range (leaves_range (column f 0) (column f 1)) count range_accepted n low) in
      (leb-true _ _ (search (and_left, and_right)), leb-true _ _ (search (and_left, and_right)))

  limit : ℕ → ℕ
  limit = limit_by (column f 0) (column f 1) count 8

  -- each limit is a line's, or 8
  limit_in_range_lem : (k : ℕ) → (1 ≤ limit k) × (limit k ≤ 8)
  unfolding limit limit_by
  limit_in_range_lem k =
      let n = first_below (is_of (column f 0) k) count in
      decide n (ltb n count) refl
    where
      decide :
          (n : ℕ) (b : Bool)
          → ltb n count ≡ b
          → (1 ≤ cond (ltb n count) (get_or (column f 1) n 0) 8) × (cond (ltb n count) (get_or (column f 1) n 0) 8 ≤ 8)
      decide n true e = rw e (line_in_range n (ltb-true n count e))
      decide n false e = rw e (omega arith, omega arith)

  -- no line has a resource at or above R
  limit_absent : (k : ℕ) → resource_count c ≤ k → limit k ≡ 8
  unfolding limit limit_by count rule20 misplaced is_of
  limit_absent k high = rw (first_past (is_of (column f 0) k) count other, le-ltb count count (omega arith))
    where
      other : (n : ℕ) → n < count → is_of (column f 0) k n ≡ false
      other n low =
          let breaks = none_breaks LimitResource (misplaced (column f 0) (resource_count c)) count order_accepted n low in
          let below : get_or (column f 0) n 0 < resource_count c = leb-false _ _ (or_left _ _ breaks) in
          ne_eqb _ _ (λ (e : get_or (column f 0) n 0 ≡ k). omega arith)

  limits : List ℕ
  limits = tabulate 6 limit

  limit_at : (k : ℕ) → k < 6 → get_or limits k 0 ≡ limit k
  unfolding limits
  limit_at k low = tabulate_at limit 6 k low

  all_in_range : any_below (limit_leaves_range limits) 6 ≡ false
  all_in_range =
      any_none _ 6 (λ k low. limit_fits limits k (omega (arith, limit_at k low, (limit_in_range_lem k).0)) (omega (arith, limit_at k low, (limit_in_range_lem k).1)))

  none_absent : any_below (limits_absent limits (resource_count c)) 6 ≡ false
  none_absent = any_none _ 6 (λ k low. decide k low (dec_lt k (resource_count c)))
    where
      decide : (k : ℕ) → k < 6 → Dec (k < resource_count c) → limits_absent limits (resource_count c) k ≡ false
      decide k low (yes there) = limit_present limits k (resource_count c) there
      decide k low (no past) = limit_eight limits k (resource_count c) (limit_at k low ∙ limit_absent k (omega arith))

  -- the other rules see no limit
  pub limited_passes : check_cell (limited f c) ≡ Accepted
  unfolding check_cell cell_rules limited first_refusal cell.rule4 cell.rule4_limits cell.rule5 cell.rule6 cell.rule20 cell.rule23 limit limits count
  limited_passes =
      let E = each_accepts c record_accepted in
      rw (E.third, E.fourth, no_line_kept Range _ all_in_range, E.fifth, E.sixth, no_line_kept LimitResource _ none_absent, E.twenty_third)
