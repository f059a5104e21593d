-- What a record has that rule 4 accepts, or that all of its rules together accept: that each does, and what is left of its
-- limits. Assumes nothing.
use mathlib.Core.Path.{◌≡◌, refl}
use mathlib.Core.Bool.{Bool, true, false, ◌&&◌}
use mathlib.Core.List.{List}
use Prim.Native.Nat.{ℕ, ◌<◌, ◌≤◌}
use native.Mathlib.Omega.{arith}
use lib.ListN.{length, get_or}
use borrow.Author.Tests.{le-leb, leb-true, eqb-true, not-false}
use Rattle.std.specs.Prelude.{Err}
use Rattle.refusals.specs.Verdict.{Accepted, Verdict, rule3, if_accepted}
use Rattle.refusals.proofs.EveryBelow.{any_not}
use Rattle.refusals.proofs.Verdicts.{and_left, and_right, none_breaks, no_line_accepts, count_in_range}
use Rattle.refusals.proofs.Rules.{first_accepts, rest_accepts}
use Rattle.tables.specs.Lines.{value_lines}
use Rattle.cell.specs.declared.Cell.{Cell}
use Rattle.cell.specs.Reader.{cell_of, judge_cell, read_cell}
use Rattle.cell.specs.Inner.{reading}
use Rattle.cell.specs.Rules.{in_range, leaves_range, rule4, limit_in_range, limit_leaves_range, rule4_limits, resource_count}
use Rattle.cell.specs.Rules.{rule5, rule6, limits_absent, rule20, rule23, cell_rules, check_cell}

-- what rule 4 leaves of the numbers of line n
pub record LineInRange (c : Cell) (n : ℕ) : Type 0 where
  pub resource : get_or c.resource n 0 ≤ 5
  pub from : get_or c.from n 0 ≤ 7
  pub act : get_or c.act n 0 ≤ 4
  pub arg : get_or c.arg n 0 ≤ 63
  pub to : get_or c.to n 0 ≤ 7

pub line_in_range : (c : Cell) → rule4 c ≡ Accepted → (n : ℕ) → n < c.count → LineInRange c n
unfolding rule4 leaves_range in_range
line_in_range c e n low =
    let all : in_range (get_or c.resource n 0) (get_or c.from n 0) (get_or c.act n 0) (get_or c.arg n 0)
    (get_or c.to n 0) ≡ true =
    not-false _ (none_breaks _ _ _ e n low) in
    record {
      resource = leb-true _ _ (search and_left);
      from = leb-true _ _ (search (and_left, and_right));
      act = leb-true _ _ (search (and_left, and_right));
      arg = leb-true _ _ (search (and_left, and_right));
      to = leb-true _ _ (search (and_left, and_right));
    }

module _ (c : Cell) (k : ℕ) (low : k < 6) where
  limit_in_range_lem : rule4_limits c ≡ Accepted → (1 ≤ get_or c.limits k 0) × (get_or c.limits k 0 ≤ 8)
  unfolding rule4_limits limit_leaves_range limit_in_range
  limit_in_range_lem e =
      let fits : limit_in_range (get_or c.limits k 0) ≡ true = not-false _ (any_not _ 6 k (no_line_accepts _ _ e) low) in
      (leb-true _ _ (search and_left), leb-true _ _ (search and_right))

  limit_eight : rule20 c ≡ Accepted → resource_count c ≤ k → get_or c.limits k 0 ≡ 8
  unfolding rule20 limits_absent
  limit_eight e high = eqb-true _ _ (not-false _ (kept (le-leb (resource_count c) k high) (any_not _ 6 k (no_line_accepts _ _ e) low)))
    where
      kept : {a b : Bool} → a ≡ true → (a && b) ≡ false → b ≡ false
      kept h e = rw h at e

-- the rules of a cell record, each by itself; of the rules on limits, what they leave
pub record EachAccepts (c : Cell) : Type 0 where
  pub third : rule3 c.count ≡ Accepted
  pub fourth : rule4 c ≡ Accepted
  pub fifth : rule5 c ≡ Accepted
  pub sixth : rule6 c ≡ Accepted
  pub twenty_third : rule23 c ≡ Accepted
  pub limit_least : (k : ℕ) → k < 6 → 1 ≤ get_or c.limits k 0
  pub limit_most : (k : ℕ) → k < 6 → get_or c.limits k 0 ≤ 8
  pub limit_absent : (k : ℕ) → resource_count c ≤ k → k < 6 → get_or c.limits k 0 ≡ 8

pub each_accepts : (c : Cell) → check_cell c ≡ Accepted → EachAccepts c
unfolding check_cell cell_rules
each_accepts c e =
    record {
      third = search first_accepts;
      fourth = search (first_accepts, rest_accepts);
      fifth = search (first_accepts, rest_accepts);
      sixth = search (first_accepts, rest_accepts);
      twenty_third = search (first_accepts, rest_accepts) depth 7;
      limit_least = λ k low. (limit_in_range_lem c k low (search (first_accepts, rest_accepts))).0;
      limit_most = λ k low. (limit_in_range_lem c k low (search (first_accepts, rest_accepts))).1;
      limit_absent = λ k high low. limit_eight c k low (search (first_accepts, rest_accepts) depth 7) high;
    }

-- a reader's record has at most 64 lines, refused or not
pub read_few : (file : List ℕ) → (read_cell file).cell.count ≤ 64
unfolding read_cell judge_cell reading if_accepted cell_of check_cell
read_few file = judge (judge_cell file) refl
  where
    judge : (v : Verdict) → judge_cell file ≡ v → (reading v (cell_of file)).cell.count ≤ 64
    judge Accepted e = (count_in_range (length (value_lines file)) (each_accepts (cell_of file) (rest_accepts _ _ (rest_accepts _ _ e))).third).most
    judge (Err broken) e = omega arith
