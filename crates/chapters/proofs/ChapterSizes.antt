-- The sizes of chapters that pass their own rules: from what is counted, and their tables one after another. Assumes nothing.
use mathlib.Core.Path.{◌≡◌, refl, sym, ap, ap₂, subst, ◌∙◌}
use mathlib.Core.Logic.{⊎_elim}
use Prim.Native.Nat.{ℕ, zero, suc, ◌+◌, ◌*◌, ◌<◌, ◌≤◌}
use native.Mathlib.Nat.{eq-or-lt_of_le}
use native.Mathlib.Decide.{dec_lt}
use native.Mathlib.Omega.{arith}
use lib.ListN.{length, get_or-eq_default}
use lib.Dec.{ltb}
use borrow.Author.Tests.{ltb-false}
use Rattle.refusals.specs.declared.Refusal.TheVariants.{TooManyPositions}
use Rattle.refusals.specs.Verdict.{Accepted, no_line}
use Rattle.refusals.specs.Search.{count_below, greatest_below}
use Rattle.refusals.proofs.Scan.{greatest_at, greatest_within}
use Rattle.refusals.proofs.EveryBelow.{any_not}
use Rattle.refusals.proofs.Verdicts.{no_line_accepts}
use Rattle.cell.specs.declared.Cell.{Cell}
use Rattle.recipe.specs.Reader.{no_recipe}
use Rattle.recipe.specs.Rules.{point_count, check_recipe}
use Rattle.positions.specs.declared.Sizes.{Sizes}
use Rattle.positions.specs.Radix.{sum_below}
use Rattle.positions.specs.Sizes.{parts_of, sizes_for, with_points}
use Rattle.positions.specs.Rules as positions
use Rattle.positions.proofs.Radix.{sum_same, sum_times}
use Rattle.positions.proofs.SizeBounds.{points_sixteen, parts_most, with_points_lem}
use Rattle.chapters.specs.declared.Survey.{Survey}
use Rattle.chapters.specs.Joined.{Chapters, chapter_at}
use Rattle.chapters.specs.Sizes.{points_at, parts_in, Measures, sizes_in, begins}
use Rattle.chapters.specs.Rules.{rule13}
use Rattle.chapters.specs.Survey.{Counted}
use Rattle.chapters.proofs.ValuesBelow.{sum_most, greatest_times, greatest_above}

module _ (zs : Measures) where
  -- the tables stand one after another
  pub begins_next : (k : ℕ) → begins zs (suc k) ≡ begins zs k + (zs k).positions
  unfolding begins sum_below
  begins_next k = refl

  -- so a later one begins no earlier
  pub begins_rises : (j k : ℕ) → j ≤ k → begins zs j ≤ begins zs k
  begins_rises j zero low = subst (λ (m : ℕ). begins zs m ≤ begins zs 0) (sym none) (omega arith)
    where
      none : j ≡ 0
      none = omega arith
  begins_rises j (suc k) low =
      ⊎_elim
      (λ e. subst (λ (m : ℕ). begins zs m ≤ begins zs (suc k)) (sym e) (omega arith))
      (λ (lt : j < suc k). omega (arith, begins_rises j k (omega arith), begins_next k))
      (eq-or-lt_of_le low)

  -- a position of a chapter lies in the table
  pub position_inside : (k number n : ℕ) → k < number → n < (zs k).positions → begins zs k + n < begins zs number
  position_inside k number n low inside = omega (arith, begins_next k, begins_rises (suc k) number low)

  module _ (number : ℕ) (accepted : rule13 zs number ≡ Accepted) where
    -- where rule 13 accepts, no chapter has too many positions
    pub few_each : (k : ℕ) → k < number → (zs k).positions ≤ 1048576
    unfolding rule13
    few_each k low =
        ltb-false 1048576 (zs k).positions
        (any_not (λ k. ltb 1048576 (zs k).positions) number k (no_line_accepts TooManyPositions _ accepted) low)

    -- and 8388608 entries are enough for all
    pub few_entries : number ≤ 8 → begins zs number ≤ 8388608
    unfolding begins
    few_entries few = omega (arith, sum_most (λ i. (zs i).positions) number 1048576 few_each)

-- the points of a chapter that isn't there
pub no_points : (rs : Chapters) (k : ℕ) → length rs ≤ k → points_at rs k ≡ 0
unfolding points_at chapter_at point_count count_below
no_points rs k past = rw (get_or-eq_default rs no_recipe past)

-- the sum of the M before chapter k, by the points before it
pub begins_points : (c : Cell) (rs : Chapters) (N k : ℕ)
    → begins (sizes_in c rs) k ≡ sum_below (points_at rs) k * ((sizes_for c N (parts_in rs)).joint * (sizes_for c N (parts_in rs)).ways)
unfolding begins sizes_in sizes_for
begins_points c rs N k =
    let block = (sizes_for c N (parts_in rs)).joint * (sizes_for c N (parts_in rs)).ways in
    sum_same (λ i. (sizes_in c rs i).positions) (λ i. points_at rs i * block) k (λ i low. omega arith)
    ∙ sum_times (points_at rs) block k

-- the greatest M, by the greatest number of points
pub greatest_points : (c : Cell) (rs : Chapters) (k : ℕ)
    → greatest_below (λ i. (sizes_in c rs i).positions) k ≡ (sizes_for c (greatest_below (points_at rs) k) (parts_in rs)).positions
unfolding sizes_in sizes_for
greatest_points c rs k =
    let J = (sizes_for c 0 (parts_in rs)).joint in
    let W = (sizes_for c 0 (parts_in rs)).ways in
    greatest_times (λ i. points_at rs i * J) W k ∙ ap (λ (n : ℕ). n * W) (greatest_times (points_at rs) J k)

module _ (rs : Chapters) (pass : (k : ℕ) → k < length rs → check_recipe (chapter_at rs k) ≡ Accepted) where
  -- "each within the old limits"
  pub points_few : (k : ℕ) → k < length rs → points_at rs k ≤ 16
  unfolding points_at
  points_few k low = points_sixteen (chapter_at rs k) (pass k low)

  -- so P is at most 8
  pub parts_few : parts_in rs ≤ 8
  unfolding parts_in
  parts_few = greatest_within (λ k. parts_of (chapter_at rs k)) (length rs) 8 (λ k low. parts_most (chapter_at rs k) (pass k low))

-- "P the greatest over all"
pub chapter_parts : (rs : Chapters) (k : ℕ) → k < length rs → parts_of (chapter_at rs k) ≤ parts_in rs
unfolding parts_in
chapter_parts rs k low = greatest_at (λ k. parts_of (chapter_at rs k)) k (length rs) low

-- what is counted of chapters that pass
pub record SmallSurvey (s : Survey) : Type 0 where
  pub most : s.most ≤ 16
  pub own : s.own ≤ 16
  pub parts : s.parts ≤ 8
  pub all : s.all ≤ 128

module _ (rs : Chapters) (wanted : ℕ) (s : Survey) (counted : Counted rs wanted s) where
  -- their numbers are small
  pub small_survey : ((k : ℕ) → k < length rs → check_recipe (chapter_at rs k) ≡ Accepted) → length rs ≤ 8 → SmallSurvey s
  small_survey pass few =
      record {
        most = rw counted.most_is (greatest_within (points_at rs) (length rs) 16 (points_few rs pass));
        own = rw counted.own_is (own (dec_lt wanted (length rs)));
        parts = rw counted.parts_is (parts_few rs pass);
        all = omega (arith, counted.all_is, sum_most (points_at rs) (length rs) 16 (points_few rs pass));
      }
    where
      own : Dec (wanted < length rs) → points_at rs wanted ≤ 16
      own (yes low) = points_few rs pass wanted low
      own (no past) = omega (arith, no_points rs wanted (omega arith))

  module _ (c : Cell) where
    -- the sizes by what is counted: those of the chapter with most points
    most_sizes : sizes_for c s.most s.parts ≡ sizes_for c (greatest_below (points_at rs) (length rs)) (parts_in rs)
    most_sizes = ap₂ (sizes_for c) counted.most_is counted.parts_is

    -- the points that are counted, times J × W, are the entries
    block : (points k : ℕ) → points ≡ sum_below (points_at rs) k
        → points * ((sizes_for c s.most s.parts).joint * (sizes_for c s.most s.parts).ways) ≡ begins (sizes_in c rs) k
    block points k is =
        ap₂ (λ (n P : ℕ). n * ((sizes_for c s.most P).joint * (sizes_for c s.most P).ways)) is counted.parts_is
        ∙ sym (begins_points c rs s.most k)

    -- of all chapters
    pub all_entries : s.all * ((sizes_for c s.most s.parts).joint * (sizes_for c s.most s.parts).ways) ≡ begins (sizes_in c rs) (length rs)
    all_entries = block s.all (length rs) counted.all_is

    -- and of those before the one that is wanted
    pub before_entries :
        wanted ≤ length rs
        → s.before * ((sizes_for c s.most s.parts).joint * (sizes_for c s.most s.parts).ways) ≡ begins (sizes_in c rs) wanted
    before_entries there = block s.before wanted (counted.before_is there)

    -- the sizes of the one that is wanted
    pub own_sizes : with_points (sizes_for c s.most s.parts) s.own ≡ sizes_in c rs wanted
    unfolding sizes_in
    own_sizes =
        with_points_lem c s.most s.parts s.own ∙ ap₂ (sizes_for c) counted.own_is counted.parts_is

    -- "the greatest for the scratch"
    pub most_positions : (sizes_for c s.most s.parts).positions ≡ greatest_below (λ k. (sizes_in c rs k).positions) (length rs)
    most_positions = ap (λ (z : Sizes). z.positions) most_sizes ∙ sym (greatest_points c rs (length rs))

    -- rule 13 on them is rule 13 on each
    pub most_rule13 : positions.rule13 (sizes_for c s.most s.parts) ≡ rule13 (sizes_in c rs) (length rs)
    unfolding positions.rule13 rule13
    most_rule13 =
        ap (λ (n : ℕ). no_line TooManyPositions (ltb 1048576 n)) most_positions
        ∙ ap (no_line TooManyPositions) (greatest_above (λ k. (sizes_in c rs k).positions) 1048576 (length rs))
