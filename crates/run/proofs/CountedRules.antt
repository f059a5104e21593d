-- The rules from 13 to 16 by what was counted of the chapters, and the place of an entry. Assumes nothing.
use mathlib.Core.Path.{◌≡◌, refl, sym, ap, ap₂, subst, ◌∙◌}
use mathlib.Core.Bool.{Bool, true, false, not}
use mathlib.Core.List.{[], ◌∷◌}
use Prim.Native.Nat.{ℕ, ◌+◌, ◌*◌, ◌<◌, ◌≤◌}
use native.Mathlib.Nat.{mul-le-mul}
use native.Mathlib.Decide.{dec_lt}
use native.Mathlib.Omega.{arith}
use lib.ListN.{length}
use lib.Dec.{ltb}
use borrow.Author.Tests.{lt-ltb, le-ltb}
use Rattle.std.specs.Prelude.{Result, Ok}
use Rattle.refusals.specs.declared.Broken.{Broken}
use Rattle.refusals.specs.Verdict.{Verdict, Accepted, first_refusal, no_line}
use Rattle.refusals.specs.declared.Refusal.TheVariants.{TooShort, RunRange}
use Rattle.refusals.proofs.Rules.{first_accepts, rest_accepts}
use Rattle.cell.specs.declared.Cell.{Cell}
use Rattle.cell.specs.Rules.{check_cell}
use Rattle.positions.specs.declared.Configuration.{Configuration}
use Rattle.positions.specs.declared.Sizes.{Sizes}
use Rattle.positions.specs.Sizes.{sizes_for, with_points, Fitting}
use Rattle.positions.specs.Position.{position_of}
use Rattle.positions.specs.Rules as alone
use Rattle.positions.specs.Rules.{is_position, state_fits, place_fits}
use Rattle.positions.proofs.StatePlaceNumbers.{joint_most, ways_most}
use Rattle.chapters.specs.declared.Survey.{Survey}
use Rattle.chapters.specs.Joined.{Chapters, Point}
use Rattle.chapters.specs.Sizes.{sizes_in, begins, position_in}
use Rattle.chapters.specs.Rules.{rule13, rule14, is_position_in, rule16}
use Rattle.chapters.specs.Survey.{Counted, Tried}
use Rattle.chapters.proofs.ChapterSizes.{SmallSurvey, small_survey, no_points, all_entries, before_entries, own_sizes, most_rule13, position_inside}
use Rattle.chapters.proofs.ChapterSizes.{few_entries}
use Rattle.chapters.proofs.AcceptedChapters.{records_accepted}
use Rattle.run.specs.declared.Run.{Run}
use Rattle.run.specs.Calls.{point_of, run_rules, table_rules}
use Rattle.run.specs.Inner.{run_rules_by, table_rules_by}
use Rattle.run.proofs.AcceptedRun.{InPlace, in_place, table_long}

-- a chapter that isn't there has no points, so that no point of it is in range
pub position_there : (c : Cell) (rs : Chapters) (p : Point) (a : Configuration)
    → is_position (sizes_in c rs p.chapter) p.point a ≡ is_position_in (sizes_in c rs) (length rs) p a
unfolding is_position_in is_position state_fits place_fits sizes_in sizes_for
position_there c rs p a = decide (dec_lt p.chapter (length rs))
  where
    decide :
        Dec (p.chapter < length rs)
        → is_position (sizes_in c rs p.chapter) p.point a ≡ is_position_in (sizes_in c rs) (length rs) p a
    decide (yes low) = rw (lt-ltb p.chapter (length rs) low)
    decide (no past) =
        let high : length rs ≤ p.chapter = omega arith in
        let none : 0 ≤ p.point = omega arith in
        rw (le-ltb p.chapter (length rs) high, no_points rs p.chapter high, le-ltb p.point 0 none)

-- where the rules on the chapters accept, sizes may be measured by what was counted
module _ (c : Cell) (rs : Chapters) (wanted : ℕ) {r : Result Survey Broken} {s : Survey} (was : r ≡ Ok s) (tried : Tried false c rs wanted r) where
  told : Tried false c rs wanted (Ok s)
  told = rw was at tried

  pub cell_passed : check_cell c ≡ Accepted
  cell_passed = (records_accepted false c rs told.0).cell_passes

  few : length rs ≤ 8
  few = (records_accepted false c rs told.0).most

  small : SmallSurvey s
  small =
      let R = records_accepted false c rs told.0 in
      small_survey rs wanted s told.1 R.recipes_pass R.most

  pub most_few : s.most ≤ 16
  most_few = small.most

  pub own_few : s.own ≤ 16
  own_few = small.own

  pub parts_few : s.parts ≤ 8
  parts_few = small.parts

-- the sizes that were: of the chapter with most points, and of the run's
pub record Measured (c : Cell) (rs : Chapters) (run : Run) (s : Survey) (most own : Sizes) : Type 0 where
  pub tried : Tried false c rs run.chapter (Ok s)
  pub most_is : most ≡ sizes_for c s.most s.parts
  pub most_fits : Fitting most
  pub own_is : own ≡ with_points most s.own

pub measured : (c : Cell) (rs : Chapters) (run : Run) {r : Result Survey Broken} {s : Survey} {most own : Sizes}
    → r ≡ Ok s
    → Tried false c rs run.chapter r
    → (most ≡ sizes_for c s.most s.parts) × Fitting most
    → own ≡ with_points most s.own
    → Measured c rs run s most own
measured c rs run was tried most own =
    record { tried = rw was at tried; most_is = most.0; most_fits = most.1; own_is = own }

module _ (c : Cell) (rs : Chapters) (run : Run) (s : Survey) (most own : Sizes) (M : Measured c rs run s most own) where
  counts : Counted rs run.chapter s
  counts = M.tried.1

  own_here : own ≡ sizes_in c rs run.chapter
  own_here = M.own_is ∙ ap (λ (z : Sizes). with_points z s.own) M.most_is ∙ own_sizes rs run.chapter s counts c

  thirteen : alone.rule13 most ≡ rule13 (sizes_in c rs) (length rs)
  thirteen = ap alone.rule13 M.most_is ∙ most_rule13 rs run.chapter s counts c

  sixteen : alone.rule16 own run.point run.configuration ≡ rule16 (sizes_in c rs) (length rs) (point_of run) run.configuration
  unfolding alone.rule16 rule16
  sixteen =
      ap (λ (z : Sizes). no_line RunRange (not (is_position z run.point run.configuration))) own_here
      ∙ ap (λ (b : Bool). no_line RunRange (not b)) (position_there c rs (point_of run) run.configuration)

  pub run_rules_lem : first_refusal (run_rules_by most own run) ≡ first_refusal (run_rules (sizes_in c rs) (length rs) run)
  unfolding run_rules_by run_rules
  run_rules_lem = ap₂ (λ (v w : Verdict). first_refusal (v ∷ w ∷ [])) thirteen sixteen

  -- points times J × W are entries
  entries_of : (points m : ℕ) → points * ((sizes_for c s.most s.parts).joint * (sizes_for c s.most s.parts).ways) ≡ m
      → points * (most.joint * most.ways) ≡ m
  entries_of points m e = ap (λ (z : Sizes). points * (z.joint * z.ways)) M.most_is ∙ e

  needed_is : s.all * (most.joint * most.ways) ≡ begins (sizes_in c rs) (length rs)
  needed_is = entries_of s.all _ (all_entries rs run.chapter s counts c)

  pub table_rules_lem : (entries : ℕ)
      → first_refusal (table_rules_by most own (s.all * (most.joint * most.ways)) entries run)
      ≡ first_refusal (table_rules (sizes_in c rs) (length rs) entries run)
  unfolding table_rules_by table_rules rule14
  table_rules_lem entries =
      ap (λ (n : ℕ). first_refusal (table_rules_by most own n entries run)) needed_is
      ∙ ap₂ (λ (v w : Verdict). first_refusal (v ∷ no_line TooShort (ltb entries (begins (sizes_in c rs) (length rs))) ∷ w ∷ [])) thirteen sixteen

  -- none of these products is too large for a machine number
  wide_most : most.joint * most.ways ≤ 262144 * 5764801
  wide_most = mul-le-mul (joint_most most M.most_fits) (ways_most most M.most_fits)

  pub wide_small : most.joint * most.ways < 18446744073709551616
  wide_small = omega (arith, wide_most)

  pub needed_small : s.all * (most.joint * most.ways) < 18446744073709551616
  needed_small = omega (arith, mul-le-mul (small c rs run.chapter refl M.tried).all wide_most)

  -- where these rules accept, the run's position lies in the table
  module _ (entries : ℕ) (passed : first_refusal (table_rules (sizes_in c rs) (length rs) entries run) ≡ Accepted) where
    long : begins (sizes_in c rs) (length rs) ≤ entries
    unfolding table_rules
    long = table_long _ _ _ (first_accepts _ _ (rest_accepts _ _ passed))

    placed : InPlace (sizes_in c rs) (length rs) (point_of run) run.configuration
    unfolding table_rules
    placed = in_place _ _ _ _ (first_accepts _ _ (rest_accepts _ _ (rest_accepts _ _ passed)))

    pub own_position : is_position own run.point run.configuration ≡ true
    own_position = subst (λ (z : Sizes). is_position z run.point run.configuration ≡ true) (sym own_here) placed.position

    module _ (n : ℕ) (n-is : n ≡ position_of own run.point run.configuration) (inside : n < own.positions) where
      before_is : s.before * (most.joint * most.ways) ≡ begins (sizes_in c rs) run.chapter
      before_is = let there = placed.there in entries_of s.before _ (before_entries rs run.chapter s counts c (omega arith))

      pub entry_place : s.before * (most.joint * most.ways) + n ≡ position_in (sizes_in c rs) (point_of run) run.configuration
      unfolding position_in
      entry_place = ap₂ ◌+◌ before_is (n-is ∙ ap (λ (z : Sizes). position_of z run.point run.configuration) own_here)

      inside_all : s.before * (most.joint * most.ways) + n < begins (sizes_in c rs) (length rs)
      inside_all =
          let low : n < (sizes_in c rs run.chapter).positions = subst (λ (z : Sizes). n < z.positions) own_here inside in
          omega (arith, before_is, position_inside (sizes_in c rs) run.chapter (length rs) n placed.there low)

      pub entry_inside : s.before * (most.joint * most.ways) + n < entries
      entry_inside = omega (arith, inside_all, long)

      -- nor are these sums and products too large
      most_entries : begins (sizes_in c rs) (length rs) ≤ 8388608
      unfolding table_rules
      most_entries = few_entries (sizes_in c rs) (length rs) (first_accepts _ _ passed) (few c rs run.chapter refl M.tried)

      pub before_small : s.before * (most.joint * most.ways) < 18446744073709551616
      before_small = omega (arith, inside_all, most_entries)

      pub place_small : s.before * (most.joint * most.ways) + n < 18446744073709551616
      place_small = omega (arith, inside_all, most_entries)

      pub bytes_small : (s.before * (most.joint * most.ways) + n) * 4 < 18446744073709551616
      bytes_small = omega (arith, inside_all, most_entries)
