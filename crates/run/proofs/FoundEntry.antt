-- The entry at a run's position, by what was counted of the chapters: the rule at which the search for it stops, and that its place lies
-- in the table. Assumes nothing.
use mathlib.Core.Path.{◌≡◌, sym, ap, ◌∙◌}
use mathlib.Core.Bool.{true, false}
use mathlib.Core.List.{List}
use Prim.Native.Nat.{ℕ, ◌+◌, ◌*◌, ◌<◌}
use lib.ListN.{length, get_or}
use Rattle.std.specs.Prelude.{Result, Ok, Err}
use Rattle.refusals.specs.declared.Broken.{Broken}
use Rattle.refusals.specs.Verdict.{Verdict, Accepted, first_refusal}
use Rattle.refusals.proofs.Rules.{part_err, part_ok, found_err, found_ok}
use Rattle.cell.specs.declared.Cell.{Cell}
use Rattle.positions.specs.declared.Sizes.{Sizes}
use Rattle.positions.specs.Sizes.{sizes_for, with_points, Fitting}
use Rattle.positions.specs.Position.{position_of}
use Rattle.positions.specs.Rules.{is_position}
use Rattle.chapters.specs.declared.Survey.{Survey}
use Rattle.chapters.specs.Joined.{Chapters}
use Rattle.chapters.specs.Sizes.{sizes_in, entry_in}
use Rattle.chapters.specs.Rules.{record_rules}
use Rattle.chapters.specs.Survey.{Tried}
use Rattle.run.specs.declared.Run.{Run}
use Rattle.run.specs.Calls.{table_rules, entry_rules}
use Rattle.run.specs.Inner.{table_rules_by, find_entry}
use Rattle.run.proofs.CountedRules.{Measured, measured, table_rules_lem, own_position, entry_place}
use Rattle.run.proofs.CountedRules as counted

module _ (c : Cell) (rs : Chapters) (run : Run) (table : List ℕ) where
  module _ {e : Broken} (tried : Tried false c rs run.chapter (Err e)) where
    refused_entry : Err e ≡ find_entry c rs table run
    unfolding find_entry entry_rules
    refused_entry = sym (found_err _ _ (part_err (record_rules false c rs) _ tried))

  pub find_early : {e : Broken} {r : Result Survey Broken} → r ≡ Err e → Tried false c rs run.chapter r → Err e ≡ find_entry c rs table run
  find_early was tried = refused_entry (rw was at tried)

module _ (c : Cell) (rs : Chapters) (run : Run) {r : Result Survey Broken} {s : Survey} (was : r ≡ Ok s) (tried : Tried false c rs run.chapter r)
    {most own : Sizes} (most_is : (most ≡ sizes_for c s.most s.parts) × Fitting most) (own_is : own ≡ with_points most s.own) where
  M : Measured c rs run s most own
  M = measured c rs run was tried most_is own_is

  pub wide_small : most.joint * most.ways < 18446744073709551616
  wide_small = counted.wide_small c rs run s most own M

  pub needed_small : s.all * (most.joint * most.ways) < 18446744073709551616
  needed_small = counted.needed_small c rs run s most own M

  module _ (table : List ℕ) {v : Verdict}
      (judged : v ≡ first_refusal (table_rules_by most own (s.all * (most.joint * most.ways)) (length table) run)) where
    rules_are : v ≡ first_refusal (table_rules (sizes_in c rs) (length rs) (length table) run)
    rules_are = judged ∙ table_rules_lem c rs run s most own M (length table)

    verdict_is : first_refusal (entry_rules c rs table run) ≡ v
    unfolding entry_rules
    verdict_is = part_ok (record_rules false c rs) _ M.tried.0 ∙ sym rules_are

    pub find_refused : {e : Broken} → v ≡ Err e → Err e ≡ find_entry c rs table run
    unfolding find_entry
    find_refused told = sym (found_err _ _ (verdict_is ∙ told))

    module _ (told : v ≡ Accepted) where
      passed : first_refusal (table_rules (sizes_in c rs) (length rs) (length table) run) ≡ Accepted
      passed = sym rules_are ∙ told

      pub find_position : is_position own run.point run.configuration ≡ true
      find_position = own_position c rs run s most own M (length table) passed

      module _ {n : ℕ} (n_is : (n ≡ position_of own run.point run.configuration) × (n < own.positions)) where
        pub before_small : s.before * (most.joint * most.ways) < 18446744073709551616
        before_small = counted.before_small c rs run s most own M (length table) passed n n_is.0 n_is.1

        pub place_small : s.before * (most.joint * most.ways) + n < 18446744073709551616
        place_small = counted.place_small c rs run s most own M (length table) passed n n_is.0 n_is.1

        pub bytes_small : (s.before * (most.joint * most.ways) + n) * 4 < 18446744073709551616
        bytes_small = counted.bytes_small c rs run s most own M (length table) passed n n_is.0 n_is.1

        pub entry_inside : s.before * (most.joint * most.ways) + n < length table
        entry_inside = counted.entry_inside c rs run s most own M (length table) passed n n_is.0 n_is.1

        pub find_found : Ok (get_or table (s.before * (most.joint * most.ways) + n) 0) ≡ find_entry c rs table run
        unfolding find_entry entry_in
        find_found =
            ap (λ (i : ℕ). Ok (get_or table i 0)) (entry_place c rs run s most own M (length table) passed n n_is.0 n_is.1)
            ∙ sym (found_ok _ _ (verdict_is ∙ told))

-- what the search for an entry needs at its steps
pub ruleset found = (find_early, needed_small, find_refused, find_position, before_small, place_small, bytes_small, entry_inside, find_found)
