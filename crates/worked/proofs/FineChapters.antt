-- Chapters that pass the rules before 14, and what is to be lent for them. Assumes nothing.
use mathlib.Core.Path.{◌≡◌, refl, sym}
use mathlib.Core.Bool.{true}
use Prim.Native.Nat.{ℕ, ◌+◌, ◌/◌, ◌≤◌}
use native.Mathlib.Omega.{arith}
use lib.ListN.{length}
use borrow.Author.Tests.{le-ltb}
use Rattle.refusals.specs.declared.Refusal.TheVariants.{TooShort}
use Rattle.refusals.specs.Verdict.{Accepted, first_refusal}
use Rattle.refusals.specs.Search.{greatest_below}
use Rattle.refusals.proofs.Verdicts.{no_line_kept}
use Rattle.refusals.proofs.Rules.{accepts, decides, part_accepts}
use Rattle.cell.specs.declared.Cell.{Cell}
use Rattle.chapters.specs.Joined.{Chapters}
use Rattle.chapters.specs.Sizes.{sizes_in, begins}
use Rattle.chapters.specs.Rules.{record_rules, rule13, rule14, rule14_scratch}
use Rattle.chapters.specs.Checked.{AllChecked}
use Rattle.chapters.proofs.AcceptedChapters.{all_checked}
use Rattle.planner.specs.Call.{lent_rules, check_plan}

-- with so many entries and scratch bytes
pub record FineIn (c : Cell) (rs : Chapters) (entries bytes : ℕ) : Type 0 where
  pub records : first_refusal (record_rules true c rs) ≡ Accepted
  pub few : rule13 (sizes_in c rs) (length rs) ≡ Accepted
  pub all : begins (sizes_in c rs) (length rs) ≡ entries
  pub most : (greatest_below (λ k. (sizes_in c rs k).positions) (length rs) + 7) / 8 ≡ bytes

module _ (c : Cell) (rs : Chapters) (entries bytes : ℕ) (fine : FineIn c rs entries bytes) where
  -- they are checked
  pub fine_in_checked : AllChecked c rs (sizes_in c rs)
  fine_in_checked = all_checked true c rs fine.records fine.few

  -- and pass the rules before 15 with a table and a scratch of these lengths
  pub fine_in_passes : (table scratch : ℕ) → entries ≤ table → bytes ≤ scratch → check_plan c rs table scratch ≡ Accepted
  unfolding check_plan lent_rules rule14 rule14_scratch
  fine_in_passes table scratch long wide =
      sym
      (part_accepts (record_rules true c rs) (lent_rules (sizes_in c rs) (length rs) table scratch) refl fine.records
      (accepts _ refl fine.few
      (accepts _ refl (no_line_kept TooShort _ (le-ltb table (begins (sizes_in c rs) (length rs)) (omega (arith, fine.all))))
      (decides (sym (no_line_kept TooShort _ (le-ltb scratch _ (omega (arith, fine.most)))))))))
