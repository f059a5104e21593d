-- A test of every entry that has the stated form at a point of one line, and at one of one line or of two. Assumes nothing.
use mathlib.Core.Path.{◌≡◌}
use mathlib.Core.Logic.{⊎_elim}
use mathlib.Core.Bool.{Bool, true, cond, ◌&&◌, ◌||◌}
use Prim.Native.Nat.{ℕ, ◌+◌, ◌*◌, ◌<◌}
use native.Mathlib.Omega.{arith}
use lib.Dec.{eqb}
use borrow.Author.Tests.{eqb-true, eq-eqb, ne_eqb}
use Rattle.refusals.specs.Search.{all_below}
use Rattle.refusals.proofs.EveryBelow.{all_at}
use Rattle.refusals.proofs.Verdicts.{and_left, and_right, or_cases}
use Rattle.cell.specs.declared.Cell.{Cell}
use Rattle.recipe.specs.declared.Recipe.{Recipe}
use Rattle.steps.specs.Lines.{lines_of}
use Rattle.steps.specs.Entry.{entry_kind, letter, is_formed}
use Rattle.steps.proofs.Effects.{formed_kind}
use Rattle.steps.proofs.EntryForms.{carry_entry, formed_internal, formed_transfer, formed_carry, formed_pair}

-- a test of two lines of the cell, by the numbers that they make with a kind
unfoldable pub pairs_pass : Cell → ℕ → (ℕ → Bool) → Bool
pairs_pass c kind test = all_below (λ l. all_below (λ m. test (kind + l + 64 * m)) c.count) c.count

-- internal work, transfers and carries, by the cell's lines
unfoldable pub formed_pass : Cell → Recipe → ℕ → (ℕ → Bool) → Bool
formed_pass c r p test =
    all_below (λ l. test (16777216 + l)) c.count
    && (all_below (λ l. all_below (λ m. test (33554432 + l + 64 * m)) c.count) c.count
    && all_below (λ l. test (carry_entry c r p l)) c.count)

-- the same at a point of one line or of two
unfoldable pub few_formed_pass : Cell → Recipe → ℕ → (ℕ → Bool) → Bool
few_formed_pass c r p test =
    (eqb (lines_of r p) 1 || eqb (lines_of r p) 2)
    && (all_below (λ l. test (16777216 + l)) c.count
    && (pairs_pass c 33554432 test
    && cond (eqb (lines_of r p) 1) (all_below (λ l. test (carry_entry c r p l)) c.count) (pairs_pass c 50331648 test)))

pair_passes : (c : Cell) (kind : ℕ) (test : ℕ → Bool) → pairs_pass c kind test ≡ true
    → (l m : ℕ) → l < c.count → m < c.count → test (kind + l + 64 * m) ≡ true
unfolding pairs_pass
pair_passes c kind test all l m low less =
    all_at (λ m. test (kind + l + 64 * m)) c.count m
    (all_at (λ l. all_below (λ m. test (kind + l + 64 * m)) c.count) c.count l all low) less

module _ (c : Cell) (r : Recipe) (p : ℕ) (test : ℕ → Bool) (all : few_formed_pass c r p test ≡ true) where
  -- what is tested, part by part
  record Parts : Type 0 where
    few : (eqb (lines_of r p) 1 || eqb (lines_of r p) 2) ≡ true
    works : all_below (λ l. test (16777216 + l)) c.count ≡ true
    transfers : pairs_pass c 33554432 test ≡ true
    carries : cond (eqb (lines_of r p) 1) (all_below (λ l. test (carry_entry c r p l)) c.count) (pairs_pass c 50331648 test) ≡ true

  parts : Parts
  unfolding few_formed_pass
  parts =
      record {
        few = search and_left;
        works = search (and_left, and_right);
        transfers = search (and_left, and_right);
        carries = search (and_left, and_right);
      }

  module _ (e : ℕ) (formed : is_formed c r p e ≡ true) where
    internal : entry_kind e ≡ 1 → test e ≡ true
    internal kind =
        let at = formed_internal c r p e formed kind in
        rw at.1 (all_at (λ l. test (16777216 + l)) c.count (letter e 0) parts.works at.0)

    transfer : entry_kind e ≡ 2 → test e ≡ true
    transfer kind =
        let at = formed_transfer c r p e formed kind in
        rw at.2 (pair_passes c 33554432 test parts.transfers (letter e 0) (letter e 1) at.0 at.1)

    carry : entry_kind e ≡ 3 → test e ≡ true
    carry kind = ⊎_elim of_one of_two (or_cases (eqb (lines_of r p) 1) _ parts.few)
      where
        of_one : eqb (lines_of r p) 1 ≡ true → test e ≡ true
        of_one one =
            let at = formed_carry c r p e formed (eqb-true _ 1 one) kind in
            let tested : all_below (λ l. test (carry_entry c r p l)) c.count ≡ true = rw one at parts.carries in
            rw at.1 (all_at (λ l. test (carry_entry c r p l)) c.count (letter e 0) tested at.0)

        of_two : eqb (lines_of r p) 2 ≡ true → test e ≡ true
        of_two two =
            let both : lines_of r p ≡ 2 = eqb-true _ 2 two in
            let other : lines_of r p ≡ 1 → ⊥ = λ (one : lines_of r p ≡ 1). omega arith in
            let at = formed_pair c r p e formed both kind in
            let tested : pairs_pass c 50331648 test ≡ true = rw (ne_eqb (lines_of r p) 1 other) at parts.carries in
            rw at.2 (pair_passes c 50331648 test tested (letter e 0) (letter e 1) at.0 at.1)

    pub few_formed_passes : test e ≡ true
    few_formed_passes = ⊎_elim internal (⊎_elim transfer carry) (formed_kind c r p e formed)

module _ (c : Cell) (r : Recipe) (p : ℕ) (test : ℕ → Bool) where
  -- at a point of one line both tests are one
  pub formed_few : lines_of r p ≡ 1 → formed_pass c r p test ≡ true → few_formed_pass c r p test ≡ true
  unfolding formed_pass few_formed_pass pairs_pass
  formed_few one all = rw (eq-eqb (lines_of r p) 1 one) all

  pub formed_passes : formed_pass c r p test ≡ true → lines_of r p ≡ 1 → (e : ℕ) → is_formed c r p e ≡ true → test e ≡ true
  formed_passes all one e formed = few_formed_passes c r p test (formed_few one all) e formed
