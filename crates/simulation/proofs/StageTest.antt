-- A stage for each position, and the test of a list of stages that the checker computes: at a position of a stage above 0 no
-- silent move raises the stage or ends it, and every carry has an outcome that lowers it. For recipes of one line to a point.
-- Assumes nothing.
use mathlib.Core.Path.{◌≡◌, sym, ap, ◌∙◌}
use mathlib.Core.Logic.{◌⊎◌, inl, inr, ⊎_elim}
use mathlib.Core.Bool.{Bool, true, not, ◌&&◌, ◌||◌, true≢false}
use mathlib.Core.List.{List}
use Prim.Native.Nat.{ℕ, ◌+◌, ◌*◌, ◌<◌}
use native.Mathlib.Omega.{arith}
use lib.ListN.{get_or}
use lib.Dec.{eqb, ltb, leb}
use borrow.Author.Tests.{eqb-true, eqb-false, not-true}
use Rattle.refusals.specs.Search.{all_below}
use Rattle.refusals.proofs.EveryBelow.{all_at}
use Rattle.refusals.proofs.Verdicts.{and_left, and_right, or_cases}
use Rattle.cell.specs.declared.Cell.{Cell}
use Rattle.recipe.specs.declared.Recipe.{Recipe}
use Rattle.positions.specs.declared.Configuration.{Configuration}
use Rattle.positions.specs.declared.Sizes.{Sizes}
use Rattle.positions.specs.Checked.{Checked}
use Rattle.positions.specs.Position.{position_of, point_at, configuration_at}
use Rattle.positions.proofs.CheckedSizes.{checked_fits}
use Rattle.steps.specs.Lines.{lines_of, kind_of, then_of, else_of}
use Rattle.steps.specs.Limits.{none_overfull}
use Rattle.steps.specs.Entry.{entry_kind, letter, is_formed}
use Rattle.steps.specs.Effect.{Effect, shut, silent, carried, ended, effect}
use Rattle.steps.proofs.Effects.{read_silent, read_carried, formed_kind}
use Rattle.steps.proofs.EntryForms.{carry_entry, formed_internal, formed_transfer, formed_carry}
use Rattle.simulation.specs.Simulation.{Position}
use Rattle.simulation.proofs.NumberedPositions.{by_number}

unfoldable pub stage_of : Sizes → List ℕ → ℕ → Configuration → ℕ
stage_of z stages p a = get_or stages (position_of z p a) 0

-- a stage above 0 and at most, or below, another
unfoldable pub no_more : ℕ → ℕ → Bool
no_more s t = ltb 0 s && leb s t

unfoldable pub lower : ℕ → ℕ → Bool
lower s t = ltb 0 s && ltb s t

-- what a move does keeps a stage: a silent one does not raise it, a carry lowers it at outcome 1 or, at a test, at outcome 0
unfoldable pub keeps_stage : Recipe → Sizes → List ℕ → ℕ → Configuration → Effect Configuration → Bool
keeps_stage r z stages p a shut = true
keeps_stage r z stages p a (silent b) = no_more (stage_of z stages p b) (stage_of z stages p a)
keeps_stage r z stages p a (carried b d) =
    lower (stage_of z stages (then_of r p) b) (stage_of z stages p a)
    || (eqb (kind_of r p) 2 && lower (stage_of z stages (else_of r p) d) (stage_of z stages p a))
keeps_stage r z stages p a ended = true

unfoldable pub stays_staged : Cell → Recipe → Sizes → List ℕ → ℕ → Configuration → ℕ → Bool
stays_staged c r z stages p a e = keeps_stage r z stages p a (effect c r p a e)

-- all single moves at a position of a point of one line
unfoldable pub moves_staged : Cell → Recipe → Sizes → List ℕ → ℕ → Configuration → Bool
moves_staged c r z stages p a =
    all_below (λ l. stays_staged c r z stages p a (16777216 + l)) c.count
    && (all_below (λ l. all_below (λ m. stays_staged c r z stages p a (33554432 + l + 64 * m)) c.count) c.count
    && all_below (λ l. stays_staged c r z stages p a (carry_entry c r p l)) c.count)

unfoldable pub position_staged : Cell → Recipe → Sizes → List ℕ → ℕ → Configuration → Bool
position_staged c r z stages p a =
    eqb (stage_of z stages p a) 0
    || (not (none_overfull c a) || (not (eqb (kind_of r p) 0) && (eqb (lines_of r p) 1 && moves_staged c r z stages p a)))

-- the whole list
unfoldable pub are_stages : Cell → Recipe → Sizes → List ℕ → Bool
are_stages c r z stages =
    all_below (λ m. position_staged c r z stages (point_at z m) (configuration_at z m)) z.positions

-- what the test shows of a position of a stage above 0 without an overfull station
pub record Staged (c : Cell) (r : Recipe) (z : Sizes) (stages : List ℕ) (p : ℕ) (a : Configuration) : Type 0 where
  pub going : kind_of r p ≡ 0 → ⊥
  pub quiet :
      (e : ℕ) (b : Configuration)
      → effect c r p a e ≡ silent b
      → no_more (stage_of z stages p b) (stage_of z stages p a) ≡ true
  pub carry :
      (e : ℕ) (b d : Configuration)
      → effect c r p a e ≡ carried b d
      → (lower (stage_of z stages (then_of r p) b) (stage_of z stages p a) ≡ true)
      ⊎ ((kind_of r p ≡ 2) × (lower (stage_of z stages (else_of r p) d) (stage_of z stages p a) ≡ true))

module _ (c : Cell) (r : Recipe) (z : Sizes) (stages : List ℕ) (p : ℕ) (a : Configuration) where
  -- an entry in the stated form is among those that are tested
  form_tested : moves_staged c r z stages p a ≡ true → lines_of r p ≡ 1 → (e : ℕ) → is_formed c r p e ≡ true
      → stays_staged c r z stages p a e ≡ true
  unfolding moves_staged
  form_tested moves one e formed = ⊎_elim internal_test (⊎_elim transfer_test carry_test) (formed_kind c r p e formed)
    where
      internal_test : entry_kind e ≡ 1 → stays_staged c r z stages p a e ≡ true
      internal_test kind =
          let at = formed_internal c r p e formed kind in
          rw at.1 (all_at (λ l. stays_staged c r z stages p a (16777216 + l)) c.count (letter e 0) (search and_left) at.0)

      transfer_test : entry_kind e ≡ 2 → stays_staged c r z stages p a e ≡ true
      transfer_test kind =
          let at = formed_transfer c r p e formed kind in
          rw at.2
          (all_at (λ m. stays_staged c r z stages p a (33554432 + letter e 0 + 64 * m)) c.count (letter e 1)
          (all_at (λ l. all_below (λ m. stays_staged c r z stages p a (33554432 + l + 64 * m)) c.count) c.count
          (letter e 0) (search (and_left, and_right)) at.0)
          at.1)

      carry_test : entry_kind e ≡ 3 → stays_staged c r z stages p a e ≡ true
      carry_test kind =
          let at = formed_carry c r p e formed one kind in
          rw at.1
          (all_at (λ l. stays_staged c r z stages p a (carry_entry c r p l)) c.count (letter e 0) (search (and_left, and_right)) at.0)

  tested : position_staged c r z stages p a ≡ true → none_overfull c a ≡ true → 0 < stage_of z stages p a → Staged c r z stages p a
  unfolding position_staged stays_staged keeps_stage
  tested good fit high =
      let most : (not (eqb (kind_of r p) 0) && (eqb (lines_of r p) 1 && moves_staged c r z stages p a)) ≡ true =
      ⊎_elim
      (λ (e : eqb (stage_of z stages p a) 0 ≡ true). absurd (none (eqb-true _ 0 e)))
      (λ h. ⊎_elim (λ full. absurd (true≢false (sym fit ∙ not-true _ full))) (λ g. g) (or_cases (not (none_overfull c a)) _ h))
      (or_cases (eqb (stage_of z stages p a) 0) _ good) in
      let some : kind_of r p ≡ 0 → ⊥ = eqb-false _ 0 (not-true _ (and_left _ _ most)) in
      let one : lines_of r p ≡ 1 = eqb-true _ 1 (search (and_left, and_right)) in
      let moves : moves_staged c r z stages p a ≡ true = search (and_left, and_right) in
      record {
        going = some;
        quiet = λ e b is. ap (keeps_stage r z stages p a) (sym is) ∙ form_tested moves one e (read_silent c r p a e is).formed;
        carry =
            λ e b d is. carry_cases b d
            (ap (keeps_stage r z stages p a) (sym is) ∙ form_tested moves one e (read_carried c r p a e is).formed);
      }
    where
      none : stage_of z stages p a ≡ 0 → ⊥
      none z = omega arith

      carry_cases :
          (b d : Configuration)
          → (lower (stage_of z stages (then_of r p) b) (stage_of z stages p a)
          || (eqb (kind_of r p) 2 && lower (stage_of z stages (else_of r p) d) (stage_of z stages p a)))
          ≡ true
          → (lower (stage_of z stages (then_of r p) b) (stage_of z stages p a) ≡ true)
          ⊎ ((kind_of r p ≡ 2) × (lower (stage_of z stages (else_of r p) d) (stage_of z stages p a) ≡ true))
      carry_cases b d h =
          ⊎_elim
          (λ t. inl t)
          (λ (t : (eqb (kind_of r p) 2 && lower (stage_of z stages (else_of r p) d) (stage_of z stages p a)) ≡ true).
          inr (eqb-true (kind_of r p) 2 (search and_left), search and_right))
          (or_cases (lower (stage_of z stages (then_of r p) b) (stage_of z stages p a))
          (eqb (kind_of r p) 2 && lower (stage_of z stages (else_of r p) d) (stage_of z stages p a)) h)

-- a list of stages that passes the test
pub stages_hold :
    (c : Cell) (r : Recipe) (z : Sizes) (stages : List ℕ)
    → Checked c r z
    → are_stages c r z stages ≡ true
    → (p : ℕ) (a : Configuration)
    → Position z p a
    → none_overfull c a ≡ true
    → 0 < stage_of z stages p a
    → Staged c r z stages p a
unfolding are_stages
stages_hold c r z stages K good p a valid fit high =
    tested c r z stages p a
    (by_number z (checked_fits c r z K) (λ q b. position_staged c r z stages q b ≡ true)
    (λ m low. all_at (λ n. position_staged c r z stages (point_at z n) (configuration_at z n)) z.positions m good low)
    p
    a
    valid)
    fit
    high
