-- The test of a chapter's table with ranks that the checker computes: a table that passes it is closed.
-- Assumes nothing.
use mathlib.Core.Path.{◌≡◌, refl, sym}
use mathlib.Core.Bool.{Bool, true, false, cond, not, ◌&&◌, ◌||◌, true≢false}
use mathlib.Core.List.{List}
use Prim.Native.Nat.{ℕ, ◌*◌, ◌<◌}
use lib.ListN.{get_or}
use lib.Dec.{eqb, ltb}
use borrow.Author.Tests.{eqb-false, ne_eqb, ltb-true, not-true}
use Rattle.refusals.specs.Search.{all_below}
use Rattle.refusals.proofs.EveryBelow.{all_at}
use Rattle.refusals.proofs.Verdicts.{and_left, and_right}
use Rattle.cell.specs.declared.Cell.{Cell}
use Rattle.recipe.specs.declared.Recipe.{Recipe}
use Rattle.positions.specs.declared.Configuration.{Configuration}
use Rattle.positions.specs.declared.Sizes.{Sizes}
use Rattle.positions.specs.Checked.{Checked}
use Rattle.positions.specs.Position.{position_of, point_at, configuration_at, entry_of}
use Rattle.positions.proofs.CheckedSizes.{checked_fits}
use Rattle.steps.specs.Limits.{none_overfull}
use Rattle.steps.specs.Effect.{Effect, shut, silent, carried, ended, effect, is_move, opens, leads_to}
use Rattle.steps.proofs.Effects.{is_open_lem}
use Rattle.simulation.specs.Simulation.{Position}
use Rattle.simulation.proofs.NumberedPositions.{by_number}
use Rattle.simulation.proofs.ClosedChapter.{ClosedChapter}

unfoldable pub rank_of : Sizes → List ℕ → ℕ → Configuration → ℕ
rank_of z ranks p a = get_or ranks (position_of z p a) 0

-- the position has an entry
unfoldable pub has_entry : Sizes → List ℕ → ℕ → Configuration → Bool
has_entry z table p a = not (eqb (entry_of z table p a) 0)

-- what the entry e does leads to entries, and a silent one to a lower rank
unfoldable pub leads_on : Recipe → Sizes → List ℕ → List ℕ → ℕ → Configuration → ℕ → Effect Configuration → Bool
leads_on r z table ranks p a e shut = false
leads_on r z table ranks p a e (silent b) = has_entry z table p b && ltb (rank_of z ranks p b) (rank_of z ranks p a)
leads_on r z table ranks p a e (carried b d) = has_entry z table (leads_to r p e 1) b && has_entry z table (leads_to r p e 0) d
leads_on r z table ranks p a e ended = true

unfoldable pub closed_at : Cell → Recipe → Sizes → List ℕ → List ℕ → ℕ → Configuration → Bool
closed_at c r z table ranks p a =
    let e = entry_of z table p a in
    eqb e 0 || (none_overfull c a && (ltb (rank_of z ranks p a) (z.joint * z.ways) && leads_on r z table ranks p a e (effect c r p a e)))

-- the whole table
unfoldable pub is_closed : Cell → Recipe → Sizes → List ℕ → List ℕ → Bool
is_closed c r z table ranks =
    all_below (λ m. closed_at c r z table ranks (point_at z m) (configuration_at z m)) z.positions

-- what the test shows of a position that has an entry
record Closes (c : Cell) (r : Recipe) (z : Sizes) (table ranks : List ℕ) (p : ℕ) (a : Configuration) : Type 0 where
  room : none_overfull c a ≡ true
  ranked : rank_of z ranks p a < z.joint * z.ways
  on : leads_on r z table ranks p a (entry_of z table p a) (effect c r p a (entry_of z table p a)) ≡ true

second : (x y : Bool) → (x || y) ≡ true → x ≡ false → y ≡ true
second true y e f = cc
second false y e f = e

entry_there : (z : Sizes) (table : List ℕ) (p : ℕ) (a : Configuration) → has_entry z table p a ≡ true → entry_of z table p a ≡ 0 → ⊥
unfolding has_entry
entry_there z table p a there = eqb-false _ 0 (not-true _ there)

module _
    (c : Cell) (r : Recipe) (z : Sizes) (table ranks : List ℕ)
    (K : Checked c r z)
    (good : is_closed c r z table ranks ≡ true)
  where
    closed_everywhere : (p : ℕ) (a : Configuration) → Position z p a → closed_at c r z table ranks p a ≡ true
    unfolding is_closed
    closed_everywhere =
        by_number z (checked_fits c r z K) (λ p a. closed_at c r z table ranks p a ≡ true)
        (λ m low. all_at (λ n. closed_at c r z table ranks (point_at z n) (configuration_at z n)) z.positions m good low)

    closes : (p : ℕ) (a : Configuration) → Position z p a → (entry_of z table p a ≡ 0 → ⊥) → Closes c r z table ranks p a
    unfolding closed_at
    closes p a valid some =
        let e : ℕ = entry_of z table p a in
        let all : (none_overfull c a && (ltb (rank_of z ranks p a) (z.joint * z.ways) && leads_on r z table ranks p a e (effect c r p a e))) ≡ true =
        second (eqb e 0) _ (closed_everywhere p a valid) (ne_eqb _ 0 some) in
        record { room = search and_left; ranked = ltb-true _ _ (search (and_left, and_right)); on = search (and_left, and_right) }

    module _ (p : ℕ) (a : Configuration) (valid : Position z p a) (some : entry_of z table p a ≡ 0 → ⊥) where
      abbrev entry : ℕ
      entry = entry_of z table p a

      leads : (f : Effect Configuration) → effect c r p a entry ≡ f → leads_on r z table ranks p a entry f ≡ true
      leads f is = rw (← is) (closes p a valid some).on

      opened : opens c r p a entry ≡ true
      unfolding leads_on is_move
      opened = go (effect c r p a entry) refl
        where
          go : (f : Effect Configuration) → effect c r p a entry ≡ f → opens c r p a entry ≡ true
          go shut is = absurd (true≢false (sym (leads shut is)))
          go (silent b) is = is_open_lem c r p a entry (silent b) is
          go (carried b d) is = is_open_lem c r p a entry (carried b d) is
          go ended is = is_open_lem c r p a entry ended is

      silent_on : (b : Configuration) → effect c r p a entry ≡ silent b
          → (entry_of z table p b ≡ 0 → ⊥) × (rank_of z ranks p b < rank_of z ranks p a)
      unfolding leads_on
      silent_on b is =
          let both : (has_entry z table p b && ltb (rank_of z ranks p b) (rank_of z ranks p a)) ≡ true = leads (silent b) is in
          (entry_there z table p b (search and_left), ltb-true _ _ (search and_right))

      carry_on :
          (b d : Configuration)
          → effect c r p a entry ≡ carried b d
          → (outcome : Bool)
          → entry_of z table (leads_to r p entry (cond outcome 1 0)) (cond outcome b d) ≡ 0
          → ⊥
      unfolding leads_on
      carry_on b d is true = entry_there z table _ b (and_left _ _ (leads (carried b d) is))
      carry_on b d is false = entry_there z table _ d (and_right (has_entry z table (leads_to r p entry 1) b) _ (leads (carried b d) is))

    pub closed_table : ClosedChapter c r z table (rank_of z ranks)
    closed_table =
        record {
          none_is_overfull = λ p a valid some. (closes p a valid some).room;
          opened = opened;
          silent_on = silent_on;
          carry_on = carry_on;
          ranked = λ p a valid some. (closes p a valid some).ranked;
        }
