-- A recipe by itself as the one chapter of a call: its positions and its entries, and what is closed or lost of it there. Assumes
-- nothing.
use mathlib.Core.Path.{◌≡◌, sym, ap, subst, ◌∙◌}
use mathlib.Core.Bool.{false}
use mathlib.Core.List.{List, [], ◌∷◌}
use Prim.Native.Nat.{ℕ, suc, ◌+◌, ◌<◌}
use native.Mathlib.Omega.{arith}
use lib.ListN.{get_or}
use Rattle.refusals.specs.Verdict.{Accepted}
use Rattle.cell.specs.declared.Cell.{Cell}
use Rattle.recipe.specs.declared.Recipe.{Recipe}
use Rattle.positions.specs.declared.Configuration.{Configuration}
use Rattle.positions.specs.declared.Sizes.{Sizes}
use Rattle.positions.specs.Radix.{sum_below}
use Rattle.positions.specs.Sizes.{sizes_of}
use Rattle.positions.specs.Position.{position_of, entry_of}
use Rattle.positions.specs.Rules.{check_sizes}
use Rattle.positions.specs.Checked.{Checked}
use Rattle.positions.proofs.CheckedSizes.{sizes_checked}
use Rattle.steps.specs.Limits.{none_overfull}
use Rattle.chapters.specs.Joined.{chapter_at, Point, point_in}
use Rattle.chapters.specs.Sizes.{Measures, sizes_in, begins, position_in, entry_in}
use Rattle.chapters.specs.Checked.{AllChecked}
use Rattle.chapters.proofs.OneChapter.{one_sizes, begins_second}
use Rattle.simulation.specs.Simulation.{Position, PositionIn}
use Rattle.simulation.proofs.Machine.{Lost, barred}
use Rattle.simulation.proofs.CellMachine.{machine_of}
use Rattle.simulation.proofs.JoinedMachine.{joined_machine}
use Rattle.simulation.proofs.ClosedChapter.{ClosedChapter}
use Rattle.simulation.proofs.ClosedTablePromises.{ClosedTable}
use Rattle.simulation.proofs.ChaptersJoined.{part_of, joined_closed, chapter_lost}

module _ (c : Cell) (r : Recipe) where
  -- the sizes that a call takes for it
  abbrev zs : Measures
  zs = sizes_in c (r ∷ [])

  -- all entries are its own
  pub single_entries : begins zs 1 ≡ (sizes_of c r).positions
  single_entries = begins_second zs ∙ ap (λ (z : Sizes). z.positions) (one_sizes r c)

  -- its entries, where the calls look for them
  pub single_entry : (table : List ℕ) (p : ℕ) (a : Configuration) → entry_in zs table (point_in 0 p) a ≡ entry_of (sizes_of c r) table p a
  unfolding entry_in position_in begins sum_below entry_of
  single_entry table p a =
      let first : 0 + position_of (zs 0) p a ≡ position_of (zs 0) p a = omega arith in
      ap (λ (m : ℕ). get_or table m 0) first ∙ ap (λ (z : Sizes). entry_of z table p a) (one_sizes r c)

  pub single_numbered :
      (table : List ℕ) (p : ℕ) (a : Configuration) (n : ℕ)
      → position_of (sizes_of c r) p a ≡ n
      → entry_in zs table (point_in 0 p) a ≡ get_or table n 0
  unfolding entry_of
  single_numbered table p a n is = single_entry table p a ∙ ap (λ (m : ℕ). get_or table m 0) is

  -- its positions, and that there is no other
  pub single_position : (p : ℕ) (a : Configuration) → Position (sizes_of c r) p a → PositionIn (r ∷ []) zs (point_in 0 p) a
  single_position p a here = record { there = omega arith; here = subst (λ (z : Sizes). Position z p a) (sym (one_sizes r c)) here }

  pub single_only :
      (P : Point → Configuration → Type 0)
      → ((p : ℕ) (a : Configuration) → Position (sizes_of c r) p a → P (point_in 0 p) a)
      → (q : Point) (a : Configuration)
      → PositionIn (r ∷ []) zs q a
      → P q a
  single_only P each q a at =
      let first : q.chapter ≡ 0 = omega (arith, at.there) in
      let own : zs q.chapter ≡ sizes_of c r = ap zs first ∙ one_sizes r c in
      subst (λ (k : ℕ). P (point_in k q.point) a) (sym first)
      (each q.point a (subst (λ (z : Sizes). Position z q.point a) own at.here))

  module _ (sized : check_sizes c r ≡ Accepted) where
    pub single_checked : Checked c r (sizes_of c r)
    single_checked = sizes_checked c r sized

    pub all_checked : AllChecked c (r ∷ []) zs
    unfolding chapter_at
    all_checked =
        record {
          some = omega arith;
          most = omega arith;
          each =
              λ k low.
              let first : 0 ≡ k = omega arith in
              subst (λ (i : ℕ). Checked c (chapter_at (r ∷ []) i) (zs i)) first
              (subst (λ (z : Sizes). Checked c r z) (sym (one_sizes r c)) single_checked);
          same_parts = λ k low. let first : k ≡ 0 = omega arith in ap (λ (i : ℕ). (zs i).parts) first;
          joints = λ (k : ℕ) (low : suc k < 1). absurd (omega arith);
        }

    -- a table that is closed for the recipe is closed for the chapter
    pub single_closed :
        (table : List ℕ) (rank : ℕ → Configuration → ℕ)
        → ClosedChapter c r (sizes_of c r) table rank
        → ClosedTable c (r ∷ []) zs table (λ p a. rank p.point a)
    unfolding chapter_at begins sum_below
    single_closed table rank closed =
        joined_closed c (r ∷ []) zs all_checked table (λ k. rank)
        (λ k low.
        let first : 0 ≡ k = omega arith in
        subst (λ (i : ℕ). ClosedChapter c (chapter_at (r ∷ []) i) (zs i) (part_of zs i table) rank) first
        (subst (λ (z : Sizes). ClosedChapter c r z table rank) (sym (one_sizes r c)) closed))
        (λ p a at end (next : suc p.chapter < 1). absurd (omega arith))

    -- and what is lost of the recipe is lost of the chapter
    pub single_lost :
        (p : ℕ) (a : Configuration)
        → Position (sizes_of c r) p a
        → Lost (machine_of c r (sizes_of c r)) p a
        → Lost (joined_machine c (r ∷ []) zs) (point_in 0 p) a
    unfolding chapter_at
    single_lost p a here gone =
        chapter_lost c (r ∷ []) zs all_checked 0 (omega arith) (λ q b. none_overfull c b ≡ false) (λ q b at full. barred full) p a
        (single_position p a here).here
        (subst (λ (z : Sizes). Lost (machine_of c r z) p a) (sym (one_sizes r c)) gone)
