-- Where one move alone is open in a recipe by itself, every plan has it. Assumes nothing.
use mathlib.Core.Path.{◌≡◌, sym, ap, ◌∙◌}
use mathlib.Core.Bool.{Bool, true, ◌&&◌}
use mathlib.Core.List.{List, [], ◌∷◌}
use Prim.Native.Nat.{ℕ, ◌<◌}
use native.Mathlib.Omega.{arith}
use lib.ListN.{get_or}
use lib.Dec.{eqb}
use borrow.Author.Tests.{eqb-true}
use Rattle.refusals.specs.Verdict.{Accepted}
use Rattle.refusals.proofs.TabulatedLists.{length_tabulate}
use Rattle.refusals.proofs.Verdicts.{and_left, and_right}
use Rattle.cell.specs.declared.Cell.{Cell}
use Rattle.recipe.specs.declared.Recipe.{Recipe}
use Rattle.positions.specs.declared.Configuration.{Configuration}
use Rattle.positions.specs.declared.Sizes.{Sizes}
use Rattle.positions.specs.Sizes.{sizes_of}
use Rattle.positions.specs.Rules.{check_sizes}
use Rattle.positions.specs.Position.{point_at, configuration_at, entry_of}
use Rattle.positions.proofs.PositionNumbers.{position_fits, number_back}
use Rattle.positions.proofs.CheckedSizes.{checked_fits}
use Rattle.chapters.specs.Joined.{point_in}
use Rattle.chapters.specs.Sizes.{sizes_in}
use Rattle.simulation.specs.Simulation.{Position, Greatest}
use Rattle.simulation.specs.Plan.{Planned}
use Rattle.worked.proofs.SingleRecipes.{single_entry, single_position, single_checked, all_checked}
use Rattle.worked.proofs.ChapterCertificates as chapters
use Rattle.worked.proofs.ChapterCertificates.{sole_at}

-- a do or test of one line at which the table shown has the entry x, and no other move is open
unfoldable pub sole_in : Cell → Recipe → Sizes → List ℕ → ℕ → ℕ → Bool
sole_in c r z shown m x =
    let p = point_at z m in
    let a = configuration_at z m in
    eqb (entry_of z shown p a) x && sole_at c (r ∷ []) (point_in 0 p) a x

-- where the greatest simulation holds each position at which the table shown has an entry, every plan has this one
module _
    (c : Cell) (r : Recipe) (sized : check_sizes c r ≡ Accepted)
    (before table : List ℕ) (refused : Bool) (plan : Planned c (r ∷ []) (sizes_in c (r ∷ [])) before table refused)
    (shown : List ℕ)
    (holds :
    (p : ℕ) (a : Configuration)
    → Position (sizes_of c r) p a
    → (entry_of (sizes_of c r) shown p a ≡ 0 → ⊥)
    → Greatest c (r ∷ []) (sizes_in c (r ∷ [])) (point_in 0 p) a)
  where
    pub sole_planned : (m x : ℕ) → m < (sizes_of c r).positions → 0 < x → sole_in c r (sizes_of c r) shown m x ≡ true → get_or table m 0 ≡ x
    unfolding sole_in entry_of configuration_at
    sole_planned m x low some test =
        let z = sizes_of c r in
        let p = point_at z m in
        let a = configuration_at z m in
        let fits = checked_fits c r z (single_checked c r sized) in
        let here : Position z p a =
        record { is_in_range = position_fits z fits m low; six = length_tabulate _ 6; eight = length_tabulate _ 8 } in
        let is : entry_of z shown p a ≡ x = eqb-true _ x (and_left _ _ test) in
        sym (single_entry c r table p a ∙ ap (λ (k : ℕ). get_or table k 0) (number_back z fits m low))
        ∙ chapters.sole_planned c (r ∷ []) (sizes_in c (r ∷ [])) (all_checked c r sized) before table refused plan (point_in 0 p) a
        (single_position c r p a here) x (and_right (eqb (entry_of z shown p a) x) _ test) (holds p a here (λ zero. omega (arith, is, zero)))
