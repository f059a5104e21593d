-- "A single recipe is one chapter": the simulations over the one chapter are those of the recipe by itself. Assumes nothing.
use mathlib.Core.Path.{◌≡◌, sym, ap, subst, ◌∙◌}
use mathlib.Core.Bool.{true, ◌&&◌}
use mathlib.Core.List.{[], ◌∷◌}
use Prim.Native.Nat.{ℕ}
use native.Mathlib.Omega.{arith}
use lib.Dec.{eqb}
use borrow.Author.Tests.{eqb-true}
use Rattle.refusals.proofs.Verdicts.{and_left, and_right}
use Rattle.cell.specs.declared.Cell.{Cell}
use Rattle.recipe.specs.declared.Recipe.{Recipe}
use Rattle.positions.specs.declared.Configuration.{Configuration}
use Rattle.steps.specs.Lines.{kind_of, then_of, else_of}
use Rattle.steps.specs.Carry.{after_carry}
use Rattle.chapters.specs.Joined.{Point, point_in, chapter_at, kind_at, then_at, else_at}
use Rattle.chapters.specs.Sizes.{Measures}
use Rattle.chapters.proofs.OneChapter.{one_lands}
use Rattle.simulation.specs.Simulation.{Position, Set, GoesOn, Simulation, Greatest}
use Rattle.worked.specs.OneRecipe as single

module _ (c : Cell) (r : Recipe) (zs : Measures) where
  -- a set of positions of the recipe, as one of chapter 0
  unfoldable as_chapter : single.Set → Set
  as_chapter S p a = eqb p.chapter 0 && S p.point a

  as_chapter_in : (S : single.Set) (q : ℕ) (a : Configuration) → S q a ≡ true → as_chapter S (point_in 0 q) a ≡ true
  unfolding as_chapter
  as_chapter_in S q a member = member

  -- where the one chapter's points lead
  then_is : (q : ℕ) → then_at (r ∷ []) (point_in 0 q) ≡ point_in 0 (then_of r q)
  unfolding then_at chapter_at
  then_is q = one_lands r (point_in 0 (then_of r q))

  else_is : (q : ℕ) → else_at (r ∷ []) (point_in 0 q) ≡ point_in 0 (else_of r q)
  unfolding else_at chapter_at
  else_is q = one_lands r (point_in 0 (else_of r q))

  -- the simulations over the chapter are the recipe's
  pub one_greatest : (q : ℕ) (a : Configuration) → Greatest c (r ∷ []) zs (point_in 0 q) a → single.Greatest c r (zs 0) q a
  unfolding chapter_at
  one_greatest q a held =
      let S : Set = held.set in
      let inside : single.Set = λ p b. S (point_in 0 p) b in
      record {
        set = inside;
        simulation =
            record {
              positions = λ p b member. (held.simulation.positions (point_in 0 p) b member).here;
              none_is_overfull = λ p b member. held.simulation.none_is_overfull (point_in 0 p) b member;
              goes_on =
                  λ p b member some.
                  let on : GoesOn c (r ∷ []) S (point_in 0 p) b = held.simulation.goes_on (point_in 0 p) b member some in
                  record {
                    before = on.before;
                    silently = on.silently;
                    step = on.step;
                    lines = on.lines;
                    carrying = on.carrying;
                    then = ap (λ (x : Point). S x (after_carry c r p on.step on.lines 1 on.before)) (sym (then_is p)) ∙ on.then;
                    otherwise = λ test. ap (λ (x : Point). S x (after_carry c r p on.step on.lines 0 on.before)) (sym (else_is p)) ∙ on.otherwise test;
                  };
            };
        member = held.member;
      }

  -- and the recipe's are simulations over the chapter
  module _ (S : single.Set) (simulation : single.Simulation c r (zs 0) S) where
    goes_first : (p : ℕ) (b : Configuration) → as_chapter S (point_in 0 p) b ≡ true → (kind_of r p ≡ 0 → ⊥) → GoesOn c (r ∷ []) (as_chapter S) (point_in 0 p) b
    unfolding chapter_at as_chapter
    goes_first p b member some =
        let on : single.GoesOn c r S p b = simulation.goes_on p b member some in
        record {
          before = on.before;
          silently = on.silently;
          step = on.step;
          lines = on.lines;
          carrying = on.carrying;
          then = ap (λ (x : Point). as_chapter S x (after_carry c r p on.step on.lines 1 on.before)) (then_is p) ∙ on.then;
          otherwise = λ test. ap (λ (x : Point). as_chapter S x (after_carry c r p on.step on.lines 0 on.before)) (else_is p) ∙ on.otherwise test;
        }

    module _ (p : Point) (b : Configuration) (member : as_chapter S p b ≡ true) where
      first : 0 ≡ p.chapter
      unfolding as_chapter
      first = sym (eqb-true p.chapter 0 (and_left _ _ member))

      inside : S p.point b ≡ true
      unfolding as_chapter
      inside = and_right (eqb p.chapter 0) _ member

    chapter_simulation : Simulation c (r ∷ []) zs (as_chapter S)
    unfolding chapter_at
    chapter_simulation =
        record {
          positions =
              λ p b member.
              let zero = first p b member in
              record {
                there = omega arith;
                here = subst (λ (k : ℕ). Position (zs k) p.point b) zero (simulation.positions p.point b (inside p b member));
              };
          none_is_overfull = λ p b member. simulation.none_is_overfull p.point b (inside p b member);
          goes_on = going;
          passes_on = λ p b member end. ap (λ (x : Point). as_chapter S x b) (one_lands r p) ∙ member;
        }
      where
        going : (p : Point) (b : Configuration) → as_chapter S p b ≡ true → (kind_at (r ∷ []) p ≡ 0 → ⊥) → GoesOn c (r ∷ []) (as_chapter S) p b
        going p b member some =
            subst (λ (k : ℕ). (as_chapter S (point_in k p.point) b ≡ true) → (kind_at (r ∷ []) (point_in k p.point) ≡ 0 → ⊥) → GoesOn c (r ∷ []) (as_chapter S) (point_in k p.point) b)
            (first p b member) (goes_first p.point b) member some

  pub greatest_one : (q : ℕ) (a : Configuration) → single.Greatest c r (zs 0) q a → Greatest c (r ∷ []) zs (point_in 0 q) a
  greatest_one q a held =
      record {
        set = as_chapter held.set;
        simulation = chapter_simulation held.set held.simulation;
        member = as_chapter_in held.set q a held.member;
      }
