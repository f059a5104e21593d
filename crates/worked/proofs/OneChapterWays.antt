-- "A single recipe is one chapter": the ways of single moves over the one chapter are those of the recipe by itself, and so the same number is
-- fixed. Assumes nothing.
use mathlib.Core.Path.{◌≡◌, sym, subst}
use mathlib.Core.List.{[], ◌∷◌}
use Prim.Native.Nat.{ℕ}
use Rattle.cell.specs.declared.Cell.{Cell}
use Rattle.recipe.specs.declared.Recipe.{Recipe}
use Rattle.positions.specs.declared.Configuration.{Configuration}
use Rattle.positions.specs.Sizes.{sizes_of}
use Rattle.steps.specs.Lines.{then_of, else_of}
use Rattle.chapters.specs.Joined.{Point, chapter_at, point_in, then_at, else_at}
use Rattle.chapters.specs.Sizes.{Measures, sizes_in}
use Rattle.chapters.proofs.OneChapter.{one_lands}
use Rattle.simulation.specs.Simulation.{Greatest}
use Rattle.simulation.specs.Shortest.{BeginsWay, carries_at_once, moves_first, Shortest}
use Rattle.worked.specs.OneRecipe as single
use Rattle.worked.proofs.OneChapterPlans.{single_holds, chapter_holds}

module _ (c : Cell) (r : Recipe) (p : ℕ) where
  abbrev zs : Measures
  zs = sizes_in c (r ∷ [])

  -- no joint is passed
  at_then : then_at (r ∷ []) (point_in 0 p) ≡ point_in 0 (then_of r p)
  unfolding then_at chapter_at
  at_then = one_lands r (point_in 0 (then_of r p))

  at_else : else_at (r ∷ []) (point_in 0 p) ≡ point_in 0 (else_of r p)
  unfolding else_at chapter_at
  at_else = one_lands r (point_in 0 (else_of r p))

  held_single : (q : ℕ) (at : Point) (b : Configuration) → at ≡ point_in 0 q → Greatest c (r ∷ []) zs at b → single.Greatest c r (sizes_of c r) q b
  held_single q at b is held = single_holds c r q b (subst (λ (x : Point). Greatest c (r ∷ []) zs x b) is held)

  held_chapter : (q : ℕ) (at : Point) (b : Configuration) → at ≡ point_in 0 q → single.Greatest c r (sizes_of c r) q b → Greatest c (r ∷ []) zs at b
  held_chapter q at b is held = subst (λ (x : Point). Greatest c (r ∷ []) zs x b) (sym is) (chapter_holds c r q b held)

  way_single : {a : Configuration} {e n : ℕ} → BeginsWay c (r ∷ []) zs (point_in 0 p) a e n → single.BeginsWay c r (sizes_of c r) p a e n
  unfolding chapter_at
  way_single (carries_at_once none into) =
      single.carries_at_once none
      (record {
        passed = into.passed;
        failed = into.failed;
        carry = into.carry;
        then = held_single (then_of r p) _ into.passed at_then into.then;
        otherwise = λ test. held_single (else_of r p) _ into.failed at_else (into.otherwise test);
      })
  way_single (moves_first b f m one is later) = single.moves_first b f m one is (way_single later)

  way_chapter : {a : Configuration} {e n : ℕ} → single.BeginsWay c r (sizes_of c r) p a e n → BeginsWay c (r ∷ []) zs (point_in 0 p) a e n
  unfolding chapter_at
  way_chapter (single.carries_at_once none into) =
      carries_at_once none
      (record {
        passed = into.passed;
        failed = into.failed;
        carry = into.carry;
        then = held_chapter (then_of r p) _ into.passed at_then into.then;
        otherwise = λ test. held_chapter (else_of r p) _ into.failed at_else (into.otherwise test);
      })
  way_chapter (single.moves_first b f m one is later) = moves_first b f m one is (way_chapter later)

  pub single_shortest : (a : Configuration) (e : ℕ) → Shortest c (r ∷ []) zs (point_in 0 p) a e → single.Shortest c r (sizes_of c r) p a e
  single_shortest a e fixed =
      record {
        silents = fixed.silents;
        begins = way_single fixed.begins;
        fewest = λ f n way. fixed.fewest f n (way_chapter way);
        smallest = λ f way. fixed.smallest f (way_chapter way);
      }
