-- What a station holds that a carried point does not touch: a step that carries the point elsewhere leaves it there, and adds
-- nothing. Assumes nothing.
use mathlib.Core.Path.{◌≡◌, refl, sym, ap, ◌∙◌}
use mathlib.Core.Bool.{Bool, true, false, cond, not, ◌||◌, true≢false}
use mathlib.Core.List.{List}
use Prim.Native.Nat.{ℕ, zero, suc, ◌+◌, ◌<◌, ◌≤◌}
use native.Mathlib.Omega.{arith}
use lib.ListN.{get_or}
use lib.Dec.{eqb}
use borrow.Author.Tests.{eqb-true, ne_eqb}
use Rattle.refusals.specs.Search.{all_below}
use Rattle.refusals.proofs.EveryBelow.{all_at, any_none, any_not}
use Rattle.refusals.proofs.TabulatedLists.{tabulate_at}
use Rattle.cell.specs.declared.Cell.{Cell}
use Rattle.recipe.specs.declared.Recipe.{Recipe}
use Rattle.recipe.specs.Rules.{holds_part}
use Rattle.positions.specs.declared.Configuration.{Configuration}
use Rattle.steps.specs.Lines.{resource_of, place_of, first_line_of, lines_of, kind_of, takes_of, gives_of, is_taken, is_given}
use Rattle.steps.specs.Limits.{load}
use Rattle.steps.specs.Gates.{gated}
use Rattle.steps.specs.Joint.{Choice, rests, handed, place_after, after}
use Rattle.steps.specs.Carry.{stands_at, present, is_free, free, put_there, placed, parts_moved, after_carry}
use Rattle.steps.proofs.StationLoads.{load_grows}

-- a part that no line of the point gives keeps its place
put_none : (resource gives : List ℕ) (first : ℕ) (ls : ℕ → ℕ) (q v n : ℕ)
    → ((j : ℕ) → j < n → holds_part (get_or gives (first + j) 0) q ≡ false)
    → put_there resource gives first ls q v n ≡ v
unfolding put_there
put_none resource gives first ls q v zero none = refl
put_none resource gives first ls q v (suc n) none = rw (none n (omega arith)) (put_none resource gives first ls q v n (λ j less. none j (omega arith)))

-- one that is at a resource of no line of the point was there before
put_elsewhere : (resource gives : List ℕ) (first : ℕ) (ls : ℕ → ℕ) (q v k n : ℕ)
    → ((j : ℕ) → j < n → get_or resource (ls j) 0 ≡ k → ⊥)
    → put_there resource gives first ls q v n ≡ suc k
    → v ≡ suc k
unfolding put_there
put_elsewhere resource gives first ls q v k zero away here = here
put_elsewhere resource gives first ls q v k (suc n) away here =
    decide (put_elsewhere resource gives first ls q v k n (λ j less. away j (omega arith))) (holds_part (get_or gives (first + n) 0) q) here
  where
    decide :
        (put_there resource gives first ls q v n ≡ suc k → v ≡ suc k)
        → (b : Bool)
        → cond b (get_or resource (ls n) 0 + 1) (put_there resource gives first ls q v n) ≡ suc k
        → v ≡ suc k
    decide before true there = absurd (away n (omega arith) (omega arith))
    decide before false there = before there

stands_there : (held : Bool) (v k : ℕ) → (not held || eqb v (k + 1)) ≡ true → held ≡ true → v ≡ k + 1
stands_there true v k here e = eqb-true _ _ here
stands_there false v k here e = absurd (true≢false (sym e))

given_not : (given : Bool) (k : ℕ) → is_free false given (suc k) ≡ true → given ≡ false
unfolding is_free
given_not true k e = absurd (true≢false (sym (rw (ne_eqb (suc k) 0 (λ (z : suc k ≡ 0). omega arith)) at e)))
given_not false k e = refl

module _
    (c : Cell) (r : Recipe) (p : ℕ) (y : Choice) (ls : ℕ → ℕ) (b : Configuration) (k : ℕ)
    (away : (j : ℕ) → j < lines_of r p → resource_of c (ls j) ≡ k → ⊥)
  where
    after_at : (q : ℕ) → q < 8 → place_of (after c y b) q ≡ place_after c y (place_of b q)
    unfolding after
    after_at q low = tabulate_at (λ q. place_after c y (place_of b q)) 8 q low

    moved_at : (d : Configuration) (q : ℕ) → q < 8 → place_of (parts_moved c r p ls d) q ≡ placed c r p ls q (place_of d q)
    unfolding parts_moved
    moved_at d q low = tabulate_at (λ q. placed c r p ls q (place_of d q)) 8 q low

    -- a part at resource k is not taken, and at a do not given
    module _ (there : present c r p ls b ≡ true) (clear : kind_of r p ≡ 1 → free r p b ≡ true) (q : ℕ) (low : q < 8) (here : place_of b q ≡ suc k) where
      untaken : is_taken r p q ≡ false
      unfolding is_taken present stands_at
      untaken = any_none (λ j. holds_part (takes_of r p j) q) (lines_of r p) (λ j less. decide j less (holds_part (takes_of r p j) q) refl)
        where
          decide : (j : ℕ) → j < lines_of r p → (t : Bool) → holds_part (takes_of r p j) q ≡ t → holds_part (takes_of r p j) q ≡ false
          decide j less false e = e
          decide j less true e =
              let all = all_at (λ j. all_below (stands_at b.place (takes_of r p j) (resource_of c (ls j))) 8) (lines_of r p) j there less in
              let at = stands_there (holds_part (takes_of r p j) q) (place_of b q) (resource_of c (ls j))
              (all_at (stands_at b.place (takes_of r p j) (resource_of c (ls j))) 8 q all low) e in
              absurd (away j less (omega (arith, at)))

      ungiven : kind_of r p ≡ 1 → is_given r p q ≡ false
      unfolding free
      ungiven work =
          given_not (is_given r p q) k
          (rw (untaken, here) at (all_at (λ q. is_free (is_taken r p q) (is_given r p q) (place_of b q)) 8 q (clear work) low))

      placed_here : kind_of r p ≡ 1 → placed c r p ls q (suc k) ≡ suc k
      unfolding placed is_given
      placed_here work =
          rw untaken
          (put_none c.resource r.gives (first_line_of r p) ls q (suc k) (lines_of r p)
          (λ j less. any_not (λ j. holds_part (gives_of r p j) q) (lines_of r p) j (ungiven work) less))

      -- so it stays if the resource rests, at either outcome
      stays : (outcome : ℕ) → y k ≡ rests → place_of (after_carry c r p y ls outcome b) q ≡ suc k
      unfolding after_carry place_after handed gated
      stays outcome idle = decide (eqb (kind_of r p) 1) (eqb outcome 1) refl
        where
          still : place_of (after c y b) q ≡ suc k
          still = after_at q low ∙ rw (here, idle)

          decide :
              (t u : Bool)
              → eqb (kind_of r p) 1 ≡ t
              → place_of (cond t (parts_moved c r p ls (after c y b)) (cond u (after c y b) (gated c (ls 0) (after c y b)))) q ≡ suc k
          decide true u e = moved_at (after c y b) q low ∙ ap (placed c r p ls q) still ∙ placed_here (eqb-true _ _ e)
          decide false true e = still
          decide false false e = still

    -- a resource that rests, and is of no line of the point, holds no less after the step
    pub carry_load : present c r p ls b ≡ true → (kind_of r p ≡ 1 → free r p b ≡ true) → (outcome : ℕ) → y k ≡ rests
        → load b.place k ≤ load (after_carry c r p y ls outcome b).place k
    carry_load there clear outcome idle =
        load_grows b.place (after_carry c r p y ls outcome b).place k (λ q low here. stays there clear q low here outcome idle)

    -- and what it holds then, it held when the parts were moved
    pub moved_load : load (after_carry c r p y ls 1 b).place k ≤ load (after c y b).place k
    unfolding after_carry placed
    moved_load = load_grows (after_carry c r p y ls 1 b).place (after c y b).place k (λ q low. decide q low (eqb (kind_of r p) 1))
      where
        untouched : (q v : ℕ) → placed c r p ls q v ≡ suc k → v ≡ suc k
        untouched q v here =
            out (is_taken r p q) (put_elsewhere c.resource r.gives (first_line_of r p) ls q (cond (is_taken r p q) 0 v) k (lines_of r p) away here)
          where
            out : (t : Bool) → cond t 0 v ≡ suc k → v ≡ suc k
            out true e = absurd (omega arith)
            out false e = e

        decide : (q : ℕ) → q < 8 → (t : Bool) → place_of (cond t (parts_moved c r p ls (after c y b)) (after c y b)) q ≡ suc k → place_of (after c y b) q ≡ suc k
        decide q low true here = untouched q (place_of (after c y b) q) (sym (moved_at (after c y b) q low) ∙ here)
        decide q low false here = here
