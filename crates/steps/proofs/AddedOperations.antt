-- A cell that has all lines of another, under whatever numbers, and beside them operations alone: it takes the other's joint
-- steps, and makes the same by them.
-- Assumes nothing.
use mathlib.Core.Path.{◌≡◌, refl, sym, ap, ◌∙◌}
use mathlib.Core.Bool.{true, false, not, true≢false}
use Prim.Native.Nat.{ℕ, zero, suc, ◌<◌, ◌≤◌}
use native.Mathlib.Omega.{arith}
use lib.Dec.{eqb}
use borrow.Author.Tests.{eqb-true, ltb-true, lt-ltb, eq-eqb, ne_eqb, not-true}
use Rattle.refusals.specs.Verdict.{Accepted}
use Rattle.refusals.specs.Search.{all_below}
use Rattle.refusals.proofs.EveryBelow.{all_by, any_none, any_not}
use Rattle.refusals.proofs.Verdicts.{and_left, and_right}
use Rattle.cell.specs.declared.Cell.{Cell}
use Rattle.cell.specs.Rules.{alike, check_cell}
use Rattle.recipe.specs.declared.Recipe.{Recipe}
use Rattle.positions.specs.declared.Configuration.{Configuration}
use Rattle.steps.specs.Lines.{resource_of, from_of, act_of, arg_of, to_of, place_of, lines_of, op_of}
use Rattle.steps.specs.Limits.{none_overfull}
use Rattle.steps.specs.Gates.{gate_of, gated}
use Rattle.steps.specs.Joint.{Choice, rests, takes, out_starts, may_do, acts, acts_on, is_step, is_silent}
use Rattle.steps.specs.Joint.{state_after, handed, after, is_silent_step}
use Rattle.steps.specs.Carry.{serves, matches, present, suits, after_carry, carries}
use Rattle.steps.proofs.ReadyLines.{both, may_low, step_may}
use Rattle.steps.proofs.GateLines.{is_gate, by_gate, gates_one}
use Rattle.steps.proofs.CarryLines.{suiting, match_at, taken_at, match_count, match_apart}
use Rattle.steps.proofs.EqualChoices.{Alike, step_agrees, after_agrees, acts_agree, present_agrees, after_carry_agrees}
use Rattle.steps.proofs.StationLoads.{silent_steps, silent_quiet, silent_room, silent_by, carry_suits, carry_room, carry_by}

-- the cell d has every line of the cell c, line l as its own line `at l`, the same limits, and beside these lines operations alone
pub record AddedOperations (c d : Cell) : Type 0 where
  pub at : ℕ → ℕ
  pub there : (l : ℕ) → l < c.count → at l < d.count
  pub same_resource : (l : ℕ) → l < c.count → resource_of d (at l) ≡ resource_of c l
  pub same_from : (l : ℕ) → l < c.count → from_of d (at l) ≡ from_of c l
  pub same_act : (l : ℕ) → l < c.count → act_of d (at l) ≡ act_of c l
  pub same_arg : (l : ℕ) → l < c.count → arg_of d (at l) ≡ arg_of c l
  pub same_to : (l : ℕ) → l < c.count → to_of d (at l) ≡ to_of c l
  pub same_limits : d.limits ≡ c.limits
  -- line m of d, unless it is an operation, is one of c's: the laws are said of operations alone, since an added gate would change what
  -- a test makes
  pub others : (m : ℕ) → m < d.count → (act_of d m ≡ 1 → ⊥) → (l : ℕ) × ((l < c.count) × (at l ≡ m))

-- what a resource does, the line that it takes under its new number
unfoldable pub moved_line : (ℕ → ℕ) → ℕ → ℕ
moved_line at zero = rests
moved_line at (suc l) = takes (at l)

-- and what each does
unfoldable pub moved : (ℕ → ℕ) → Choice → Choice
moved at x k = moved_line at (x k)

module _ (c d : Cell) (added : AddedOperations c d) where
  -- a resource that does this rests or takes a line of c
  abbrev Own : ℕ → Type 0
  Own u = (l : ℕ) → u ≡ takes l → l < c.count

  -- a line does under its new number what it did
  line_alike : (u : ℕ) → Own u → Alike c d u (moved_line added.at u)
  unfolding may_do out_starts acts acts_on state_after handed moved_line
  line_alike zero own =
      record {
        may = λ a k. refl;
        acting = λ act. refl;
        acting_on = λ act port. refl;
        state = λ s. refl;
        hands = λ x y takers k. refl;
      }
  line_alike (suc l) own =
      let low : l < c.count = own l refl in
      record {
        may =
            λ a k. rw (
              lt-ltb (added.at l) d.count (added.there l low),
              lt-ltb l c.count low,
              added.same_resource l low,
              added.same_from l low,
              added.same_act l low,
              added.same_arg l low,
            );
        acting = λ act. rw (added.same_act l low);
        acting_on = λ act port. rw (added.same_act l low, added.same_arg l low);
        state = λ s. sym (added.same_to l low);
        hands = λ x y takers k. rw (added.same_act l low, added.same_arg l low, takers (arg_of c l));
      }

  -- the lines of c that are gates of a line are gates of it in d
  gates_kept : (l g : ℕ) → l < c.count → g < c.count → is_gate d (added.at l) (added.at g) ≡ is_gate c l g
  unfolding alike
  gates_kept l g low below =
      rw (
        added.same_act g below,
        added.same_resource g below,
        added.same_resource l low,
        added.same_from g below,
        added.same_from l low,
        added.same_arg g below,
        added.same_arg l low,
      )

  -- and there are no others
  gates_own : (l m : ℕ) → l < c.count → m < d.count → is_gate d (added.at l) m ≡ true → (g : ℕ) × ((g < c.count) × ((added.at g ≡ m) × (is_gate c l g ≡ true)))
  unfolding alike
  gates_own l m low below gate =
      let act : act_of d m ≡ 4 = eqb-true _ _ (search and_left) in
      let own = added.others m below (λ (z : act_of d m ≡ 1). omega arith) in
      let same : is_gate d (added.at l) (added.at own.0) ≡ true = rw own.1.1 gate in
      (own.0, (own.1.0, (own.1.1, sym (gates_kept l own.0 low own.1.0) ∙ same)))

  -- so outcome 0 ends in the same state
  gates_same : check_cell c ≡ Accepted → (l : ℕ) → l < c.count → to_of c (gate_of c l) ≡ to_of d (gate_of d (added.at l))
  gates_same ok l low =
      by_gate c l (λ g. to_of c g ≡ to_of d (gate_of d (added.at l)))
      (λ g below gate. by_gate d (added.at l) (λ m. to_of c g ≡ to_of d m)
      (λ m there is. found g below gate m (gates_own l m low there is))
      (λ none. absurd
      (true≢false (sym (gates_kept l g low below ∙ gate) ∙ none (added.at g) (added.there g below)))))
      (λ none. by_gate d (added.at l) (λ m. to_of c l ≡ to_of d m)
      (λ m there is. lacks none (gates_own l m low there is))
      (λ none. sym (added.same_to l low)))
    where
      found :
          (g : ℕ)
          → g < c.count
          → is_gate c l g ≡ true
          → (m : ℕ)
          → (h : ℕ) × ((h < c.count) × ((added.at h ≡ m) × (is_gate c l h ≡ true)))
          → to_of c g ≡ to_of d m
      found g below gate m (h, (there, (at, is))) =
          ap (to_of c) (gates_one c ok l g h below there gate is) ∙ sym (added.same_to h there) ∙ ap (to_of d) at

      lacks :
          ((g : ℕ) → g < c.count → is_gate c l g ≡ false)
          → {m : ℕ}
          → (h : ℕ) × ((h < c.count) × ((added.at h ≡ m) × (is_gate c l h ≡ true)))
          → to_of c l ≡ to_of d m
      lacks none (h, (there, (at, is))) = absurd (true≢false (sym is ∙ none h there))

  -- no station of the one cell is overfull where none of the other is
  pub added_room : (a : Configuration) → none_overfull d a ≡ none_overfull c a
  unfolding none_overfull
  added_room a = rw added.same_limits

  module _ (x : Choice) (a : Configuration) where
    -- so a joint step of the one cell does
    step_alike : is_step c a x ≡ true → (k : ℕ) → k < 6 → Alike c d (x k) (moved added.at x k)
    unfolding moved
    step_alike step k low = line_alike (x k) (λ l e. may_low c a k l (step_may c a x k l step low e))

    -- it is one of the other
    added_step : is_step c a x ≡ true → is_step d a (moved added.at x) ≡ true
    added_step step = sym (step_agrees c d x (moved added.at x) (step_alike step) a) ∙ step

    silent_there : is_step c a x ≡ true → is_silent c x ≡ true → is_silent d (moved added.at x) ≡ true
    unfolding is_silent
    silent_there step quiet =
        rw (any_none (λ k. acts d 1 (moved added.at x k)) 6
        (λ k low. sym ((step_alike step k low).acting 1) ∙ any_not (λ k. acts c 1 (x k)) 6 k (not-true _ quiet) low))

    module _ (most : (q : ℕ) → q < 8 → place_of a q ≤ 6) where
      -- and makes the same
      pub added_after : is_step c a x ≡ true → after d (moved added.at x) a ≡ after c x a
      added_after step = sym (after_agrees c d x (moved added.at x) (step_alike step) a most)

      -- a silent one is silent there too, and may be taken
      pub added_silent : is_silent_step c a x ≡ true → is_silent_step d a (moved added.at x) ≡ true
      added_silent all =
          let step : is_step c a x ≡ true = silent_steps c a x all in
          silent_by d a (moved added.at x) (added_step step) (silent_there step (silent_quiet c a x all))
          (ap (none_overfull d) (added_after step) ∙ added_room (after c x a) ∙ silent_room c a x all)

  module _ (r : Recipe) (p : ℕ) (ls : ℕ → ℕ) where
    module _ (x : Choice) (match : matches c r p x ls ≡ true) where
      -- the lines of a step that matches are lines of c, and match under their new numbers
      served_own : (j : ℕ) → j < lines_of r p → ls j < c.count
      unfolding serves
      served_own j low =
          let here : serves c r p x ls j ≡ true = match_at c r p x ls match j low in
          ltb-true _ _ (search (and_left, and_right))

      resources_there : (j : ℕ) → j < lines_of r p → resource_of c (ls j) ≡ resource_of d (added.at (ls j))
      resources_there j low = sym (added.same_resource (ls j) (served_own j low))

      serves_there : (j : ℕ) → j < lines_of r p → serves d r p (moved added.at x) (λ j. added.at (ls j)) j ≡ true
      unfolding serves moved moved_line
      serves_there j low =
          let here : serves c r p x ls j ≡ true = match_at c r p x ls match j low in
          let own : ls j < c.count = served_own j low in
          let operation : eqb (act_of c (ls j)) 1 ≡ true = search (and_left, and_right) in
          let number : eqb (arg_of c (ls j)) (op_of r p j) ≡ true = search (and_left, and_right) in
          rw (
            added.same_resource (ls j) own,
            taken_at c r p x ls match j low,
            eq-eqb (takes (added.at (ls j))) (takes (added.at (ls j))) refl,
            added.same_act (ls j) own,
            operation,
            added.same_arg (ls j) own,
            number,
            lt-ltb (added.at (ls j)) d.count (added.there (ls j) own),
          )

      -- such lines have resources of their own, so that their new numbers differ
      numbers_differ : (i j : ℕ) → i < j → j < lines_of r p → added.at (ls i) ≡ added.at (ls j) → ⊥
      numbers_differ i j less low same =
          match_apart c r p x ls match i j less low
          (resources_there i (omega arith) ∙ ap (λ (l : ℕ). resource_of d l) same ∙ sym (resources_there j low))

      matches_there :
          ((k : ℕ) → k < 6 → Alike c d (x k) (moved added.at x k))
          → matches d r p (moved added.at x) (λ j. added.at (ls j)) ≡ true
      unfolding matches
      matches_there alike =
          rw (
            all_by (serves d r p (moved added.at x) (λ j. added.at (ls j))) (lines_of r p) serves_there,
            all_by (λ j. all_below (λ i. not (eqb (added.at (ls i)) (added.at (ls j)))) j) (lines_of r p)
                (λ j low. all_by (λ i. not (eqb (added.at (ls i)) (added.at (ls j)))) j
                (λ i less. rw (ne_eqb (added.at (ls i)) (added.at (ls j)) (numbers_differ i j less low)))),
            sym (acts_agree c d x (moved added.at x) alike 1),
            match_count c r p x ls match,
            eq-eqb (lines_of r p) (lines_of r p) refl,
          )

  module _ (r : Recipe) (p : ℕ) (x : Choice) (ls : ℕ → ℕ) (a : Configuration) (all : carries c r p x ls a ≡ true) where
    step : is_step c a x ≡ true
    step = (suiting c r p x ls a (carry_suits c r p x ls a all)).0

    match : matches c r p x ls ≡ true
    match = (suiting c r p x ls a (carry_suits c r p x ls a all)).1

    suits_there : suits d r p (moved added.at x) (λ j. added.at (ls j)) a ≡ true
    unfolding suits
    suits_there =
        let suit : suits c r p x ls a ≡ true = carry_suits c r p x ls a all in
        let steps : is_step d a (moved added.at x) ≡ true = added_step x a step in
        let serving : matches d r p (moved added.at x) (λ j. added.at (ls j)) ≡ true = matches_there r p ls x match (step_alike x a step) in
        let here : present d r p (λ j. added.at (ls j)) a ≡ true =
        sym (present_agrees c d r p ls (λ j. added.at (ls j)) (resources_there r p ls x match) a) ∙ search (and_left, and_right) in
        search (both, and_left, and_right)

    module _ (most : (q : ℕ) → q < 8 → place_of a q ≤ 6) where
      module _ (ok : check_cell c ≡ Accepted) (some : 1 ≤ lines_of r p) where
        gated_there : (b : Configuration) → gated c (ls 0) b ≡ gated d (added.at (ls 0)) b
        unfolding gated
        gated_there b = rw (added.same_resource (ls 0) own, gates_same ok (ls 0) own)
          where
            own : ls 0 < c.count
            own = served_own r p ls x match 0 some

        -- a step of the one cell that carries a point makes the same in the other
        pub added_after_carry :
            (outcome : ℕ)
            → after_carry d r p (moved added.at x) (λ j. added.at (ls j)) outcome a ≡ after_carry c r p x ls outcome a
        added_after_carry outcome =
            sym
            (after_carry_agrees c d r p ls (λ j. added.at (ls j)) (resources_there r p ls x match) x (moved added.at x) outcome a
            gated_there
            (sym (added_after x a most step)))

        -- and carries the point there
        pub added_carries : carries d r p (moved added.at x) (λ j. added.at (ls j)) a ≡ true
        added_carries =
            carry_by d r p (moved added.at x) (λ j. added.at (ls j)) a suits_there
            (ap (none_overfull d) (added_after_carry 1) ∙ added_room (after_carry c r p x ls 1 a) ∙ carry_room c r p x ls a all)
