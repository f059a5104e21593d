-- A step that carries a point, in two port-closed parts of which one has the operations: that one carries the point, the
-- other is silent, and in either order they make the same.
-- Assumes nothing.
use mathlib.Core.Path.{◌≡◌, refl, sym, ap, ◌∙◌}
use mathlib.Core.Bool.{Bool, true, false, cond, not, ◌&&◌, ◌||◌, true≢false}
use mathlib.Core.List.{List}
use Prim.Native.Nat.{ℕ, zero, suc, ◌+◌, ◌<◌, ◌≤◌}
use native.Mathlib.Numerals.{add-one}
use native.Mathlib.Omega.{arith}
use lib.ListN.{length, get_or, set}
use lib.Seq.{get_or-set_same, get_or-set_other}
use lib.Dec.{eqb}
use borrow.Author.Tests.{eqb-true, eq-eqb, ltb-true, not-true}
use Rattle.refusals.specs.Verdict.{Accepted}
use Rattle.refusals.specs.Search.{all_below, count_below, tabulate}
use Rattle.refusals.proofs.EveryBelow.{all_by, all_at, count_same}
use Rattle.refusals.proofs.TabulatedLists.{tabulate_at, tabulate_same, tabulate_set, length_tabulate}
use Rattle.refusals.proofs.Verdicts.{and_left, and_right}
use Rattle.cell.specs.declared.Cell.{Cell}
use Rattle.cell.specs.Rules.{check_cell}
use Rattle.recipe.specs.declared.Recipe.{Recipe}
use Rattle.recipe.specs.Rules.{holds_part}
use Rattle.positions.specs.declared.Configuration.{Configuration}
use Rattle.steps.specs.Lines.{resource_of, to_of, state_of, place_of, first_line_of, lines_of, line_of, kind_of, is_taken, is_given}
use Rattle.steps.specs.Limits.{load, none_overfull}
use Rattle.steps.specs.Gates.{gate_of, gated}
use Rattle.steps.specs.Joint.{Choice, rests, acts, is_step, is_silent, state_after, handed, place_after, after}
use Rattle.steps.specs.Carry.{serves, matches, stands_at, present, is_free, free, suits, carries, put_there, placed, parts_moved, after_carry}
use Rattle.steps.proofs.ReadyLines.{both, resources_fit}
use Rattle.steps.proofs.StationLoads.{carry_suits, carry_room, carry_by, room_at, room_by, rest_load}
use Rattle.steps.proofs.CarryLines.{suiting, match_at, taken_at, match_count}
use Rattle.steps.proofs.MadeConfiguration.{join}
use Rattle.simulation.proofs.StepInParts.{part, rest, Closed, part_in, part_out, rest_in, part_silent, part_keeps}
use Rattle.simulation.proofs.StepInParts.{part_step, after_place, rest_still, rest_states, rest_step, parted_after, part_load}
use Rattle.simulation.proofs.CarriedLoads.{carry_load, moved_load}

-- the resources in s take all the operations, or none
abbrev pub AllOperations : Cell → Choice → (ℕ → Bool) → Type 0
AllOperations c x s = (k : ℕ) → k < 6 → acts c 1 (x k) ≡ true → s k ≡ true

abbrev pub NoOperation : Cell → Choice → (ℕ → Bool) → Type 0
NoOperation c x s = (k : ℕ) → k < 6 → acts c 1 (x k) ≡ true → s k ≡ false

-- it finds the parts that the point takes, and at a do room for those that it gives
found : (c : Cell) (r : Recipe) (p : ℕ) (x : Choice) (ls : ℕ → ℕ) (a : Configuration)
    → suits c r p x ls a ≡ true → (present c r p ls a ≡ true) × (kind_of r p ≡ 1 → free r p a ≡ true)
unfolding suits
found c r p x ls a h = (
  search (and_left, and_right),
  λ work. let all : free r p a ≡ true = rw work at (and_right (present c r p ls a) _ (and_right (matches c r p x ls) _ (and_right (is_step c a x) _ h))) in all,
)

-- a step that matches, where parts are present and free as they were, suits what was suited
suits_by :
    (c : Cell) (r : Recipe) (p : ℕ) (x y : Choice) (ls : ℕ → ℕ) (a b : Configuration)
    → is_step c b y ≡ true
    → matches c r p y ls ≡ true
    → (present c r p ls a ≡ true → present c r p ls b ≡ true)
    → (free r p a ≡ true → free r p b ≡ true)
    → suits c r p x ls a ≡ true
    → suits c r p y ls b ≡ true
unfolding suits
suits_by c r p x y ls a b step match stand out = decide (eqb (kind_of r p) 1) (eqb (kind_of r p) 2)
  where
    decide :
        (s t : Bool)
        → (is_step c a x && (matches c r p x ls && (present c r p ls a && cond s (free r p a) t))) ≡ true
        → (is_step c b y && (matches c r p y ls && (present c r p ls b && cond s (free r p b) t))) ≡ true
    decide true t h =
        let there : present c r p ls a ≡ true = search (and_left, and_right) in
        let clear : free r p a ≡ true = search (and_left, and_right) in
        both _ _ step (both _ _ match (both _ _ (stand there) (out clear)))
    decide false t h =
        let there : present c r p ls a ≡ true = search (and_left, and_right) in
        let test : t ≡ true = search (and_left, and_right) in
        both _ _ step (both _ _ match (both _ _ (stand there) test))

-- the part with the operations matches what the step matches
module _
    (c : Cell) (good : check_cell c ≡ Accepted) (r : Recipe) (p : ℕ) (x : Choice) (ls : ℕ → ℕ)
    (match : matches c r p x ls ≡ true)
    (s : ℕ → Bool) (all : AllOperations c x s)
  where
    line_within : (j : ℕ) → j < lines_of r p → s (resource_of c (ls j)) ≡ true
    unfolding acts serves
    line_within j less =
        let here : serves c r p x ls j ≡ true = match_at c r p x ls match j less in
        let operates : acts c 1 (x (resource_of c (ls j))) ≡ true = rw (taken_at c r p x ls match j less) (search (and_left, and_right)) in
        all (resource_of c (ls j)) (resources_fit c good (ls j) (ltb-true _ _ (search (and_left, and_right)))) operates

    others_calm : (k : ℕ) → k < 6 → s k ≡ false → acts c 1 (x k) ≡ false
    others_calm k low e = decide (acts c 1 (x k)) refl
      where
        decide : (b : Bool) → acts c 1 (x k) ≡ b → acts c 1 (x k) ≡ false
        decide true f = let z : true ≡ false = sym (all k low f) ∙ e in cc
        decide false f = f

    part_operates : (k : ℕ) → k < 6 → acts c 1 (part x s k) ≡ acts c 1 (x k)
    unfolding acts
    part_operates k low = decide (s k) refl
      where
        decide : (b : Bool) → s k ≡ b → acts c 1 (part x s k) ≡ acts c 1 (x k)
        decide true e = rw (part_in x s k e)
        decide false e = rw (part_out x s k e) (sym (others_calm k low e))

    part_serves : (j : ℕ) → j < lines_of r p → serves c r p (part x s) ls j ≡ true
    unfolding serves
    part_serves j less =
        let here : serves c r p x ls j ≡ true = match_at c r p x ls match j less in
        rw (part_in x s (resource_of c (ls j)) (line_within j less)) here

    part_matches : matches c r p (part x s) ls ≡ true
    unfolding matches
    part_matches =
        let served : all_below (serves c r p (part x s) ls) (lines_of r p) ≡ true = all_by (serves c r p (part x s) ls) (lines_of r p) part_serves in
        let count : eqb (count_below (λ k. acts c 1 (part x s k)) 6) (lines_of r p) ≡ true =
        eq-eqb _ _
        (count_same (λ k. acts c 1 (part x s k)) (λ k. acts c 1 (x k)) 6 part_operates
        ∙ match_count c r p x ls match) in
        search (both, and_left, and_right)

    -- and the others are silent
    others_silent : is_silent c (rest x s) ≡ true
    unfolding rest
    others_silent = part_silent c x (λ k. not (s k)) (λ k low e. others_calm k low (not-true (s k) e))

stands_by : (held : Bool) (v w k : ℕ) → (v ≡ k + 1 → w ≡ k + 1) → (not held || eqb v (k + 1)) ≡ true → (not held || eqb w (k + 1)) ≡ true
stands_by true v w k same here = eq-eqb _ _ (same (eqb-true _ _ here))
stands_by false v w k same here = refl

free_by : (taken given : Bool) (v w : ℕ) → (v ≡ 0 → w ≡ 0) → is_free taken given v ≡ true → is_free taken given w ≡ true
unfolding is_free
free_by taken false v w same here = refl
free_by taken true v w same here = decide (eqb v 0) refl here
  where
    or_true : (b : Bool) → (b || true) ≡ true
    or_true true = refl
    or_true false = refl

    decide : (b : Bool) → eqb v 0 ≡ b → (b || taken) ≡ true → (eqb w 0 || taken) ≡ true
    decide true e there = rw (same (eqb-true v 0 e))
    decide false e there = rw there (or_true (eqb w 0))

-- given parts stay where no resource of the point's lines acts
put_stays :
    (c : Cell) (y : Choice) (gives : List ℕ) (first : ℕ) (ls : ℕ → ℕ) (q v n : ℕ)
    → ((j : ℕ) → j < n → y (resource_of c (ls j)) ≡ rests)
    → place_after c y (put_there c.resource gives first ls q v n) ≡ put_there c.resource gives first ls q (place_after c y v) n
unfolding put_there place_after handed
put_stays c y gives first ls q v zero still = refl
put_stays c y gives first ls q v (suc n) still =
    decide (put_stays c y gives first ls q v n (λ j less. still j (omega arith))) (holds_part (get_or gives (first + n) 0) q)
  where
    decide :
        place_after c y (put_there c.resource gives first ls q v n) ≡ put_there c.resource gives first ls q (place_after c y v) n
        → (b : Bool)
        → place_after c y (cond b (resource_of c (ls n) + 1) (put_there c.resource gives first ls q v n))
        ≡ cond b (resource_of c (ls n) + 1) (put_there c.resource gives first ls q (place_after c y v) n)
    decide before true = rw (add-one (resource_of c (ls n)), still n (omega arith))
    decide before false = before

module _ (c : Cell) (r : Recipe) (p : ℕ) (ls : ℕ → ℕ) (y : Choice) (b : Configuration) where
  module _ (still : (j : ℕ) → j < lines_of r p → y (resource_of c (ls j)) ≡ rests) where
    placed_stays : (q v : ℕ) → place_after c y (placed c r p ls q v) ≡ placed c r p ls q (place_after c y v)
    unfolding placed place_after
    placed_stays q v =
        put_stays c y r.gives (first_line_of r p) ls q (cond (is_taken r p q) 0 v) (lines_of r p) still
        ∙ ap (λ (w : ℕ). put_there c.resource r.gives (first_line_of r p) ls q w (lines_of r p)) (either (is_taken r p q))
      where
        either : (t : Bool) → place_after c y (cond t 0 v) ≡ cond t 0 (place_after c y v)
        either true = refl
        either false = refl

    -- and where it rests at the resources of the point's lines, it makes the same before or after
    moved_after : after c y (parts_moved c r p ls b) ≡ parts_moved c r p ls (after c y b)
    unfolding after parts_moved
    moved_after =
        join refl (tabulate_same (λ q. place_after c y (place_of (parts_moved c r p ls b) q)) (λ q. placed c r p ls q (place_of (after c y b) q)) 8 each)
      where
        each : (q : ℕ) → q < 8 → place_after c y (place_of (parts_moved c r p ls b) q) ≡ placed c r p ls q (place_of (after c y b) q)
        each q low =
            ap (place_after c y) (tabulate_at (λ q. placed c r p ls q (place_of b q)) 8 q low)
            ∙ placed_stays q (place_of b q)
            ∙ ap (placed c r p ls q) (sym (tabulate_at (λ q. place_after c y (place_of b q)) 8 q low))

-- a step that rests at the resource of line l makes the same before or after a test by that line, whichever outcome it had
module _ (c : Cell) (l : ℕ) (y : Choice) (b : Configuration) (idle : y (resource_of c l) ≡ rests) where
  gated_after : length b.state ≡ 6 → resource_of c l < 6 → after c y (gated c l b) ≡ gated c l (after c y b)
  unfolding after gated state_after
  gated_after six low =
      join
      (sym
      (ap (set (tabulate 6 (λ k. state_after c (y k) (state_of b k))) (resource_of c l)) (sym ends)
      ∙ tabulate_set (λ k. state_after c (y k) (state_of b k)) (λ k. state_after c (y k) (state_of (gated c l b) k)) 6 (resource_of c l) low
      (λ k less other. ap (state_after c (y k)) (get_or-set_other b.state (resource_of c l) k (to_of c (gate_of c l)) 0 other))))
      refl
    where
      ends : state_after c (y (resource_of c l)) (state_of (gated c l b) (resource_of c l)) ≡ to_of c (gate_of c l)
      ends = rw idle (get_or-set_same b.state (resource_of c l) (to_of c (gate_of c l)) 0 (omega arith))

after_six : (c : Cell) (y : Choice) (b : Configuration) → length (after c y b).state ≡ 6
unfolding after
after_six c y b = length_tabulate _ 6

module _
    (c : Cell) (good : check_cell c ≡ Accepted) (r : Recipe) (p : ℕ) (a : Configuration) (x : Choice) (ls : ℕ → ℕ)
    (carry : carries c r p x ls a ≡ true)
    (s : ℕ → Bool) (closed : Closed c x s)
  where
    suit : suits c r p x ls a ≡ true
    suit = carry_suits c r p x ls a carry

    step : is_step c a x ≡ true
    step = (suiting c r p x ls a suit).0

    match : matches c r p x ls ≡ true
    match = (suiting c r p x ls a suit).1

    abbrev middle : Configuration
    middle = after c (part x s) a

    pub carry_part_step : is_step c a (part x s) ≡ true
    carry_part_step = part_step c good a x step s closed

    -- the part has no operation: it is silent, and then the rest carries the point
    module _ (none : NoOperation c x s) where
      others_all : AllOperations c x (λ k. not (s k))
      others_all k low e = rw (none k low e)

      line_out : (j : ℕ) → j < lines_of r p → s (resource_of c (ls j)) ≡ false
      line_out j less = not-true _ (line_within c good r p x ls match (λ k. not (s k)) others_all j less)

      pub carry_part_silent : is_silent c (part x s) ≡ true
      carry_part_silent = part_silent c x s quiet
        where
          quiet : (k : ℕ) → k < 6 → s k ≡ true → acts c 1 (x k) ≡ false
          quiet k low e = others_calm c good r p x ls match (λ k. not (s k)) others_all k low (rw e)

      abbrev stood : Configuration → ℕ → ℕ → Bool
      stood b j = stands_at b.place (get_or r.takes (line_of r p j) 0) (resource_of c (ls j))

      rest_present : present c r p ls a ≡ true → present c r p ls middle ≡ true
      unfolding present stands_at
      rest_present there = all_by (λ j. all_below (stood middle j) 8) (lines_of r p) each
        where
          each : (j : ℕ) → j < lines_of r p → all_below (stood middle j) 8 ≡ true
          each j less =
              let all : all_below (stood a j) 8 ≡ true = all_at (λ j. all_below (stood a j) 8) (lines_of r p) j there less in
              all_by (stood middle j) 8
              (λ q low. stands_by (holds_part (get_or r.takes (line_of r p j) 0) q) (place_of a q) (place_of middle q)
              (resource_of c (ls j)) (kept q low) (all_at (stood a j) 8 q all low))
            where
              kept : (q : ℕ) → q < 8 → place_of a q ≡ resource_of c (ls j) + 1 → place_of middle q ≡ resource_of c (ls j) + 1
              kept q low here =
                  after_place c good a x step s closed q low
                  ∙ ap (place_after c (part x s)) (here ∙ add-one (resource_of c (ls j)))
                  ∙ part_keeps c x s (resource_of c (ls j)) (line_out j less)
                  ∙ sym (add-one (resource_of c (ls j)))

      abbrev spared : Configuration → ℕ → Bool
      spared b q = is_free (is_taken r p q) (is_given r p q) (place_of b q)

      rest_free : free r p a ≡ true → free r p middle ≡ true
      unfolding free place_after is_free
      rest_free clear =
          all_by (spared middle) 8
          (λ q low. free_by (is_taken r p q) (is_given r p q) (place_of a q) (place_of middle q) (outside q low)
          (all_at (spared a) 8 q clear low))
        where
          outside : (q : ℕ) → q < 8 → place_of a q ≡ 0 → place_of middle q ≡ 0
          outside q low here = after_place c good a x step s closed q low ∙ ap (place_after c (part x s)) here

      rest_suits : suits c r p (rest x s) ls middle ≡ true
      unfolding rest
      rest_suits =
          suits_by c r p x (rest x s) ls a middle (rest_step c good a x step s closed)
          (part_matches c good r p x ls match (λ k. not (s k)) others_all) rest_present rest_free suit

      pub parted_carry : (outcome : ℕ) → ((q : ℕ) → q < 8 → place_of a q ≤ 6) → after_carry c r p (rest x s) ls outcome middle ≡ after_carry c r p x ls outcome a
      unfolding after_carry
      parted_carry outcome most =
          ap (λ (b : Configuration). cond (eqb (kind_of r p) 1) (parts_moved c r p ls b) (cond (eqb outcome 1) b (gated c (ls 0) b)))
          (parted_after c good a x step s closed most)

      pub rest_carries : ((q : ℕ) → q < 8 → place_of a q ≤ 6) → carries c r p (rest x s) ls middle ≡ true
      rest_carries most = carry_by c r p (rest x s) ls middle rest_suits (ap (none_overfull c) (parted_carry 1 most) ∙ carry_room c r p x ls a carry)

      -- where no station is overfull before and after the step, none is between: a resource of the part holds no more than at
      -- the end, and any other what it held
      pub part_carry_room : ((q : ℕ) → q < 8 → place_of a q ≤ 6) → none_overfull c a ≡ true → none_overfull c middle ≡ true
      part_carry_room most before = room_by c middle (λ k low. decide k low (s k) refl)
        where
          there : (present c r p ls middle ≡ true) × (kind_of r p ≡ 1 → free r p middle ≡ true)
          there = found c r p (rest x s) ls middle rest_suits

          decide : (k : ℕ) → k < 6 → (b : Bool) → s k ≡ b → load middle.place k ≤ get_or c.limits k 0
          decide k low true e =
              let away : (j : ℕ) → j < lines_of r p → resource_of c (ls j) ≡ k → ⊥ =
              λ j less same. true≢false (sym e ∙ ap s (sym same) ∙ line_out j less) in
              let grown = carry_load c r p (rest x s) ls middle k away there.0 there.1 1 (rest_in x s k e) in
              let room = room_at c _ (carry_room c r p (rest x s) ls middle (rest_carries most)) k low in
              omega (arith, grown, room)
          decide k low false e =
              let same : load middle.place k ≡ load a.place k = rw e at (part_load c good a x step s closed most k low) in
              omega (arith, same, room_at c a before k low)

    -- the part has all operations: it carries the point, and then the rest is silent
    module _ (all : AllOperations c x s) where
      part_suits : suits c r p (part x s) ls a ≡ true
      part_suits =
          suits_by c r p x (part x s) ls a a carry_part_step (part_matches c good r p x ls match s all) (λ there. there) (λ clear. clear) suit

      pub rest_silent : is_silent c (rest x s) ≡ true
      rest_silent = others_silent c good r p x ls match s all

      still : (j : ℕ) → j < lines_of r p → rest x s (resource_of c (ls j)) ≡ rests
      still j less = rest_in x s (resource_of c (ls j)) (line_within c good r p x ls match s all j less)

      -- a resource that isn't in the part is of no line of the point
      apart : (k : ℕ) → s k ≡ false → (j : ℕ) → j < lines_of r p → resource_of c (ls j) ≡ k → ⊥
      apart k e j less at = true≢false (sym (line_within c good r p x ls match s all j less) ∙ ap s at ∙ e)

      module _ (some : 1 ≤ lines_of r p) where
        first : ls 0 < c.count
        unfolding serves
        first =
            let here : serves c r p x ls 0 ≡ true = match_at c r p x ls match 0 some in
            ltb-true _ _ (search (and_left, and_right))

        -- a resource that isn't in the part is in its state after it, at either outcome
        carried_states : (outcome k : ℕ) → k < 6 → s k ≡ false → state_of a k ≡ state_of (after_carry c r p (part x s) ls outcome a) k
        unfolding after_carry parts_moved gated
        carried_states outcome k low e = decide (eqb (kind_of r p) 1) (eqb outcome 1)
          where
            same : state_of a k ≡ state_of middle k
            same = rest_states c good a x step s closed k low e

            other : k ≡ resource_of c (ls 0) → ⊥
            other own = apart k e 0 some (sym own)

            decide : (b t : Bool) → state_of a k ≡ state_of (cond b (parts_moved c r p ls middle) (cond t middle (gated c (ls 0) middle))) k
            decide true t = same
            decide false true = same
            decide false false = same ∙ sym (get_or-set_other middle.state (resource_of c (ls 0)) k (to_of c (gate_of c (ls 0))) 0 other)

        pub carried_rest_step : (outcome : ℕ) → is_step c (after_carry c r p (part x s) ls outcome a) (rest x s) ≡ true
        carried_rest_step outcome =
            let there = found c r p x ls a suit in
            rest_still c good a x step s closed (after_carry c r p (part x s) ls outcome a) (carried_states outcome)
            (λ k low e. carry_load c r p (part x s) ls a k (apart k e) there.0 there.1 outcome (part_out x s k e))

        pub carried_parted : (outcome : ℕ) → ((q : ℕ) → q < 8 → place_of a q ≤ 6)
            → after c (rest x s) (after_carry c r p (part x s) ls outcome a) ≡ after_carry c r p x ls outcome a
        unfolding after_carry
        carried_parted outcome most = decide (eqb (kind_of r p) 1) (eqb outcome 1)
          where
            ends : after c (rest x s) middle ≡ after c x a
            ends = parted_after c good a x step s closed most

            decide :
                (b t : Bool)
                → after c (rest x s) (cond b (parts_moved c r p ls middle) (cond t middle (gated c (ls 0) middle)))
                ≡ cond b (parts_moved c r p ls (after c x a)) (cond t (after c x a) (gated c (ls 0) (after c x a)))
            decide true t = moved_after c r p ls (rest x s) middle still ∙ ap (parts_moved c r p ls) ends
            decide false true = ends
            decide false false =
                gated_after c (ls 0) (rest x s) middle (still 0 some) (after_six c (part x s) a) (resources_fit c good (ls 0) first)
                ∙ ap (gated c (ls 0)) ends

      abbrev carried_part : Configuration
      carried_part = after_carry c r p (part x s) ls 1 a

      -- the part carries the point, where no station is overfull before the step
      pub part_carries : 1 ≤ lines_of r p → ((q : ℕ) → q < 8 → place_of a q ≤ 6) → none_overfull c a ≡ true → carries c r p (part x s) ls a ≡ true
      part_carries some most before = carry_by c r p (part x s) ls a part_suits (room_by c carried_part (λ k low. decide k low (s k) refl))
        where
          decide : (k : ℕ) → k < 6 → (b : Bool) → s k ≡ b → load carried_part.place k ≤ get_or c.limits k 0
          decide k low true e =
              let grown = rest_load c (rest x s) carried_part k (rest_in x s k e) in
              let same = ap (λ (d : Configuration). load d.place k) (carried_parted some 1 most) in
              let room = room_at c _ (carry_room c r p x ls a carry) k low in
              omega (arith, grown, same, room)
          decide k low false e =
              let moved = moved_load c r p (part x s) ls a k (apart k e) in
              let same : load middle.place k ≡ load a.place k = rw e at (part_load c good a x step s closed most k low) in
              omega (arith, moved, same, room_at c a before k low)
