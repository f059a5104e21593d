-- What the book does, in terms of single moves: a move is open for the book exactly if it is open as a single move, and the
-- book makes of it what the single move makes.
-- Assumes nothing.
use mathlib.Core.Path.{◌≡◌, refl, sym, ap, ◌∙◌}
use mathlib.Core.Bool.{Bool, true, false, cond, ◌&&◌}
use mathlib.Core.List.{map}
use Prim.Native.Nat.{ℕ, zero, suc, ◌+◌, ◌<◌, ◌≤◌}
use native.Mathlib.Numerals.{add-one}
use native.Mathlib.Omega.{arith}
use lib.ListN.{set, length-map}
use lib.Dec.{eqb}
use borrow.Author.Tests.{eqb-true, eqb-false, eq-eqb, ne_eqb}
use Rattle.refusals.specs.Search.{tabulate}
use Rattle.refusals.proofs.TabulatedLists.{tabulate_is, tabulate_same, tabulate_set}
use Rattle.cell.specs.declared.Cell.{Cell}
use Rattle.recipe.specs.declared.Recipe.{Recipe}
use Rattle.positions.specs.declared.Configuration.{Configuration}
use Rattle.positions.specs.declared.Sizes.{Sizes}
use Rattle.positions.specs.Checked.{Checked}
use Rattle.steps.specs.Lines.{resource_of, to_of, state_of, place_of, lines_of, kind_of, then_of, else_of}
use Rattle.steps.specs.Gates.{gate_of, gated}
use Rattle.steps.specs.Joint.{Choice, rests, state_after, after}
use Rattle.steps.specs.Carry.{placed, parts_moved, after_carry}
use Rattle.steps.specs.Entry.{entry_kind, letter, lines_used, only, step_of}
use Rattle.steps.specs.Effect.{silent, carried, effect, opens, leaves, makes, leads_to}
use Rattle.steps.specs.Single.{hand_over, carries_to}
use Rattle.steps.proofs.PointLines.{PointLines, point_lines}
use Rattle.steps.proofs.ReadyLines.{resources_fit}
use Rattle.steps.proofs.GateLines.{gate_resource}
use Rattle.steps.proofs.EntryForms.{formed_carry}
use Rattle.steps.proofs.MadeConfiguration.{handed_at}
use Rattle.steps.proofs.Effects.{IsCarried, Open, open_silent, open_carried, open_ended, open_is, read_silent, read_carried, read_ended, makes_is}
use Rattle.steps.proofs.Effects.{do_same, leads_silent, do_leads, passed_leads, failed_leads}
use Rattle.steps.proofs.SingleEffects.{single_silent, single_carried}
use Rattle.steps.proofs.SingleMoves.{SilentMove, internal, transfer, silent_move, carry_makes, do_places, test_places, hands_over, hands_keeps}
use Rattle.steps.proofs.OpenByKind.{end_opens, opens_joint}
use Rattle.chapters.specs.Joined.{Chapters, Point, point_in, recipe_at, kind_at, landing, then_at, else_at}
use Rattle.chapters.specs.Sizes.{Measures}
use Rattle.chapters.specs.Checked.{AllChecked}
use Rattle.chapters.proofs.Landing.{landing_going}
use Rattle.run.specs.Calls.{next_point}
use Rattle.run.specs.Book.{Book, at_end, is_open, set_to, moved_to, line_followed, configuration_after, point_after, made}
use Rattle.simulation.specs.Simulation.{Position, PositionIn}
use Rattle.simulation.proofs.CellMachine.{position_point, position_kind}
use Rattle.simulation.proofs.JoinedMachine.{checked_at}

-- a move is open at the book's point by the recipe of its chapter
abbrev pub opens_for : Cell → Chapters → Book → ℕ → Bool
opens_for c rs b e = opens c (recipe_at rs b.point) b.point.point b.configuration e

-- what it makes of the book
abbrev pub book_after : Cell → Chapters → Book → ℕ → ℕ → Book
book_after c rs b e outcome =
    record {
      point = next_point rs b.point e outcome;
      configuration = makes c (recipe_at rs b.point) b.point.point b.configuration e outcome;
      q = cond (eqb (entry_kind e) 3) 0 (b.q + 1);
    }

pub record BookIs (c : Cell) (rs : Chapters) (zs : Measures) : Type 0 where
  pub open_is :
      (b : Book) (e : ℕ)
      → is_open c rs b e ≡ opens_for c rs b e
  pub made_is :
      (b : Book) (e outcome : ℕ)
      → PositionIn rs zs b.point b.configuration
      → (kind_at rs b.point ≡ 0 → ⊥)
      → opens_for c rs b e ≡ true
      → outcome ≤ 1
      → made c rs b e outcome ≡ book_after c rs b e outcome

module _ (c : Cell) (rs : Chapters) (b : Book) (e : ℕ) where
  opens_book : is_open c rs b e ≡ opens_for c rs b e
  unfolding is_open at_end
  opens_book = decide (eqb (kind_at rs b.point) 0) refl
    where
      r : Recipe
      r = recipe_at rs b.point

      decide : (t : Bool) → eqb (kind_at rs b.point) 0 ≡ t → is_open c rs b e ≡ opens_for c rs b e
      decide true is = rw is (sym (end_opens c r b.point.point b.configuration e (eqb-true (kind_at rs b.point) 0 is)))
      decide false is = rw is (sym (opens_joint c r b.point.point b.configuration e (eqb-false (kind_at rs b.point) 0 is)))

-- each line taken sets its resource to its `to`
sets : (c : Cell) (ls : ℕ → ℕ) (n k s : ℕ) → set_to c ls n k s ≡ state_after c (only c ls n k) s
unfolding set_to state_after only
sets c ls zero k s = refl
sets c ls (suc n) k s = decide (sets c ls n k s) (eqb k (resource_of c (ls n)))
  where
    decide :
        set_to c ls n k s ≡ state_after c (only c ls n k) s
        → (t : Bool)
        → cond t (to_of c (ls n)) (set_to c ls n k s) ≡ state_after c (cond t (suc (ls n)) (only c ls n k)) s
    decide before true = refl
    decide before false = before

-- by the same lines to the same
sets_same : (c : Cell) (ls ms : ℕ → ℕ) → ((j : ℕ) → ls j ≡ ms j) → (n k s : ℕ) → set_to c ls n k s ≡ set_to c ms n k s
unfolding set_to
sets_same c ls ms same zero k s = refl
sets_same c ls ms same (suc n) k s = rw (same n, sets_same c ls ms same n k s)

-- which lines are followed
module _ (c : Cell) (r : Recipe) (p e : ℕ) where
  follows_silent : (outcome : ℕ) → (entry_kind e ≡ 3 → ⊥) → (j : ℕ) → line_followed c r p e outcome j ≡ letter e j
  unfolding line_followed
  follows_silent outcome quiet j = rw (ne_eqb (entry_kind e) 3 quiet)

  follows_passed : (j : ℕ) → line_followed c r p e 1 j ≡ letter e j
  unfolding line_followed
  follows_passed j = decide (eqb (entry_kind e) 3) (eqb (kind_of r p) 2)
    where
      decide : (s t : Bool) → cond (s && (t && false)) (gate_of c (letter e j)) (letter e j) ≡ letter e j
      decide true true = refl
      decide true false = refl
      decide false t = refl

  follows_do : (outcome : ℕ) → kind_of r p ≡ 1 → (j : ℕ) → line_followed c r p e outcome j ≡ letter e j
  unfolding line_followed
  follows_do outcome work j = rw work (decide (eqb (entry_kind e) 3))
    where
      decide : (s : Bool) → cond (s && false) (gate_of c (letter e j)) (letter e j) ≡ letter e j
      decide true = refl
      decide false = refl

-- where the parts go
module _ (c : Cell) (r : Recipe) (p e : ℕ) where
  stay_put : entry_kind e ≡ 1 → (n v : ℕ) → moved_to c r p e n v ≡ v
  unfolding moved_to
  stay_put kind n v = rw kind

  go_over : entry_kind e ≡ 2 → (n v : ℕ) → moved_to c r p e n v ≡ hand_over (resource_of c (letter e 0)) (resource_of c (letter e 1)) v
  unfolding moved_to
  go_over kind n v = rw (kind, add-one (resource_of c (letter e 0)), add-one (resource_of c (letter e 1))) (decide (eqb v (suc (resource_of c (letter e 0)))) refl)
    where
      o : ℕ
      o = resource_of c (letter e 0)

      i : ℕ
      i = resource_of c (letter e 1)

      decide : (t : Bool) → eqb v (suc o) ≡ t → cond (eqb v (suc o)) (suc i) v ≡ hand_over o i v
      decide true is = let same = eqb-true v (suc o) is in rw (same, eq-eqb (suc o) (suc o) refl) (sym (hands_over o i))
      decide false is = rw is (sym (hands_keeps o i v (eqb-false v (suc o) is)))

  go_there : entry_kind e ≡ 3 → kind_of r p ≡ 1 → (n v : ℕ) → moved_to c r p e n v ≡ placed c r p (letter e) n v
  unfolding moved_to
  go_there kind one n v = rw (kind, one)

  stay_tested : entry_kind e ≡ 3 → (kind_of r p ≡ 1 → ⊥) → (n v : ℕ) → moved_to c r p e n v ≡ v
  unfolding moved_to
  stay_tested kind test n v = rw (kind, ne_eqb (kind_of r p) 1 test)

-- a cell and a recipe that pass their rules, a position, and a move that is open there
module _
    (c : Cell) (r : Recipe) (z : Sizes) (K : Checked c r z)
    (p : ℕ) (a : Configuration) (here : Position z p a) (e : ℕ)
  where
    -- the states, where the letters' own lines are followed
    states_step :
        (outcome : ℕ)
        → ((j : ℕ) → line_followed c r p e outcome j ≡ letter e j)
        → tabulate 6 (λ k. set_to c (line_followed c r p e outcome) (lines_used r p e) k (state_of a k)) ≡ (after c (step_of c r p e) a).state
    unfolding after step_of
    states_step outcome own =
        tabulate_same
        (λ k. set_to c (line_followed c r p e outcome) (lines_used r p e) k (state_of a k))
        (λ k. state_after c (only c (letter e) (lines_used r p e) k) (state_of a k))
        6
        (λ k low. sets_same c (line_followed c r p e outcome) (letter e) own (lines_used r p e) k (state_of a k)
        ∙ sets c (letter e) (lines_used r p e) k (state_of a k))

    -- the book's configuration, by its states and its places
    joined :
        (outcome : ℕ) (b : Configuration)
        → tabulate 6 (λ k. set_to c (line_followed c r p e outcome) (lines_used r p e) k (state_of a k)) ≡ b.state
        → tabulate 8 (λ n. moved_to c r p e n (place_of a n)) ≡ b.place
        → configuration_after c r p a e outcome ≡ b
    unfolding configuration_after
    joined outcome b states places = λ i. record { state = states i; place = places i }

    silent_places : (b : Configuration) → SilentMove c a e b → tabulate 8 (λ n. moved_to c r p e n (place_of a n)) ≡ b.place
    silent_places b (internal kind move) =
        tabulate_is (λ n. moved_to c r p e n (place_of a n)) a.place 8 here.eight (λ n low. stay_put c r p e kind n (place_of a n))
        ∙ sym (ap (λ (d : Configuration). d.place) move.made)
    silent_places b (transfer kind move) =
        let o : ℕ = resource_of c (letter e 0) in
        let i : ℕ = resource_of c (letter e 1) in
        tabulate_is (λ n. moved_to c r p e n (place_of a n)) (map (hand_over o i) a.place) 8
        (length-map a.place (hand_over o i) ∙ here.eight)
        (λ n low. go_over c r p e kind n (place_of a n) ∙ sym (handed_at o i a.place n))
        ∙ sym (ap (λ (d : Configuration). d.place) move.made)

    silent_made : (outcome : ℕ) (b : Configuration) → effect c r p a e ≡ silent b → configuration_after c r p a e outcome ≡ b
    silent_made outcome b is =
        let quiet = read_silent c r p a e is in
        let move =
        silent_move c a e (single_silent c r p a e K.cell_passes here.six here.eight is) in
        joined outcome b
        (states_step outcome (follows_silent c r p e outcome quiet.kind) ∙ sym (ap (λ (d : Configuration). d.state) quiet.made))
        (silent_places b move)

    carry_places : (b : Configuration) (outcome : ℕ) → entry_kind e ≡ 3 → b ≡ carries_to c r p a e outcome
        → tabulate 8 (λ n. moved_to c r p e n (place_of a n)) ≡ b.place
    carry_places b outcome kind is = decide (eqb (kind_of r p) 1) refl ∙ sym (ap (λ (d : Configuration). d.place) is)
      where
        decide : (t : Bool) → eqb (kind_of r p) 1 ≡ t → tabulate 8 (λ n. moved_to c r p e n (place_of a n)) ≡ (carries_to c r p a e outcome).place
        decide true one =
            let work = eqb-true (kind_of r p) 1 one in
            tabulate_same (λ n. moved_to c r p e n (place_of a n)) (λ n. placed c r p (letter e) n (place_of a n)) 8
            (λ n low. go_there c r p e kind work n (place_of a n))
            ∙ sym (do_places c r p a e outcome work)
        decide false other =
            let test = eqb-false (kind_of r p) 1 other in
            tabulate_is (λ n. moved_to c r p e n (place_of a n)) a.place 8 here.eight (λ n low. stay_tested c r p e kind test n (place_of a n))
            ∙ sym (test_places c r p a e outcome test)

    most : kind_of r p ≤ 2
    most = position_kind c r z K p a here

    lines : PointLines r p
    lines = point_lines r K.recipe_passes p (position_point c r z K p a here)

    -- a carry, which makes b at outcome 1 and d at outcome 0
    module _ (b d : Configuration) (is : effect c r p a e ≡ carried b d) where
      carry : IsCarried c r p a e b d
      carry = read_carried c r p a e is

      abbrev x : Choice
      x = step_of c r p e

      -- at outcome 1, and at a do always, the letters' own lines are followed
      passed_states : (after c x a).state ≡ b.state
      unfolding after_carry parts_moved
      passed_states = decide (eqb (kind_of r p) 1) (after c x a) ∙ sym (ap (λ (f : Configuration). f.state) carry.passed)
        where
          decide : (t : Bool) (f : Configuration) → f.state ≡ (cond t (parts_moved c r p (letter e) f) f).state
          decide true f = refl
          decide false f = refl

      -- at outcome 0 of a test its gate, or the line if it has none
      module _ (two : kind_of r p ≡ 2) where
        abbrev station : ℕ
        station = resource_of c (letter e 0)

        used : lines_used r p e ≡ 1
        unfolding lines_used
        used = rw carry.kind (lines.single (λ (z : kind_of r p ≡ 1). omega arith))

        station_low : station < 6
        station_low =
            let one : lines_of r p ≡ 1 = lines.single (λ (z : kind_of r p ≡ 1). omega arith) in
            resources_fit c K.cell_passes (letter e 0) (formed_carry c r p e carry.formed one carry.kind).0

        sets_gate :
            (k s : ℕ)
            → set_to c (line_followed c r p e 0) (lines_used r p e) k s ≡ cond (eqb k station) (to_of c (gate_of c (letter e 0))) s
        unfolding set_to line_followed
        sets_gate k s = rw (used, carry.kind, two, gate_resource c (letter e 0))

        rests_elsewhere : (k : ℕ) → (k ≡ station → ⊥) → x k ≡ rests
        unfolding step_of only
        rests_elsewhere k other = rw (used, ne_eqb k (resource_of c (letter e 0)) other)

        gate_ends : set (tabulate 6 (λ k. state_after c (x k) (state_of a k))) station (to_of c (gate_of c (letter e 0))) ≡ d.state
        unfolding after_carry gated after
        gate_ends = sym (ap (λ (f : Configuration). f.state) carry.failed ∙ rw two)

        failed_states : tabulate 6 (λ k. set_to c (line_followed c r p e 0) (lines_used r p e) k (state_of a k)) ≡ d.state
        unfolding state_after
        failed_states =
            let set-to : ℕ → ℕ = λ k. set_to c (line_followed c r p e 0) (lines_used r p e) k (state_of a k) in
            let stepped : ℕ → ℕ = λ k. state_after c (x k) (state_of a k) in
            sym
            (tabulate_set stepped set-to 6 station station_low
            (λ k less other. sets_gate k (state_of a k) ∙ rw (ne_eqb k station other, rests_elsewhere k other)))
            ∙ ap (set (tabulate 6 stepped) station) (sets_gate station (state_of a station) ∙ rw (eq-eqb station station refl))
            ∙ gate_ends

      made_singly : (b ≡ carries_to c r p a e 1) × (d ≡ carries_to c r p a e 0)
      made_singly = carry_makes c r p a e (single_carried c r p a e K.cell_passes here.six here.eight most is)

      passed_made : configuration_after c r p a e 1 ≡ b
      passed_made =
          joined 1 b (states_step 1 (follows_passed c r p e) ∙ passed_states) (carry_places b 1 carry.kind made_singly.0)

      failed_made : configuration_after c r p a e 0 ≡ d
      failed_made = decide (eqb (kind_of r p) 1) refl
        where
          decide : (t : Bool) → eqb (kind_of r p) 1 ≡ t → configuration_after c r p a e 0 ≡ d
          decide true one =
              let work = eqb-true (kind_of r p) 1 one in
              let same : d ≡ b = do_same c r p a e is work in
              joined 0 d
              (states_step 0 (follows_do c r p e 0 work) ∙ passed_states ∙ sym (ap (λ (f : Configuration). f.state) same))
              (carry_places d 0 carry.kind made_singly.1)
          decide false other =
              let ne : kind_of r p ≡ 1 → ⊥ = eqb-false (kind_of r p) 1 other in
              let some : 1 ≤ kind_of r p = positive carry.some in
              joined 0 d (failed_states (omega (arith, most))) (carry_places d 0 carry.kind made_singly.1)
            where
              positive : (kind_of r p ≡ 0 → ⊥) → 1 ≤ kind_of r p
              positive none = omega arith

    configuration_made : (outcome : ℕ) → outcome ≤ 1 → (kind_of r p ≡ 0 → ⊥) → opens c r p a e ≡ true → configuration_after c r p a e outcome ≡ makes c r p a e outcome
    unfolding leaves
    configuration_made outcome low some able = go (open_is c r p a e able)
      where
        told : (b d : Configuration) → effect c r p a e ≡ carried b d → (t : Bool) → eqb outcome 1 ≡ t
            → configuration_after c r p a e outcome ≡ cond t b d
        told b d is true one = ap (configuration_after c r p a e) (eqb-true outcome 1 one) ∙ passed_made b d is
        told b d is false other =
            let ne : outcome ≡ 1 → ⊥ = eqb-false outcome 1 other in
            let nil : outcome ≡ 0 = omega arith in
            ap (configuration_after c r p a e) nil ∙ failed_made b d is

        go : Open c r p a e → configuration_after c r p a e outcome ≡ makes c r p a e outcome
        go (open_silent b is) = silent_made outcome b is ∙ sym (makes_is c r p a e (silent b) is outcome)
        go (open_carried b d is) = told b d is (eqb outcome 1) refl ∙ sym (makes_is c r p a e (carried b d) is outcome)
        go (open_ended is) = absurd (some (read_ended c r p a e is).done)

    point_made :
        (outcome : ℕ)
        → outcome ≤ 1
        → (kind_of r p ≡ 0 → ⊥)
        → entry_kind e ≡ 3
        → cond (eqb (kind_of r p) 2 && eqb outcome 0) (else_of r p) (then_of r p) ≡ leads_to r p e outcome
    point_made outcome low some kind = decide (eqb (kind_of r p) 1) (eqb outcome 1) refl refl
      where
        both : (u : Bool) → cond (u && false) (else_of r p) (then_of r p) ≡ then_of r p
        both true = refl
        both false = refl

        decide : (s t : Bool) → eqb (kind_of r p) 1 ≡ s → eqb outcome 1 ≡ t
            → cond (eqb (kind_of r p) 2 && eqb outcome 0) (else_of r p) (then_of r p) ≡ leads_to r p e outcome
        decide true t is is' = rw (eqb-true (kind_of r p) 1 is) (sym (do_leads r p e outcome kind (eqb-true (kind_of r p) 1 is)))
        decide false true is is' = rw (eqb-true outcome 1 is') (both (eqb (kind_of r p) 2) ∙ sym (passed_leads r p e 1 kind (eqb-false (kind_of r p) 1 is) refl))
        decide false false is is' =
            let ne : kind_of r p ≡ 1 → ⊥ = eqb-false (kind_of r p) 1 is in
            let not-one : outcome ≡ 1 → ⊥ = eqb-false outcome 1 is' in
            let two : kind_of r p ≡ 2 = let ne₀ : 1 ≤ kind_of r p = omega arith in omega (arith, most) in
            let nil : outcome ≡ 0 = omega arith in
            rw (eq-eqb (kind_of r p) 2 two, eq-eqb outcome 0 nil) (sym (failed_leads r p e outcome kind ne not-one))

-- where the book goes after a carry, and that it stays at its point after a silent move
module _ (rs : Chapters) (p : Point) (e outcome : ℕ) where
  goes_after :
      cond (eqb (kind_at rs p) 2 && eqb outcome 0) (else_of (recipe_at rs p) p.point) (then_of (recipe_at rs p) p.point)
      ≡ leads_to (recipe_at rs p) p.point e outcome
      → point_after rs p outcome ≡ next_point rs p e outcome
  unfolding point_after next_point then_at else_at
  goes_after leads = decide (eqb (kind_at rs p) 2 && eqb outcome 0) leads
    where
      decide :
          (t : Bool)
          → cond t (else_of (recipe_at rs p) p.point) (then_of (recipe_at rs p) p.point) ≡ leads_to (recipe_at rs p) p.point e outcome
          → cond t (landing rs (point_in p.chapter (else_of (recipe_at rs p) p.point)))
          (landing rs (point_in p.chapter (then_of (recipe_at rs p) p.point)))
          ≡ landing rs (point_in p.chapter (leads_to (recipe_at rs p) p.point e outcome))
      decide true is = ap (λ (q : ℕ). landing rs (point_in p.chapter q)) is
      decide false is = ap (λ (q : ℕ). landing rs (point_in p.chapter q)) is

  pub stays_silent : (kind_at rs p ≡ 0 → ⊥) → (entry_kind e ≡ 3 → ⊥) → next_point rs p e outcome ≡ p
  unfolding next_point
  stays_silent some quiet =
      ap (λ (q : ℕ). landing rs (point_in p.chapter q)) (leads_silent (recipe_at rs p) p.point e outcome quiet) ∙ landing_going rs p some

made_single :
    (c : Cell) (rs : Chapters) (zs : Measures)
    → AllChecked c rs zs
    → (b : Book) (e outcome : ℕ)
    → PositionIn rs zs b.point b.configuration
    → (kind_at rs b.point ≡ 0 → ⊥)
    → opens_for c rs b e ≡ true
    → outcome ≤ 1
    → made c rs b e outcome ≡ book_after c rs b e outcome
unfolding made
made_single c rs zs K b e outcome at some able low = decide (eqb (entry_kind e) 3) refl
  where
    r : Recipe
    r = recipe_at rs b.point

    C : Checked c r (zs b.point.chapter)
    C = checked_at c rs zs K b.point b.configuration at

    configuration :
        configuration_after c r b.point.point b.configuration e outcome ≡ makes c r b.point.point b.configuration e outcome
    configuration =
        configuration_made c r (zs b.point.chapter) C b.point.point b.configuration at.here e outcome low some able

    decide :
        (t : Bool)
        → eqb (entry_kind e) 3 ≡ t
        → ◌≡◌ {A = Book} (cond t
        (record {
          point = point_after rs b.point outcome;
          configuration = configuration_after c r b.point.point b.configuration e outcome;
          q = 0;
        })
        (record { point = b.point; configuration = configuration_after c r b.point.point b.configuration e outcome; q = b.q + 1 }))
        (record {
          point = next_point rs b.point e outcome;
          configuration = makes c r b.point.point b.configuration e outcome;
          q = cond t 0 (b.q + 1);
        })
    decide true is =
        let point : point_after rs b.point outcome ≡ next_point rs b.point e outcome =
        goes_after rs b.point e outcome
        (point_made c r (zs b.point.chapter) C b.point.point b.configuration at.here e outcome low some (eqb-true (entry_kind e) 3 is)) in
        λ i. record { point = point i; configuration = configuration i; q = 0 }
    decide false is =
        let point : b.point ≡ next_point rs b.point e outcome = sym (stays_silent rs b.point e outcome some (eqb-false (entry_kind e) 3 is)) in
        λ i. record { point = point i; configuration = configuration i; q = b.q + 1 }

pub book_is : (c : Cell) (rs : Chapters) (zs : Measures) → AllChecked c rs zs → BookIs c rs zs
book_is c rs zs K =
    record {
      open_is = opens_book c rs;
      made_is = made_single c rs zs K;
    }
