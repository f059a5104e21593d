-- A port-closed part of a joint step, and then the rest of it, is open and ends in the same configuration.
-- Assumes nothing.
use mathlib.Core.Path.{◌≡◌, refl, sym, ap, subst, ◌∙◌}
use mathlib.Core.Bool.{Bool, true, false, cond, not, true≢false}
use Prim.Native.Nat.{ℕ, zero, suc, ◌<◌, ◌≤◌}
use native.Mathlib.Omega.{arith}
use lib.ListN.{get_or}
use lib.Dec.{eqb}
use borrow.Author.Tests.{eq-eqb, ne_eqb}
use Rattle.refusals.specs.Verdict.{Accepted}
use Rattle.refusals.proofs.EveryBelow.{all_by, all_at, any_none, count_same}
use Rattle.refusals.proofs.TabulatedLists.{tabulate_at, tabulate_same}
use Rattle.refusals.proofs.Verdicts.{and_left, and_right}
use Rattle.cell.specs.declared.Cell.{Cell}
use Rattle.cell.specs.Rules.{check_cell}
use Rattle.positions.specs.declared.Configuration.{Configuration}
use Rattle.steps.specs.Lines.{act_of, arg_of, state_of, place_of}
use Rattle.steps.specs.Limits.{load, none_overfull}
use Rattle.steps.specs.Joint.{Choice, rests, out_starts, may_do, acts, acts_on, is_step, is_silent, state_after, handed, place_after, after}
use Rattle.steps.proofs.ReadyLines.{both}
use Rattle.steps.proofs.StationLoads.{room_at, room_by, rest_load}
use Rattle.steps.proofs.LoadedLanes.{out_stays}
use Rattle.steps.proofs.MadeConfiguration.{join}
use Rattle.simulation.proofs.PortPairs.{Paired, paired_fits, receives, step_paired}

-- what the resources in s do, the others at rest
unfoldable pub part : Choice → (ℕ → Bool) → Choice
part x s k = cond (s k) (x k) rests

-- what the others do
unfoldable pub rest : Choice → (ℕ → Bool) → Choice
rest x s = part x (λ k. not (s k))

-- an out and an in on its port are in s both, or neither
abbrev pub Closed : Cell → Choice → (ℕ → Bool) → Type 0
Closed c x s =
    (port k i : ℕ)
    → k < 6
    → i < 6
    → acts_on c 3 port (x k) ≡ true
    → acts_on c 2 port (x i) ≡ true
    → s k ≡ s i

module _ (x : Choice) (s : ℕ → Bool) (k : ℕ) where
  pub part_in : s k ≡ true → part x s k ≡ x k
  unfolding part
  part_in e = rw e

  pub part_out : s k ≡ false → part x s k ≡ rests
  unfolding part
  part_out e = rw e

  pub part_rests : x k ≡ rests → part x s k ≡ rests
  unfolding part
  part_rests e = rw e (either (s k))
    where
      either : (b : Bool) → cond b rests rests ≡ rests
      either true = refl
      either false = refl

  pub rest_in : s k ≡ true → rest x s k ≡ rests
  unfolding rest part
  rest_in e = rw e

  pub rest_out : s k ≡ false → rest x s k ≡ x k
  unfolding rest part
  rest_out e = rw e

  -- an act of the part is one of the step, of a resource in s
  part_acts : (c : Cell) (act port : ℕ) → acts_on c act port (part x s k) ≡ true → (s k ≡ true) × (acts_on c act port (x k) ≡ true)
  unfolding part acts_on
  part_acts c act port = decide (s k) refl
    where
      decide : (b : Bool) → s k ≡ b → acts_on c act port (cond b (x k) rests) ≡ true → (s k ≡ true) × (acts_on c act port (x k) ≡ true)
      decide true e here = (e, here)
      decide false e here = let z : ◌≡◌ {A = ℕ} 0 1 = cc in absurd (omega arith)

-- a part in which no resource takes an operation is silent
pub part_silent : (c : Cell) (x : Choice) (s : ℕ → Bool) → ((k : ℕ) → k < 6 → s k ≡ true → acts c 1 (x k) ≡ false) → is_silent c (part x s) ≡ true
unfolding is_silent acts
part_silent c x s none = rw (any_none (λ k. acts c 1 (part x s k)) 6 (λ k low. each k low (s k) refl))
  where
    each : (k : ℕ) → k < 6 → (b : Bool) → s k ≡ b → acts c 1 (part x s k) ≡ false
    each k low true e = rw (part_in x s k e) (none k low e)
    each k low false e = rw (part_out x s k e)

-- the ins and outs of a port-closed part are in pairs
module _ (c : Cell) (x : Choice) (paired : Paired c x) (s : ℕ → Bool) (closed : Closed c x s) where
  part_paired : Paired c (part x s)
  part_paired =
      record {
        in_for = λ port k low here.
            let own = part_acts x s k c 3 port here in
            let one = paired.in_for port k low own.1 in
            record {
              at =
                  one.at;
              low =
                  one.low;
              holds =
                  rw (part_in x s one.at (sym (closed port k one.at low one.low own.1 one.holds) ∙ own.0))
                  one.holds;
            };
        out_for = λ port i low here.
            let own = part_acts x s i c 2 port here in
            let one = paired.out_for port i low own.1 in
            record {
              at =
                  one.at;
              low =
                  one.low;
              holds =
                  rw (part_in x s one.at (closed port one.at i one.low low one.holds own.1 ∙ own.0))
                  one.holds;
            };
        in_one = λ port i j i-low j-low i-here j-here.
            paired.in_one port i j i-low j-low (part_acts x s i c 2 port i-here).1 (part_acts x s j c 2 port j-here).1;
        out_one = λ port i j i-low j-low i-here j-here.
            paired.out_one port i j i-low j-low (part_acts x s i c 3 port i-here).1 (part_acts x s j c 3 port j-here).1;
      }

  -- where the step hands over what resource k holds: to a resource in s if k is in s, as the part does
  record Lands (k : ℕ) : Type 0 where
    at : ℕ
    low : at < 6
    is : place_after c x (suc k) ≡ suc at
    same : s k ≡ s at
    part_does : s k ≡ true → place_after c (part x s) (suc k) ≡ suc at

  lands : (k : ℕ) → k < 6 → Lands k
  unfolding place_after handed acts_on
  lands k low = decide (x k) refl
    where
      over : (l : ℕ) → x k ≡ suc l → (b : Bool) → eqb (act_of c l) 3 ≡ b → Lands k
      over l e true out =
          let acted : acts_on c 3 (arg_of c l) (x k) ≡ true = rw (e, out, eq-eqb (arg_of c l) (arg_of c l) refl) in
          let one = paired.in_for (arg_of c l) k low acted in
          let same : s k ≡ s one.at = closed (arg_of c l) k one.at low one.low acted one.holds in
          record {
            at = one.at;
            low = one.low;
            is = rw (e, out) (ap suc (receives c x paired (arg_of c l) one.at one.low one.holds));
            same = same;
            part_does = λ here.
                rw (part_in x s k here, e, out)
                (ap suc
                (receives c (part x s) part_paired (arg_of c l) one.at one.low
                (rw (part_in x s one.at (sym same ∙ here)) one.holds)));
          }
      over l e false out =
          record { at = k; low = low; is = rw (e, out); same = refl; part_does = λ here. rw (part_in x s k here, e, out) }

      decide : (u : ℕ) → x k ≡ u → Lands k
      decide zero e = record { at = k; low = low; is = rw e; same = refl; part_does = λ here. rw (part_in x s k here, e) }
      decide (suc l) e = over l e (eqb (act_of c l) 3) refl

-- a resource that isn't in the part holds what it held
pub part_keeps : (c : Cell) (x : Choice) (s : ℕ → Bool) (k : ℕ) → s k ≡ false → place_after c (part x s) (suc k) ≡ suc k
unfolding place_after handed
part_keeps c x s k e = rw (part_out x s k e)

negated : (s : ℕ → Bool) (k : ℕ) → s k ≡ true → not (s k) ≡ false
negated s k e = rw e

-- two resources of which one is in s are not the same
differ : (s : ℕ → Bool) (k i : ℕ) → k ≡ i → s k ≡ true → s i ≡ false → ⊥
differ s k i e f g = true≢false (sym f ∙ ap s e ∙ g)

-- what a resource may do it may still do in the same state, holding no less
may_still :
    (c : Cell) (a b : Configuration) (k u : ℕ)
    → state_of a k ≡ state_of b k
    → load a.place k ≤ load b.place k
    → may_do c a k u ≡ true
    → may_do c b k u ≡ true
unfolding may_do
may_still c a b k zero same more may = refl
may_still c a b k (suc l) same more may =
    let starts : out_starts c b k l ≡ true = out_stays c a b k l more (search (and_left, and_right)) in
    rw (← same) (search (both, and_left, and_right))

module _
    (c : Cell) (good : check_cell c ≡ Accepted) (a : Configuration) (x : Choice) (step : is_step c a x ≡ true)
    (s : ℕ → Bool) (closed : Closed c x s)
  where
    paired : Paired c x
    paired = step_paired c x good a step

    others_closed : Closed c x (λ k. not (s k))
    others_closed port k i k-low i-low out into = ap not (closed port k i k-low i-low out into)

    may : (k : ℕ) → k < 6 → may_do c a k (x k) ≡ true
    unfolding is_step
    may k low = all_at (λ k. may_do c a k (x k)) 6 k (search and_left) low

    -- the part may be taken
    pub part_step : is_step c a (part x s) ≡ true
    unfolding is_step part may_do
    part_step =
        both _ _ (all_by (λ k. may_do c a k (part x s k)) 6 (λ k low. each k (s k) (may k low))) (paired_fits c (part x s) (part_paired c x paired s closed))
      where
        each : (k : ℕ) (b : Bool) → may_do c a k (x k) ≡ true → may_do c a k (cond b (x k) rests) ≡ true
        each k true here = here
        each k false here = refl

    after_state : (k : ℕ) → k < 6 → state_of (after c (part x s) a) k ≡ state_after c (part x s k) (state_of a k)
    unfolding after
    after_state k low = tabulate_at (λ k. state_after c (part x s k) (state_of a k)) 6 k low

    pub after_place : (q : ℕ) → q < 8 → place_of (after c (part x s) a) q ≡ place_after c (part x s) (place_of a q)
    unfolding after
    after_place q low = tabulate_at (λ q. place_after c (part x s) (place_of a q)) 8 q low

    -- the rest may be taken wherever its resources are in their states and hold no less than they did
    pub rest_still :
        (b : Configuration)
        → ((k : ℕ) → k < 6 → s k ≡ false → state_of a k ≡ state_of b k)
        → ((k : ℕ) → k < 6 → s k ≡ false → load a.place k ≤ load b.place k)
        → is_step c b (rest x s) ≡ true
    unfolding is_step rest may_do
    rest_still b same more =
        both _ _ (all_by (λ k. may_do c b k (rest x s k)) 6 (λ k low. each k low (s k) refl))
        (paired_fits c (rest x s) (part_paired c x paired (λ k. not (s k)) others_closed))
      where
        each : (k : ℕ) → k < 6 → (t : Bool) → s k ≡ t → may_do c b k (rest x s k) ≡ true
        each k low true e = rw (rest_in x s k e)
        each k low false e = rw (rest_out x s k e) (may_still c a b k (x k) (same k low e) (more k low e) (may k low))

    pub rest_states : (k : ℕ) → k < 6 → s k ≡ false → state_of a k ≡ state_of (after c (part x s) a) k
    unfolding state_after
    rest_states k low e = sym (after_state k low ∙ rw (part_out x s k e))

    -- so it may after the part
    pub rest_step : is_step c (after c (part x s) a) (rest x s) ≡ true
    rest_step = rest_still (after c (part x s) a) rest_states (λ k low e. rest_load c (part x s) a k (part_out x s k e))

    states_parted : (k v : ℕ) → state_after c (rest x s k) (state_after c (part x s k) v) ≡ state_after c (x k) v
    unfolding state_after
    states_parted k v = decide (s k) refl
      where
        decide : (b : Bool) → s k ≡ b → state_after c (rest x s k) (state_after c (part x s k) v) ≡ state_after c (x k) v
        decide true e = rw (rest_in x s k e, part_in x s k e)
        decide false e = rw (rest_out x s k e, part_out x s k e)

    places_parted : (v : ℕ) → v ≤ 6 → place_after c (rest x s) (place_after c (part x s) v) ≡ place_after c x v
    unfolding place_after rest
    places_parted zero most = refl
    places_parted (suc k) most = decide (s k) refl
      where
        decide : (b : Bool) → s k ≡ b → place_after c (rest x s) (place_after c (part x s) (suc k)) ≡ place_after c x (suc k)
        decide true e =
            let there = lands c x paired s closed k most in
            let kept : place_after c (rest x s) (suc there.at) ≡ suc there.at =
            part_keeps c x (λ k. not (s k)) there.at (negated s there.at (sym there.same ∙ e)) in
            ap (place_after c (rest x s)) (there.part_does e) ∙ kept ∙ sym there.is
        decide false e =
            let there = lands c x paired (λ k. not (s k)) others_closed k most in
            ap (place_after c (rest x s)) (part_keeps c x s k e) ∙ there.part_does (rw e) ∙ sym there.is

    -- the two end where the step ends
    pub parted_after : ((q : ℕ) → q < 8 → place_of a q ≤ 6) → after c (rest x s) (after c (part x s) a) ≡ after c x a
    unfolding after
    parted_after most =
        join
        (tabulate_same (λ k. state_after c (rest x s k) (state_of (after c (part x s) a) k))
        (λ k. state_after c (x k) (state_of a k)) 6
        (λ k low. ap (state_after c (rest x s k)) (after_state k low) ∙ states_parted k (state_of a k)))
        (tabulate_same (λ q. place_after c (rest x s) (place_of (after c (part x s) a) q))
        (λ q. place_after c x (place_of a q)) 8
        (λ q low. ap (place_after c (rest x s)) (after_place q low) ∙ places_parted (place_of a q) (most q low)))

    -- where a part goes that was at place v: as in the whole step if its resource is in s, else nowhere
    part_place : (v k : ℕ) → v ≤ 6 → k < 6 → eqb (place_after c (part x s) v) (suc k) ≡ cond (s k) (eqb (place_after c x v) (suc k)) (eqb v (suc k))
    unfolding place_after
    part_place zero k most low = either (s k)
      where
        either : (b : Bool) → eqb 0 (suc k) ≡ cond b (eqb 0 (suc k)) (eqb 0 (suc k))
        either true = refl
        either false = refl
    part_place (suc i) k most low = decide (s i) refl
      where
        there : Lands c x paired s closed i
        there = lands c x paired s closed i most

        decide : (b : Bool) → s i ≡ b
            → eqb (place_after c (part x s) (suc i)) (suc k) ≡ cond (s k) (eqb (place_after c x (suc i)) (suc k)) (eqb (suc i) (suc k))
        decide true e = rw (there.part_does e, there.is) (at (s k) refl)
          where
            at : (b : Bool) → s k ≡ b → eqb (suc there.at) (suc k) ≡ cond b (eqb (suc there.at) (suc k)) (eqb (suc i) (suc k))
            at true f = refl
            at false f =
                ne_eqb _ _ (λ (g : suc there.at ≡ suc k). differ s there.at k (omega arith) (sym there.same ∙ e) f)
                ∙ sym (ne_eqb _ _ (λ (g : suc i ≡ suc k). differ s i k (omega arith) e f))
        decide false e = rw (part_keeps c x s i e, there.is) (at (s k) refl)
          where
            at : (b : Bool) → s k ≡ b → eqb (suc i) (suc k) ≡ cond b (eqb (suc there.at) (suc k)) (eqb (suc i) (suc k))
            at false f = refl
            at true f =
                ne_eqb _ _ (λ (g : suc i ≡ suc k). differ s k i (omega arith) f e)
                ∙ sym (ne_eqb _ _ (λ (g : suc there.at ≡ suc k). differ s k there.at (omega arith) f (sym there.same ∙ e)))

    -- so a resource in s holds what it holds after the step, and any other what it held
    pub part_load : ((q : ℕ) → q < 8 → place_of a q ≤ 6) → (k : ℕ) → k < 6
        → load (after c (part x s) a).place k ≡ cond (s k) (load (after c x a).place k) (load a.place k)
    unfolding load after
    part_load most k low = decide (s k) refl
      where
        moved : (b : Bool) → s k ≡ b → (q : ℕ) → q < 8
            → eqb (place_of (after c (part x s) a) q) (suc k) ≡ cond b (eqb (place_after c x (place_of a q)) (suc k)) (eqb (place_of a q) (suc k))
        moved b f q less = ap (λ (v : ℕ). eqb v (suc k)) (after_place q less) ∙ rw (← f) (part_place (place_of a q) k (most q less) low)

        decide : (b : Bool) → s k ≡ b → load (after c (part x s) a).place k ≡ cond b (load (after c x a).place k) (load a.place k)
        decide true f =
            count_same (λ q. eqb (place_of (after c (part x s) a) q) (suc k)) (λ q. eqb (place_of (after c x a) q) (suc k)) 8
            (λ q less. moved true f q less ∙ ap (λ (v : ℕ). eqb v (suc k)) (sym (tabulate_at (λ q. place_after c x (place_of a q)) 8 q less)))
        decide false f =
            count_same (λ q. eqb (place_of (after c (part x s) a) q) (suc k)) (λ q. eqb (place_of a q) (suc k)) 8 (moved false f)

    -- where no station is overfull before and after the step, none is between
    pub part_room : ((q : ℕ) → q < 8 → place_of a q ≤ 6) → none_overfull c a ≡ true → none_overfull c (after c x a) ≡ true
        → none_overfull c (after c (part x s) a) ≡ true
    part_room most before later =
        room_by c (after c (part x s) a)
        (λ k low. subst (λ (n : ℕ). n ≤ get_or c.limits k 0) (sym (part_load most k low)) (either k (s k) (room_at c (after c x a) later k low) (room_at c a before k low)))
      where
        either : (k : ℕ) (b : Bool) {m n : ℕ} → m ≤ get_or c.limits k 0 → n ≤ get_or c.limits k 0 → cond b m n ≤ get_or c.limits k 0
        either k true first second = first
        either k false first second = second
