-- From a lost position that is no earlier end every rule breaks a promise for some list of calls: a station is overfull there, or in the end its move is
-- shut, or its silent moves number J × W in a row.
-- Assumes nothing.
use mathlib.Core.Path.{◌≡◌, refl, sym, ap, subst, ◌∙◌}
use mathlib.Core.Bool.{Bool, true, false, cond, true≢false}
use mathlib.Core.List.{List, [], ◌∷◌}
use Prim.Native.Nat.{ℕ, zero, suc, ◌+◌, ◌*◌, ◌≤◌}
use native.Mathlib.Omega.{arith}
use lib.Dec.{eqb}
use borrow.Author.Tests.{ne_eqb, le-ltb}
use Rattle.refusals.specs.Search.{every}
use Rattle.refusals.proofs.Verdicts.{and_left, and_right}
use Rattle.cell.specs.declared.Cell.{Cell}
use Rattle.positions.specs.declared.Configuration.{Configuration}
use Rattle.steps.specs.Limits.{none_overfull}
use Rattle.steps.specs.Entry.{entry_kind}
use Rattle.steps.specs.Effect.{Effect, shut, silent, carried, ended, effect, is_move, leaves, makes}
use Rattle.steps.proofs.Effects.{read_silent, read_carried, read_ended, is_open_lem, makes_is}
use Rattle.chapters.specs.Joined.{Chapters, Point, recipe_at, kind_at, landing}
use Rattle.chapters.specs.Sizes.{Measures}
use Rattle.chapters.specs.Checked.{AllChecked}
use Rattle.run.specs.Calls.{next_point}
use Rattle.run.specs.Book.{Book, Call, asks, reports, opened, at_end, is_open, refusal_of, is_accepted, made, turned, noted, answer, moments, answers}
use Rattle.run.specs.Promises.{never_shut, few_silent, never_overfull, Rule}
use Rattle.simulation.specs.Simulation.{PositionIn}
use Rattle.simulation.specs.Rule.{Breaks}
use Rattle.simulation.proofs.Machine.{goes, SilentWay, here, then, Lost, barred, beyond, lost}
use Rattle.simulation.proofs.BookBySingles.{opens_for, stays_silent, BookIs}
use Rattle.simulation.proofs.JoinedMachine.{kind_on, joined_machine, end_finish, lands_leads, joined_laws, goes_settled}

-- what passes at every element does so past the first
rest : {A : Type 0} (test : A → Bool) (x : A) (xs : List A) → every test (x ∷ xs) ≡ true → every test xs ≡ true
unfolding every
rest test x xs all = and_right (test x) _ all

module _ (c : Cell) (rs : Chapters) (zs : Measures) (rule : Rule) where
  -- under the rule, a list of calls on the book b after the outcomes h breaks a promise
  record Fails (h : List ℕ) (b : Book) : Type 0 where
    calls : List Call
    broken :
        every never_shut (answers c rs (moments c rs (λ accepted d. rule accepted) h b calls)) ≡ true
        → every (few_silent c rs zs) (moments c rs (λ accepted d. rule accepted) h b calls) ≡ true
        → every (never_overfull c rs) (moments c rs (λ accepted d. rule accepted) h b calls) ≡ true
        → ⊥

  -- too many silent moves, for which any call will do
  idle_fails : (h : List ℕ) (b : Book) → (zs 0).joint * (zs 0).ways ≤ b.q → Fails h b
  unfolding moments every few_silent turned
  idle_fails h b many =
      record {
        calls = asks ∷ [];
        broken = λ shut-never few room.
            let wrong : false ≡ true = sym (le-ltb b.q ((zs 0).joint * (zs 0).ways) many) ∙ and_left _ _ few in
            let y : ◌≡◌ {A = ℕ} 0 1 = cc in omega arith;
      }

  -- a station that is overfull, for which any call will do too
  full_fails : (h : List ℕ) (b : Book) → none_overfull c b.configuration ≡ false → Fails h b
  unfolding moments every never_overfull
  full_fails h b full =
      record {
        calls = asks ∷ [];
        broken = λ shut-never few room. true≢false (sym (and_left _ _ (and_left _ _ room)) ∙ full);
      }

  -- a move that is shut, for which the next-move call is refused
  shut_fails : (h : List ℕ) (b : Book) → is_open c rs b (rule h) ≡ false → Fails h b
  unfolding moments answers answer every never_shut
  shut_fails h b closed =
      record {
        calls = asks ∷ [];
        broken = λ shut-never few room.
            let z : false ≡ true = rw closed at shut-never in
            let y : ◌≡◌ {A = ℕ} 0 1 = cc in omega arith;
      }

  -- a report that is accepted
  next_moments :
      (h : List ℕ) (b : Book) (outcome : ℕ) (calls : List Call)
      → is_accepted c rs b (rule h) outcome ≡ true
      → moments c rs (λ accepted d. rule accepted) h b (reports outcome ∷ calls)
      ≡ record { book = b; move = rule h; call = reports outcome } ∷ moments c rs (λ accepted d. rule accepted) (outcome ∷ h)
      (made c rs b (rule h) outcome) calls
  unfolding moments turned noted
  next_moments h b outcome calls passes = rw passes

  next_fails :
      (h : List ℕ) (b : Book) (outcome : ℕ)
      → is_accepted c rs b (rule h) outcome ≡ true
      → Fails (outcome ∷ h) (made c rs b (rule h) outcome)
      → Fails h b
  unfolding answers
  next_fails h b outcome passes later =
      record {
        calls = reports outcome ∷ later.calls;
        broken = λ shut-never few room.
            let is = next_moments h b outcome later.calls passes in
            later.broken (rest never_shut _ _ (rw is at shut-never)) (rest (few_silent c rs zs) _ _ (rw is at few))
            (rest (never_overfull c rs) _ _ (rw is at room));
      }

module _ (c : Cell) (rs : Chapters) (zs : Measures) (K : AllChecked c rs zs) (is : BookIs c rs zs) (rule : Rule) where
  -- a report of outcome 0 or 1, the rule's move being open and the point no end
  report_fails :
      (h : List ℕ) (b next : Book) (outcome : ℕ)
      → outcome ≤ 1
      → PositionIn rs zs b.point b.configuration
      → (kind_at rs b.point ≡ 0 → ⊥)
      → opens_for c rs b (rule h) ≡ true
      → next_point rs b.point (rule h) outcome ≡ next.point
      → makes c (recipe_at rs b.point) b.point.point b.configuration (rule h) outcome ≡ next.configuration
      → cond (eqb (entry_kind (rule h)) 3) 0 (b.q + 1) ≡ next.q
      → Fails c rs zs rule (outcome ∷ h) next
      → Fails c rs zs rule h b
  unfolding is_accepted refusal_of at_end
  report_fails h b next outcome low valid some able leads makes_it counts later =
      next_fails c rs zs rule h b outcome
      (rw (le-ltb 1 outcome low, is.open_is b (rule h), able, ne_eqb (kind_at rs b.point) 0 some))
      (rw (is.made_is b (rule h) outcome valid some able low, leads, makes_it, counts) later)

  -- the rule is followed for n silent moves: it breaks a promise on the way, or comes to a carry
  chase :
      (p : Point) (start : Configuration)
      → (kind_at rs p ≡ 0 → ⊥)
      → ((b passed failed : Configuration) (q : ℕ) (h : List ℕ)
      → SilentWay (joined_machine c rs zs) p start b
      → PositionIn rs zs p b
      → effect c (recipe_at rs p) p.point b (rule h) ≡ carried passed failed
      → Fails c rs zs rule h (record { point = p; configuration = b; q = q }))
      → (n : ℕ) (a : Configuration) (q : ℕ) (h : List ℕ)
      → SilentWay (joined_machine c rs zs) p start a
      → PositionIn rs zs p a
      → (zs 0).joint * (zs 0).ways ≤ n + q
      → Fails c rs zs rule h (record { point = p; configuration = a; q = q })
  unfolding leaves is_move
  chase p start some carry zero a q h way valid room = idle_fails c rs zs rule h _ (omega arith)
  chase p start some carry (suc n) a q h way valid room =
      decide
      (λ b e. chase p start some carry n b (suc q) (1 ∷ h) (then (rule h) way e)
      ((joined_laws c rs zs K).silent_valid p a b (rule h) valid e) (omega arith))
      (effect c (recipe_at rs p) p.point a (rule h)) refl
    where
      follows :
          (b : Configuration)
          → effect c (recipe_at rs p) p.point a (rule h) ≡ silent b
          → Fails c rs zs rule (1 ∷ h) (record { point = p; configuration = b; q = suc q })
          → Fails c rs zs rule h (record { point = p; configuration = a; q = q })
      follows b move later =
          let quiet = (read_silent c (recipe_at rs p) p.point a (rule h) move).kind in
          report_fails h _ (record { point = p; configuration = b; q = suc q }) 1 (omega arith) valid some (is_open_lem c (recipe_at rs p) p.point a (rule h) (silent b) move)
          (stays_silent rs p (rule h) 1 some quiet) (makes_is c (recipe_at rs p) p.point a (rule h) (silent b) move 1) (rw (ne_eqb (entry_kind (rule h)) 3 quiet) (omega arith)) later

      decide :
          ((b : Configuration) → effect c (recipe_at rs p) p.point a (rule h) ≡ silent b → Fails c rs zs rule (1 ∷ h) (record { point = p; configuration = b; q = suc q }))
          → (f : Effect Configuration)
          → effect c (recipe_at rs p) p.point a (rule h) ≡ f
          → Fails c rs zs rule h (record { point = p; configuration = a; q = q })
      decide on shut e = shut_fails c rs zs rule h _ (is.open_is _ (rule h) ∙ is_open_lem c (recipe_at rs p) p.point a (rule h) shut e)
      decide on (silent b) e = follows b e (on b e)
      decide on (carried passed failed) e = carry a passed failed q h way valid e
      decide on ended e = absurd (some (read_ended c (recipe_at rs p) p.point a (rule h) e).done)

  lost_fails :
      (p : Point) (a : Configuration) (h : List ℕ)
      → PositionIn rs zs p a
      → landing rs p ≡ p
      → Lost (joined_machine c rs zs) p a
      → Fails c rs zs rule h (opened p a)
  unfolding opened leaves is_move
  lost_fails p a h valid own (barred full) = full_fails c rs zs rule h _ full
  lost_fails p a h valid own (beyond on) =
      subst (λ (q : Point). Fails c rs zs rule h (opened q a)) own
      (lost_fails (landing rs p) a h ((joined_laws c rs zs K).onward_valid p a valid) (ap (landing rs) own) on)
  lost_fails p a h valid own (lost some outcome later) =
      chase p a (λ done. some (end_finish rs p done))
      (λ b passed failed q g way there e.
      let o : Bool = outcome b passed failed (rule g) way e in
      carry o b passed failed q g there e
      (lost_fails (goes (kind_on rs p) p o) (cond o passed failed) (cond o 1 0 ∷ g)
      ((joined_laws c rs zs K).carried_valid p b passed failed (rule g) o there e)
      (goes_settled c rs zs K p o (λ done. some (end_finish rs p done)))
      (later b passed failed (rule g) way e)))
      ((zs 0).joint * (zs 0).ways) a 0 h (here refl) valid (omega arith)
    where
      carry :
          (o : Bool) (b passed failed : Configuration) (q : ℕ) (g : List ℕ)
          → PositionIn rs zs p b
          → effect c (recipe_at rs p) p.point b (rule g) ≡ carried passed failed
          → Fails c rs zs rule (cond o 1 0 ∷ g) (record { point = goes (kind_on rs p) p o; configuration = cond o passed failed; q = 0 })
          → Fails c rs zs rule g (record { point = p; configuration = b; q = q })
      carry o b passed failed q g there move next =
          let is_carry = read_carried c (recipe_at rs p) p.point b (rule g) move in
          report_fails g _ (record { point = goes (kind_on rs p) p o; configuration = cond o passed failed; q = 0 })
          (cond o 1 0) (low o) there is_carry.some (is_open_lem c (recipe_at rs p) p.point b (rule g) (carried passed failed) move)
          (sym (lands_leads rs p (rule g) is_carry.some is_carry.kind o))
          (makes_is c (recipe_at rs p) p.point b (rule g) (carried passed failed) move (cond o 1 0) ∙ same o) (rw is_carry.kind) next
        where
          low : (o : Bool) → cond o 1 0 ≤ 1
          low true = omega arith
          low false = omega arith

          same : (o : Bool) → cond (eqb (cond o 1 0) 1) passed failed ≡ cond o passed failed
          same true = refl
          same false = refl

pub lost_rule_breaks :
    (c : Cell) (rs : Chapters) (zs : Measures)
    → AllChecked c rs zs
    → BookIs c rs zs
    → (p : Point) (a : Configuration)
    → PositionIn rs zs p a
    → landing rs p ≡ p
    → Lost (joined_machine c rs zs) p a
    → (rule : Rule)
    → Breaks c rs zs p a rule
lost_rule_breaks c rs zs K is p a valid own gone rule =
    let found : Fails c rs zs rule [] (opened p a) = lost_fails c rs zs K is rule p a [] valid own gone in
    record { calls = found.calls; broken = λ kept. found.broken kept.is_never_shut kept.silent_few kept.none_is_overfull }
