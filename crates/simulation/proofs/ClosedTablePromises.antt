-- A closed table, all of whose entries other than 0 are open and lead to such entries, keeps every promise of demand 3 for
-- every list of calls, and so does whatever else names the table's moves.
-- Assumes nothing.
use mathlib.Core.Path.{◌≡◌, refl, sym, ap, subst, ◌∙◌}
use mathlib.Core.Bool.{Bool, true, false, cond, not, ◌&&◌, true≢false}
use mathlib.Core.List.{List, [], ◌∷◌}
use Prim.Native.Nat.{ℕ, ◌+◌, ◌*◌, ◌<◌, ◌≤◌}
use native.Mathlib.Omega.{arith}
use lib.ListN.{length}
use lib.Dec.{eqb, ltb}
use borrow.Author.Tests.{eqb-true, eqb-false, eq-eqb, ne_eqb, lt-ltb, le-ltb, ltb-false, not-true}
use Rattle.refusals.specs.Search.{every}
use Rattle.refusals.specs.declared.Refusal.TheVariants.{TooShort, RunRange, OutcomeRange, NotOpen, AtEnd}
use Rattle.refusals.specs.Verdict.{Verdict, Accepted, Refused, first_refusal, no_line, if_accepted, refusal_in}
use Rattle.refusals.proofs.Verdicts.{and_left, and_right, no_line_kept}
use Rattle.refusals.proofs.Rules.{accepts, decides, part_accepts}
use Rattle.cell.specs.declared.Cell.{Cell}
use Rattle.recipe.specs.declared.Recipe.{Recipe}
use Rattle.positions.specs.declared.Configuration.{Configuration}
use Rattle.steps.specs.Lines.{kind_of}
use Rattle.steps.specs.Joint.{Choice, is_step}
use Rattle.steps.specs.Limits.{none_overfull}
use Rattle.steps.specs.Carry.{matches, present, free, suits, carries}
use Rattle.steps.specs.Entry.{entry_kind, letter, is_formed, step_of, may_be_taken}
use Rattle.steps.specs.Effect.{silent, carried, effect, opens, leaves, makes}
use Rattle.steps.proofs.StationLoads.{carry_suits}
use Rattle.steps.proofs.Effects.{Open, open_silent, open_carried, open_ended, open_is, read_silent, read_carried, read_ended, makes_is}
use Rattle.chapters.specs.Joined.{Chapters, Point, recipe_at, kind_at, landing}
use Rattle.chapters.specs.Sizes.{Measures, sizes_in, begins, entry_in}
use Rattle.chapters.specs.Rules.{record_rules, rule14, rule16, is_position_in}
use Rattle.chapters.specs.Checked.{AllChecked}
use Rattle.chapters.proofs.AcceptedChapters.{rules_of, few_of}
use Rattle.run.specs.declared.Run.{Run}
use Rattle.run.specs.Calls.{run_at, table_rules, entry_rules, move_rules, report_rules, rule17, rule18, rule19, next_move, next_point, next_run, report_of}
use Rattle.run.specs.Calls.{Report, point_of}
use Rattle.run.specs.Book.{Book, Call, asks, reports, Answer, reported, Mover, Moment, Issue, opened, by_table, at_end, is_open, refusal_of}
use Rattle.run.specs.Book.{made, point_after, is_accepted, turned, noted, answer, moments, answers, issued_by, issued}
use Rattle.run.specs.Promises.{agree, rightly, never_shut, every_issue, was_open, of_carries, found_parts, carried_point, few_silent, never_overfull, Keeps, Promises}
use Rattle.run.proofs.CallsByValue.{run_after, run_answer, run_answers, chain_answers}
use Rattle.simulation.specs.Simulation.{PositionIn}
use Rattle.simulation.proofs.JoinedMachine.{open_at}
use Rattle.simulation.proofs.BookBySingles.{opens_for, book_after, stays_silent, book_is}

-- every entry other than 0 is open, and stands where no station is overfull; a silent one leads to such an entry, nearer by
-- rank; one that carries leads to such entries, whatever the outcome; and one at an earlier end passes on to such an entry
pub record ClosedTable (c : Cell) (rs : Chapters) (zs : Measures) (table : List ℕ) (rank : Point → Configuration → ℕ) : Type 0 where
  pub none_is_overfull :
      (p : Point) (a : Configuration)
      → PositionIn rs zs p a
      → (entry_in zs table p a ≡ 0 → ⊥)
      → none_overfull c a ≡ true
  pub opened :
      (p : Point) (a : Configuration)
      → PositionIn rs zs p a
      → (entry_in zs table p a ≡ 0 → ⊥)
      → opens c (recipe_at rs p) p.point a (entry_in zs table p a) ≡ true
  pub silent_on :
      (p : Point) (a : Configuration)
      → PositionIn rs zs p a
      → (entry_in zs table p a ≡ 0 → ⊥)
      → (b : Configuration)
      → effect c (recipe_at rs p) p.point a (entry_in zs table p a) ≡ silent b
      → (entry_in zs table p b ≡ 0 → ⊥) × (rank p b < rank p a)
  pub carry_on :
      (p : Point) (a : Configuration)
      → PositionIn rs zs p a
      → (entry_in zs table p a ≡ 0 → ⊥)
      → (b d : Configuration)
      → effect c (recipe_at rs p) p.point a (entry_in zs table p a) ≡ carried b d
      → (outcome : Bool)
      → entry_in zs table (next_point rs p (entry_in zs table p a) (cond outcome 1 0)) (cond outcome b d) ≡ 0
      → ⊥
  pub passes_on :
      (p : Point) (a : Configuration)
      → PositionIn rs zs p a
      → (entry_in zs table p a ≡ 0 → ⊥)
      → entry_in zs table (landing rs p) a ≡ 0
      → ⊥
  pub ranked :
      (p : Point) (a : Configuration)
      → PositionIn rs zs p a
      → (entry_in zs table p a ≡ 0 → ⊥)
      → rank p a < (zs 0).joint * (zs 0).ways

-- a test of the first case alone
if_first : (t x y z : Bool) → (x ≡ true → z ≡ true) → cond t x y ≡ true → cond t z true ≡ true
if_first true x y z on e = on e
if_first false x y z on e = refl

-- a step that carries a point finds the parts, and at a do room for those it gives
parts_there :
    (c : Cell) (r : Recipe) (p : ℕ) (x : Choice) (ls : ℕ → ℕ) (a : Configuration)
    → carries c r p x ls a ≡ true
    → (present c r p ls a && cond (eqb (kind_of r p) 1) (free r p a) true) ≡ true
unfolding suits
parts_there c r p x ls a able =
    decide (eqb (kind_of r p) 1) (eqb (kind_of r p) 2) (is_step c a x) (matches c r p x ls) (present c r p ls a) (free r p a) (carry_suits c r p x ls a able)
  where
    decide : (s t i m n f : Bool) → (i && (m && (n && cond s f t))) ≡ true → (n && cond s f true) ≡ true
    decide true t i m n f e = and_right m (n && f) (and_right i _ e)
    decide false true i m n f e = and_right m (n && true) (and_right i _ e)
    decide false false i m n f e = absurd (true≢false (sym (and_right n false (and_right m (n && false) (and_right i _ e)))))

-- a book whose move is open
module _ (c : Cell) (rs : Chapters) (b : Book) (e : ℕ) (able : is_open c rs b e ≡ true) where
  refusal_is : (outcome : ℕ) → refusal_of c rs b e outcome ≡ cond (ltb 1 outcome) 17 (cond (at_end rs b) 19 0)
  unfolding refusal_of
  refusal_is outcome = rw able

  accepted_is : (outcome : ℕ) → is_accepted c rs b e outcome ≡ (not (ltb 1 outcome) && not (at_end rs b))
  unfolding is_accepted
  accepted_is outcome = rw (refusal_is outcome) (decide (ltb 1 outcome) (at_end rs b))
    where
      decide : (s t : Bool) → eqb (cond s 17 (cond t 19 0)) 0 ≡ (not s && not t)
      decide true t = refl
      decide false true = refl
      decide false false = refl

  refuses_rightly : (call : Call) → rightly c rs b e call ≡ true
  unfolding rightly agree
  refuses_rightly asks = refl
  refuses_rightly (reports outcome) = rw (accepted_is outcome) (decide (ltb 1 outcome) (at_end rs b))
    where
      decide : (s t : Bool) → cond s true (cond (not (not s && not t)) t (not t)) ≡ true
      decide true t = refl
      decide false true = refl
      decide false false = refl

  not_shut : (call : Call) → never_shut (answer c rs b e call) ≡ true
  unfolding never_shut answer
  not_shut asks = rw able
  not_shut (reports outcome) = rw (refusal_is outcome) (decide (ltb 1 outcome) (at_end rs b))
    where
      decide : (s t : Bool) → not (eqb (cond s 17 (cond t 19 0)) 18) ≡ true
      decide true t = refl
      decide false true = refl
      decide false false = refl

  -- an issued move
  module _ (outcome : ℕ) (accepted : is_accepted c rs b e outcome ≡ true) where
    both : (not (ltb 1 outcome) && not (at_end rs b)) ≡ true
    both = sym (accepted_is outcome) ∙ accepted

    outcome_low : outcome ≤ 1
    outcome_low = ltb-false 1 outcome (not-true _ (and_left _ _ both))

    going : at_end rs b ≡ false
    going = not-true _ (and_right (not (ltb 1 outcome)) _ both)

    taken : may_be_taken c (recipe_at rs b.point) b.point.point b.configuration e ≡ true
    unfolding is_open
    taken = and_right (is_formed c (recipe_at rs b.point) b.point.point e) _ (rw going at able)

    was_open_lem : was_open c rs b.point (record { entry = e; configuration = b.configuration; outcome = outcome }) ≡ true
    unfolding was_open is_open at_end opened
    was_open_lem = able

    carried_point_lem : of_carries (carried_point c rs) b.point (record { entry = e; configuration = b.configuration; outcome = outcome }) ≡ true
    unfolding of_carries carried_point may_be_taken
    carried_point_lem = if_first (eqb (entry_kind e) 3) _ _ _ (λ there. there) taken

    found_parts_lem : of_carries (found_parts c rs) b.point (record { entry = e; configuration = b.configuration; outcome = outcome }) ≡ true
    unfolding of_carries found_parts may_be_taken
    found_parts_lem =
        let r = recipe_at rs b.point in
        if_first (eqb (entry_kind e) 3) _ _ _ (parts_there c r b.point.point (step_of c r b.point.point e) (letter e) b.configuration) taken

  -- it is issued at the book's point, and the later ones where the book then is
  made_point : (outcome : ℕ) → (made c rs b e outcome).point ≡ cond (eqb (entry_kind e) 3) (point_after rs b.point outcome) b.point
  unfolding made
  made_point outcome = decide (eqb (entry_kind e) 3) refl
    where
      decide :
          (t : Bool)
          → eqb (entry_kind e) 3 ≡ t
          → (made c rs b e outcome).point ≡ cond (eqb (entry_kind e) 3) (point_after rs b.point outcome) b.point
      decide true is = rw is
      decide false is = rw is

  issues_on :
      (test : Point → Issue → Bool) (call : Call) (later : List Issue)
      → ((outcome : ℕ) → is_accepted c rs b e outcome ≡ true → test b.point (record { entry = e; configuration = b.configuration; outcome = outcome }) ≡ true)
      → every_issue test rs (turned c rs b e call).point later ≡ true
      → every_issue test rs b.point (issued_by c rs b e call later) ≡ true
  unfolding turned issued_by every_issue
  issues_on test asks later passes rest = rest
  issues_on test (reports outcome) later passes rest = decide (is_accepted c rs b e outcome) refl rest
    where
      decide :
          (t : Bool)
          → is_accepted c rs b e outcome ≡ t
          → every_issue test rs (cond t (made c rs b e outcome) b).point later ≡ true
          → every_issue test rs b.point (cond t (record { entry = e; configuration = b.configuration; outcome = outcome } ∷ later) later) ≡ true
      decide true is on = rw (passes outcome is, ← made_point outcome) on
      decide false is on = on

  -- one call more, before a list of calls for which the promises are kept
  keeps_more :
      (zs : Measures) (call : Call) (later : List Moment)
      → (turned c rs b e call).q < (zs 0).joint * (zs 0).ways
      → none_overfull c b.configuration ≡ true
      → none_overfull c (turned c rs b e call).configuration ≡ true
      → Keeps c rs zs (turned c rs b e call).point later
      → Keeps c rs zs b.point (record { book = b; move = e; call = call } ∷ later)
  unfolding every few_silent never_overfull answers issued
  keeps_more zs call later few room Room-after rest =
      record {
        refused_at_ends = rw (refuses_rightly call) rest.refused_at_ends;
        is_never_shut = rw (not_shut call) rest.is_never_shut;
        moves_open = issues_on (was_open c rs) call (issued c rs later) was_open_lem rest.moves_open;
        parts_found = issues_on (of_carries (found_parts c rs)) call (issued c rs later) found_parts_lem rest.parts_found;
        points_followed = issues_on (of_carries (carried_point c rs)) call (issued c rs later) carried_point_lem rest.points_followed;
        silent_few = rw (lt-ltb _ _ few) rest.silent_few;
        none_is_overfull = rw (room, Room-after) rest.none_is_overfull;
      }

-- a book at an entry other than 0, with enough silent moves left for it
record Within (rs : Chapters) (zs : Measures) (table : List ℕ) (rank : Point → Configuration → ℕ) (b : Book) : Type 0 where
  position : PositionIn rs zs b.point b.configuration
  alive : entry_in zs table b.point b.configuration ≡ 0 → ⊥
  few : b.q + rank b.point b.configuration < (zs 0).joint * (zs 0).ways

-- the book begins so
starts_within :
    (c : Cell) (rs : Chapters) (zs : Measures) (table : List ℕ) (rank : Point → Configuration → ℕ)
    → ClosedTable c rs zs table rank
    → (p : Point) (a : Configuration)
    → PositionIn rs zs p a
    → (entry_in zs table p a ≡ 0 → ⊥)
    → Within rs zs table rank (opened p a)
unfolding opened
starts_within c rs zs table rank closed p a position alive =
    record { position = position; alive = alive; few = omega (arith, closed.ranked p a position alive) }

-- what names moves names the table's entry, where the outcomes accepted so far and the book are met together
pub record Follows (c : Cell) (rs : Chapters) (zs : Measures) (table : List ℕ) (mover : Mover) (Met : List ℕ → Book → Type 0) : Type 0 where
  pub names :
      (accepted : List ℕ) (b : Book)
      → Met accepted b
      → mover accepted b ≡ entry_in zs table b.point b.configuration
  pub goes_on :
      (accepted : List ℕ) (b : Book) (outcome : ℕ)
      → Met accepted b
      → PositionIn rs zs b.point b.configuration
      → (kind_at rs b.point ≡ 0 → ⊥)
      → opens_for c rs b (entry_in zs table b.point b.configuration) ≡ true
      → outcome ≤ 1
      → Met (outcome ∷ accepted) (made c rs b (entry_in zs table b.point b.configuration) outcome)

module _
    (c : Cell) (rs : Chapters) (zs : Measures) (K : AllChecked c rs zs)
    (table : List ℕ) (rank : Point → Configuration → ℕ) (closed : ClosedTable c rs zs table rank)
  where
    module _ (b : Book) (here : Within rs zs table rank b) where
      abbrev entry : ℕ
      entry = entry_in zs table b.point b.configuration

      -- its chapter's recipe, and its point there
      abbrev r : Recipe
      r = recipe_at rs b.point

      abbrev p : ℕ
      p = b.point.point

      abbrev a : Configuration
      a = b.configuration

      entry_opens : opens c r p a entry ≡ true
      entry_opens = closed.opened b.point a here.position here.alive

      roomy : none_overfull c a ≡ true
      roomy = closed.none_is_overfull b.point a here.position here.alive

      able : is_open c rs b entry ≡ true
      able = (book_is c rs zs K).open_is b entry ∙ entry_opens

      module _ (some : kind_at rs b.point ≡ 0 → ⊥) (outcome : ℕ) (low : outcome ≤ 1) where
        arrives : PositionIn rs zs (next_point rs b.point entry outcome) (makes c r p a entry outcome)
        arrives = open_at c rs zs K b.point a entry outcome here.position entry_opens

        arrives_within : Open c r p a entry → Within rs zs table rank (book_after c rs b entry outcome)
        unfolding leaves
        arrives_within (open_silent d is) =
            let quiet = (read_silent c r p a entry is).kind in
            let stay : next_point rs b.point entry outcome ≡ b.point = stays_silent rs b.point entry outcome some quiet in
            let on = closed.silent_on b.point a here.position here.alive d is in
            let made : makes c r p a entry outcome ≡ d = makes_is c r p a entry (silent d) is outcome in
            record {
              position = arrives;
              alive = rw (stay, made) on.0;
              few = rw (stay, made, ne_eqb (entry_kind entry) 3 quiet) (omega (arith, on.1, here.few));
            }
        arrives_within (open_carried d f is) =
            let kind = (read_carried c r p a entry is).kind in
            let made : makes c r p a entry outcome ≡ cond (eqb outcome 1) d f = makes_is c r p a entry (carried d f) is outcome in
            let alive : entry_in zs table (next_point rs b.point entry outcome) (makes c r p a entry outcome) ≡ 0 → ⊥ =
            rw made (at_outcome (eqb outcome 1) refl) in
            record { position = arrives; alive = alive; few = rw (eq-eqb (entry_kind entry) 3 kind) (omega (arith, closed.ranked _ _ arrives alive)) }
          where
            at_outcome : (t : Bool) → eqb outcome 1 ≡ t → entry_in zs table (next_point rs b.point entry outcome) (cond t d f) ≡ 0 → ⊥
            at_outcome true one =
                subst (λ (o : ℕ). entry_in zs table (next_point rs b.point entry o) d ≡ 0 → ⊥) (sym (eqb-true outcome 1 one))
                (closed.carry_on b.point a here.position here.alive d f is true)
            at_outcome false other =
                let ne : outcome ≡ 1 → ⊥ = eqb-false outcome 1 other in
                let nil : 0 ≡ outcome = omega arith in
                subst (λ (o : ℕ). entry_in zs table (next_point rs b.point entry o) f ≡ 0 → ⊥) nil
                (closed.carry_on b.point a here.position here.alive d f is false)
        arrives_within (open_ended is) = absurd (some (read_ended c r p a entry is).done)

        made_within : Within rs zs table rank (made c rs b entry outcome)
        made_within =
            subst (λ (d : Book). Within rs zs table rank d)
            (sym ((book_is c rs zs K).made_is b entry outcome here.position some entry_opens low))
            (arrives_within (open_is c r p a entry entry_opens))

      not_ended : (outcome : ℕ) → is_accepted c rs b entry outcome ≡ true → kind_at rs b.point ≡ 0 → ⊥
      unfolding at_end
      not_ended outcome accepted = eqb-false (kind_at rs b.point) 0 (going c rs b entry able outcome accepted)

      turned_within : (call : Call) → Within rs zs table rank (turned c rs b entry call)
      unfolding turned
      turned_within asks = here
      turned_within (reports outcome) = decide (is_accepted c rs b entry outcome) refl
        where
          decide : (t : Bool) → is_accepted c rs b entry outcome ≡ t → Within rs zs table rank (cond t (made c rs b entry outcome) b)
          decide true is = made_within (not_ended outcome is) outcome (outcome_low c rs b entry able outcome is)
          decide false is = here

    -- whatever names the table's moves keeps the promises
    module _ (mover : Mover) (Met : List ℕ → Book → Type 0) (follows : Follows c rs zs table mover Met) where
      turned_met :
          (accepted : List ℕ) (b : Book) (here : Within rs zs table rank b) (call : Call)
          → Met accepted b
          → Met (noted c rs b (entry b here) call accepted) (turned c rs b (entry b here) call)
      unfolding noted turned
      turned_met accepted b here asks met = met
      turned_met accepted b here (reports outcome) met = decide (is_accepted c rs b (entry b here) outcome) refl
        where
          decide :
              (t : Bool)
              → is_accepted c rs b (entry b here) outcome ≡ t
              → Met (cond t (outcome ∷ accepted) accepted) (cond t (made c rs b (entry b here) outcome) b)
          decide true is =
              follows.goes_on accepted b outcome met here.position (not_ended b here outcome is)
              (entry_opens b here) (outcome_low c rs b (entry b here) (able b here) outcome is)
          decide false is = met

      closed_keeps :
          (calls : List Call) (accepted : List ℕ) (b : Book)
          → Met accepted b
          → Within rs zs table rank b
          → Keeps c rs zs b.point (moments c rs mover accepted b calls)
      unfolding moments every every_issue answers issued
      closed_keeps [] accepted b met here =
          record { refused_at_ends = refl; is_never_shut = refl; moves_open = refl; parts_found = refl; points_followed = refl; silent_few = refl; none_is_overfull = refl }
      closed_keeps (call ∷ calls) accepted b met here =
          let e : ℕ = entry_in zs table b.point b.configuration in
          let on : Within rs zs table rank (turned c rs b e call) = turned_within b here call in
          let rest : Keeps c rs zs (turned c rs b e call).point
          (moments c rs mover (noted c rs b e call accepted) (turned c rs b e call) calls) =
          closed_keeps calls (noted c rs b e call accepted) (turned c rs b e call) (turned_met accepted b here call met) on in
          rw (follows.names accepted b met) (keeps_more c rs b e (able b here) zs call _ (omega (arith, on.few)) (roomy b here) (roomy _ on) rest)

-- a report's answer, by its verdict
abbrev report_with : Verdict → Run → Run → Report
report_with verdict run next = record { verdict = verdict; run = if_accepted verdict next run }

-- the run at the book's position
abbrev run_of : Book → Run
run_of b = run_at b.point b.configuration

-- a report on that run and to the book
record SameReport (c : Cell) (rs : Chapters) (table : List ℕ) (b : Book) (e outcome : ℕ) : Type 0 where
  verdict : Verdict
  next : Book
  report : report_of c rs table (run_of b) outcome ≡ record { verdict = verdict; run = run_of next }
  refusal : refusal_of c rs b e outcome ≡ refusal_in verdict
  turn : turned c rs b e (reports outcome) ≡ next

module _
    (c : Cell) (rs : Chapters) (K : AllChecked c rs (sizes_in c rs))
    (table : List ℕ) (long : begins (sizes_in c rs) (length rs) ≤ length table)
    (rank : Point → Configuration → ℕ) (closed : ClosedTable c rs (sizes_in c rs) table rank)
  where
    abbrev sizes : Measures
    sizes = sizes_in c rs

    passes : (p : Point) (a : Configuration) → PositionIn rs sizes p a → Accepted ≡ first_refusal (entry_rules c rs table (run_at p a))
    unfolding entry_rules table_rules rule14 rule16 is_position_in
    passes p a here =
        let enough : no_line TooShort (ltb (length table) (begins sizes (length rs))) ≡ Accepted = no_line_kept TooShort _ (le-ltb _ _ long) in
        let inside : no_line RunRange (not (is_position_in sizes (length rs) p a)) ≡ Accepted =
        no_line_kept RunRange _ (rw (lt-ltb p.chapter (length rs) here.there, here.here.is_in_range)) in
        part_accepts (record_rules false c rs) (table_rules sizes (length rs) (length table) (run_at p a))
        refl (rules_of c rs sizes K)
        (accepts _ refl (few_of c rs sizes K) (accepts _ refl enough (decides (sym inside))))

    module _ (b : Book) (here : Within rs sizes table rank b) where
      abbrev move : ℕ
      move = entry_in sizes table b.point b.configuration

      open_here : opens_for c rs b move ≡ true
      open_here = entry_opens c rs sizes K table rank closed b here

      book_opens : is_open c rs b move ≡ true
      book_opens = able c rs sizes K table rank closed b here

      next_is : next_move c rs table (run_of b) ≡ record { verdict = Accepted; entry = move }
      unfolding next_move move_rules if_accepted rule18
      next_is =
          let rules =
          part_accepts (entry_rules c rs table (run_of b)) (rule18 c rs table (run_of b) ∷ [])
          (passes b.point b.configuration here.position) refl
          (decides (sym (no_line_kept NotOpen _ (ap not open_here)))) in
          ap (λ (v : Verdict). record { verdict = v; entry = if_accepted v move 0 }) (sym rules)

      report_is :
          (outcome : ℕ)
          → report_of c rs table (run_of b) outcome
          ≡ cond (ltb 1 outcome) (record { verdict = Refused OutcomeRange 0; run = run_of b })
          (cond (at_end rs b) (record { verdict = Refused AtEnd 0; run = run_of b })
          (record { verdict = Accepted; run = run_of (book_after c rs b move outcome) }))
      unfolding report_of report_rules if_accepted first_refusal rule17 rule18 rule19 no_line next_run at_end
      report_is outcome =
          let rest = rule17 outcome ∷ rule18 c rs table (run_of b) ∷ rule19 rs (run_of b) ∷ [] in
          let rules = part_accepts (entry_rules c rs table (run_of b)) rest (passes b.point b.configuration here.position) refl refl in
          ap (λ (v : Verdict). report_with v (run_of b) (next_run c rs table (run_of b) outcome)) (sym rules)
          ∙ rw open_here (decide (ltb 1 outcome) (eqb (kind_at rs b.point) 0) (run_of b) _)
        where
          decide :
              (s t : Bool) (run next : Run)
              → report_with (first_refusal (cond s (Refused OutcomeRange 0) Accepted ∷ Accepted ∷ cond t (Refused AtEnd 0) Accepted ∷ [])) run next
              ≡ cond s (record { verdict = Refused OutcomeRange 0; run = run })
              (cond t (record { verdict = Refused AtEnd 0; run = run }) (record { verdict = Accepted; run = next }))
          decide true t run next = refl
          decide false true run next = refl
          decide false false run next = refl

      some : at_end rs b ≡ false → kind_at rs b.point ≡ 0 → ⊥
      unfolding at_end
      some = eqb-false (kind_at rs b.point) 0

      answered : (outcome : ℕ) → SameReport c rs table b move outcome
      unfolding turned refusal_in
      answered outcome = decide (ltb 1 outcome) (at_end rs b) refl refl
        where
          decide : (s t : Bool) → ltb 1 outcome ≡ s → at_end rs b ≡ t → SameReport c rs table b move outcome
          decide true t is is' =
              record {
                verdict = Refused OutcomeRange 0;
                next = b;
                report = report_is outcome ∙ rw is;
                refusal = refusal_is c rs b move book_opens outcome ∙ rw is;
                turn = rw (accepted_is c rs b move book_opens outcome, is);
              }
          decide false true is is' =
              record {
                verdict = Refused AtEnd 0;
                next = b;
                report = report_is outcome ∙ rw (is, is');
                refusal = refusal_is c rs b move book_opens outcome ∙ rw (is, is');
                turn = rw (accepted_is c rs b move book_opens outcome, is, is');
              }
          decide false false is is' =
              record {
                verdict = Accepted;
                next = book_after c rs b move outcome;
                report = report_is outcome ∙ rw (is, is');
                refusal = refusal_is c rs b move book_opens outcome ∙ rw (is, is');
                turn =
                    rw (accepted_is c rs b move book_opens outcome, is, is')
                    ((book_is c rs sizes K).made_is b move outcome here.position (some is') open_here (ltb-false 1 outcome is));
              }

      -- the run answers what the book answers, and goes where the book goes
      run_answer_lem : (call : Call) → run_answer c rs table (run_of b) call ≡ answer c rs b move call
      unfolding run_answer answer refusal_in
      run_answer_lem asks = rw (next_is, book_opens)
      run_answer_lem (reports outcome) =
          let told : SameReport c rs table b move outcome = answered outcome in
          ap (λ (x : Report). reported (refusal_in x.verdict) (point_of x.run) x.run.configuration) told.report
          ∙ sym (λ i. reported (told.refusal i) (told.turn i).point (told.turn i).configuration)

      run_after_lem : (call : Call) → run_after c rs table (run_of b) call ≡ run_of (turned c rs b move call)
      unfolding run_after turned
      run_after_lem asks = refl
      run_after_lem (reports outcome) =
          let told : SameReport c rs table b move outcome = answered outcome in
          ap (λ (x : Report). x.run) told.report ∙ sym (ap (λ (d : Book). run_of d) told.turn)

    same_answers :
        (calls : List Call) (accepted : List ℕ) (b : Book)
        → Within rs sizes table rank b
        → run_answers c rs table (run_of b) calls ≡ answers c rs (moments c rs (by_table sizes table) accepted b calls)
    unfolding run_answers answers moments by_table
    same_answers [] accepted b here = refl
    same_answers (call ∷ calls) accepted b here =
        let e : ℕ = entry_in sizes table b.point b.configuration in
        let rest : run_answers c rs table (run_of (turned c rs b e call)) calls ≡ answers c rs
        (moments c rs (by_table sizes table) (noted c rs b e call accepted) (turned c rs b e call) calls) =
        same_answers calls (noted c rs b e call accepted) (turned c rs b e call) (turned_within c rs sizes K table rank closed b here call) in
        rw (run_answer_lem b here call, run_after_lem b here call) (ap (λ (later : List Answer). answer c rs b e call ∷ later) rest)

-- what names the moves of a closed table keeps the promises, from each entry other than 0
pub closed_follows :
    (c : Cell) (rs : Chapters) (zs : Measures) (table : List ℕ) (rank : Point → Configuration → ℕ)
    → AllChecked c rs zs
    → ClosedTable c rs zs table rank
    → (mover : Mover) (Met : List ℕ → Book → Type 0)
    → Follows c rs zs table mover Met
    → (p : Point) (a : Configuration)
    → PositionIn rs zs p a
    → (entry_in zs table p a ≡ 0 → ⊥)
    → Met [] (opened p a)
    → (calls : List Call)
    → Keeps c rs zs p (moments c rs mover [] (opened p a) calls)
unfolding opened
closed_follows c rs zs table rank K closed mover Met follows p a position alive met calls =
    closed_keeps c rs zs K table rank closed mover Met follows calls [] (opened p a) met (starts_within c rs zs table rank closed p a position alive)

-- the table itself names them, whatever was accepted
by_table_lem : (c : Cell) (rs : Chapters) (zs : Measures) (table : List ℕ) → Follows c rs zs table (by_table zs table) (λ accepted b. Unit)
unfolding by_table
by_table_lem c rs zs table =
    record { names = λ accepted b met. refl; goes_on = λ accepted b outcome met here some able low. tt }

-- and its own run does, whatever the calls: the run's calls have the sizes of these chapters
pub closed_promises :
    (c : Cell) (rs : Chapters) (table : List ℕ) (rank : Point → Configuration → ℕ)
    → AllChecked c rs (sizes_in c rs)
    → begins (sizes_in c rs) (length rs) ≤ length table
    → ClosedTable c rs (sizes_in c rs) table rank
    → (p : Point) (a : Configuration)
    → PositionIn rs (sizes_in c rs) p a
    → (entry_in (sizes_in c rs) table p a ≡ 0 → ⊥)
    → (calls : List Call)
    → Promises c rs (sizes_in c rs) table p a calls
unfolding opened
closed_promises c rs table rank K long closed p a position alive calls =
    let sizes = sizes_in c rs in
    let always : List ℕ → Book → Type 0 = λ accepted b. Unit in
    record {
      same_answers =
          λ told chain.
          chain_answers c rs table (run_of (opened p a)) calls told chain
          ∙ same_answers c rs K table long rank closed calls [] (opened p a) (starts_within c rs sizes table rank closed p a position alive);
      keeps =
          closed_follows c rs sizes table rank K closed (by_table sizes table) always (by_table_lem c rs sizes table) p a position alive tt calls;
    }
