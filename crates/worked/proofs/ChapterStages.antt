-- Stages over the joined recipe: a number for each position of its chapters, and the test of such a list that the checker computes. At
-- a position of a stage above 0 no silent move raises the stage or ends it, and every carry has an outcome that lowers it where it
-- lands. Such positions are lost. For chapters of one line to a point, and for those of one or two. Assumes nothing.
use mathlib.Core.Path.{◌≡◌, sym, ap, ◌∙◌}
use mathlib.Core.Logic.{⊎_elim}
use mathlib.Core.Bool.{Bool, true, false, not, ◌&&◌, ◌||◌}
use mathlib.Core.List.{List}
use Prim.Native.Nat.{ℕ, ◌<◌, ◌≤◌}
use native.Mathlib.Omega.{arith}
use lib.ListN.{length}
use lib.Dec.{eqb, ltb, leb}
use borrow.Author.Tests.{eqb-true, eqb-false, ltb-true, leb-true, not-true}
use Rattle.refusals.specs.Search.{all_below}
use Rattle.refusals.proofs.Scan.{or_true}
use Rattle.refusals.proofs.Verdicts.{and_left, and_right, or_cases}
use Rattle.cell.specs.declared.Cell.{Cell}
use Rattle.positions.specs.declared.Configuration.{Configuration}
use Rattle.positions.specs.Position.{point_at, configuration_at}
use Rattle.steps.specs.Lines.{lines_of}
use Rattle.steps.specs.Entry.{is_formed}
use Rattle.steps.specs.Effect.{Effect, shut, silent, carried, ended, effect}
use Rattle.steps.proofs.Effects.{read_silent, read_carried}
use Rattle.chapters.specs.Joined.{Chapters, Point, recipe_at, kind_at, then_at, else_at, point_in}
use Rattle.chapters.specs.Sizes.{Measures, entry_in}
use Rattle.chapters.specs.Checked.{AllChecked}
use Rattle.simulation.specs.Simulation.{PositionIn}
use Rattle.simulation.proofs.Machine.{goes, Lost}
use Rattle.simulation.proofs.JoinedMachine.{kind_on, joined_machine, finish_end, lands_then, lands_else, joined_laws}
use Rattle.simulation.proofs.Stages.{Falls, Stages, staged_lost}
use Rattle.worked.proofs.EveryPosition.{in_chapter, everywhere, at_position}
use Rattle.worked.proofs.FormedEntries.{formed_pass, few_formed_pass, formed_few, few_formed_passes}

-- a stage above 0 and below another
unfoldable pub lowers : ℕ → ℕ → Bool
lowers s t = ltb 0 s && ltb s t

-- what a move does keeps the stage of a position
unfoldable pub keeps_in : Chapters → Measures → List ℕ → Point → Configuration → Effect Configuration → Bool
keeps_in rs zs stages p a shut = true
keeps_in rs zs stages p a (silent b) = ltb 0 (entry_in zs stages p b) && leb (entry_in zs stages p b) (entry_in zs stages p a)
keeps_in rs zs stages p a (carried b d) =
    lowers (entry_in zs stages (then_at rs p) b) (entry_in zs stages p a)
    || (eqb (kind_at rs p) 2 && lowers (entry_in zs stages (else_at rs p) d) (entry_in zs stages p a))
keeps_in rs zs stages p a ended = true

unfoldable pub staged_in : Cell → Chapters → Measures → List ℕ → Point → Configuration → Bool
staged_in c rs zs stages p a =
    eqb (entry_in zs stages p a) 0
    || (not (eqb (kind_at rs p) 0)
    && (eqb (lines_of (recipe_at rs p) p.point) 1
    && formed_pass c (recipe_at rs p) p.point (λ e. keeps_in rs zs stages p a (effect c (recipe_at rs p) p.point a e))))

-- the whole list, chapter by chapter
unfoldable pub are_stages_in : Cell → Chapters → Measures → List ℕ → Bool
are_stages_in c rs zs stages =
    all_below (λ k. all_below (λ m. staged_in c rs zs stages (point_in k (point_at (zs k) m)) (configuration_at (zs k) m)) (zs k).positions) (length rs)

-- the same with points of one line or of two
unfoldable pub few_staged_in : Cell → Chapters → Measures → List ℕ → Point → Configuration → Bool
few_staged_in c rs zs stages p a =
    eqb (entry_in zs stages p a) 0
    || (not (eqb (kind_at rs p) 0)
    && few_formed_pass c (recipe_at rs p) p.point (λ e. keeps_in rs zs stages p a (effect c (recipe_at rs p) p.point a e)))

unfoldable pub are_few_stages_in : Cell → Chapters → Measures → List ℕ → Bool
are_few_stages_in c rs zs stages = everywhere rs zs (few_staged_in c rs zs stages)

is_lower : (s t : ℕ) → lowers s t ≡ true → (0 < s) × (s < t)
unfolding lowers
is_lower s t e = (ltb-true 0 s (and_left (ltb 0 s) (ltb s t) e), ltb-true s t (and_right (ltb 0 s) (ltb s t) e))

module _ (c : Cell) (rs : Chapters) (zs : Measures) (K : AllChecked c rs zs) (stages : List ℕ)
    (staged : (p : Point) (a : Configuration) → PositionIn rs zs p a → few_staged_in c rs zs stages p a ≡ true) where
  abbrev stage : Point → Configuration → ℕ
  stage p a = entry_in zs stages p a

  module _ (p : Point) (a : Configuration) (at : PositionIn rs zs p a) (high : 0 < stage p a) where
    none : stage p a ≡ 0 → ⊥
    none z = omega arith

    parts :
        (not (eqb (kind_at rs p) 0)
        && few_formed_pass c (recipe_at rs p) p.point (λ e. keeps_in rs zs stages p a (effect c (recipe_at rs p) p.point a e))) ≡ true
    unfolding few_staged_in
    parts =
        ⊎_elim (λ (e : eqb (stage p a) 0 ≡ true). absurd (none (eqb-true _ 0 e))) (λ rest. rest)
        (or_cases (eqb (stage p a) 0) _ (staged p a at))

    some : kind_at rs p ≡ 0 → ⊥
    some = eqb-false _ 0 (not-true _ (and_left _ _ parts))

    -- what an entry in the stated form does
    keeps : (e : ℕ) → is_formed c (recipe_at rs p) p.point e ≡ true → keeps_in rs zs stages p a (effect c (recipe_at rs p) p.point a e) ≡ true
    keeps =
        few_formed_passes c (recipe_at rs p) p.point (λ e. keeps_in rs zs stages p a (effect c (recipe_at rs p) p.point a e))
        (and_right (not (eqb (kind_at rs p) 0)) _ parts)

    quiet : (e : ℕ) (b : Configuration) → effect c (recipe_at rs p) p.point a e ≡ silent b → (0 < stage p b) × (stage p b ≤ stage p a)
    unfolding keeps_in
    quiet e b is =
        let both : (ltb 0 (stage p b) && leb (stage p b) (stage p a)) ≡ true =
        ap (keeps_in rs zs stages p a) (sym is) ∙ keeps e (read_silent c (recipe_at rs p) p.point a e is).formed in
        (ltb-true 0 _ (search and_left), leb-true _ _ (search and_right))

    falls : (e : ℕ) (d f : Configuration) → effect c (recipe_at rs p) p.point a e ≡ carried d f → Falls (joined_machine c rs zs) stage p d f (stage p a)
    unfolding keeps_in
    falls e d f is =
        ⊎_elim
        (λ low.
        let t = is_lower _ _ low in
        let same : stage (goes (kind_on rs p) p true) d ≡ stage (then_at rs p) d = ap (λ (q : Point). stage q d) (lands_then rs p some) in
        record { outcome = true; above = rw same t.0; below = rw same t.1 })
        (λ (low : (eqb (kind_at rs p) 2 && lowers (stage (else_at rs p) f) (stage p a)) ≡ true).
        let t = is_lower (stage (else_at rs p) f) (stage p a) (search and_right) in
        let same : stage (goes (kind_on rs p) p false) f ≡ stage (else_at rs p) f =
        ap (λ (q : Point). stage q f) (lands_else rs p (eqb-true (kind_at rs p) 2 (search and_left))) in
        record { outcome = false; above = rw same t.0; below = rw same t.1 })
        (or_cases (lowers (stage (then_at rs p) d) (stage p a)) (eqb (kind_at rs p) 2 && lowers (stage (else_at rs p) f) (stage p a))
        (ap (keeps_in rs zs stages p a) (sym is) ∙ keeps e (read_carried c (recipe_at rs p) p.point a e is).formed))

  are_stages_lem : Stages (joined_machine c rs zs) stage
  are_stages_lem =
      record {
        going = λ p a at fit high done. some p a at high (finish_end rs p done);
        quiet = λ p a b e at fit high is. quiet p a at high e b is;
        carry = λ p a d f e at fit high is. falls p a at high e d f is;
      }

  -- a position of a stage above 0 is lost
  staged_lost_in : (p : Point) (a : Configuration) → PositionIn rs zs p a → 0 < stage p a → Lost (joined_machine c rs zs) p a
  staged_lost_in p a at high = staged_lost (joined_laws c rs zs K) are_stages_lem p a at high

-- so of a list that passes either test
module _ (c : Cell) (rs : Chapters) (zs : Measures) (K : AllChecked c rs zs) (stages : List ℕ) (good : are_few_stages_in c rs zs stages ≡ true) where
  pub few_stages_lost_in : (p : Point) (a : Configuration) → PositionIn rs zs p a → 0 < entry_in zs stages p a → Lost (joined_machine c rs zs) p a
  unfolding are_few_stages_in
  few_stages_lost_in = staged_lost_in c rs zs K stages (at_position c rs zs K (few_staged_in c rs zs stages) good)

module _ (c : Cell) (rs : Chapters) (zs : Measures) (K : AllChecked c rs zs) (stages : List ℕ) (good : are_stages_in c rs zs stages ≡ true) where
  staged_at : (p : Point) (a : Configuration) → PositionIn rs zs p a → staged_in c rs zs stages p a ≡ true
  unfolding are_stages_in everywhere in_chapter
  staged_at = at_position c rs zs K (staged_in c rs zs stages) good

  -- at points of one line both tests are one
  staged_few : (p : Point) (a : Configuration) → staged_in c rs zs stages p a ≡ true → few_staged_in c rs zs stages p a ≡ true
  unfolding staged_in few_staged_in
  staged_few p a passes = ⊎_elim (λ (e : eqb (entry_in zs stages p a) 0 ≡ true). rw e) some (or_cases (eqb (entry_in zs stages p a) 0) _ passes)
    where
      test : ℕ → Bool
      test e = keeps_in rs zs stages p a (effect c (recipe_at rs p) p.point a e)

      some :
          (not (eqb (kind_at rs p) 0) && (eqb (lines_of (recipe_at rs p) p.point) 1 && formed_pass c (recipe_at rs p) p.point test)) ≡ true
          → (eqb (entry_in zs stages p a) 0
          || (not (eqb (kind_at rs p) 0) && few_formed_pass c (recipe_at rs p) p.point test)) ≡ true
      some rest =
          let going : not (eqb (kind_at rs p) 0) ≡ true = and_left _ _ rest in
          let one = eqb-true _ 1 (and_left _ _ (and_right (not (eqb (kind_at rs p) 0)) _ rest)) in
          let formed = and_right (eqb (lines_of (recipe_at rs p) p.point) 1) _ (and_right (not (eqb (kind_at rs p) 0)) _ rest) in
          let both : (not (eqb (kind_at rs p) 0) && few_formed_pass c (recipe_at rs p) p.point test) ≡ true =
          rw (going, formed_few c (recipe_at rs p) p.point test one formed) in
          or_true (eqb (entry_in zs stages p a) 0) _ both

  -- a position of a stage above 0 is lost
  pub stages_lost_in : (p : Point) (a : Configuration) → PositionIn rs zs p a → 0 < entry_in zs stages p a → Lost (joined_machine c rs zs) p a
  stages_lost_in = staged_lost_in c rs zs K stages (λ p a at. staged_few p a (staged_at p a at))
