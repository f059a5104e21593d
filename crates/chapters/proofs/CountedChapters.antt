-- What is counted while the rules on chapters are tried, chapter by chapter. Assumes nothing.
use mathlib.Core.Path.{◌≡◌, refl, sym, ap, ◌∙◌}
use mathlib.Core.Bool.{Bool, cond}
use mathlib.Core.List.{List}
use Prim.Native.Nat.{ℕ, suc, ◌+◌, ◌<◌, ◌≤◌, max}
use native.Mathlib.Decide.{ℕ_discrete, dec_le, dec_lt}
use native.Mathlib.Omega.{arith}
use lib.ListN.{length}
use lib.Dec.{eqb, ltb}
use borrow.Author.Tests.{eq-eqb, ne_eqb, lt-ltb, le-ltb}
use Rattle.std.specs.Prelude.{Result, Ok, Err}
use Rattle.refusals.specs.declared.Broken.{Broken}
use Rattle.refusals.specs.Verdict.{Verdict, Accepted, first_refusal}
use Rattle.refusals.specs.Search.{greatest_below}
use Rattle.refusals.proofs.Rules.{tried_ok, part_ok}
use Rattle.cell.specs.declared.Cell.{Cell}
use Rattle.cell.specs.Rules.{cell_rules}
use Rattle.recipe.specs.Rules.{check_recipe}
use Rattle.positions.specs.Radix.{sum_below}
use Rattle.positions.specs.Sizes.{parts_of}
use Rattle.positions.proofs.SizeBounds.{points_sixteen}
use Rattle.chapters.specs.declared.Survey.{Survey}
use Rattle.chapters.specs.Joined.{Chapters, chapter_at, is_earlier}
use Rattle.chapters.specs.Sizes.{points_at, parts_in}
use Rattle.chapters.specs.Rules.{rule24, chapter_rules, in_turn, chapters_rules, record_rules}
use Rattle.chapters.specs.Survey.{Surveyed, Tried, counted_with}
use Rattle.chapters.proofs.ValuesBelow.{sum_most}
use Rattle.chapters.proofs.RulesInTurn.{turn_at, turn_accepts}
use Rattle.chapters.proofs.AcceptedChapters.{chapter_accepted}
use Rattle.chapters.proofs.ChapterSizes.{no_points}

-- the first k chapters pass and are counted, the one that is wanted among them if it is one of them
pub record SoFar (plans : Bool) (rs : Chapters) (wanted k : ℕ) (counts : Survey) : Type 0 where
  pub few : k ≤ length rs
  pub accepted : first_refusal (in_turn (λ i. chapter_rules plans (is_earlier rs i) (chapter_at rs i)) k) ≡ Accepted
  pub own_is : wanted < k → counts.own ≡ points_at rs wanted
  pub own_none : k ≤ wanted → counts.own ≡ 0
  pub before_is : wanted ≤ k → counts.before ≡ sum_below (points_at rs) wanted
  pub before_all : k ≤ wanted → counts.before ≡ sum_below (points_at rs) k
  pub all_is : counts.all ≡ sum_below (points_at rs) k
  pub most_is : counts.most ≡ greatest_below (points_at rs) k
  pub parts_is : counts.parts ≡ greatest_below (λ i. parts_of (chapter_at rs i)) k

-- nothing is counted
abbrev pub no_counts : Survey
no_counts = record { own = 0; before = 0; all = 0; most = 0; parts = 0 }

module _ (plans : Bool) (rs : Chapters) (wanted : ℕ) where
  -- before the first chapter
  pub counted_none : SoFar plans rs wanted 0 no_counts
  unfolding in_turn first_refusal sum_below greatest_below
  counted_none =
      record {
        few = omega arith;
        accepted = refl;
        own_is = λ (low : wanted < 0). absurd (omega arith);
        own_none = λ low. refl;
        before_is = λ (low : wanted ≤ 0).
            let none : wanted ≡ 0 = omega arith in
            rw none;
        before_all = λ low. refl;
        all_is = refl;
        most_is = refl;
        parts_is = refl;
      }

  module _ (k : ℕ) (counts : Survey) (S : SoFar plans rs wanted k counts) where
    -- each chapter so far passes
    passes : (i : ℕ) → i < k → check_recipe (chapter_at rs i) ≡ Accepted
    passes i low =
        (chapter_accepted plans (is_earlier rs i) (chapter_at rs i)
        (turn_at (λ i. chapter_rules plans (is_earlier rs i) (chapter_at rs i)) k i S.accepted low)).recipe_passes

    -- so none has more than 16 points
    points : (i : ℕ) → i < k → points_at rs i ≤ 16
    unfolding points_at
    points i low = points_sixteen (chapter_at rs i) (passes i low)

    -- there is room for one more
    pub room : k < 8 → (counts.before ≤ 112) × (counts.all ≤ 112)
    room low = (before (dec_le wanted k), omega (arith, S.all_is, sum_most (points_at rs) k 16 points))
      where
        before : Dec (wanted ≤ k) → counts.before ≤ 112
        before (yes past) = omega (arith, S.before_is past, sum_most (points_at rs) wanted 16 (λ (i : ℕ) (less : i < wanted). points i (omega arith)))
        before (no high) =
            let most : k ≤ wanted = omega arith in
            omega (arith, S.before_all most, sum_most (points_at rs) k 16 points)

    -- one chapter more
    pub counted_next :
        k < length rs
        → first_refusal (chapter_rules plans (is_earlier rs k) (chapter_at rs k)) ≡ Accepted
        → SoFar plans rs wanted (suc k) (counted_with counts k wanted (points_at rs k) (parts_of (chapter_at rs k)))
    unfolding counted_with sum_below greatest_below
    counted_next low here =
        record {
          few = low;
          accepted = turn_accepts (λ i. chapter_rules plans (is_earlier rs i) (chapter_at rs i)) k S.accepted here;
          own_is = λ past. own_at past (ℕ_discrete k wanted);
          own_none = λ (least : suc k ≤ wanted). rw (ne_eqb k wanted (λ (e : k ≡ wanted). omega arith)) (S.own_none (omega arith));
          before_is = λ past. before_at past (dec_le wanted k);
          before_all = λ (least : suc k ≤ wanted). rw (lt-ltb k wanted least) (ap (λ (n : ℕ). n + points_at rs k) (S.before_all (omega arith)));
          all_is = ap (λ (n : ℕ). n + points_at rs k) S.all_is;
          most_is = ap (max (points_at rs k)) S.most_is;
          parts_is = ap (max (parts_of (chapter_at rs k))) S.parts_is;
        }
      where
        own_at : wanted < suc k → Dec (k ≡ wanted) → cond (eqb k wanted) (points_at rs k) counts.own ≡ points_at rs wanted
        own_at past (yes e) = rw (eq-eqb k wanted e) (ap (points_at rs) e)
        own_at past (no ne) = rw (ne_eqb k wanted ne) (S.own_is (omega arith))

        before_at :
            wanted ≤ suc k
            → Dec (wanted ≤ k)
            → cond (ltb k wanted) (counts.before + points_at rs k) counts.before ≡ sum_below (points_at rs) wanted
        before_at past (yes high) = rw (le-ltb k wanted high) (S.before_is high)
        before_at past (no beyond) =
            let next : suc k ≡ wanted = omega arith in
            rw (lt-ltb k wanted (omega arith))
            (ap (λ (n : ℕ). n + points_at rs k) (S.before_all (omega arith)) ∙ ap (sum_below (points_at rs)) next)

    -- all chapters are counted
    pub counted_all : k ≡ length rs → Surveyed plans rs wanted (Ok counts)
    unfolding chapters_rules parts_in
    counted_all end = (
      sym (ap (λ (n : ℕ). first_refusal (in_turn rules n)) end) ∙ S.accepted,
      record {
        own_is = wanted_points (dec_lt wanted k);
        before_is = λ there. S.before_is (omega arith);
        all_is = S.all_is ∙ ap (sum_below (points_at rs)) end;
        most_is = S.most_is ∙ ap (greatest_below (points_at rs)) end;
        parts_is = S.parts_is ∙ ap (greatest_below (λ i. parts_of (chapter_at rs i))) end;
      },
    )
      where
        rules : ℕ → List Verdict
        rules i = chapter_rules plans (is_earlier rs i) (chapter_at rs i)

        wanted_points : Dec (wanted < k) → counts.own ≡ points_at rs wanted
        wanted_points (yes low) = S.own_is low
        wanted_points (no past) = S.own_none (omega arith) ∙ sym (no_points rs wanted (omega arith))

-- where the rules on the number and on the cell accept, what the chapters' rules leave is what all leave
pub tried_all :
    (plans : Bool) (c : Cell) (rs : Chapters) (wanted : ℕ) (s : Result Survey Broken)
    → rule24 (length rs) ≡ Accepted
    → first_refusal (cell_rules c) ≡ Accepted
    → Surveyed plans rs wanted s
    → Tried plans c rs wanted s
unfolding record_rules
tried_all plans c rs wanted s number cell surveyed = decide s surveyed
  where
    same : first_refusal (record_rules plans c rs) ≡ first_refusal (chapters_rules plans rs)
    same = tried_ok _ _ number ∙ part_ok (cell_rules c) _ cell

    decide : (r : Result Survey Broken) → Surveyed plans rs wanted r → Tried plans c rs wanted r
    decide (Ok survey) found = (same ∙ found.0, found.1)
    decide (Err broken) refused = same ∙ refused
