-- What a cell and chapters have that their rules accept, and back. Assumes nothing.
use mathlib.Core.Path.{◌≡◌, refl, sym, ap, ◌∙◌, subst}
use mathlib.Core.Bool.{Bool, true, false, cond, ◌&&◌, ◌||◌, true≢false}
use mathlib.Core.List.{[], ◌∷◌, ◌++◌}
use Prim.Native.Nat.{ℕ, suc, ◌<◌, ◌≤◌}
use native.Mathlib.Omega.{arith}
use lib.ListN.{length}
use lib.Dec.{eqb, ltb}
use borrow.Author.Tests.{eqb-false, ne_eqb, ltb-true, ltb-false, lt-ltb, le-ltb}
use Rattle.std.specs.Prelude.{Result, Ok}
use Rattle.refusals.specs.declared.Broken.{Broken}
use Rattle.refusals.specs.declared.Refusal.TheVariants as refusal
use Rattle.refusals.specs.Search.{first_below}
use Rattle.refusals.specs.Verdict.{Accepted, first_refusal}
use Rattle.refusals.proofs.Rules.{first_accepts, rest_accepts, left_accepts, right_accepts, accepts, decides, part_accepts}
use Rattle.refusals.proofs.EveryBelow.{any_none}
use Rattle.refusals.proofs.Verdicts.{or_left, or_right, no_line_kept, no_line_accepts, count_in_range}
use Rattle.cell.specs.declared.Cell.{Cell}
use Rattle.cell.specs.Rules.{cell_rules, check_cell}
use Rattle.recipe.specs.declared.Recipe.{Recipe}
use Rattle.recipe.specs.Rules.{breaks_order, point_count, recipe_rules, check_recipe}
use Rattle.recipe.proofs.AcceptedRecord.{each_accepts}
use Rattle.recipe.proofs.PointOrder.{ordered_all}
use Rattle.positions.specs.declared.Sizes.{Sizes}
use Rattle.positions.specs.Sizes.{sizes_for, with_points}
use Rattle.positions.proofs.SizeBounds.{with_points_lem, point_below}
use Rattle.steps.specs.Lines.{kind_of}
use Rattle.reached.specs.Reached.{rule22}
use Rattle.chapters.specs.declared.Seen.{Seen}
use Rattle.chapters.specs.Joined.{Chapters, chapter_at, is_earlier}
use Rattle.chapters.specs.Sizes.{Measures, points_at, sizes_in}
use Rattle.chapters.specs.Rules.{rule24, rule24_joint, chapter_rules, chapters_rules, record_rules, rule13}
use Rattle.chapters.specs.Checked.{AllChecked}
use Rattle.chapters.specs.Survey.{Sees, SeesAt}
use Rattle.chapters.proofs.RulesInTurn.{turn_at, turns_accept}
use Rattle.chapters.proofs.ChapterSizes.{few_each, parts_few, chapter_parts}

-- what one chapter has that its rules accept
pub record ChapterAccepted (plans earlier : Bool) (r : Recipe) : Type 0 where
  pub recipe_passes : check_recipe r ≡ Accepted
  pub reached : plans ≡ true → rule22 r ≡ Accepted
  pub going : earlier ≡ true → kind_of r 0 ≡ 0 → ⊥

module _ (plans earlier : Bool) (r : Recipe) where
  -- an earlier chapter that 24 accepts does not begin at an end
  joint_kept : rule24_joint earlier r ≡ Accepted → earlier ≡ true → kind_of r 0 ≡ 0 → ⊥
  unfolding rule24_joint
  joint_kept accepted follows end =
      let test : (earlier && eqb (kind_of r 0) 0) ≡ false = no_line_accepts refusal.Chapters _ accepted in
      eqb-false (kind_of r 0) 0 (rw follows at test) end

  -- and 24 accepts one that does not
  kept_joint : (earlier ≡ true → kind_of r 0 ≡ 0 → ⊥) → rule24_joint earlier r ≡ Accepted
  unfolding rule24_joint
  kept_joint going = no_line_kept refusal.Chapters _ (decide earlier refl)
    where
      decide : (b : Bool) → earlier ≡ b → (b && eqb (kind_of r 0) 0) ≡ false
      decide true e = ne_eqb (kind_of r 0) 0 (going e)
      decide false e = refl

  -- what its rules leave
  pub chapter_accepted : first_refusal (chapter_rules plans earlier r) ≡ Accepted → ChapterAccepted plans earlier r
  unfolding chapter_rules check_recipe
  chapter_accepted accepted =
      let later = right_accepts (recipe_rules r) _ accepted in
      record {
        recipe_passes = left_accepts (recipe_rules r) _ accepted;
        reached = λ e. rw e at (first_accepts (cond plans (rule22 r) Accepted) _ later);
        going = joint_kept (first_accepts _ _ (rest_accepts (cond plans (rule22 r) Accepted) _ later));
      }

  -- and that they accept a chapter that has it
  pub accepts_chapter : ChapterAccepted plans earlier r → first_refusal (chapter_rules plans earlier r) ≡ Accepted
  unfolding chapter_rules check_recipe
  accepts_chapter C =
      let planned : Accepted ≡ cond plans (rule22 r) Accepted = decide plans refl in
      sym (part_accepts (recipe_rules r) _ (sym C.recipe_passes) refl
      (accepts (rule24_joint earlier r ∷ []) planned refl (decides (sym (kept_joint C.going)))))
    where
      decide : (b : Bool) → plans ≡ b → Accepted ≡ cond b (rule22 r) Accepted
      decide true e = sym (C.reached e)
      decide false e = refl

-- a recipe that its rules accept has a point, and a chapter that its rules accept has lines, in order
pub point_some : {done : Unit} (r : Recipe) → check_recipe r ≡ Ok done → 0 < point_count r.point r.count
point_some r passes =
    let some : 0 < r.count = (count_in_range r.count (each_accepts r passes).third).some in
    omega (arith, point_below r passes 0 some)

module _ (plans earlier : Bool) {done : Unit} (r : Recipe) (accepted : first_refusal (chapter_rules plans earlier r) ≡ Ok done) where
  passes : check_recipe r ≡ Accepted
  passes = (chapter_accepted plans earlier r accepted).recipe_passes

  pub chapter_some : 0 < r.count
  chapter_some = (count_in_range r.count (each_accepts r passes).third).some

  pub chapter_most : r.count ≤ 64
  chapter_most = (count_in_range r.count (each_accepts r passes).third).most

  pub chapter_ordered : first_below (breaks_order r.point) r.count ≡ r.count
  chapter_ordered = ordered_all r (each_accepts r passes).seventh

-- what a cell and chapters have that the rules before 13 accept
pub record RecordsAccepted (plans : Bool) (c : Cell) (rs : Chapters) : Type 0 where
  pub some : 1 ≤ length rs
  pub most : length rs ≤ 8
  pub cell_passes : check_cell c ≡ Accepted
  pub recipes_pass : (k : ℕ) → k < length rs → check_recipe (chapter_at rs k) ≡ Accepted
  pub all_reached : plans ≡ true → (k : ℕ) → k < length rs → rule22 (chapter_at rs k) ≡ Accepted
  pub joints : (k : ℕ) → suc k < length rs → kind_of (chapter_at rs k) 0 ≡ 0 → ⊥

-- "24 for no chapters or more than 8"
pub number_kept : (number : ℕ) → rule24 number ≡ Accepted → (1 ≤ number) × (number ≤ 8)
unfolding rule24
number_kept number accepted =
    let no : (eqb number 0 || ltb 8 number) ≡ false = no_line_accepts refusal.Chapters _ accepted in
    let some : number ≡ 0 → ⊥ = eqb-false number 0 (search or_left) in
    (omega arith, ltb-false 8 number (search or_right))

pub number_few : {done : Unit} (number : ℕ) → rule24 number ≡ Ok done → number ≤ 8
number_few number accepted = (number_kept number accepted).1

-- and it accepts 1 to 8
kept_number : (number : ℕ) → 1 ≤ number → number ≤ 8 → rule24 number ≡ Accepted
unfolding rule24
kept_number number some few =
    no_line_kept refusal.Chapters _ (rw (ne_eqb number 0 (λ (e : number ≡ 0). omega arith), le-ltb 8 number few))

module _ (plans : Bool) (c : Cell) (rs : Chapters) where
  -- what the rules leave of them
  pub records_accepted : first_refusal (record_rules plans c rs) ≡ Accepted → RecordsAccepted plans c rs
  unfolding record_rules chapters_rules check_cell is_earlier
  records_accepted accepted =
      record {
        some = number.0;
        most = number.1;
        cell_passes = left_accepts (cell_rules c) (chapters_rules plans rs) records;
        recipes_pass = λ k low. (each k low).recipe_passes;
        all_reached = λ planned k low. (each k low).reached planned;
        joints = λ (k : ℕ) (low : suc k < length rs). (each k (omega arith)).going (lt-ltb (suc k) (length rs) low);
      }
    where
      number : (1 ≤ length rs) × (length rs ≤ 8)
      number = number_kept (length rs) (first_accepts (rule24 (length rs)) _ accepted)

      records : first_refusal (cell_rules c ++ chapters_rules plans rs) ≡ Accepted
      records = rest_accepts (rule24 (length rs)) _ accepted

      each : (k : ℕ) → k < length rs → ChapterAccepted plans (is_earlier rs k) (chapter_at rs k)
      each k low =
          chapter_accepted plans (is_earlier rs k) (chapter_at rs k)
          (turn_at (λ k. chapter_rules plans (is_earlier rs k) (chapter_at rs k)) (length rs) k (right_accepts (cell_rules c) (chapters_rules plans rs) records) low)

  -- and that they accept records that have it
  pub accepts_records : RecordsAccepted plans c rs → first_refusal (record_rules plans c rs) ≡ Accepted
  unfolding record_rules chapters_rules check_cell is_earlier
  accepts_records R =
      sym (accepts _ (sym (kept_number (length rs) R.some R.most)) refl
      (part_accepts (cell_rules c) (chapters_rules plans rs) (sym R.cell_passes) refl (sym turns)))
    where
      turns : first_refusal (chapters_rules plans rs) ≡ Accepted
      turns =
          turns_accept (λ k. chapter_rules plans (is_earlier rs k) (chapter_at rs k)) (length rs)
          (λ k low. accepts_chapter plans (is_earlier rs k) (chapter_at rs k)
          (record {
            recipe_passes = R.recipes_pass k low;
            reached = λ planned. R.all_reached planned k low;
            going = λ follows. R.joints k (ltb-true (suc k) (length rs) follows);
          }))

  -- with rule 13 the chapters are checked
  pub all_checked : first_refusal (record_rules plans c rs) ≡ Accepted → rule13 (sizes_in c rs) (length rs) ≡ Accepted → AllChecked c rs (sizes_in c rs)
  unfolding sizes_in sizes_for points_at
  all_checked accepted few =
      let R = records_accepted accepted in
      record {
        some = R.some;
        most = R.most;
        each = λ k low. record {
          cell_passes = R.cell_passes;
          recipe_passes = R.recipes_pass k low;
          measured = refl;
          parts_held = chapter_parts rs k low;
          parts_most = parts_few rs R.recipes_pass;
          few = few_each (sizes_in c rs) (length rs) few k low;
        };
        same_parts = λ k low. refl;
        joints = R.joints;
      }

module _ (c : Cell) (rs : Chapters) (zs : Measures) (checked : AllChecked c rs zs) where
  -- chapters that are checked pass the rules before 13 that every call tries
  pub rules_of : first_refusal (record_rules false c rs) ≡ Accepted
  rules_of =
      accepts_records false c rs
      (record {
        some = checked.some;
        most = checked.most;
        cell_passes = (checked.each 0 checked.some).cell_passes;
        recipes_pass = λ k low. (checked.each k low).recipe_passes;
        all_reached = λ planned. absurd (true≢false (sym planned));
        joints = checked.joints;
      })

  -- and rule 13
  pub few_of : rule13 zs (length rs) ≡ Accepted
  unfolding rule13
  few_of =
      no_line_kept refusal.TooManyPositions _
      (any_none (λ k. ltb 1048576 (zs k).positions) (length rs) (λ k low. le-ltb 1048576 (zs k).positions (checked.each k low).few))

  -- and their sizes differ in the points alone
  module _ (k : ℕ) (low : k < length rs) where
    pub same_sizes : zs k ≡ with_points (zs 0) (points_at rs k)
    unfolding points_at
    same_sizes =
        (checked.each k low).measured ∙ ap (sizes_for c (points_at rs k)) (checked.same_parts k low)
        ∙ sym
        (ap (λ (z : Sizes). with_points z (points_at rs k)) (checked.each 0 checked.some).measured
        ∙ with_points_lem c (points_at rs 0) (zs 0).parts (points_at rs k))

    -- so the state counts and W are one for all
    pub same_states : (zs k).states ≡ (zs 0).states
    unfolding with_points
    same_states = ap (λ (z : Sizes). z.states) same_sizes

    pub same_ways : (zs k).ways ≡ (zs 0).ways
    unfolding with_points
    same_ways = ap (λ (z : Sizes). z.ways) same_sizes

-- what is seen of a recipe is seen of the chapter that has it
pub seen_at :
    (rs : Chapters) (k : ℕ) (plans : Bool) {earlier : Bool} {r : Recipe} (s : Result Seen Broken)
    → earlier ≡ is_earlier rs k
    → r ≡ chapter_at rs k
    → Sees plans earlier r s
    → SeesAt plans rs k s
seen_at rs k plans {r = r} s here is sees =
    subst (λ (x : Recipe). Sees plans (is_earlier rs k) x s) is (subst (λ (b : Bool). Sees plans b r s) here sees)
