-- One chapter is the recipe by itself: its points, its sizes, and the rules on it. Assumes nothing.
use mathlib.Core.Path.{◌≡◌, refl, sym, ap, ap₂, subst, ◌∙◌}
use mathlib.Core.Bool.{Bool, true, false, cond, or-false}
use mathlib.Core.List.{List, [], ◌∷◌, ◌++◌, append_assoc}
use Prim.Native.Nat.{ℕ, suc, ◌+◌, ◌/◌, ◌<◌}
use native.Mathlib.Nat.{max-zero}
use native.Mathlib.Omega.{arith}
use lib.Dec.{ltb}
use Rattle.refusals.specs.declared.Refusal.TheVariants.{TooManyPositions, TooShort}
use Rattle.std.specs.Prelude.{Err}
use Rattle.refusals.specs.Verdict.{Verdict, Accepted, first_refusal, no_line}
use Rattle.refusals.specs.Search.{any_below, greatest_below}
use Rattle.cell.specs.declared.Cell.{Cell}
use Rattle.cell.specs.Rules.{cell_rules}
use Rattle.recipe.specs.declared.Recipe.{Recipe}
use Rattle.recipe.specs.Rules.{recipe_rules}
use Rattle.positions.specs.declared.Sizes.{Sizes}
use Rattle.positions.specs.Radix.{sum_below}
use Rattle.positions.specs.Sizes.{points_of, parts_of, sizes_for, sizes_of}
use Rattle.positions.specs.Rules as alone
use Rattle.positions.specs.Checked.{Checked}
use Rattle.reached.specs.Reached.{rule22}
use Rattle.chapters.specs.Joined.{Point, chapter_at, is_earlier, landing}
use Rattle.chapters.specs.Sizes.{Measures, points_at, parts_in, sizes_in, begins}
use Rattle.chapters.specs.Rules.{rule24, rule24_joint, chapter_rules, in_turn, chapters_rules, record_rules, rule13, rule14, rule14_scratch}
use Rattle.chapters.specs.Checked.{AllChecked}
use Rattle.chapters.proofs.ChapterSizes.{begins_next}
use Rattle.chapters.proofs.Landing.{not_earlier, landing_last}

-- a rule that accepts may be left out
idle : (rules rest : List Verdict) → first_refusal (rules ++ (Accepted ∷ rest)) ≡ first_refusal (rules ++ rest)
unfolding first_refusal
idle [] rest = refl
idle (Accepted ∷ rules) rest = idle rules rest
idle (Err broken ∷ rules) rest = refl

-- the first table begins at the start, and alone it is all of the lent one
pub begins_first : (zs : Measures) → begins zs 0 ≡ 0
unfolding begins sum_below
begins_first zs = refl

pub begins_second : (zs : Measures) → begins zs 1 ≡ (zs 0).positions
begins_second zs = omega (arith, begins_next zs 0, begins_first zs)

module _ (r : Recipe) where
  -- the one chapter is the recipe
  pub one_is : chapter_at (r ∷ []) 0 ≡ r
  unfolding chapter_at
  one_is = refl

  -- no chapter follows it
  pub one_last : (k : ℕ) → is_earlier (r ∷ []) k ≡ false
  one_last k = not_earlier (r ∷ []) k (omega arith)

  -- so a carry stays where it leads
  pub one_lands : (p : Point) → landing (r ∷ []) p ≡ p
  one_lands p = landing_last (r ∷ []) p (one_last p.chapter)

  -- N and P are the recipe's own
  pub one_points : points_at (r ∷ []) 0 ≡ points_of r
  unfolding points_at chapter_at
  one_points = refl

  pub one_parts : parts_in (r ∷ []) ≡ parts_of r
  unfolding parts_in chapter_at greatest_below
  one_parts = max-zero (parts_of r)

  module _ (c : Cell) where
    -- and so are all sizes
    pub one_sizes : sizes_in c (r ∷ []) 0 ≡ sizes_of c r
    unfolding sizes_in
    one_sizes = ap₂ (sizes_for c) one_points one_parts

    -- the rules on its records: there is one chapter, and it is no earlier one
    joint_idle : rule24_joint (is_earlier (r ∷ []) 0) r ≡ Accepted
    unfolding rule24_joint no_line
    joint_idle = rw (one_last 0)

    -- of both kinds of call, before others
    both : (plans : Bool) (rest : List Verdict)
        → first_refusal (record_rules plans c (r ∷ []) ++ rest) ≡ first_refusal (alone.record_rules c r ++ (cond plans (rule22 r) Accepted ∷ rest))
    unfolding record_rules chapters_rules in_turn chapter_rules rule24 no_line chapter_at alone.record_rules first_refusal
    both plans rest =
        let v = cond plans (rule22 r) Accepted in
        let records = cell_rules c ++ recipe_rules r in
        ap (λ (joint : Verdict). first_refusal ((cell_rules c ++ (recipe_rules r ++ (v ∷ joint ∷ []))) ++ rest)) joint_idle
        ∙ ap first_refusal (in_order (cell_rules c) (recipe_rules r) v)
        ∙ idle (records ++ (v ∷ [])) rest
        ∙ ap first_refusal (append_assoc records (v ∷ []) rest)
      where
        in_order :
            (cell recipe : List Verdict) (v : Verdict)
            → (cell ++ (recipe ++ (v ∷ Accepted ∷ []))) ++ rest ≡ ((cell ++ recipe) ++ (v ∷ [])) ++ (Accepted ∷ rest)
        in_order cell recipe v = simp append_assoc

    -- of a call that plans, before others
    pub one_planned : (rest : List Verdict)
        → first_refusal (record_rules true c (r ∷ []) ++ rest) ≡ first_refusal (alone.record_rules c r ++ (rule22 r ∷ rest))
    one_planned rest = both true rest

    -- of another call, before others and by themselves
    pub one_tried : (rest : List Verdict) → first_refusal (record_rules false c (r ∷ []) ++ rest) ≡ first_refusal (alone.record_rules c r ++ rest)
    one_tried rest = both false rest ∙ idle (alone.record_rules c r) rest

    -- and those on its sizes
    pub one_rule13 : rule13 (sizes_in c (r ∷ [])) 1 ≡ alone.rule13 (sizes_of c r)
    unfolding rule13 any_below alone.rule13
    one_rule13 = ap (no_line TooManyPositions) (or-false _) ∙ ap alone.rule13 one_sizes

    pub one_rule14 : (entries : ℕ) → rule14 (sizes_in c (r ∷ [])) 1 entries ≡ alone.rule14 (sizes_of c r) entries
    unfolding rule14 alone.rule14
    one_rule14 entries =
        ap (λ (n : ℕ). no_line TooShort (ltb entries n)) (begins_second (sizes_in c (r ∷ [])))
        ∙ ap (λ (z : Sizes). alone.rule14 z entries) one_sizes

    pub one_rule14_scratch : (bytes : ℕ)
        → rule14_scratch (sizes_in c (r ∷ [])) 1 bytes ≡ no_line TooShort (ltb bytes (((sizes_of c r).positions + 7) / 8))
    unfolding rule14_scratch greatest_below
    one_rule14_scratch bytes =
        ap (λ (n : ℕ). no_line TooShort (ltb bytes ((n + 7) / 8)))
        (max-zero (sizes_in c (r ∷ []) 0).positions ∙ ap (λ (z : Sizes). z.positions) one_sizes)

  -- records that are checked are checked as one chapter
  pub one_checked : (c : Cell) (z : Sizes) → Checked c r z → AllChecked c (r ∷ []) (λ k. z)
  one_checked c z checked =
      record {
        some = omega arith;
        most = omega arith;
        each = λ k low. subst (λ (i : ℕ). Checked c (chapter_at (r ∷ []) i) z) (sym (first k low)) first_checked;
        same_parts = λ k low. refl;
        joints = λ (k : ℕ) (low : suc k < 1). absurd (omega arith);
      }
    where
      first : (k : ℕ) → k < 1 → k ≡ 0
      first k low = omega arith

      first_checked : Checked c (chapter_at (r ∷ []) 0) z
      first_checked = rw one_is checked
