-- What a record has that rule 4 accepts, and that each rule accepts a record that all of them together accept.
-- Assumes nothing.
use mathlib.Core.Path.{◌≡◌, refl}
use mathlib.Core.Bool.{true}
use mathlib.Core.List.{List}
use Prim.Native.Nat.{ℕ, ◌<◌, ◌≤◌}
use native.Mathlib.Omega.{arith}
use lib.ListN.{length, get_or}
use borrow.Author.Tests.{leb-true, not-false}
use Rattle.std.specs.Prelude.{Err}
use Rattle.refusals.specs.Verdict.{Verdict, Accepted, rule3, if_accepted}
use Rattle.refusals.proofs.Verdicts.{and_left, and_right, none_breaks, count_in_range}
use Rattle.refusals.proofs.Rules.{first_accepts, rest_accepts}
use Rattle.tables.specs.Lines.{value_lines}
use Rattle.recipe.specs.declared.Recipe.{Recipe}
use Rattle.recipe.specs.Reader.{recipe_of, judge_recipe, read_recipe}
use Rattle.recipe.specs.Inner.{reading}
use Rattle.recipe.specs.Rules.{in_range, leaves_range, rule4, rule7, rule8, rule9, rule10, rule11, rule12, recipe_rules, check_recipe}

-- what rule 4 leaves of the numbers of line n
pub record LineInRange (r : Recipe) (n : ℕ) : Type 0 where
  pub point : get_or r.point n 0 ≤ 15
  pub kind : get_or r.kind n 0 ≤ 2
  pub op : get_or r.op n 0 ≤ 63
  pub takes : get_or r.takes n 0 ≤ 255
  pub gives : get_or r.gives n 0 ≤ 255
  pub then : get_or r.then n 0 ≤ 15
  pub otherwise : get_or r.otherwise n 0 ≤ 15

pub line_in_range : (r : Recipe) → rule4 r ≡ Accepted → (n : ℕ) → n < r.count → LineInRange r n
unfolding rule4 leaves_range in_range
line_in_range r e n low =
    let all : in_range (get_or r.point n 0) (get_or r.kind n 0) (get_or r.op n 0) (get_or r.takes n 0)
    (get_or r.gives n 0) (get_or r.then n 0) (get_or r.otherwise n 0) ≡ true =
    not-false _ (none_breaks _ _ _ e n low) in
    record {
      point = leb-true _ _ (search and_left);
      kind = leb-true _ _ (search (and_left, and_right));
      op = leb-true _ _ (search (and_left, and_right));
      takes = leb-true _ _ (search (and_left, and_right));
      gives = leb-true _ _ (search (and_left, and_right));
      then = leb-true _ _ (search (and_left, and_right));
      otherwise = leb-true _ _ (search (and_left, and_right));
    }

-- the rules of a recipe record, each by itself
pub record EachAccepts (r : Recipe) : Type 0 where
  pub third : rule3 r.count ≡ Accepted
  pub fourth : rule4 r ≡ Accepted
  pub seventh : rule7 r ≡ Accepted
  pub eighth : rule8 r ≡ Accepted
  pub ninth : rule9 r ≡ Accepted
  pub tenth : rule10 r ≡ Accepted
  pub eleventh : rule11 r ≡ Accepted
  pub twelfth : rule12 r ≡ Accepted

pub each_accepts : (r : Recipe) → check_recipe r ≡ Accepted → EachAccepts r
unfolding check_recipe recipe_rules
each_accepts r e =
    let from4 = rest_accepts _ _ e in
    let from7 = rest_accepts _ _ from4 in
    let from8 = rest_accepts _ _ from7 in
    let from9 = rest_accepts _ _ from8 in
    let from10 = rest_accepts _ _ from9 in
    let from11 = rest_accepts _ _ from10 in
    record {
      third = first_accepts _ _ e;
      fourth = first_accepts _ _ from4;
      seventh = first_accepts _ _ from7;
      eighth = first_accepts _ _ from8;
      ninth = first_accepts _ _ from9;
      tenth = first_accepts _ _ from10;
      eleventh = first_accepts _ _ from11;
      twelfth = first_accepts _ _ (rest_accepts _ _ from11);
    }

-- a reader's record has at most 64 lines, refused or not
pub read_few : (file : List ℕ) → (read_recipe file).recipe.count ≤ 64
unfolding read_recipe judge_recipe reading if_accepted recipe_of check_recipe
read_few file = judge (judge_recipe file) refl
  where
    judge : (v : Verdict) → judge_recipe file ≡ v → (reading v (recipe_of file)).recipe.count ≤ 64
    judge Accepted e = (count_in_range (length (value_lines file)) (each_accepts (recipe_of file) (rest_accepts _ _ (rest_accepts _ _ e))).third).most
    judge (Err broken) e = omega arith
