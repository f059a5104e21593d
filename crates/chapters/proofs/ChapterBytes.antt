-- The chapters that bytes hold, one by one. Assumes nothing.
use mathlib.Core.Path.{◌≡◌, refl, sym, ap, ◌∙◌}
use mathlib.Core.Logic.{⊎_elim}
use mathlib.Core.List.{List, [], ◌∷◌, ◌++◌, append-nil}
use Prim.Native.Nat.{ℕ, zero, suc, ◌*◌, ◌/◌, ◌<◌, ◌≤◌}
use native.Mathlib.Nat.{le_of_suc-le-suc, eq-or-lt_of_le, not-suc-le-zero}
use native.Mathlib.Omega.{arith}
use lib.ListN.{length, get_or, drop, length-append, get_or-append}
use lib.Seq.{get_or_at}
use Rattle.recipe.specs.declared.Recipe.{Recipe}
use Rattle.recipe.specs.Reader.{no_recipe}
use Rattle.records.specs.Encoding.{recipe_bytes, recipe_from}
use Rattle.records.proofs.RecordsRoundTrip.{WholeRecipe, recipe_length, recipe_back}
use Rattle.chapters.specs.Joined.{chapter_at}
use Rattle.chapters.specs.Records.{first_records, chapters_from}

module _ (bytes : List ℕ) where
  -- so many records are so many chapters
  first_length : (n : ℕ) → length (first_records bytes n) ≡ n
  unfolding first_records
  first_length zero = refl
  first_length (suc n) = simp length-append (omega (arith, first_length n))

  -- each read at its place
  first_at : (n k : ℕ) → k < n → get_or (first_records bytes n) k no_recipe ≡ recipe_from (drop (k * 449) bytes)
  unfolding first_records
  first_at zero k low = absurd (not-suc-le-zero low)
  first_at (suc n) k low = ⊎_elim last (λ lt. earlier lt (first_at n k lt)) (eq-or-lt_of_le (le_of_suc-le-suc low))
    where
      next : Recipe
      next = recipe_from (drop (n * 449) bytes)

      last : k ≡ n → get_or (first_records bytes n ++ (next ∷ [])) k no_recipe ≡ recipe_from (drop (k * 449) bytes)
      last e = rw e (get_or_at (first_records bytes n) next [] no_recipe n (first_length n))

      earlier :
          k < n
          → get_or (first_records bytes n) k no_recipe ≡ recipe_from (drop (k * 449) bytes)
          → get_or (first_records bytes n ++ (next ∷ [])) k no_recipe ≡ recipe_from (drop (k * 449) bytes)
      earlier lt here = get_or-append (first_records bytes n) (next ∷ []) no_recipe k (omega (arith, first_length n)) ∙ here

  -- "their number is the length divided by 449"
  pub chapters_length : length (chapters_from bytes) ≡ length bytes / 449
  unfolding chapters_from
  chapters_length = first_length (length bytes / 449)

  -- and chapter k is the record from byte 449 × k on
  pub chapter_at_lem : (k : ℕ) → k < length bytes / 449 → chapter_at (chapters_from bytes) k ≡ recipe_from (drop (k * 449) bytes)
  unfolding chapters_from chapter_at
  chapter_at_lem k low = first_at (length bytes / 449) k low

  -- bytes for one record, and for less than two, hold one chapter
  pub one_record : 449 ≤ length bytes → length bytes ≤ 897 → chapters_from bytes ≡ recipe_from bytes ∷ []
  unfolding chapters_from first_records
  one_record enough few = let one : length bytes / 449 ≡ 1 = omega arith in rw one

-- so a recipe's own bytes hold it as the one chapter
pub recipe_chapter : (r : Recipe) → WholeRecipe r → chapters_from (recipe_bytes r) ≡ r ∷ []
recipe_chapter r whole =
    one_record (recipe_bytes r) (omega (arith, recipe_length r)) (omega (arith, recipe_length r))
    ∙ ap (λ (x : Recipe). x ∷ []) (ap recipe_from (sym (append-nil (recipe_bytes r))) ∙ recipe_back r [] whole)
