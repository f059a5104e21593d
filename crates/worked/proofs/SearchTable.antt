-- The worked examples of request 5, "A word at a time in the sweep": what the search answers that all sweeps use. Each row is computed.
-- Assumes nothing.
use mathlib.Core.Path.{◌≡◌, refl}
use mathlib.Core.Bool.{Bool, true, cond}
use mathlib.Core.List.{List, [], ◌∷◌}
use Prim.Native.Nat.{ℕ}
use lib.Dec.{eqb, ltb}
use Rattle.refusals.specs.Search.{first_below, all_below, tabulate}
use Rattle.marks.specs.Bytes.{is_set_from, next_set}

-- 17 bytes, two words and one byte more, of which one is not 0
unfoldable pub one_set : ℕ → List ℕ
one_set place = tabulate 17 (λ n. cond (eqb n place) 128 0)

-- wherever the one byte lies and wherever the search starts, it is found unless it lies before the start
unfoldable pub found : ℕ → ℕ → Bool
found start place = eqb (next_set (one_set place) start) (cond (ltb place start) 17 place)

pub record SearchTable : Type 0 where
  -- "the least place at or after the start whose byte isn't 0"
  pub of_first : next_set (0 ∷ 0 ∷ 7 ∷ 0 ∷ 1 ∷ []) 0 ≡ 2
  pub of_start_itself : next_set (0 ∷ 0 ∷ 7 ∷ 0 ∷ 1 ∷ []) 2 ≡ 2
  pub of_after : next_set (0 ∷ 0 ∷ 7 ∷ 0 ∷ 1 ∷ []) 3 ≡ 4
  -- "or the slice's length if there is none"
  pub of_none : next_set (9 ∷ 0 ∷ 0 ∷ []) 1 ≡ 3
  pub of_no_bytes : next_set [] 0 ≡ 0
  -- "any start": one past the end
  pub of_past_the_end : next_set (9 ∷ 0 ∷ 5 ∷ []) 7 ≡ 3
  -- at every place of a word, the last too, in the word behind it and among the bytes of the rest, from starts within a word too
  pub of_one_byte : all_below (λ start. all_below (found start) 17) 20 ≡ true

pub search_table : SearchTable
unfolding first_below all_below tabulate is_set_from next_set one_set found
search_table =
    record {
      of_first = refl;
      of_start_itself = refl;
      of_after = refl;
      of_none = refl;
      of_no_bytes = refl;
      of_past_the_end = refl;
      of_one_byte = refl;
    }
