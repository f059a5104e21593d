-- Chapters as the bytes of their records, one after another. Assumes nothing.
use Rattle.std.specs.Prelude.{List, [], ◌∷◌, ◌++◌, ℕ, zero, suc, ◌*◌, ◌/◌, length, drop}
use Rattle.records.specs.Encoding.{recipe_from}
use Rattle.chapters.specs.Joined.{Chapters}

-- the first n records
unfoldable pub first_records : List ℕ → ℕ → Chapters
first_records bytes zero = []
first_records bytes (suc n) = first_records bytes n ++ (recipe_from (drop (n * 449) bytes) ∷ [])

-- "1 to 8 records one after another; their number is the length divided by 449, a rest counts for nothing"
unfoldable pub chapters_from : List ℕ → Chapters
chapters_from bytes = first_records bytes (length bytes / 449)
