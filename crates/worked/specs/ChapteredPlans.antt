-- Certificates for the recipes in chapters: moves from the start to an end, with the number of silent moves that each is away from a
-- carry, and stages above 0 where nothing leads on. Each is a list over the tables one after another. Assumes nothing.
use Rattle.std.specs.Prelude.{cond, not, ◌&&◌, ◌||◌, List, ℕ, ◌%◌, eqb, leb, ltb}
use Rattle.refusals.specs.Search.{tabulate}

-- the part is fed at 0, handed over at 22 and tested at 26; it leaves at 50 if it passed, and at 68 if it failed; from 72 on are ends
unfoldable pub whole_table : List ℕ
whole_table =
    tabulate 90
    (λ m. cond (eqb m 0) 50331648
    (cond (eqb m 22) 33554561 (cond (eqb m 26) 50331843 (cond (eqb m 50 || eqb m 68) 50331652 (cond (leb 72 m) 67108864 0)))))

unfoldable pub whole_ranks : List ℕ
whole_ranks = tabulate 90 (λ m. cond (eqb m 22) 1 0)

-- the same moves in two chapters, of which the second begins at 36: the earlier end at 22 passes on to 40
unfoldable pub cut_table : List ℕ
cut_table =
    tabulate 108
    (λ m. cond (eqb m 0) 50331648
    (cond (eqb m 22) 67108864
    (cond (eqb m 40) 33554561 (cond (eqb m 44) 50331843 (cond (eqb m 68 || eqb m 86) 50331652 (cond (leb 90 m) 67108864 0))))))

unfoldable pub cut_ranks : List ℕ
cut_ranks = tabulate 108 (λ m. cond (eqb m 40) 1 0)

-- the first chapter by itself
unfoldable pub first_table : List ℕ
first_table = tabulate 36 (λ m. cond (eqb m 0) 50331648 (cond (leb 18 m) 67108864 0))

unfoldable pub first_ranks : List ℕ
first_ranks = tabulate 36 (λ m. 0)

-- the second by itself: while the part is outside the cell it is never tested
unfoldable pub second_stages : List ℕ
second_stages = tabulate 72 (λ m. cond (ltb m 18 && eqb (m % 3) 0) 1 0)

-- the first twice: while the part is in the cell the second chapter cannot put it there, and every carry of the first puts it there
unfoldable pub twice_stages : List ℕ
twice_stages =
    tabulate 72 (λ m. cond (ltb m 18 && eqb (m % 3) 0) 2 (cond (leb 36 m && (ltb m 54 && not (eqb (m % 3) 0))) 1 0))
