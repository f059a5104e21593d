-- Certificates for the cells with limits: moves that lead from the start to an end, with the number of silent moves that each is
-- away from a carry, and stages above 0 for the positions from which every way is shut by a limit. Assumes nothing.
use Rattle.std.specs.Prelude.{cond, ◌||◌, List, ℕ, eqb}
use Rattle.refusals.specs.Search.{tabulate}

-- both parts are put at the glue station: positions 0, 5 and 11
unfoldable pub glue_table : List ℕ
glue_table = tabulate 12 (λ m. cond (eqb m 0 || eqb m 5) 50331648 (cond (eqb m 11) 67108864 0))

-- with limit 1 no move is open at 5
unfoldable pub glue_stages : List ℕ
glue_stages = tabulate 12 (λ m. cond (eqb m 0) 2 (cond (eqb m 5) 1 0))

-- each part is put at the first station; at 28 and 59 it is handed over before the next one
unfoldable pub mend_table : List ℕ
mend_table =
    tabulate 108
    (λ m. cond (eqb m 0 || (eqb m 29 || eqb m 62)) 50331648 (cond (eqb m 28 || eqb m 59) 33554561 (cond (eqb m 98) 67108864 0)))

unfoldable pub mend_ranks : List ℕ
mend_ranks = tabulate 108 (λ m. cond (eqb m 28 || eqb m 59) 1 0)

-- each part is fed and handed over to the nest, at 28 and 50; at 44 both are there
unfoldable pub nest_table : List ℕ
nest_table =
    tabulate 72
    (λ m. cond (eqb m 0 || eqb m 20) 50331648
    (cond (eqb m 28 || eqb m 50) 33554561 (cond (eqb m 44) 50331651 (cond (eqb m 54) 67108864 0))))

unfoldable pub nest_ranks : List ℕ
nest_ranks = tabulate 72 (λ m. cond (eqb m 28 || eqb m 50) 1 0)

-- with limit 1 no move is open at 50, where the nest has the first part
unfoldable pub nest_stages : List ℕ
nest_stages = tabulate 72 (λ m. cond (eqb m 0) 3 (cond (eqb m 20 || eqb m 28) 2 (cond (eqb m 50) 1 0)))
