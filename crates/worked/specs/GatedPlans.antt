-- Certificates for the cells with reject gates: moves from the start to an end, with the number of silent moves that each is away
-- from a carry, and stages above 0 where a part that failed has no way on. Assumes nothing.
use Rattle.std.specs.Prelude.{cond, ◌||◌, List, ℕ, eqb}
use Rattle.refusals.specs.Search.{tabulate}

-- the part is fed at 0, handed over at 28 and tested at 32; it leaves at 62 if it passed, and at 92 if it failed
unfoldable pub gate_table : List ℕ
gate_table =
    tabulate 120
    (λ m. cond (eqb m 0) 50331648
    (cond (eqb m 28) 33554561
    (cond (eqb m 32) 50331971 (cond (eqb m 62) 50331652 (cond (eqb m 92) 50331654 (cond (eqb m 96) 67108864 0))))))

unfoldable pub gate_ranks : List ℕ
gate_ranks = tabulate 120 (λ m. cond (eqb m 28) 1 0)

-- at 26 it is tested until it passes
unfoldable pub again_table : List ℕ
again_table =
    tabulate 72
    (λ m. cond (eqb m 0) 50331648
    (cond (eqb m 22) 33554561 (cond (eqb m 26) 50331971 (cond (eqb m 50) 50331652 (cond (eqb m 54) 67108864 0)))))

unfoldable pub again_ranks : List ℕ
again_ranks = tabulate 72 (λ m. cond (eqb m 22) 1 0)

-- without the gate the station has left state 1 when a part has failed: no move is open at 32
unfoldable pub left_stages : List ℕ
left_stages = tabulate 72 (λ m. cond (eqb m 0) 3 (cond (eqb m 22 || eqb m 26) 2 (cond (eqb m 32) 1 0)))

-- with it the station is in state 1 at 62, where the bench recipe wants a part that failed to leave from state 2
unfoldable pub stuck_stages : List ℕ
stuck_stages = tabulate 90 (λ m. cond (eqb m 0) 3 (cond (eqb m 22 || eqb m 26) 2 (cond (eqb m 62) 1 0)))
