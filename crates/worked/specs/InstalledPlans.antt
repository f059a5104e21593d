-- Certificates for the cells that lack an operation line: moves from the start to an end with one line more, with the number of silent
-- moves that each is away from a carry, and stages above 0 where a group of lines more does not help. Assumes nothing.
use Rattle.std.specs.Prelude.{cond, ◌||◌, List, ℕ, ◌+◌, eqb}
use Rattle.refusals.specs.Search.{tabulate}

-- with 1,1,2,2 as line 4: the part is fed at 0, handed over at 22, tested at 26, and leaves at 50 or 68
unfoldable pub testing_table : List ℕ
testing_table =
    tabulate 90
    (λ m. cond (eqb m 0) 50331648
    (cond (eqb m 22) 33554561 (cond (eqb m 26) 50331908 (cond (eqb m 50 || eqb m 68) 50331651 (cond (eqb m 72) 67108864 0)))))

-- with 0,0,1,1 or 1,0,1,1 as line 4: it is fed at 0, by the first of them to be handed over at 22
unfoldable pub feeding_table : List ℕ
feeding_table =
    tabulate 90
    (λ m. cond (eqb m 0) 50331652
    (cond (eqb m 22) 33554496 (cond (eqb m 26) 50331778 (cond (eqb m 50 || eqb m 68) 50331651 (cond (eqb m 72) 67108864 0)))))

-- one silent move, at 22
unfoldable pub hand_ranks : List ℕ
hand_ranks = tabulate 90 (λ m. cond (eqb m 22) 1 0)

-- without line 3: with other lines of operation 1, nothing tests the part that was fed
unfoldable pub feeding_stages : List ℕ
feeding_stages =
    tabulate 90
    (λ m. cond (eqb m 0) 2 (cond (eqb m 19 || (eqb m 20 || (eqb m 22 || (eqb m 26 || eqb m 32)))) 1 0))

-- with other lines of operation 2, the part that was tested is not in state 2 of resource 1
unfoldable pub testing_stages : List ℕ
testing_stages =
    tabulate 90
    (λ m. cond (eqb m 0) 3
    (cond (eqb m 22 || eqb m 26) 2 (cond (eqb m 37 || (eqb m 38 || (eqb m 40 || eqb m 44))) 1 0)))

-- with other lines of operation 3, nothing tests the part
unfoldable pub ending_stages : List ℕ
ending_stages = tabulate 90 (λ m. cond (eqb m 0) 2 (cond (eqb m 22 || eqb m 26) 1 0))

-- with all of them, 0,1,2,0 as line 18 and 0,0,3,0 as line 28: the part is tested and leaves where it was fed
unfoldable pub together_table : List ℕ
together_table =
    tabulate 90
    (λ m. cond (eqb m 0) 50331648
    (cond (eqb m 22) 50332818 (cond (eqb m 37 || eqb m 55) 50331676 (cond (eqb m 72) 67108864 0))))

-- without line 0: with other lines of operation 1, the part that was fed stays where nothing tests it
unfoldable pub idle_stages : List ℕ
idle_stages = tabulate 90 (λ m. cond (eqb m 0) 2 (cond (eqb m 19 || (eqb m 20 || eqb m 32)) 1 0))

-- where no move is open at the start
unfoldable pub first_stages : ℕ → List ℕ
first_stages positions = tabulate positions (λ m. cond (eqb m 0) 1 0)

-- the station of two states: with 0,0,2,0 as line 2 it stays in state 0, at 9 and 19
unfoldable pub staying_table : List ℕ
staying_table = tabulate 24 (λ m. cond (eqb m 0) 50331650 (cond (eqb m 9) 50331649 (cond (eqb m 19) 67108864 0)))

-- with 0,1,1,0 or 0,1,1,1 it leaves state 0 at 13, and ends at 19 or 23
unfoldable pub leaving_table : List ℕ
leaving_table = tabulate 24 (λ m. cond (eqb m 0) 50331648 (cond (eqb m 13) 50331650 (cond (eqb m 19 || eqb m 23) 67108864 0)))

-- with the other lines, operation 1 finds it in state 1
unfoldable pub turned_stages : List ℕ
turned_stages = tabulate 24 (λ m. cond (eqb m 0) 2 (cond (eqb m 13) 1 0))

-- the station of one state: the part is put there by line 1, or by line 0
unfoldable pub single_table : ℕ → List ℕ
single_table l = tabulate 4 (λ m. cond (eqb m 0) (50331648 + l) (cond (eqb m 3) 67108864 0))
