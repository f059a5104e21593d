-- Lanes that won't start empty: the examples of request 8, "Loaded lanes", with their certificates. Assumes nothing.
use Rattle.std.specs.Prelude.{cond, List, [], ◌∷◌, ℕ, replicate, eqb, leb}
use Rattle.refusals.specs.Search.{tabulate}
use Rattle.cell.specs.declared.Cell.{Cell}
use Rattle.cell.specs.declared.OperationLine.{OperationLine}
use Rattle.cell.specs.Reader.{no_limits}
use Rattle.positions.specs.declared.Configuration.{Configuration}
use Rattle.worked.specs.Moves.{filled, bench_cell, bench_entry}
use Rattle.worked.specs.Installed.{line}

-- the bench cell with another port between its stations
unfoldable pub bench_through : ℕ → Cell
bench_through port =
    record {
      count = bench_cell.count;
      resource = bench_cell.resource;
      from = bench_cell.from;
      act = bench_cell.act;
      arg = filled (1 ∷ port ∷ port ∷ 2 ∷ 3 ∷ []);
      to = bench_cell.to;
      limits = bench_cell.limits;
    }

-- position 23 of the bench example: "port 5, the part at station 1 already"
unfoldable pub part_passed_on : Configuration
part_passed_on = record { state = 1 ∷ replicate 5 0; place = 2 ∷ replicate 7 0 }

-- the table that was planned when lanes still started empty: "a stored 33554561 there gets 18"
unfoldable pub table_before : List ℕ
table_before = tabulate 90 (λ m. cond (eqb m 23) 33554561 (bench_entry m))

-- a cell that needs an empty pallet before its one operation: `0,0,3,port,1` `1,0,2,port,1` `1,1,1,1,1`
unfoldable pub pallet_cell : ℕ → Cell
pallet_cell port =
    record {
      count = 3;
      resource = filled (0 ∷ 1 ∷ 1 ∷ []);
      from = filled (0 ∷ 0 ∷ 1 ∷ []);
      act = filled (3 ∷ 2 ∷ 1 ∷ []);
      arg = filled (port ∷ port ∷ 1 ∷ []);
      to = filled (1 ∷ 1 ∷ 1 ∷ []);
      limits = no_limits;
    }

-- where the pallet comes, it comes at 0 and the part is put on it at 9, which ends at 23
unfoldable pub pallet_table : List ℕ
pallet_table = tabulate 24 (λ m. cond (eqb m 0) 33554496 (cond (eqb m 9) 50331650 (cond (eqb m 23) 67108864 0)))

unfoldable pub pallet_ranks : List ℕ
pallet_ranks = tabulate 24 (λ m. cond (eqb m 0) 1 0)

-- where it does not, the lines of which each alone would do without it: the operation from a state in which a station starts
unfoldable pub pallet_lines : List OperationLine
pallet_lines = line 0 0 1 0 ∷ line 0 0 1 1 ∷ line 1 0 1 0 ∷ line 1 0 1 1 ∷ []

-- with such a line as line 3 the part is put at 0, which is an end at once
unfoldable pub put_table : List ℕ
put_table = tabulate 24 (λ m. cond (eqb m 0) 50331651 (cond (leb 12 m) 67108864 0))

-- and the other candidates, from states to which nothing leads
unfoldable pub other_pallets : List OperationLine
other_pallets = line 0 1 1 0 ∷ line 0 1 1 1 ∷ line 1 1 1 0 ∷ []
