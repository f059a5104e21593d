-- The lines that the reader has read from a file's numbers. Assumes nothing.
use mathlib.Core.Path.{◌≡◌, ap, ◌∙◌}
use mathlib.Core.Bool.{Bool, not, ◌&&◌}
use mathlib.Core.List.{List}
use Prim.Native.Nat.{ℕ, ◌<◌, ◌≤◌}
use native.Mathlib.Omega.{arith}
use lib.ListN.{length}
use borrow.Author.Tests.{ltb-false}
use Rattle.std.specs.Prelude.{Ok}
use Rattle.refusals.specs.declared.Refusal.TheVariants.{Range}
use Rattle.refusals.specs.Search.{first_below}
use Rattle.refusals.specs.Verdict.{line_verdict, first_line}
use Rattle.refusals.proofs.Scan.{first_same, first_both}
use Rattle.refusals.proofs.Verdicts.{test_fails}
use Rattle.tables.specs.declared.Column.{Column}
use Rattle.tables.specs.Lines.{value_lines}
use Rattle.tables.specs.Table.{number_at, column}
use Rattle.tables.specs.Reading.{Kept, within, Ranged}
use Rattle.tables.proofs.Columns.{within_most, column_at, OfFile, of_file, read_all}
use Rattle.cell.specs.Rules.{limit_in_range}
use Rattle.limits.specs.Reader.{leaves_range, rule4}

leaves : List ℕ → ℕ → Bool
leaves f = leaves_range (column f 0) (column f 1)

-- number j of value line i is in its range
fits : List ℕ → ℕ → ℕ → ℕ → ℕ → Bool
fits f j least most i = within least most (number_at f j i)

module _
    (f store : List ℕ) (count : ℕ) (all : count ≡ length (value_lines f)) (few : count ≤ 64) (K : Kept 2 f count store)
    (resource most : Column)
    (resources : Ranged store count 0 0 5 resource)
    (mosts : Ranged store resource.lines 1 1 8 most)
  where
    R0 : OfFile f 0 0 5 count resource
    R0 = of_file f store K count 0 0 5 resource (omega arith) few (omega arith) resources

    R1 : OfFile f 1 1 8 resource.lines most
    R1 = of_file f store K resource.lines 1 1 8 most R0.fewer (omega (arith, R0.fewer)) (omega arith) mosts

    -- together they end at the first line with a number that leaves its range
    found : most.lines ≡ first_below (leaves f) (length (value_lines f))
    unfolding leaves leaves_range limit_in_range fits within
    found =
        R1.lines_are
        ∙ ap (first_below (λ i. not (fits f 1 1 8 i))) R0.lines_are
        ∙ first_both (fits f 0 0 5) (fits f 1 1 8) count
        ∙ first_same _ (leaves f) count (λ i low. at i (omega arith))
        ∙ ap (first_below (leaves f)) all
      where
        at : (i : ℕ) → i < 64 → not (fits f 0 0 5 i && fits f 1 1 8 i) ≡ leaves f i
        at i low = rw (within_most 5 (number_at f 0 i), column_at f 0 i low, column_at f 1 i low)

    -- rule 4 of the file, by the lines that were read
    pub range_judged : line_verdict Range most.lines count ≡ rule4 f
    unfolding first_line rule4 leaves
    range_judged = rw (all, found)

    -- all are in range: the columns are the file's
    module _ {done : Unit} (fine : line_verdict Range most.lines count ≡ Ok done) where
      past : count ≤ most.lines
      unfolding line_verdict
      past = ltb-false _ _ (test_fails _ _ _ fine)

      pub resources_are : resource.values ≡ column f 0
      resources_are = read_all f 0 0 5 count count resource R0 (omega arith) (omega (arith, R1.fewer, past)) few all

      pub mosts_are : most.values ≡ column f 1
      mosts_are = read_all f 1 1 8 resource.lines count most R1 R0.fewer past few all
