-- The record that a reader fills from a file's numbers, field by field. Assumes nothing.
use mathlib.Core.Path.{◌≡◌, sym, ap, ◌∙◌}
use mathlib.Core.Bool.{Bool, not, ◌&&◌}
use mathlib.Core.List.{List, ◌∷◌}
use Prim.Native.Nat.{ℕ, ◌<◌, ◌≤◌}
use native.Mathlib.Omega.{arith}
use lib.ListN.{length}
use borrow.Author.Tests.{ltb-false}
use Rattle.refusals.specs.Verdict.{Verdict, first_refusal, line_verdict, first_line, found_if}
use Rattle.refusals.specs.declared.Broken.{Broken}
use Rattle.std.specs.Prelude.{Result, Ok, Err}
use Rattle.refusals.specs.declared.Refusal.TheVariants.{Range}
use Rattle.refusals.specs.Search.{first_below}
use Rattle.refusals.proofs.Scan.{first_same, first_both}
use Rattle.refusals.proofs.Verdicts.{test_fails}
use Rattle.refusals.proofs.Rules.{tried_err, tried_ok, found_err, found_ok}
use Rattle.tables.specs.declared.Column.{Column}
use Rattle.tables.specs.Lines.{value_lines}
use Rattle.tables.specs.Table.{number_at, column}
use Rattle.tables.specs.Reading.{Kept, within, Ranged}
use Rattle.tables.proofs.Columns.{within_most, column_at, OfFile, of_file, read_all}
use Rattle.cell.specs.declared.Cell.{Cell}
use Rattle.cell.specs.Inner.{after_range}
use Rattle.cell.specs.Rules.{leaves_range, rule4, in_range}
use Rattle.cell.specs.Reader.{no_limits, cell_of}

leaves : List ℕ → ℕ → Bool
leaves f = leaves_range (column f 0) (column f 1) (column f 2) (column f 3) (column f 4)

-- number j of value line i is at most its most
fits : List ℕ → ℕ → ℕ → ℕ → Bool
fits f j most i = within 0 most (number_at f j i)

module _
    (f store : List ℕ) (count : ℕ) (all : count ≡ length (value_lines f)) (few : count ≤ 64) (K : Kept 5 f count store)
    (resource from act arg to : Column)
    (resources : Ranged store count 0 0 5 resource)
    (froms : Ranged store resource.lines 1 0 7 from)
    (acts : Ranged store from.lines 2 0 4 act)
    (args : Ranged store act.lines 3 0 63 arg)
    (tos : Ranged store arg.lines 4 0 7 to)
  where
    R0 : OfFile f 0 0 5 count resource
    R0 = of_file f store K count 0 0 5 resource (omega arith) few (omega arith) resources

    R1 : OfFile f 1 0 7 resource.lines from
    R1 = of_file f store K resource.lines 1 0 7 from R0.fewer (omega (arith, R0.fewer)) (omega arith) froms

    R2 : OfFile f 2 0 4 from.lines act
    R2 = of_file f store K from.lines 2 0 4 act (omega (arith, R0.fewer, R1.fewer)) (omega (arith, R0.fewer, R1.fewer)) (omega arith) acts

    R3 : OfFile f 3 0 63 act.lines arg
    R3 =
        let low : act.lines ≤ count = omega (arith, R0.fewer, R1.fewer, R2.fewer) in
        of_file f store K act.lines 3 0 63 arg low (omega arith) (omega arith) args

    R4 : OfFile f 4 0 7 arg.lines to
    R4 =
        let low : arg.lines ≤ count = omega (arith, R0.fewer, R1.fewer, R2.fewer, R3.fewer) in
        of_file f store K arg.lines 4 0 7 to low (omega arith) (omega arith) tos

    -- together they end at the first line with a number that leaves its range
    found : to.lines ≡ first_below (leaves f) (length (value_lines f))
    unfolding leaves_range leaves fits in_range
    found =
        R4.lines_are
        ∙ ap (first_below (λ i. not (fits f 4 7 i))) R3.lines_are
        ∙ first_both (fits f 3 63) (fits f 4 7) act.lines
        ∙ ap (first_below (λ i. not (fits f 3 63 i && fits f 4 7 i))) R2.lines_are
        ∙ first_both (fits f 2 4) (λ i. fits f 3 63 i && fits f 4 7 i) from.lines
        ∙ ap (first_below (λ i. not (fits f 2 4 i && (fits f 3 63 i && fits f 4 7 i)))) R1.lines_are
        ∙ first_both (fits f 1 7) (λ i. fits f 2 4 i && (fits f 3 63 i && fits f 4 7 i)) resource.lines
        ∙ ap (first_below (λ i. not (fits f 1 7 i && (fits f 2 4 i && (fits f 3 63 i && fits f 4 7 i))))) R0.lines_are
        ∙ first_both (fits f 0 5) (λ i. fits f 1 7 i && (fits f 2 4 i && (fits f 3 63 i && fits f 4 7 i))) count
        ∙ first_same _ (leaves f) count (λ i low. at i (omega arith))
        ∙ ap (first_below (leaves f)) all
      where
        at :
            (i : ℕ)
            → i < 64
            → not (fits f 0 5 i && (fits f 1 7 i && (fits f 2 4 i && (fits f 3 63 i && fits f 4 7 i)))) ≡ leaves f i
        at i low = rw (
          within_most 5 (number_at f 0 i),
          within_most 7 (number_at f 1 i),
          within_most 4 (number_at f 2 i),
          within_most 63 (number_at f 3 i),
          within_most 7 (number_at f 4 i),
          column_at f 0 i low,
          column_at f 1 i low,
          column_at f 2 i low,
          column_at f 3 i low,
          column_at f 4 i low,
        )

    -- rule 4 of the file's record, by the lines that were read
    stored_rule4 : line_verdict Range to.lines count ≡ rule4 (cell_of f)
    unfolding first_line rule4 cell_of leaves
    stored_rule4 = rw (all, found)

    -- what the reader answers from rule 4 on
    abbrev answer : Result Cell Broken
    answer = found_if (first_refusal (rule4 (cell_of f) ∷ after_range (cell_of f))) (cell_of f)

    -- a number leaves its range
    pub stored_out : {e : Broken} → line_verdict Range to.lines count ≡ Err e → answer ≡ Err e
    stored_out out = found_err _ _ (tried_err _ _ (sym stored_rule4 ∙ out))

    -- all are in range: the record is the file's, and rule 4 leaves it to the others
    module _ {done : Unit} (fine : line_verdict Range to.lines count ≡ Ok done) where
      abbrev stored : Cell
      stored = record {
        count = count;
        resource = resource.values;
        from = from.values;
        act = act.values;
        arg = arg.values;
        to = to.values;
        limits = no_limits;
      }

      stored_cell : stored ≡ cell_of f
      unfolding cell_of line_verdict
      stored_cell =
          let past : count ≤ to.lines = ltb-false _ _ (test_fails _ _ _ fine) in
          let most0 : resource.lines ≤ count = R0.fewer in
          let most1 : from.lines ≤ count = omega (arith, R1.fewer) in
          let most2 : act.lines ≤ count = omega (arith, R2.fewer) in
          let most3 : arg.lines ≤ count = omega (arith, R3.fewer) in
          let a = read_all f 0 0 5 count count resource R0 (omega arith) (omega (arith, R1.fewer, R2.fewer, R3.fewer, R4.fewer)) few all in
          let b = read_all f 1 0 7 resource.lines count from R1 most0 (omega (arith, R2.fewer, R3.fewer, R4.fewer)) few all in
          let c = read_all f 2 0 4 from.lines count act R2 most1 (omega (arith, R3.fewer, R4.fewer)) few all in
          let d = read_all f 3 0 63 act.lines count arg R3 most2 (omega (arith, R4.fewer)) few all in
          let e = read_all f 4 0 7 arg.lines count to R4 most3 past few all in
          λ i. record { count = all i; resource = a i; from = b i; act = c i; arg = d i; to = e i; limits = no_limits }

      stored_judged : {v : Verdict} → v ≡ first_refusal (after_range stored) → first_refusal (rule4 (cell_of f) ∷ after_range (cell_of f)) ≡ v
      stored_judged judged =
          tried_ok _ _ (sym stored_rule4 ∙ fine) ∙ sym (judged ∙ ap (λ (c : Cell). first_refusal (after_range c)) stored_cell)

      pub stored_refused : {e : Broken} {v : Verdict} → v ≡ first_refusal (after_range stored) → v ≡ Err e → answer ≡ Err e
      stored_refused judged is = found_err _ _ (stored_judged judged ∙ is)

      pub stored_found : {d : Unit} {v : Verdict} → v ≡ first_refusal (after_range stored) → v ≡ Ok d → answer ≡ Ok stored
      stored_found judged is = found_ok _ _ (stored_judged judged ∙ is) ∙ ap (λ (c : Cell). Ok c) (sym stored_cell)
