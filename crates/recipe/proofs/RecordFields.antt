-- The record that a reader fills from a file's numbers, field by field. Assumes nothing.
use mathlib.Core.Path.{◌≡◌, sym, ap, ◌∙◌}
use mathlib.Core.Bool.{Bool, not, ◌&&◌}
use mathlib.Core.List.{List, ◌∷◌}
use Prim.Native.Nat.{ℕ, ◌<◌, ◌≤◌}
use native.Mathlib.Omega.{arith}
use lib.ListN.{length}
use borrow.Author.Tests.{ltb-false}
use Rattle.refusals.specs.Verdict.{Verdict, first_refusal, line_verdict, first_line, found_if}
use Rattle.refusals.specs.declared.Broken.{Broken}
use Rattle.std.specs.Prelude.{Result, Ok, Err}
use Rattle.refusals.specs.declared.Refusal.TheVariants.{Range}
use Rattle.refusals.specs.Search.{first_below}
use Rattle.refusals.proofs.Scan.{first_same, first_both}
use Rattle.refusals.proofs.Verdicts.{test_fails}
use Rattle.refusals.proofs.Rules.{tried_err, tried_ok, found_err, found_ok}
use Rattle.tables.specs.declared.Column.{Column}
use Rattle.tables.specs.Lines.{value_lines}
use Rattle.tables.specs.Table.{number_at, column}
use Rattle.tables.specs.Reading.{Kept, within, Ranged}
use Rattle.tables.proofs.Columns.{within_most, column_at, OfFile, of_file, read_all}
use Rattle.recipe.specs.declared.Recipe.{Recipe}
use Rattle.recipe.specs.Rules.{leaves_range, rule4, in_range}
use Rattle.recipe.specs.Reader.{recipe_of}
use Rattle.recipe.specs.Inner.{after_range}

leaves : List ℕ → ℕ → Bool
leaves f = leaves_range (column f 0) (column f 1) (column f 2) (column f 3) (column f 4) (column f 5) (column f 6)

-- number j of value line i is at most its most
fits : List ℕ → ℕ → ℕ → ℕ → Bool
fits f j most i = within 0 most (number_at f j i)

module _
    (f store : List ℕ) (count : ℕ) (all : count ≡ length (value_lines f)) (few : count ≤ 64) (K : Kept 7 f count store)
    (point kind op takes gives then otherwise : Column)
    (points : Ranged store count 0 0 15 point)
    (kinds : Ranged store point.lines 1 0 2 kind)
    (ops : Ranged store kind.lines 2 0 63 op)
    (taken : Ranged store op.lines 3 0 255 takes)
    (given : Ranged store takes.lines 4 0 255 gives)
    (thens : Ranged store gives.lines 5 0 15 then)
    (others : Ranged store then.lines 6 0 15 otherwise)
  where
    R0 : OfFile f 0 0 15 count point
    R0 =
        let low : count ≤ count = omega arith in of_file f store K count 0 0 15 point low (omega arith) (omega arith) points

    R1 : OfFile f 1 0 2 point.lines kind
    R1 =
        let low : point.lines ≤ count = omega (arith, R0.fewer) in of_file f store K point.lines 1 0 2 kind low (omega arith) (omega arith) kinds

    R2 : OfFile f 2 0 63 kind.lines op
    R2 =
        let low : kind.lines ≤ count = omega (arith, R0.fewer, R1.fewer) in of_file f store K kind.lines 2 0 63 op low (omega arith) (omega arith) ops

    R3 : OfFile f 3 0 255 op.lines takes
    R3 =
        let low : op.lines ≤ count = omega (arith, R0.fewer, R1.fewer, R2.fewer) in
        of_file f store K op.lines 3 0 255 takes low (omega arith) (omega arith) taken

    R4 : OfFile f 4 0 255 takes.lines gives
    R4 =
        let low : takes.lines ≤ count = omega (arith, R0.fewer, R1.fewer, R2.fewer, R3.fewer) in
        of_file f store K takes.lines 4 0 255 gives low (omega arith) (omega arith) given

    R5 : OfFile f 5 0 15 gives.lines then
    R5 =
        let low : gives.lines ≤ count = omega (arith, R0.fewer, R1.fewer, R2.fewer, R3.fewer, R4.fewer) in
        of_file f store K gives.lines 5 0 15 then low (omega arith) (omega arith) thens

    R6 : OfFile f 6 0 15 then.lines otherwise
    R6 =
        let low : then.lines ≤ count =
        omega (arith, R0.fewer, R1.fewer, R2.fewer, R3.fewer, R4.fewer, R5.fewer) in
        of_file f store K then.lines 6 0 15 otherwise low (omega arith) (omega arith) others

    -- together they end at the first line with a number that leaves its range
    found : otherwise.lines ≡ first_below (leaves f) (length (value_lines f))
    unfolding leaves_range leaves fits in_range
    found =
        R6.lines_are
        ∙ ap (first_below (λ i. not (fits f 6 15 i))) R5.lines_are
        ∙ first_both (fits f 5 15) (fits f 6 15) gives.lines
        ∙ ap (first_below (λ i. not (fits f 5 15 i && fits f 6 15 i))) R4.lines_are
        ∙ first_both (fits f 4 255) (λ i. fits f 5 15 i && fits f 6 15 i) takes.lines
        ∙ ap (first_below (λ i. not (fits f 4 255 i && (fits f 5 15 i && fits f 6 15 i)))) R3.lines_are
        ∙ first_both (fits f 3 255) (λ i. fits f 4 255 i && (fits f 5 15 i && fits f 6 15 i)) op.lines
        ∙ ap (first_below (λ i. not (fits f 3 255 i && (fits f 4 255 i && (fits f 5 15 i && fits f 6 15 i))))) R2.lines_are
        ∙ first_both (fits f 2 63) (λ i. fits f 3 255 i && (fits f 4 255 i && (fits f 5 15 i && fits f 6 15 i))) kind.lines
        ∙ ap (first_below (λ i. not (fits f 2 63 i && (fits f 3 255 i && (fits f 4 255 i && (fits f 5 15 i && fits f 6 15 i)))))) R1.lines_are
        ∙ first_both (fits f 1 2) (λ i. fits f 2 63 i && (fits f 3 255 i && (fits f 4 255 i && (fits f 5 15 i && fits f 6 15 i)))) point.lines
        ∙ ap
        (first_below
        (λ i. not
        (fits f 1 2 i
        && (fits f 2 63 i && (fits f 3 255 i && (fits f 4 255 i && (fits f 5 15 i && fits f 6 15 i)))))))
        R0.lines_are
        ∙ first_both (fits f 0 15) (λ i. fits f 1 2 i && (fits f 2 63 i && (fits f 3 255 i && (fits f 4 255 i && (fits f 5 15 i && fits f 6 15 i))))) count
        ∙ first_same _ (leaves f) count (λ i low. at i (omega arith))
        ∙ ap (first_below (leaves f)) all
      where
        at : (i : ℕ) → i < 64
            → not
            (fits f 0 15 i
            &&
            (fits f 1 2 i
            && (fits f 2 63 i && (fits f 3 255 i && (fits f 4 255 i && (fits f 5 15 i && fits f 6 15 i)))))) ≡ leaves
            f i
        at i low = rw (
          within_most 15 (number_at f 0 i),
          within_most 2 (number_at f 1 i),
          within_most 63 (number_at f 2 i),
          within_most 255 (number_at f 3 i),
          within_most 255 (number_at f 4 i),
          within_most 15 (number_at f 5 i),
          within_most 15 (number_at f 6 i),
          column_at f 0 i low,
          column_at f 1 i low,
          column_at f 2 i low,
          column_at f 3 i low,
          column_at f 4 i low,
          column_at f 5 i low,
          column_at f 6 i low,
        )

    -- rule 4 of the file's record, by the lines that were read
    stored_rule4 : line_verdict Range otherwise.lines count ≡ rule4 (recipe_of f)
    unfolding first_line rule4 recipe_of leaves
    stored_rule4 = rw (all, found)

    -- what the reader answers from rule 4 on
    abbrev answer : Result Recipe Broken
    answer = found_if (first_refusal (rule4 (recipe_of f) ∷ after_range (recipe_of f))) (recipe_of f)

    -- a number leaves its range
    pub stored_out : {e : Broken} → line_verdict Range otherwise.lines count ≡ Err e → answer ≡ Err e
    stored_out out = found_err _ _ (tried_err _ _ (sym stored_rule4 ∙ out))

    -- all are in range: the record is the file's, and rule 4 leaves it to the others
    module _ {done : Unit} (fine : line_verdict Range otherwise.lines count ≡ Ok done) where
      abbrev stored : Recipe
      stored = record {
        count = count;
        point = point.values;
        kind = kind.values;
        op = op.values;
        takes = takes.values;
        gives = gives.values;
        then = then.values;
        otherwise = otherwise.values;
      }

      stored_recipe : stored ≡ recipe_of f
      unfolding recipe_of line_verdict
      stored_recipe =
          let past : count ≤ otherwise.lines = ltb-false _ _ (test_fails _ _ _ fine) in
          let most0 : point.lines ≤ count = omega (arith, R0.fewer) in
          let most1 : kind.lines ≤ count = omega (arith, R1.fewer) in
          let most2 : op.lines ≤ count = omega (arith, R2.fewer) in
          let most3 : takes.lines ≤ count = omega (arith, R3.fewer) in
          let most4 : gives.lines ≤ count = omega (arith, R4.fewer) in
          let most5 : then.lines ≤ count = omega (arith, R5.fewer) in
          let e0 =
          read_all f 0 0 15 count count point R0 (omega arith)
          (omega (arith, R1.fewer, R2.fewer, R3.fewer, R4.fewer, R5.fewer, R6.fewer)) few all in
          let e1 = read_all f 1 0 2 point.lines count kind R1 most0 (omega (arith, R2.fewer, R3.fewer, R4.fewer, R5.fewer, R6.fewer)) few all in
          let e2 = read_all f 2 0 63 kind.lines count op R2 most1 (omega (arith, R3.fewer, R4.fewer, R5.fewer, R6.fewer)) few all in
          let e3 = read_all f 3 0 255 op.lines count takes R3 most2 (omega (arith, R4.fewer, R5.fewer, R6.fewer)) few all in
          let e4 = read_all f 4 0 255 takes.lines count gives R4 most3 (omega (arith, R5.fewer, R6.fewer)) few all in
          let e5 = read_all f 5 0 15 gives.lines count then R5 most4 (omega (arith, R6.fewer)) few all in
          let e6 = read_all f 6 0 15 then.lines count otherwise R6 most5 past few all in
          λ i. record { count = all i; point = e0 i; kind = e1 i; op = e2 i; takes = e3 i; gives = e4 i; then = e5 i; otherwise = e6 i }

      stored_judged :
          {v : Verdict}
          → v ≡ first_refusal (after_range stored)
          → first_refusal (rule4 (recipe_of f) ∷ after_range (recipe_of f)) ≡ v
      stored_judged judged =
          tried_ok _ _ (sym stored_rule4 ∙ fine) ∙ sym (judged ∙ ap (λ (r : Recipe). first_refusal (after_range r)) stored_recipe)

      pub stored_refused : {e : Broken} {v : Verdict} → v ≡ first_refusal (after_range stored) → v ≡ Err e → answer ≡ Err e
      stored_refused judged is = found_err _ _ (stored_judged judged ∙ is)

      pub stored_found : {d : Unit} {v : Verdict} → v ≡ first_refusal (after_range stored) → v ≡ Ok d → answer ≡ Ok stored
      stored_found judged is = found_ok _ _ (stored_judged judged ∙ is) ∙ ap (λ (r : Recipe). Ok r) (sym stored_recipe)
