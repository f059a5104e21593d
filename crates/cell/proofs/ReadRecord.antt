-- What the reader answers, by the verdict on the file. Assumes nothing.
use mathlib.Core.Path.{◌≡◌, refl, ap, ◌∙◌}
use mathlib.Core.List.{List}
use Prim.Native.Nat.{ℕ}
use Rattle.std.specs.Prelude.{Result, Err}
use Rattle.refusals.specs.declared.Broken.{Broken}
use Rattle.refusals.specs.Verdict.{Verdict, Accepted, if_accepted, found_if}
use Rattle.cell.specs.declared.Cell.{Cell}
use Rattle.cell.specs.Reader.{cell_of, judge_cell, no_cell, reading_of, read_cell}

pub read_refused : {e : Broken} (f : List ℕ) → judge_cell f ≡ Err e → reading_of (Err e) ≡ read_cell f
unfolding reading_of read_cell if_accepted
read_refused f is = rw is

pub read_judged : {r : Result Cell Broken} (f : List ℕ) → r ≡ found_if (judge_cell f) (cell_of f) → reading_of r ≡ read_cell f
unfolding reading_of read_cell found_if if_accepted
read_judged f is = ap reading_of is ∙ decide (judge_cell f)
  where
    decide : (v : Verdict) → reading_of (found_if v (cell_of f)) ≡ record { verdict = v; cell = if_accepted v (cell_of f) no_cell }
    decide Accepted = refl
    decide (Err broken) = refl
