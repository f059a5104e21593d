-- How the C interface writes runs and verdicts as bytes and numbers, as include/cellplan.h says it. Assumes nothing.
use Rattle.std.specs.Prelude.{cond, List, [], ◌∷◌, ◌++◌, ℕ, ◌+◌, ◌*◌, ◌%◌, ◌^◌, length, get_or, ltb}
use Rattle.refusals.specs.Refusal.{number_of}
use Rattle.std.specs.Prelude.{Err}
use Rattle.refusals.specs.Verdict.{Verdict, Accepted}
use Rattle.refusals.specs.Search.{tabulate}
use Rattle.positions.specs.Position.{start}
use Rattle.run.specs.declared.Run.{Run}

-- the 16 bytes of a run: the point, six states, eight places, and the chapter, which is last
unfoldable pub run_bytes : Run → List ℕ
run_bytes run =
    run.point
    ∷ tabulate 6 (λ k. get_or run.configuration.state k 0) ++ tabulate 8 (λ n. get_or run.configuration.place n 0) ++ (run.chapter ∷ [])

-- the run that bytes hold; bytes too few for a run count as a run out of range: no recipe has a point 255
unfoldable pub run_from : List ℕ → Run
run_from bytes =
    cond (ltb (length bytes) 16) (record { point = 255; configuration = start; chapter = 0 })
    (record {
      point = get_or bytes 0 0;
      configuration = record { state = tabulate 6 (λ k. get_or bytes (1 + k) 0); place = tabulate 8 (λ n. get_or bytes (7 + n) 0) };
      chapter = get_or bytes 15 0;
    })

-- a reader's result: refusal + 256 × line, 0 if accepted; the line modulo 2 ^ 56, so that it fits for any file
unfoldable pub code_of : Verdict → ℕ
code_of Accepted = 0
code_of (Err broken) = number_of broken.rule + 256 * (broken.line % 2 ^ 56)
