-- What the reader answers for a record, by the verdicts on it and on the file. Assumes nothing.
use mathlib.Core.Path.{◌≡◌, sym, ◌∙◌}
use mathlib.Core.List.{List}
use Prim.Native.Nat.{ℕ}
use Rattle.std.specs.Prelude.{Result, Ok, Err}
use Rattle.refusals.specs.declared.Broken.{Broken}
use Rattle.refusals.specs.Verdict.{first_refusal, if_accepted, found_if}
use Rattle.refusals.proofs.Rules.{tried_ok, refused_of, accepted_of, found_of}
use Rattle.cell.specs.declared.Cell.{Cell}
use Rattle.cell.specs.Rules.{check_cell}
use Rattle.limits.specs.Reader.{at_no_line, file_rules, judge_limits, limited, reading_over, read_limits}
use Rattle.limits.specs.Inner.{limits_of}

-- the record is refused
pub record_refused : {e : Broken} (f : List ℕ) (c : Cell) → check_cell c ≡ Err e → reading_over c (Err (record { rule = e.rule; line = 0 })) ≡ read_limits f c
unfolding first_refusal at_no_line judge_limits reading_over read_limits if_accepted
record_refused f c is = rw is

-- it passes, and the file is judged
module _
    {done : Unit} (f : List ℕ) (c : Cell) (passes : check_cell c ≡ Ok done)
    {answer : Result (List ℕ) Broken} (answered : answer ≡ found_if (first_refusal (file_rules f c)) (limits_of f))
  where
    judged : judge_limits f c ≡ first_refusal (file_rules f c)
    unfolding at_no_line judge_limits
    judged = tried_ok _ _ (rw passes)

    pub file_refused : {e : Broken} → answer ≡ Err e → reading_over c (Err e) ≡ read_limits f c
    unfolding reading_over read_limits if_accepted
    file_refused is = rw (judged ∙ refused_of _ (limits_of f) (sym answered ∙ is))

    pub file_accepted :
        {limits : List ℕ}
        → answer ≡ Ok limits
        → reading_over c (Ok (record { count = c.count; resource = c.resource; from = c.from; act = c.act; arg = c.arg; to = c.to; limits = limits }))
        ≡ read_limits f c
    unfolding reading_over read_limits if_accepted limited limits_of
    file_accepted is =
        rw (judged ∙ accepted_of _ (limits_of f) (sym answered ∙ is), found_of _ (limits_of f) (sym answered ∙ is))
