-- The answer to a byte, by what the byte is and what the report says. Assumes nothing.
use mathlib.Core.Path.{◌≡◌, refl, sym, ap, ◌∙◌}
use mathlib.Core.Bool.{Bool, true, false, cond}
use mathlib.Core.List.{List, [], ◌∷◌}
use Prim.Native.Nat.{ℕ, ◌-◌, ◌≤◌}
use native.Mathlib.Omega.{arith}
use lib.ListN.{length}
use Rattle.std.proofs.lemmas.Bool.Decides.{nat_tests}
use Rattle.std.specs.Char.{is_ascii_digit}
use Rattle.std.specs.Result.{result_unwrap_or}
use Rattle.refusals.specs.declared.Refusal.{Refusal}
use Rattle.refusals.specs.Refusal.{number_of}
use Rattle.std.specs.Prelude.{Result, Ok, Err}
use Rattle.refusals.specs.declared.Broken.{Broken}
use Rattle.refusals.specs.Verdict.{Verdict, Accepted, Refused}
use Rattle.tables.specs.Numbers.{is_digit}
use Rattle.cell.specs.declared.Cell.{Cell}
use Rattle.recipe.specs.declared.Recipe.{Recipe}
use Rattle.run.specs.declared.Run.{Run}
use Rattle.run.specs.Calls.{Report, move_of, next_move, report_of}
use Rattle.printout.specs.Text.{move_line, refusal_line, Put}
use Rattle.printout.specs.Turn.{position_in, Told, reported, told, Answered}
use Rattle.printout.proofs.BufferPieces.{put_nothing, put_same, move_few, refusal_few}

-- std's test of a digit is the definition's
digit_test : (byte : ℕ) → is_ascii_digit byte ≡ is_digit byte
unfolding is_digit
digit_test byte = grind (arith, nat_tests)

-- the entry of a next-move call's answer
pub entry_in : (answer : Result ℕ Broken) → result_unwrap_or answer 0 ≡ (move_of answer).entry
unfolding move_of
entry_in (Ok entry) = refl
entry_in (Err broken) = refl

-- an answer with the text that was put
put_answer : {entry exit : List ℕ} {t : Told} {line : List ℕ} {at end : ℕ} {more : Bool} {run : Run} → Put entry exit at line end
    → record { line = line; more = more; run = run } ≡ t
    → Answered t entry exit at (record { length = end; more = more; run = run })
put_answer p e =
    record { line_is = put_same (ap (λ (x : Told). x.line) e) p; more_is = ap (λ (x : Told). x.more) e; run_is = ap (λ (x : Told). x.run) e }

module _ (c : Cell) (r : Recipe) (table : List ℕ) (run : Run) (byte : ℕ) where
  pub no_digit : (text : List ℕ) (at : ℕ) → at ≤ length text → is_ascii_digit byte ≡ false
      → Answered (told c r table run byte) text text at (record { length = at; more = false; run = run })
  unfolding told
  no_digit text at fits e = rw (sym (digit_test byte) ∙ e) (record { line_is = put_nothing text at fits; more_is = refl; run_is = refl })

  module _ (digit : is_ascii_digit byte ≡ true) (report : Report) (is : report ≡ report_of c (r ∷ []) table run (byte - 48)) where
    -- what is told of a report with this verdict
    by_verdict : (v : Verdict) → report.verdict ≡ v → reported c r (next_move c (r ∷ []) table run).entry run v report.run ≡ told c r table run byte
    unfolding told
    by_verdict v e =
        rw (sym (digit_test byte) ∙ digit)
        (λ i. reported c r (next_move c (r ∷ []) table run).entry run ((sym e ∙ ap (λ (x : Report). x.verdict) is) i) (is i).run)

    pub report_made : {entry exit : List ℕ} {at here there end : ℕ} (move : ℕ) → report.verdict ≡ Accepted
        → here ≡ position_in c r run → move ≡ (next_move c (r ∷ []) table run).entry
        → there ≡ position_in c r report.run
        → Put entry exit at (move_line here move there) end
        → Answered (told c r table run byte) entry exit at (record { length = end; more = true; run = report.run })
    unfolding reported
    report_made move e at_here is_move at_there p =
        put_answer p
        ((λ i. record { line = move_line (at_here i) (is_move i) (at_there i); more = true; run = report.run }) ∙ by_verdict Accepted e)

    pub report_refused : {entry exit : List ℕ} {at end number : ℕ} {refusal : Refusal} {line : ℕ}
        → report.verdict ≡ Refused refusal line → number ≡ number_of refusal
        → Put entry exit at (refusal_line number) end
        → Answered (told c r table run byte) entry exit at (record { length = end; more = false; run = report.run })
    unfolding reported
    report_refused {refusal = refusal} {line = line} e numbered p =
        put_answer p
        ((λ i. record { line = refusal_line (numbered i); more = false; run = report.run }) ∙ by_verdict (Refused refusal line) e)

-- a line has no more than 64 bytes
reported_few : (c : Cell) (r : Recipe) (entry : ℕ) (run next : Run) (v : Verdict) → length (reported c r entry run v next).line ≤ 64
unfolding reported
reported_few c r entry run next Accepted = move_few (position_in c r run) entry (position_in c r next)
reported_few c r entry run next (Err broken) = refusal_few (number_of broken.rule)

pub line_few : (c : Cell) (r : Recipe) (table : List ℕ) (run : Run) (byte : ℕ) → length (told c r table run byte).line ≤ 64
unfolding told
line_few c r table run byte = go (is_digit byte)
  where
    go : (b : Bool) → length (cond b
        (reported c r (next_move c (r ∷ []) table run).entry run (report_of c (r ∷ []) table run (byte - 48)).verdict (report_of c (r ∷ []) table run (byte - 48)).run)
        (record { line = []; more = false; run = run })).line ≤ 64
    go true = reported_few c r _ run _ _
    go false = omega arith
