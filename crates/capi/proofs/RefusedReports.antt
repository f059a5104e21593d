-- A report that is refused leaves the bytes of its run as they were, whatever they are. Assumes nothing.
use mathlib.Core.Path.{◌≡◌, refl, ap, ◌∙◌}
use mathlib.Core.Bool.{Bool, true, false, cond}
use mathlib.Core.List.{List, ◌++◌}
use Prim.Native.Nat.{ℕ}
use lib.ListN.{length, drop, take-append-drop}
use lib.Dec.{ltb}
use borrow.Author.Tests.{ltb-false}
use Rattle.std.specs.Prelude.{Err}
use Rattle.refusals.specs.Verdict.{Verdict, Accepted, if_accepted, refusal_in}
use Rattle.cell.specs.declared.Cell.{Cell}
use Rattle.chapters.specs.Joined.{Chapters}
use Rattle.run.specs.declared.Run.{Run}
use Rattle.run.specs.Calls.{report_of}
use Rattle.capi.specs.Encoding.{run_bytes, run_from}
use Rattle.capi.specs.Answer.{Reported}
use Rattle.capi.proofs.BytesRoundTrip.{run_bytes_back}

-- "a refused report its own run"
own_run : (verdict : Verdict) (run next : Run) → (refusal_in verdict ≡ 0 → ⊥) → if_accepted verdict next run ≡ run
unfolding if_accepted refusal_in
own_run Accepted run next refused = absurd (refused refl)
own_run (Err broken) run next refused = refl

-- a number other than 0 is answered: the bytes stay, those of a run and those behind it, and bytes too few for a run too
pub refused_stays :
    (c : Cell) (rs : Chapters) (table entry exit : List ℕ) (outcome answer : ℕ)
    → Reported (report_of c rs table (run_from entry) outcome) entry exit answer
    → (answer ≡ 0 → ⊥)
    → exit ≡ entry
unfolding report_of
refused_stays c rs table entry exit outcome answer told refused = told.run_is ∙ decide (ltb (length entry) 16) refl
  where
    same : (report_of c rs table (run_from entry) outcome).run ≡ run_from entry
    same = own_run _ (run_from entry) _ (λ none. refused (told.answer_is ∙ none))

    decide : (short : Bool) → ltb (length entry) 16 ≡ short
        → cond short entry (run_bytes (report_of c rs table (run_from entry) outcome).run ++ drop 16 entry) ≡ entry
    decide true e = refl
    decide false e =
        ap (λ (run : Run). run_bytes run ++ drop 16 entry) same
        ∙ ap (λ (l : List ℕ). l ++ drop 16 entry) (run_bytes_back entry (ltb-false (length entry) 16 e))
        ∙ take-append-drop 16 entry
