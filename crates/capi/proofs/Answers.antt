-- The two answers of a call that writes: the lent buffer is too short, or it holds the record, its limits or the run; and those of
-- the plan call and the install call.
-- Assumes nothing.
use mathlib.Core.Path.{◌≡◌, refl, sym, ap, ◌∙◌, subst}
use mathlib.Core.Bool.{Bool, true, false, cond}
use mathlib.Core.List.{List, ◌++◌}
use Prim.Native.Nat.{ℕ, ◌+◌, ◌*◌, ◌<◌, ◌≤◌}
use native.Mathlib.Omega.{arith}
use lib.ListN.{length, get_or, take, drop, take-append-drop}
use lib.Seq.{sets, sets-eq}
use borrow.Author.Tests.{lt-ltb, le-ltb, ltb-false}
use lib.Dec.{ltb}
use Rattle.std.specs.Prelude.{Ok, Err}
use Rattle.refusals.specs.Refusal.{number_of}
use Rattle.refusals.specs.declared.Broken.{Broken}
use Rattle.refusals.specs.declared.Refusal.TheVariants.{TooShort}
use Rattle.refusals.specs.Verdict.{Verdict, refusal_in}
use Rattle.refusals.proofs.TabulatedLists.{tabulate_is}
use Rattle.cell.specs.declared.Cell.{Cell}
use Rattle.cell.specs.Reader.{CellReading}
use Rattle.limits.specs.Reader.{read_limits, reading_over}
use Rattle.recipe.specs.declared.Recipe.{Recipe}
use Rattle.chapters.specs.Joined.{Chapters}
use Rattle.run.specs.declared.Run.{Run}
use Rattle.run.specs.Calls as calls
use Rattle.run.specs.Calls.{Report}
use Rattle.planner.specs.Call.{PlanCall}
use Rattle.install.specs.Call.{Listing, InstallCall}
use Rattle.records.specs.Encoding.{cell_bytes, cell_from}
use Rattle.records.proofs.RecordsRoundTrip.{limited_to, cell_lines_back, cell_bytes_back}
use Rattle.capi.specs.Encoding.{code_of, run_bytes, run_from}
use Rattle.capi.specs.Answer.{BufferAnswered, LimitsAnswered, Reported, PlanAnswered, InstallAnswered}
use Rattle.capi.proofs.BytesRoundTrip.{run_bytes_back}
use Rattle.capi.proofs.LimitsInBytes.{only_limits}

module _ (verdict : Verdict) (bytes : List ℕ) (size : ℕ) (entry : List ℕ) where
  pub too_short : (answer : ℕ) → length entry < size → answer ≡ number_of TooShort → BufferAnswered verdict bytes size entry entry answer
  too_short answer short e = record { answer_is = rw (lt-ltb (length entry) size short) e; buffer_is = rw (lt-ltb (length entry) size short) }

  pub answered : (exit : List ℕ) (answer : ℕ) → size ≤ length entry → answer ≡ code_of verdict → exit ≡ bytes ++ drop size entry
      → BufferAnswered verdict bytes size entry exit answer
  answered exit answer room e put = record { answer_is = rw (le-ltb (length entry) size room) e; buffer_is = rw (le-ltb (length entry) size room) put }

-- the ends of a report: the next run is put into the lent one, which is left if it is too short, or the report is refused
module _ (report : Report) (entry : List ℕ) where
  module _ (next : Run) (same : calls.answered (run_from entry) (Ok next) ≡ report) where
    pub report_short : length entry < 16 → Reported report entry entry 0
    unfolding calls.answered refusal_in
    report_short short = record { answer_is = ap (λ (r : Report). refusal_in r.verdict) same; run_is = rw (lt-ltb (length entry) 16 short) }

    pub report_put : (exit : List ℕ) → 16 ≤ length entry → exit ≡ run_bytes next ++ drop 16 entry → Reported report entry exit 0
    unfolding calls.answered refusal_in
    report_put exit room put =
        record {
          answer_is = ap (λ (r : Report). refusal_in r.verdict) same;
          run_is = rw (le-ltb (length entry) 16 room) (put ∙ ap (λ (r : Report). run_bytes r.run ++ drop 16 entry) same);
        }

  pub report_refused : (broken : Broken) (answer : ℕ) → calls.answered (run_from entry) (Err broken) ≡ report → answer ≡ number_of broken.rule
      → Reported report entry entry answer
  unfolding calls.answered refusal_in
  report_refused broken answer same number =
      record { answer_is = number ∙ ap (λ (r : Report). refusal_in r.verdict) same; run_is = decide (ltb (length entry) 16) refl }
    where
      decide : (short : Bool) → ltb (length entry) 16 ≡ short → entry ≡ cond short entry (run_bytes report.run ++ drop 16 entry)
      decide true e = refl
      decide false e =
          sym
          (ap (λ (r : Report). run_bytes r.run ++ drop 16 entry) (sym same)
          ∙ ap (λ (l : List ℕ). l ++ drop 16 entry) (run_bytes_back entry (ltb-false (length entry) 16 e))
          ∙ take-append-drop 16 entry)

-- the ends of a call that reads limits: they are put into the lent record, which is left if it is too short, or they are refused
module _ (file entry : List ℕ) where
  abbrev asked : CellReading
  asked = read_limits file (cell_from entry)

  module _ (found : Cell) (same : reading_over (cell_from entry) (Ok found) ≡ asked) where
    pub limits_short : length entry < 327 → LimitsAnswered asked entry entry 0
    unfolding reading_over code_of
    limits_short short =
        record { answer_is = ap (λ (r : CellReading). code_of r.verdict) same; buffer_is = rw (lt-ltb (length entry) 327 short) }

    pub limits_put : (exit : List ℕ) → 327 ≤ length entry → length found.limits ≡ 6
        → exit ≡ sets entry 321 found.limits
        → LimitsAnswered asked entry exit 0
    unfolding reading_over code_of
    limits_put exit room six put =
        let l = found.limits in
        let end : 321 + length l ≡ 327 = omega (arith, six) in
        let whole : limited_to (cell_from entry) l ≡ asked.cell =
        ap (λ (r : CellReading). limited_to (cell_from entry) r.cell.limits) same ∙ sym (only_limits file (cell_from entry)) in
        record {
          answer_is = ap (λ (r : CellReading). code_of r.verdict) same;
          buffer_is =
              rw (le-ltb (length entry) 327 room)
              (put ∙ sets-eq l entry 321 (omega (arith, six))
              ∙ ap (λ (n : ℕ). (take 321 entry ++ l) ++ drop n entry) end
              ∙ ap (λ (m : List ℕ). (take 321 entry ++ m) ++ drop 327 entry) (sym (tabulate_is (λ k. get_or l k 0) l 6 six (λ k low. refl)))
              ∙ ap (λ (m : List ℕ). m ++ drop 327 entry) (sym (cell_lines_back entry room l))
              ∙ ap (λ (c : Cell). cell_bytes c ++ drop 327 entry) whole);
        }

  pub limits_refused : (broken : Broken) (answer : ℕ) → reading_over (cell_from entry) (Err broken) ≡ asked → answer ≡ code_of (Err broken)
      → LimitsAnswered asked entry entry answer
  unfolding reading_over
  limits_refused broken answer same number =
      record {
        answer_is = number ∙ ap (λ (r : CellReading). code_of r.verdict) same;
        buffer_is = decide (ltb (length entry) 327) refl;
      }
    where
      decide : (short : Bool) → ltb (length entry) 327 ≡ short → entry ≡ cond short entry (cell_bytes asked.cell ++ drop 327 entry)
      decide true e = refl
      decide false e =
          sym
          (ap (λ (r : CellReading). cell_bytes r.cell ++ drop 327 entry) (sym same)
          ∙ ap (λ (l : List ℕ). l ++ drop 327 entry) (cell_bytes_back entry (ltb-false (length entry) 327 e))
          ∙ take-append-drop 327 entry)

-- the plan call on the cell that the bytes hold
pub plan_answered :
    {c c' : Cell} {rs : Chapters} {table scratch table' scratch' : List ℕ} {verdict : Verdict} {answer : ℕ}
    → c ≡ c'
    → answer ≡ refusal_in verdict
    → PlanCall c rs table scratch table' scratch' verdict
    → PlanAnswered c' rs table scratch table' scratch' answer
plan_answered {rs = rs} {table} {scratch} {table'} {scratch'} {verdict} cell_is number call =
    record {
      verdict = verdict;
      answer_is = number;
      call = subst (λ (x : Cell). PlanCall x rs table scratch table' scratch' verdict) cell_is call;
    }

-- the install call on the records that the bytes hold
pub install_answered :
    {c c' : Cell} {r r' : Recipe} {table scratch list table' scratch' list' : List ℕ} {listing : Listing} {answer : ℕ}
    → c ≡ c'
    → r ≡ r'
    → answer ≡ refusal_in listing.verdict * 4294967296 + listing.count
    → InstallCall c r table scratch list table' scratch' list' listing
    → InstallAnswered c' r' table scratch list table' scratch' list' answer
install_answered {c' = c'} {r = r} {table} {scratch} {list} {table'} {scratch'} {list'} {listing} cell_is recipe_is number call =
    record {
      listing = listing;
      answer_is = number;
      call =
          subst (λ (y : Recipe). InstallCall c' y table scratch list table' scratch' list' listing) recipe_is
          (subst (λ (x : Cell). InstallCall x r table scratch list table' scratch' list' listing) cell_is call);
    }
