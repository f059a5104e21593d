-- "Two planners on two sites": two plan calls through the C interface on the same records, whatever is lent to each. Assumes nothing.
use mathlib.Core.Path.{◌≡◌, sym, ap, ◌∙◌}
use mathlib.Core.List.{List}
use Prim.Native.Nat.{ℕ, ◌<◌}
use lib.ListN.{length, get_or}
use Rattle.refusals.specs.Verdict.{Accepted, refusal_in}
use Rattle.records.specs.Encoding.{cell_from}
use Rattle.chapters.specs.Records.{chapters_from}
use Rattle.chapters.specs.Sizes.{sizes_in, begins}
use Rattle.planner.specs.Call.{check_plan, FixedCall}
use Rattle.planner.proofs.Demands.{same_table, same_verdict}
use Rattle.capi.specs.Answer.{PlanAnswered}

module _
    (cell recipes : List ℕ)
    (table scratch table' scratch' : List ℕ) (answer : ℕ)
    (plan : PlanAnswered (cell_from cell) (chapters_from recipes) table scratch table' scratch' answer)
    (passes : check_plan (cell_from cell) (chapters_from recipes) (length table) (length scratch) ≡ Accepted)
    (lent marks lent' marks' : List ℕ) (answer' : ℕ)
    (other : PlanAnswered (cell_from cell) (chapters_from recipes) lent marks lent' marks' answer')
    (passes' : check_plan (cell_from cell) (chapters_from recipes) (length lent) (length marks) ≡ Accepted)
    (fixed : FixedCall (cell_from cell) (chapters_from recipes) table scratch table')
    (other_fixed : FixedCall (cell_from cell) (chapters_from recipes) lent marks lent')
  where
    -- they answer the same, 0 or 15
    pub same_answer : answer ≡ answer'
    same_answer =
        plan.answer_is
        ∙ ap refusal_in
        (same_verdict (cell_from cell) (chapters_from recipes) table scratch table' scratch' plan.verdict plan.call passes
        lent marks lent' marks' other.verdict other.call passes' fixed other_fixed)
        ∙ sym other.answer_is

    -- and leave the same first entries, as many as the chapters' M together
    pub same_entries : (n : ℕ) → n < begins (sizes_in (cell_from cell) (chapters_from recipes)) (length (chapters_from recipes)) → get_or table' n 0 ≡ get_or lent' n 0
    same_entries =
        same_table (cell_from cell) (chapters_from recipes) table scratch table' scratch' plan.verdict plan.call passes
        lent marks lent' marks' other.verdict other.call passes' fixed other_fixed
