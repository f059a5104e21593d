-- The number of a run's position, by the rule at which it stops, and where a report is accepted. Assumes nothing.
use mathlib.Core.Path.{◌≡◌, refl, sym, ap, ◌∙◌, subst}
use mathlib.Core.Bool.{Bool, true, false, not}
use mathlib.Core.List.{List, [], ◌∷◌, ◌++◌}
use Prim.Native.Nat.{ℕ}
use native.Mathlib.Omega.{arith}
use lib.ListN.{length}
use borrow.Author.Tests.{not-false}
use Rattle.refusals.specs.declared.Refusal.{Refusal}
use Rattle.refusals.specs.declared.Refusal.TheVariants.{RunRange}
use Rattle.refusals.specs.Verdict.{Verdict, Accepted, Refused, first_refusal, no_line, if_accepted}
use Rattle.refusals.proofs.Verdicts.{no_line_accepts}
use Rattle.refusals.proofs.Rules.{first_accepts, rest_accepts, left_accepts, right_accepts}
use Rattle.cell.specs.declared.Cell.{Cell}
use Rattle.recipe.specs.declared.Recipe.{Recipe}
use Rattle.positions.specs.Sizes.{sizes_of, parts_of}
use Rattle.positions.specs.Position.{position_of}
use Rattle.positions.specs.Rules.{record_rules, check_records, is_position, rule16}
use Rattle.positions.specs.declared.Sizes.{Sizes}
use Rattle.positions.proofs.AcceptedRecords.{both_ok}
use Rattle.steps.specs.Effect.{opens, makes, leads_to}
use Rattle.steps.proofs.MovesStayInRange.{stays}
use Rattle.chapters.specs.Joined.{Chapters, Point, chapter_at, point_in, recipe_at}
use Rattle.chapters.specs.Sizes.{sizes_in}
use Rattle.chapters.proofs.OneChapter.{one_is, one_lands, one_sizes, one_tried}
use Rattle.run.specs.declared.Run.{Run}
use Rattle.run.specs.Calls.{point_of, table_rules, entry_at, entry_rules, report_rules, rule17, rule18, rule19, next_point, next_run, report_of}
use Rattle.run.proofs.AcceptedRun.{Judged, table_judged}
use Rattle.printout.specs.Turn.{numbered, position_in}

module _ (c : Cell) (r : Recipe) (run : Run) (v : Verdict) (judged : v ≡ check_records c r) where
  -- the number, by the verdict on the records and by whether the run is a position
  by_rules : (w : Verdict) (b : Bool) → v ≡ w → is_position (sizes_of c r) run.point run.configuration ≡ b
      → numbered (first_refusal (w ∷ no_line RunRange (not b) ∷ [])) (position_of (sizes_of c r) run.point run.configuration) ≡ position_in c r run
  unfolding position_in rule16
  by_rules w b e f =
      (λ i. numbered (first_refusal ((sym e ∙ judged) i ∷ no_line RunRange (not (sym f i)) ∷ [])) (position_of (sizes_of c r) run.point run.configuration))

  pub no_records : {refusal : Refusal} {line : ℕ} → v ≡ Refused refusal line → 0 ≡ position_in c r run
  unfolding numbered first_refusal
  no_records e = by_rules _ _ e refl

  pub no_position : v ≡ Accepted → is_position (sizes_of c r) run.point run.configuration ≡ false → 0 ≡ position_in c r run
  unfolding numbered first_refusal no_line
  no_position e f = by_rules Accepted false e f

  pub at_position : v ≡ Accepted → is_position (sizes_of c r) run.point run.configuration ≡ true
      → position_of (sizes_of c r) run.point run.configuration ≡ position_in c r run
  unfolding numbered first_refusal no_line
  at_position e f = by_rules Accepted true e f

-- what a report that is accepted shows of both numbers: they are those of the run's position and of the next run's
module _ (c : Cell) (r : Recipe) (table : List ℕ) (run : Run) (outcome : ℕ)
    (six : length run.configuration.state ≡ 6) (eight : length run.configuration.place ≡ 8) where
  numbered_here : (at : Run) → check_records c r ≡ Accepted
      → is_position (sizes_of c r) at.point at.configuration ≡ true
      → position_in c r at ≡ position_of (sizes_of c r) at.point at.configuration
  numbered_here at passed good = sym (at_position c r at (check_records c r) refl passed good)

  -- the recipe is the one chapter
  abbrev rs : Chapters
  rs = r ∷ []

  module _ (accepted : (report_of c rs table run outcome).verdict ≡ Accepted) where
    abbrev last_rules : List Verdict
    last_rules = rule17 outcome ∷ rule18 c rs table run ∷ rule19 rs run ∷ []

    rules : first_refusal (entry_rules c rs table run ++ last_rules) ≡ Accepted
    unfolding report_of report_rules
    rules = accepted

    entry_rules_lem : first_refusal (entry_rules c rs table run) ≡ Accepted
    entry_rules_lem = left_accepts (entry_rules c rs table run) last_rules rules

    passed : check_records c r ≡ Accepted
    unfolding check_records entry_rules
    passed =
        let later = table_rules (sizes_in c rs) 1 (length table) run in
        left_accepts (record_rules c r) later (sym (one_tried r c later) ∙ entry_rules_lem)

    judged : Judged c rs run
    judged = table_judged c rs run table entry_rules_lem

    first : run.chapter ≡ 0
    first = omega (arith, judged.there)

    recipe_is : recipe_at rs (point_of run) ≡ r
    recipe_is = ap (chapter_at rs) first ∙ one_is r

    placed : is_position (sizes_of c r) run.point run.configuration ≡ true
    placed =
        ap (λ (z : Sizes). is_position z run.point run.configuration) (sym (ap (sizes_in c rs) first ∙ one_sizes r c))
        ∙ judged.position

    opened : opens c r run.point run.configuration (entry_at c rs table run) ≡ true
    unfolding rule18
    opened =
        ap (λ (x : Recipe). opens c x run.point run.configuration (entry_at c rs table run)) (sym recipe_is)
        ∙ not-false _ (no_line_accepts _ _ (first_accepts _ _ (rest_accepts _ _ (right_accepts (entry_rules c rs table run) last_rules rules))))

    next_is : next_run c rs table run outcome ≡ (report_of c rs table run outcome).run
    unfolding report_of report_rules if_accepted
    next_is = ap (λ (w : Verdict). if_accepted w (next_run c rs table run outcome) run) (sym rules)

    pub position_is : position_in c r run ≡ position_of (sizes_of c r) run.point run.configuration
    position_is = numbered_here run passed placed

    -- the next run is a position too
    next_placed : is_position (sizes_of c r) (next_run c rs table run outcome).point (next_run c rs table run outcome).configuration ≡ true
    unfolding next_run next_point
    next_placed =
        let e = entry_at c rs table run in
        let there =
        stays c r (both_ok c r passed).0 (both_ok c r passed).1 (parts_of r) (omega arith)
        run.point run.configuration e placed six eight opened outcome in
        (λ i. is_position (sizes_of c r)
        ((ap (λ (q : Point). q.point) (one_lands r (point_in run.chapter (leads_to (recipe_at rs (point_of run)) run.point e outcome)))
        ∙ ap (λ (x : Recipe). leads_to x run.point e outcome) recipe_is) i)
        (makes c (recipe_is i) run.point run.configuration e outcome))
        ∙ there.position

    pub next_position_is : (next : Run) → next ≡ (report_of c rs table run outcome).run
        → position_in c r next ≡ position_of (sizes_of c r) next.point next.configuration
    next_position_is next is =
        subst (λ (at : Run). position_in c r at ≡ position_of (sizes_of c r) at.point at.configuration)
        (next_is ∙ sym is) (numbered_here (next_run c rs table run outcome) passed next_placed)
