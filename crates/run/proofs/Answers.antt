-- The answers of the run's calls, by the rule at which each stops. Assumes nothing.
use mathlib.Core.Path.{◌≡◌, refl, sym, ap, ap₂, subst, ◌∙◌}
use mathlib.Core.Bool.{Bool, true, false, not}
use mathlib.Core.List.{List, [], ◌∷◌}
use Prim.Native.Nat.{ℕ, ◌<◌, ◌≤◌}
use native.Mathlib.Omega.{arith}
use lib.ListN.{length, get_or}
use lib.Dec.{eqb, ltb}
use borrow.Author.Tests.{eqb-false, lt-ltb, le-ltb, not-false}
use Rattle.std.specs.Prelude.{Result, Ok, Err}
use Rattle.refusals.specs.declared.Broken.{Broken}
use Rattle.refusals.specs.declared.Refusal.TheVariants.{OutcomeRange, NotOpen, AtEnd}
use Rattle.refusals.specs.Verdict.{Verdict, Accepted, first_refusal, no_line, if_accepted, found_if}
use Rattle.refusals.proofs.Verdicts.{no_line_accepts}
use Rattle.refusals.proofs.Rules.{tried_err, tried_ok, tried_last, part_err, part_ok, found_err, found_ok, refused_of, accepted_of, found_of}
use Rattle.cell.specs.declared.Cell.{Cell}
use Rattle.cell.specs.Rules.{check_cell}
use Rattle.recipe.specs.declared.Recipe.{Recipe}
use Rattle.recipe.specs.Rules.{check_recipe}
use Rattle.positions.specs.declared.Configuration.{Configuration}
use Rattle.positions.specs.declared.Sizes.{Sizes}
use Rattle.positions.specs.Sizes.{points_of, sizes_for, with_points, Fitting}
use Rattle.steps.specs.Lines.{kind_of}
use Rattle.steps.specs.Effect.{opens, makes, leads_to}
use Rattle.chapters.specs.Joined.{Chapters, Point, point_in, chapter_at, is_earlier, landing}
use Rattle.chapters.specs.Sizes.{sizes_in}
use Rattle.chapters.specs.declared.Survey.{Survey}
use Rattle.chapters.specs.Survey.{Tried}
use Rattle.chapters.specs.Rules.{record_rules}
use Rattle.chapters.proofs.Landing.{landing_last}
use Rattle.run.specs.declared.Run.{Run}
use Rattle.run.specs.Calls.{point_of, run_at, entry_at, entry_rules, move_rules, report_rules, rule17, rule18, rule19, next_move, next_point}
use Rattle.run.specs.Calls.{next_run, report_of, move_of, answered, place_of, part_place, place_rules, run_rules}
use Rattle.run.specs.Inner.{run_rules_by, find_entry, Landed}
use Rattle.run.proofs.CountedRules.{Measured, measured, run_rules_lem}
use Rattle.run.proofs.AcceptedRun.{table_judged, lead_below}

-- a result that is what is found where a verdict accepts, as the record of the call
pub move_told : {r : Result ℕ Broken} (v : Verdict) (entry : ℕ) → r ≡ found_if v entry
    → move_of r ≡ record { verdict = v; entry = if_accepted v entry 0 }
unfolding move_of found_if if_accepted
move_told v entry is = ap move_of is ∙ decide v
  where
    decide : (v : Verdict) → move_of (found_if v entry) ≡ record { verdict = v; entry = if_accepted v entry 0 }
    decide Accepted = refl
    decide (Err broken) = refl

pub report_told : {r : Result Run Broken} (v : Verdict) (run next : Run) → r ≡ found_if v next
    → answered run r ≡ record { verdict = v; run = if_accepted v next run }
unfolding answered found_if if_accepted
report_told v run next is = ap (answered run) is ∙ decide v
  where
    decide : (v : Verdict) → answered run (found_if v next) ≡ record { verdict = v; run = if_accepted v next run }
    decide Accepted = refl
    decide (Err broken) = refl

place_told : {r : Result ℕ Broken} (v : Verdict) (place : ℕ) → r ≡ found_if v place
    → place_of r ≡ record { verdict = v; place = if_accepted v place 255 }
unfolding place_of found_if if_accepted
place_told v place is = ap place_of is ∙ decide v
  where
    decide : (v : Verdict) → place_of (found_if v place) ≡ record { verdict = v; place = if_accepted v place 255 }
    decide Accepted = refl
    decide (Err broken) = refl

-- what the callees of a call on a run ask of the recipe, and of its chapter
pub record Kept (c : Cell) (kept : Recipe) (run : Run) : Type 0 where
  pub cell_passes : check_cell c ≡ Accepted
  pub recipe_passes : check_recipe kept ≡ Accepted
  pub point_below : run.point < points_of kept
  pub chapter_below : run.chapter < 8

-- the calls that start from the entry at the run's position, and from the recipe of its chapter
module _ (c : Cell) (rs : Chapters) (table : List ℕ) (run : Run) (recipe : Recipe) (recipe_is : recipe ≡ chapter_at rs run.chapter) where
  abbrev earlier : List Verdict
  earlier = entry_rules c rs table run

  abbrev own : Recipe
  own = chapter_at rs run.chapter

  module _ {e : Broken} (is : find_entry c rs table run ≡ Err e) where
    refused : first_refusal earlier ≡ Err e
    unfolding find_entry
    refused = refused_of _ _ is

    pub next_refused : move_of (Err e) ≡ next_move c rs table run
    unfolding next_move move_rules
    next_refused = move_told _ _ (sym (found_err _ _ (part_err earlier _ refused)))

    pub report_refused : (outcome : ℕ) → answered run (Err e) ≡ report_of c rs table run outcome
    unfolding report_of report_rules
    report_refused outcome = report_told _ run _ (sym (found_err _ _ (part_err earlier _ refused)))

  module _ {entry : ℕ} (is : find_entry c rs table run ≡ Ok entry) where
    passed : first_refusal earlier ≡ Accepted
    unfolding find_entry
    passed = accepted_of _ _ is

    entry_is : entry ≡ entry_at c rs table run
    unfolding find_entry
    entry_is = found_of _ _ is

    pub kept : Kept c recipe run
    kept =
        let j = table_judged c rs run table passed in
        record {
          cell_passes = j.own.cell_passes;
          recipe_passes = subst (λ (r : Recipe). check_recipe r ≡ Accepted) (sym recipe_is) j.own.recipe_passes;
          point_below = subst (λ (r : Recipe). run.point < points_of r) (sym recipe_is) j.point_below;
          chapter_below = omega (arith, j.there, j.checked.most);
        }

    pub kept_cell : check_cell c ≡ Accepted
    kept_cell = kept.cell_passes

    pub kept_recipe : check_recipe recipe ≡ Accepted
    kept_recipe = kept.recipe_passes

    pub kept_point : run.point < points_of recipe
    kept_point = kept.point_below

    pub kept_chapter : run.chapter < 8
    kept_chapter = kept.chapter_below

    -- rule 18, by whether the entry found is open
    rule18_is : {way : Bool} → way ≡ opens c recipe run.point run.configuration entry → rule18 c rs table run ≡ no_line NotOpen (not way)
    unfolding rule18
    rule18_is judged =
        ap (λ (b : Bool). no_line NotOpen (not b))
        (sym (judged ∙ ap₂ (λ (r : Recipe) (n : ℕ). opens c r run.point run.configuration n) recipe_is entry_is))

    module _ {way : Bool} (judged : way ≡ opens c recipe run.point run.configuration entry) where
      pub stands_open : no_line NotOpen (not way) ≡ Accepted → opens c recipe run.point run.configuration entry ≡ true
      stands_open told = sym judged ∙ not-false _ (no_line_accepts _ _ told)

      -- a next-move call, by what rule 18 says
      next_judged : first_refusal (move_rules c rs table run) ≡ no_line NotOpen (not way)
      unfolding move_rules
      next_judged = part_ok earlier _ passed ∙ tried_last _ ∙ rule18_is judged

      pub next_shut : {e : Broken} → no_line NotOpen (not way) ≡ Err e → move_of (Err e) ≡ next_move c rs table run
      unfolding next_move
      next_shut told = move_told _ _ (sym (found_err _ _ (next_judged ∙ told)))

      pub next_open : no_line NotOpen (not way) ≡ Accepted → move_of (Ok entry) ≡ next_move c rs table run
      unfolding next_move
      next_open told = move_told _ _ (ap Ok entry_is ∙ sym (found_ok _ _ (next_judged ∙ told)))

    -- a report, by the rule at which it stops
    module _ (outcome : ℕ) where
      abbrev later : List Verdict
      later = rule17 outcome ∷ rule18 c rs table run ∷ rule19 rs run ∷ []

      stops : {e : Broken} → first_refusal later ≡ Err e → answered run (Err e) ≡ report_of c rs table run outcome
      unfolding report_of report_rules
      stops told = report_told _ run _ (sym (found_err _ _ (part_ok earlier later passed ∙ told)))

      pub report_17 : {e : Broken} → no_line OutcomeRange (ltb 1 outcome) ≡ Err e → answered run (Err e) ≡ report_of c rs table run outcome
      unfolding rule17
      report_17 told = stops (tried_err _ _ told)

      module _ (low : no_line OutcomeRange (ltb 1 outcome) ≡ Accepted)
          {way : Bool} (judged : way ≡ opens c recipe run.point run.configuration entry) where
        pub report_18 : {e : Broken} → no_line NotOpen (not way) ≡ Err e → answered run (Err e) ≡ report_of c rs table run outcome
        unfolding rule17
        report_18 told = stops (tried_ok _ _ low ∙ tried_err _ _ (rule18_is judged ∙ told))

        module _ (opened : no_line NotOpen (not way) ≡ Accepted) {kind : ℕ} (kind_is : kind ≡ kind_of recipe run.point) where
          rule19_is : rule19 rs run ≡ no_line AtEnd (eqb kind 0)
          unfolding rule19
          rule19_is = ap (λ (n : ℕ). no_line AtEnd (eqb n 0)) (sym (kind_is ∙ ap (λ (r : Recipe). kind_of r run.point) recipe_is))

          told_19 : first_refusal later ≡ no_line AtEnd (eqb kind 0)
          unfolding rule17
          told_19 = tried_ok _ _ low ∙ tried_ok _ _ (rule18_is judged ∙ opened) ∙ tried_last _ ∙ rule19_is

          pub report_19 : {e : Broken} → no_line AtEnd (eqb kind 0) ≡ Err e → answered run (Err e) ≡ report_of c rs table run outcome
          report_19 told = stops (told_19 ∙ told)

          -- the move is made
          module _ (going : no_line AtEnd (eqb kind 0) ≡ Accepted) {point : ℕ} (point_is : point ≡ leads_to recipe run.point entry outcome) where
            pub lead_inside : point < points_of recipe
            lead_inside =
                rw point_is
                (lead_below recipe run.point entry outcome kept_recipe kept_point
                (λ z. eqb-false kind 0 (no_line_accepts _ _ going) (kind_is ∙ z)))

          module _ (going : no_line AtEnd (eqb kind 0) ≡ Accepted) {point : ℕ} (point_is : point ≡ leads_to recipe run.point entry outcome)
              {configuration : Configuration} (configuration_is : configuration ≡ makes c recipe run.point run.configuration entry outcome) where
            abbrev moved : Run
            moved = record { point = point; configuration = configuration; chapter = run.chapter }

            report_made : {next : Run} → next ≡ next_run c rs table run outcome → answered run (Ok next) ≡ report_of c rs table run outcome
            unfolding report_of report_rules
            report_made e =
                report_told _ run _ (ap Ok e ∙ sym (found_ok _ _ (part_ok earlier later passed ∙ told_19 ∙ going)))

            abbrev lead : Point
            lead = point_in run.chapter (leads_to own run.point (entry_at c rs table run) outcome)

            abbrev made : Configuration
            made = makes c own run.point run.configuration (entry_at c rs table run) outcome

            moved_is : moved ≡ run_at lead made
            moved_is =
                λ i. record {
                  point =
                      (point_is
                      ∙ ap₂ (λ (r : Recipe) (n : ℕ). leads_to r run.point n outcome) recipe_is entry_is)
                      i;
                  configuration =
                      (configuration_is
                      ∙ ap₂ (λ (r : Recipe) (n : ℕ). makes c r run.point run.configuration n outcome) recipe_is entry_is)
                      i;
                  chapter = run.chapter;
                }

            -- in the last chapter the run stays where the move leads
            pub report_stays : is_earlier rs run.chapter ≡ false → answered run (Ok moved) ≡ report_of c rs table run outcome
            unfolding next_run next_point
            report_stays last = report_made (moved_is ∙ ap (λ (p : Point). run_at p made) (sym (landing_last rs lead last)))

            -- in an earlier one it lands
            pub report_lands : {after : Run} → is_earlier rs run.chapter ≡ true → Landed recipe moved after
                → answered run (Ok after) ≡ report_of c rs table run outcome
            unfolding next_run next_point
            report_lands next landed =
                report_made (landed.lands rs recipe_is next ∙ ap (λ (m : Run). run_at (landing rs (point_of m)) m.configuration) moved_is)

-- a place call, by the rule at which it stops, and by whether the part is there
module _ (c : Cell) (rs : Chapters) (run : Run) (part : ℕ) where
  module _ {e : Broken} (tried : Tried false c rs run.chapter (Err e)) where
    refused_place : place_of (Err e) ≡ part_place c rs run part
    unfolding part_place place_rules
    refused_place = place_told _ _ (sym (found_err _ _ (part_err (record_rules false c rs) _ tried)))

  pub place_early : {e : Broken} {r : Result Survey Broken} → r ≡ Err e → Tried false c rs run.chapter r → place_of (Err e) ≡ part_place c rs run part
  place_early was tried = refused_place (rw was at tried)

  module _ {r : Result Survey Broken} {s : Survey} (was : r ≡ Ok s) (tried : Tried false c rs run.chapter r)
      {most own : Sizes} (most_is : (most ≡ sizes_for c s.most s.parts) × Fitting most) (own_is : own ≡ with_points most s.own)
      {v : Verdict} (judged : v ≡ first_refusal (run_rules_by most own run)) where
    M : Measured c rs run s most own
    M = measured c rs run was tried most_is own_is

    verdict : first_refusal (place_rules c rs run) ≡ v
    unfolding place_rules
    verdict =
        part_ok (record_rules false c rs) (run_rules (sizes_in c rs) (length rs) run) M.tried.0
        ∙ sym (judged ∙ run_rules_lem c rs run s most own M)

    pub place_refused : {e : Broken} → v ≡ Err e → place_of (Err e) ≡ part_place c rs run part
    unfolding part_place
    place_refused told = place_told _ _ (sym (found_err _ _ (verdict ∙ told)))

    pub place_past : v ≡ Accepted → s.parts ≤ part → place_of (Ok 255) ≡ part_place c rs run part
    unfolding part_place
    place_past told high = place_told _ _ (rw (← M.tried.1.parts_is, le-ltb part s.parts high) (sym (found_ok _ _ (verdict ∙ told))))

    pub place_there : v ≡ Accepted → part < s.parts → place_of (Ok (get_or run.configuration.place part 0)) ≡ part_place c rs run part
    unfolding part_place
    place_there told low = place_told _ _ (rw (← M.tried.1.parts_is, lt-ltb part s.parts low) (sym (found_ok _ _ (verdict ∙ told))))
