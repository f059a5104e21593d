-- "A single recipe is one chapter": the calls try the rules that they tried of a recipe by itself, and answer what they answered.
-- Assumes nothing.
use mathlib.Core.Path.{◌≡◌, refl, sym, ap, ap₂, ◌∙◌}
use mathlib.Core.Bool.{false, cond}
use mathlib.Core.List.{List, [], ◌∷◌, ◌++◌, append_assoc}
use Prim.Native.Nat.{ℕ, ◌+◌, ◌≤◌}
use native.Mathlib.Omega.{arith}
use lib.ListN.{length, get_or}
use lib.Dec.{ltb}
use borrow.Author.Tests.{le-ltb}
use Rattle.refusals.specs.declared.Refusal.{Refusal}
use Rattle.refusals.specs.declared.Refusal.TheVariants.{RunRange}
use Rattle.std.specs.Prelude.{Err}
use Rattle.refusals.specs.Verdict.{Verdict, Accepted, Refused, first_refusal, no_line, if_accepted}
use Rattle.cell.specs.declared.Cell.{Cell}
use Rattle.recipe.specs.declared.Recipe.{Recipe}
use Rattle.positions.specs.declared.Configuration.{Configuration}
use Rattle.positions.specs.declared.Sizes.{Sizes}
use Rattle.positions.specs.Radix.{sum_below}
use Rattle.positions.specs.Sizes.{sizes_for, sizes_of}
use Rattle.positions.specs.Position.{position_of, entry_of}
use Rattle.positions.specs.Rules as alone
use Rattle.steps.specs.Effect.{makes, leads_to}
use Rattle.chapters.specs.Joined.{Point, point_in, chapter_at}
use Rattle.chapters.specs.Sizes.{sizes_in, begins, position_in, entry_in}
use Rattle.chapters.specs.Rules.{record_rules, rule13, is_position_in, rule16, check_sizes}
use Rattle.chapters.proofs.OneChapter.{one_parts, one_sizes, one_tried, one_rule13, one_rule14, one_lands}
use Rattle.run.specs.declared.Run.{Run}
use Rattle.run.specs.Calls.{point_of, run_at, run_rules, table_rules, place_rules, entry_rules, rule17, rule18, rule19, move_rules, report_rules}
use Rattle.run.specs.Calls.{next_move, next_point, next_run, report_of, part_place}
use Rattle.planner.specs.Call.{check_plan}
use Rattle.planner.specs.Inner.{length_rules, one_rules}
use Rattle.planner.proofs.OnePlan.{one_plan}
use Rattle.worked.specs.OneRecipe as single

-- behind a rule that refuses nothing is tried
stops : (rules rest : List Verdict) (refusal : Refusal) (line : ℕ)
    → first_refusal (rules ++ (Refused refusal line ∷ rest)) ≡ first_refusal (rules ++ (Refused refusal line ∷ []))
unfolding first_refusal
stops [] rest refusal line = refl
stops (Accepted ∷ rules) rest refusal line = stops rules rest refusal line
stops (Err broken ∷ rules) rest refusal line = refl

module _ (c : Cell) (r : Recipe) where
  -- "same refusals": the rules before 15, and the check of sizes
  pub same_plan : (table scratch : ℕ) → check_plan c (r ∷ []) table scratch ≡ single.check_plan c r table scratch
  unfolding single.check_plan single.rule14_scratch one_rules length_rules alone.rule14
  same_plan table scratch = one_plan c r table scratch

  pub same_sizes : check_sizes c (r ∷ []) ≡ alone.check_sizes c r
  unfolding check_sizes alone.check_sizes
  same_sizes =
      one_tried r c (rule13 (sizes_in c (r ∷ [])) 1 ∷ [])
      ∙ ap (λ (v : Verdict). first_refusal (alone.record_rules c r ++ (v ∷ []))) (one_rule13 r c)

  -- the rules on a record, then others, then others
  in_three : (middle last : List Verdict)
      → first_refusal ((record_rules false c (r ∷ []) ++ middle) ++ last) ≡ first_refusal ((alone.record_rules c r ++ middle) ++ last)
  in_three middle last =
      ap first_refusal (append_assoc (record_rules false c (r ∷ [])) middle last)
      ∙ one_tried r c (middle ++ last)
      ∙ ap first_refusal (sym (append_assoc (alone.record_rules c r) middle last))

  -- a run of chapter 0
  module _ (p : ℕ) (a : Configuration) where
    abbrev pub run : Run
    run = run_at (point_in 0 p) a

    pub same_entry : (table : List ℕ) → entry_in (sizes_in c (r ∷ [])) table (point_in 0 p) a ≡ entry_of (sizes_of c r) table p a
    unfolding entry_in position_in begins sum_below entry_of
    same_entry table =
        let first : (z : Sizes) → 0 + position_of z p a ≡ position_of z p a = λ z. omega arith in
        ap (λ (m : ℕ). get_or table m 0) (first (sizes_in c (r ∷ []) 0)) ∙ ap (λ (z : Sizes). get_or table (position_of z p a) 0) (one_sizes r c)

    same_rule16 : rule16 (sizes_in c (r ∷ [])) 1 (point_in 0 p) a ≡ alone.rule16 (sizes_of c r) p a
    unfolding rule16 is_position_in alone.rule16
    same_rule16 = ap (λ (z : Sizes). alone.rule16 z p a) (one_sizes r c)

    same_run_rules : run_rules (sizes_in c (r ∷ [])) 1 run ≡ single.run_rules (sizes_of c r) run
    unfolding run_rules single.run_rules
    same_run_rules = rw (one_rule13 r c, same_rule16)

    same_table_rules : (entries : ℕ) → table_rules (sizes_in c (r ∷ [])) 1 entries run ≡ single.table_rules (sizes_of c r) entries run
    unfolding table_rules single.table_rules
    same_table_rules entries = rw (one_rule13 r c, one_rule14 r c entries, same_rule16)

    same_rule18 : (table : List ℕ) → rule18 c (r ∷ []) table run ≡ single.rule18 c r table run
    unfolding rule18 single.rule18 chapter_at
    same_rule18 table = rw (same_entry table)

    same_rule19 : rule19 (r ∷ []) run ≡ single.rule19 r run
    unfolding rule19 single.rule19 chapter_at
    same_rule19 = refl

    -- the rules before the entry is looked at, then others
    entry_then : (table : List ℕ) (rest : List Verdict)
        → first_refusal (entry_rules c (r ∷ []) table run ++ rest) ≡ first_refusal (single.entry_rules c r table run ++ rest)
    unfolding entry_rules single.entry_rules
    entry_then table rest =
        in_three (table_rules (sizes_in c (r ∷ [])) 1 (length table) run) rest
        ∙ ap (λ (middle : List Verdict). first_refusal ((alone.record_rules c r ++ middle) ++ rest)) (same_table_rules (length table))

    pub same_move_rules : (table : List ℕ) → first_refusal (move_rules c (r ∷ []) table run) ≡ first_refusal (single.move_rules c r table run)
    unfolding move_rules single.move_rules
    same_move_rules table =
        entry_then table (rule18 c (r ∷ []) table run ∷ [])
        ∙ ap (λ (v : Verdict). first_refusal (single.entry_rules c r table run ++ (v ∷ []))) (same_rule18 table)

    pub same_report_rules : (table : List ℕ) (outcome : ℕ)
        → first_refusal (report_rules c (r ∷ []) table run outcome) ≡ first_refusal (single.report_rules c r table run outcome)
    unfolding report_rules single.report_rules
    same_report_rules table outcome =
        entry_then table (rule17 outcome ∷ rule18 c (r ∷ []) table run ∷ rule19 (r ∷ []) run ∷ [])
        ∙ ap₂ (λ (v w : Verdict). first_refusal (single.entry_rules c r table run ++ (rule17 outcome ∷ v ∷ w ∷ []))) (same_rule18 table) same_rule19

    pub same_place_rules : first_refusal (place_rules c (r ∷ []) run) ≡ first_refusal (single.place_rules c r run)
    unfolding place_rules single.place_rules
    same_place_rules =
        one_tried r c (run_rules (sizes_in c (r ∷ [])) 1 run)
        ∙ ap (λ (rules : List Verdict). first_refusal (alone.record_rules c r ++ rules)) same_run_rules

    -- "same answers"
    pub same_move : (table : List ℕ) → next_move c (r ∷ []) table run ≡ single.next_move c r table run
    unfolding next_move single.next_move
    same_move table =
        λ i. record {
          verdict = same_move_rules table i;
          entry = if_accepted (same_move_rules table i) (same_entry table i) 0;
        }

    -- the next run is in chapter 0 too
    same_next : (table : List ℕ) (outcome : ℕ) → next_run c (r ∷ []) table run outcome ≡ single.next_run c r table run outcome
    unfolding next_run single.next_run next_point chapter_at
    same_next table outcome =
        let e = entry_in (sizes_in c (r ∷ [])) table (point_in 0 p) a in
        ap (λ (q : Point). run_at q (makes c r p a e outcome)) (one_lands r (point_in 0 (leads_to r p e outcome)))
        ∙ ap (λ (x : ℕ). run_at (point_in 0 (leads_to r p x outcome)) (makes c r p a x outcome)) (same_entry table)

    pub same_report : (table : List ℕ) (outcome : ℕ) → report_of c (r ∷ []) table run outcome ≡ single.report_of c r table run outcome
    unfolding report_of single.report_of
    same_report table outcome =
        λ i. record {
          verdict = same_report_rules table outcome i;
          run = if_accepted (same_report_rules table outcome i) (same_next table outcome i) run;
        }

    pub same_place : (part : ℕ) → part_place c (r ∷ []) run part ≡ single.part_place c r run part
    unfolding part_place single.part_place sizes_for
    same_place part =
        λ i. record {
          verdict = same_place_rules i;
          place = if_accepted (same_place_rules i) (cond (ltb part (one_parts r i)) (get_or a.place part 0) 255) 255;
        }

  -- "16 if a run's isn't there": a run of another chapter gets 16 where rule 16 is tried of the recipe by itself
  module _ (run : Run) (other : 1 ≤ run.chapter) where
    gets_16 : rule16 (sizes_in c (r ∷ [])) 1 (point_of run) run.configuration ≡ Refused RunRange 0
    unfolding rule16 is_position_in no_line
    gets_16 = rw (le-ltb run.chapter 1 other)

    other_entry : (table : List ℕ) (rest : List Verdict)
        → first_refusal (entry_rules c (r ∷ []) table run ++ rest)
        ≡ first_refusal (alone.record_rules c r ++ (alone.rule13 (sizes_of c r) ∷ alone.rule14 (sizes_of c r) (length table) ∷ Refused RunRange 0 ∷ []))
    unfolding entry_rules table_rules
    other_entry table rest =
        let z = sizes_of c r in
        let zs = sizes_in c (r ∷ []) in
        let first : List Verdict = alone.record_rules c r ++ (alone.rule13 z ∷ alone.rule14 z (length table) ∷ []) in
        let tried :
        table_rules zs 1 (length table) run ≡ alone.rule13 z ∷ alone.rule14 z (length table) ∷ Refused RunRange 0 ∷ [] =
        rw (one_rule13 r c, one_rule14 r c (length table), gets_16) in
        in_three (table_rules zs 1 (length table) run) rest
        ∙ ap (λ (middle : List Verdict). first_refusal ((alone.record_rules c r ++ middle) ++ rest)) tried
        ∙ ap first_refusal (regrouped (alone.record_rules c r) _ _ (Refused RunRange 0) rest)
        ∙ stops first rest RunRange 0
        ∙ ap first_refusal (append_assoc (alone.record_rules c r) _ _)
      where
        regrouped : (rules : List Verdict) (u v w : Verdict) (rest : List Verdict)
            → (rules ++ (u ∷ v ∷ w ∷ [])) ++ rest ≡ (rules ++ (u ∷ v ∷ [])) ++ (w ∷ rest)
        regrouped rules u v w rest = simp append_assoc

    pub other_move : (table : List ℕ)
        → first_refusal (move_rules c (r ∷ []) table run)
        ≡ first_refusal (alone.record_rules c r ++ (alone.rule13 (sizes_of c r) ∷ alone.rule14 (sizes_of c r) (length table) ∷ Refused RunRange 0 ∷ []))
    unfolding move_rules
    other_move table = other_entry table (rule18 c (r ∷ []) table run ∷ [])

    pub other_report : (table : List ℕ) (outcome : ℕ)
        → first_refusal (report_rules c (r ∷ []) table run outcome)
        ≡ first_refusal (alone.record_rules c r ++ (alone.rule13 (sizes_of c r) ∷ alone.rule14 (sizes_of c r) (length table) ∷ Refused RunRange 0 ∷ []))
    unfolding report_rules
    other_report table outcome = other_entry table (rule17 outcome ∷ rule18 c (r ∷ []) table run ∷ rule19 (r ∷ []) run ∷ [])

    pub other_place :
        first_refusal (place_rules c (r ∷ []) run)
        ≡ first_refusal (alone.record_rules c r ++ (alone.rule13 (sizes_of c r) ∷ Refused RunRange 0 ∷ []))
    unfolding place_rules run_rules
    other_place =
        one_tried r c (rule13 (sizes_in c (r ∷ [])) 1 ∷ rule16 (sizes_in c (r ∷ [])) 1 (point_of run) run.configuration ∷ [])
        ∙ ap₂ (λ (v w : Verdict). first_refusal (alone.record_rules c r ++ (v ∷ w ∷ []))) (one_rule13 r c) gets_16
