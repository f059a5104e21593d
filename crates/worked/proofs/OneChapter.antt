-- "A single recipe is one chapter", and nothing changed for it: the same refusals, the same answers and the same tables as document 01
-- has for a recipe by itself, whatever the cell and the recipe. Assumes nothing.
use mathlib.Core.Path.{◌≡◌}
use mathlib.Core.List.{List, [], ◌∷◌, ◌++◌}
use Prim.Native.Nat.{ℕ, ◌≤◌}
use lib.ListN.{length, get_or}
use Rattle.refusals.specs.declared.Refusal.{Refusal}
use Rattle.refusals.specs.declared.Refusal.TheVariants.{NotRealisable, RunRange}
use Rattle.refusals.specs.Verdict.{Verdict, Accepted, Refused, first_refusal}
use Rattle.cell.specs.declared.Cell.{Cell}
use Rattle.recipe.specs.declared.Recipe.{Recipe}
use Rattle.positions.specs.declared.Configuration.{Configuration}
use Rattle.positions.specs.Sizes.{sizes_of}
use Rattle.positions.specs.Position.{entry_of}
use Rattle.positions.specs.Rules as alone
use Rattle.steps.specs.Lines.{kind_of}
use Rattle.chapters.specs.Joined.{point_in}
use Rattle.chapters.specs.Sizes.{sizes_in}
use Rattle.chapters.specs.Rules.{check_sizes}
use Rattle.run.specs.declared.Run.{Run}
use Rattle.run.specs.Calls.{run_at, place_rules, move_rules, report_rules, next_move, report_of, part_place}
use Rattle.simulation.specs.Simulation.{Position, Greatest}
use Rattle.planner.specs.Call.{check_plan, PlanCall, FixedCall}
use Rattle.worked.specs.OneRecipe as single
use Rattle.worked.proofs.OneChapterCalls as calls
use Rattle.worked.proofs.OneChapterPlans as plans
use Rattle.worked.proofs.OneChapterWays.{single_shortest}

-- a run of the recipe: chapter 0
abbrev pub run_of : ℕ → Configuration → Run
run_of p a = run_at (point_in 0 p) a

-- the greatest simulation over the one chapter holds exactly the positions that the recipe's holds
pub record SameSimulations (c : Cell) (r : Recipe) : Type 0 where
  pub to_single : (p : ℕ) (a : Configuration) → Greatest c (r ∷ []) (sizes_in c (r ∷ [])) (point_in 0 p) a → single.Greatest c r (sizes_of c r) p a
  pub to_chapter : (p : ℕ) (a : Configuration) → single.Greatest c r (sizes_of c r) p a → Greatest c (r ∷ []) (sizes_in c (r ∷ [])) (point_in 0 p) a

-- the first refusal of each call is the recipe's
pub record SameRefusals (c : Cell) (r : Recipe) : Type 0 where
  pub plan : (table scratch : ℕ) → check_plan c (r ∷ []) table scratch ≡ single.check_plan c r table scratch
  pub sizes : check_sizes c (r ∷ []) ≡ alone.check_sizes c r
  pub move : (p : ℕ) (a : Configuration) (table : List ℕ)
      → first_refusal (move_rules c (r ∷ []) table (run_of p a)) ≡ first_refusal (single.move_rules c r table (run_of p a))
  pub report : (p : ℕ) (a : Configuration) (table : List ℕ) (outcome : ℕ)
      → first_refusal (report_rules c (r ∷ []) table (run_of p a) outcome) ≡ first_refusal (single.report_rules c r table (run_of p a) outcome)
  pub place : (p : ℕ) (a : Configuration) → first_refusal (place_rules c (r ∷ []) (run_of p a)) ≡ first_refusal (single.place_rules c r (run_of p a))

-- "16 if a run's isn't there": a run of another chapter gets 16 where rule 16 would be tried
pub record OtherChapter (c : Cell) (r : Recipe) (run : Run) : Type 0 where
  pub move : (table : List ℕ)
      → first_refusal (move_rules c (r ∷ []) table run)
      ≡ first_refusal (alone.record_rules c r ++ (alone.rule13 (sizes_of c r) ∷ alone.rule14 (sizes_of c r) (length table) ∷ Refused RunRange 0 ∷ []))
  pub report : (table : List ℕ) (outcome : ℕ)
      → first_refusal (report_rules c (r ∷ []) table run outcome)
      ≡ first_refusal (alone.record_rules c r ++ (alone.rule13 (sizes_of c r) ∷ alone.rule14 (sizes_of c r) (length table) ∷ Refused RunRange 0 ∷ []))
  pub place :
      first_refusal (place_rules c (r ∷ []) run) ≡ first_refusal (alone.record_rules c r ++ (alone.rule13 (sizes_of c r) ∷ Refused RunRange 0 ∷ []))

-- the calls on a run answer what they answer for the recipe, and the run stays in chapter 0
pub record SameAnswers (c : Cell) (r : Recipe) : Type 0 where
  pub move : (p : ℕ) (a : Configuration) (table : List ℕ) → next_move c (r ∷ []) table (run_of p a) ≡ single.next_move c r table (run_of p a)
  pub report : (p : ℕ) (a : Configuration) (table : List ℕ) (outcome : ℕ)
      → report_of c (r ∷ []) table (run_of p a) outcome ≡ single.report_of c r table (run_of p a) outcome
  pub place : (p : ℕ) (a : Configuration) (part : ℕ) → part_place c (r ∷ []) (run_of p a) part ≡ single.part_place c r (run_of p a) part

-- what a plan call leaves that passes the rules before 15
pub record SameTable (c : Cell) (r : Recipe) (table table' : List ℕ) (verdict : Verdict) : Type 0 where
  -- "a table entry is other than 0 exactly at the positions which that simulation holds"
  pub entry_holds : (p : ℕ) (a : Configuration) → Position (sizes_of c r) p a → (entry_of (sizes_of c r) table' p a ≡ 0 → ⊥) → single.Greatest c r (sizes_of c r) p a
  pub zero_lacks : (p : ℕ) (a : Configuration) → Position (sizes_of c r) p a → entry_of (sizes_of c r) table' p a ≡ 0 → single.Greatest c r (sizes_of c r) p a → ⊥
  -- "Entries past M keep their content."
  pub past_stay : (n : ℕ) → (sizes_of c r).positions ≤ n → get_or table' n 0 ≡ get_or table n 0
  -- "accepted exactly when the greatest simulation .. holds the start", and 15 exactly if it does not
  pub accepted_holds : verdict ≡ Accepted → single.Realisable c r
  pub holds_accepted : single.Realisable c r → verdict ≡ Accepted
  pub refused_lacks : verdict ≡ Refused NotRealisable 0 → single.Realisable c r → ⊥
  pub lacks_refused : (single.Realisable c r → ⊥) → verdict ≡ Refused NotRealisable 0

pub record OneChapter (c : Cell) (r : Recipe) : Type 0 where
  pub simulations : SameSimulations c r
  pub refusals : SameRefusals c r
  pub other_chapter : (run : Run) → 1 ≤ run.chapter → OtherChapter c r run
  pub answers : SameAnswers c r
  pub tables :
      (table scratch table' scratch' : List ℕ) (verdict : Verdict)
      → PlanCall c (r ∷ []) table scratch table' scratch' verdict
      → single.check_plan c r (length table) (length scratch) ≡ Accepted
      → SameTable c r table table' verdict
  -- "All but 15 change nothing."
  pub refused_before :
      (table scratch table' scratch' : List ℕ) (verdict : Verdict)
      → PlanCall c (r ∷ []) table scratch table' scratch' verdict
      → (refusal : Refusal) (line : ℕ)
      → single.check_plan c r (length table) (length scratch) ≡ Refused refusal line
      → (verdict ≡ Refused refusal line) × (table' ≡ table) × (scratch' ≡ scratch)

pub one_chapter : (c : Cell) (r : Recipe) → OneChapter c r
one_chapter c r =
    record {
      simulations = record { to_single = plans.single_holds c r; to_chapter = plans.chapter_holds c r };
      refusals =
          record {
            plan = calls.same_plan c r;
            sizes = calls.same_sizes c r;
            move = calls.same_move_rules c r;
            report = calls.same_report_rules c r;
            place = calls.same_place_rules c r;
          };
      other_chapter =
          λ run other. record {
            move = calls.other_move c r run other;
            report = calls.other_report c r run other;
            place = calls.other_place c r run other;
          };
      answers = record { move = calls.same_move c r; report = calls.same_report c r; place = calls.same_place c r };
      tables =
          λ table scratch table' scratch' verdict call passes.
          record {
            entry_holds = plans.entry_holds c r table scratch table' scratch' verdict call passes;
            zero_lacks = plans.zero_lacks c r table scratch table' scratch' verdict call passes;
            past_stay = plans.past_stay c r table scratch table' scratch' verdict call passes;
            accepted_holds = plans.accepted_holds c r table scratch table' scratch' verdict call passes;
            holds_accepted = plans.holds_accepted c r table scratch table' scratch' verdict call passes;
            refused_lacks = plans.refused_lacks c r table scratch table' scratch' verdict call passes;
            lacks_refused = plans.lacks_refused c r table scratch table' scratch' verdict call passes;
          };
      refused_before = plans.refused_before c r;
    }

-- "Each entry other than 0 at a do or test is now fixed.", of the recipe as of its chapter
pub one_chapter_fixed :
    (c : Cell) (r : Recipe) (table scratch table' scratch' : List ℕ) (verdict : Verdict)
    → PlanCall c (r ∷ []) table scratch table' scratch' verdict
    → FixedCall c (r ∷ []) table scratch table'
    → single.check_plan c r (length table) (length scratch) ≡ Accepted
    → (p : ℕ) (a : Configuration)
    → Position (sizes_of c r) p a
    → (kind_of r p ≡ 0 → ⊥)
    → (entry_of (sizes_of c r) table' p a ≡ 0 → ⊥)
    → single.Shortest c r (sizes_of c r) p a (entry_of (sizes_of c r) table' p a)
one_chapter_fixed c r table scratch table' scratch' verdict call fixed passes p a here going some =
    single_shortest c r p a _ (plans.entry_fixed c r table scratch table' scratch' verdict call passes fixed p a here going some)
