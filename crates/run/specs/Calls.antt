-- "The run": the calls on a run, with the rules that each tries. Assumes nothing.
use Rattle.std.specs.Prelude.{◌≡◌, false, cond, not, Result, Ok, Err, List, [], ◌∷◌, ◌++◌, ℕ, length, get_or, eqb, ltb}
use Rattle.refusals.specs.declared.Broken.{Broken}
use Rattle.refusals.specs.Verdict.{Verdict, Accepted, first_refusal, no_line, if_accepted}
use Rattle.refusals.specs.declared.Refusal.TheVariants.{OutcomeRange, NotOpen, AtEnd}
use Rattle.cell.specs.declared.Cell.{Cell}
use Rattle.positions.specs.declared.Configuration.{Configuration}
use Rattle.positions.specs.Position.{start}
use Rattle.steps.specs.Effect.{opens, makes, leads_to}
use Rattle.chapters.specs.Joined.{Chapters, Point, point_in, recipe_at, kind_at, landing}
use Rattle.chapters.specs.Sizes.{Measures, parts_in, sizes_in, entry_in}
use Rattle.chapters.specs.Rules.{record_rules, rule13, rule14, rule16}
use Rattle.run.specs.declared.Run.{Run}

-- "A run and the book carry their chapter": the point of the joined recipe at which a run is, and the run at a point
abbrev pub point_of : Run → Point
point_of run = point_in run.chapter run.point

abbrev pub run_at : Point → Configuration → Run
run_at p a = record { point = p.point; configuration = a; chapter = p.chapter }

-- "Fresh: point 0, starting configuration.", of the first chapter
unfoldable pub fresh_run : Run
fresh_run = record { point = 0; configuration = start; chapter = 0 }

-- "the entry at the run's position"
abbrev pub entry_at : Cell → Chapters → List ℕ → Run → ℕ
entry_at c rs table run = entry_in (sizes_in c rs) table (point_of run) run.configuration

-- what is tried of a run of accepted records, without a table
unfoldable pub run_rules : Measures → ℕ → Run → List Verdict
run_rules zs number run = rule13 zs number ∷ rule16 zs number (point_of run) run.configuration ∷ []

-- and with one of so many entries
unfoldable pub table_rules : Measures → ℕ → ℕ → Run → List Verdict
table_rules zs number entries run =
    rule13 zs number ∷ rule14 zs number entries ∷ rule16 zs number (point_of run) run.configuration ∷ []

-- "check handed-in values anew from rule 3, cell first: all of its rules, then the recipe's, then 13 on": a place call's rules
unfoldable pub place_rules : Cell → Chapters → Run → List Verdict
place_rules c rs run = record_rules false c rs ++ run_rules (sizes_in c rs) (length rs) run

-- the rules of a call with a table, before the entry is looked at
unfoldable pub entry_rules : Cell → Chapters → List ℕ → Run → List Verdict
entry_rules c rs table run = record_rules false c rs ++ table_rules (sizes_in c rs) (length rs) (length table) run

-- "17. Report: outcome above 1."
unfoldable pub rule17 : ℕ → Verdict
rule17 outcome = no_line OutcomeRange (ltb 1 outcome)

-- "18. Run: the entry isn't a move open here, 0 included, or not in the stated form."
unfoldable pub rule18 : Cell → Chapters → List ℕ → Run → Verdict
rule18 c rs table run =
    no_line NotOpen (not (opens c (recipe_at rs (point_of run)) run.point run.configuration (entry_at c rs table run)))

-- "19. Report: the run is at an end."; "one handed in at an earlier end gets 19, or 18 if rule 18 breaks there"
unfoldable pub rule19 : Chapters → Run → Verdict
rule19 rs run = no_line AtEnd (eqb (kind_at rs (point_of run)) 0)

-- a next-move call's rules
unfoldable pub move_rules : Cell → Chapters → List ℕ → Run → List Verdict
move_rules c rs table run = entry_rules c rs table run ++ (rule18 c rs table run ∷ [])

-- a report's
unfoldable pub report_rules : Cell → Chapters → List ℕ → Run → ℕ → List Verdict
report_rules c rs table run outcome = entry_rules c rs table run ++ (rule17 outcome ∷ rule18 c rs table run ∷ rule19 rs run ∷ [])

-- what a next-move call gives: its verdict and the entry
pub record Move : Type 0 where
  pub verdict : Verdict
  pub entry : ℕ

-- an answer of `Run::next_move`: the entry, or a refusal, with which the entry is 0
unfoldable pub move_of : Result ℕ Broken → Move
move_of (Ok entry) = record { verdict = Accepted; entry = entry }
move_of (Err broken) = record { verdict = Err broken; entry = 0 }

-- "The next-move call gives the entry at the run's position." "a refused next-move returns entry 0"
unfoldable pub next_move : Cell → Chapters → List ℕ → Run → Move
next_move c rs table run =
    let verdict = first_refusal (move_rules c rs table run) in
    record { verdict = verdict; entry = if_accepted verdict (entry_at c rs table run) 0 }

-- "a carried do goes to `then`; a test goes to `then` on outcome 1, to `else` on 0"; "A report that reaches an end of an earlier
-- chapter leaves the run .. at point 0 of the next"
unfoldable pub next_point : Chapters → Point → ℕ → ℕ → Point
next_point rs p e outcome = landing rs (point_in p.chapter (leads_to (recipe_at rs p) p.point e outcome))

-- "it makes that move"
unfoldable pub next_run : Cell → Chapters → List ℕ → Run → ℕ → Run
next_run c rs table run outcome =
    let e = entry_at c rs table run in
    run_at (next_point rs (point_of run) e outcome) (makes c (recipe_at rs (point_of run)) run.point run.configuration e outcome)

-- what a report gives: its verdict and a run
pub record Report : Type 0 where
  pub verdict : Verdict
  pub run : Run

-- an answer of `Run::report` on a run: the next one, or a refusal, with which it is this run
unfoldable pub answered : Run → Result Run Broken → Report
answered run (Ok next) = record { verdict = Accepted; run = next }
answered run (Err broken) = record { verdict = Err broken; run = run }

-- "A report takes a run and gives the next run"; "a refused report its own run"
unfoldable pub report_of : Cell → Chapters → List ℕ → Run → ℕ → Report
report_of c rs table run outcome =
    let verdict = first_refusal (report_rules c rs table run outcome) in
    record { verdict = verdict; run = if_accepted verdict (next_run c rs table run outcome) run }

-- "a second form of report advances the line screen's run record in its own storage, equal in all else": the verdict that it
-- answers on the record `before`, and the record afterwards. A report by value returns the same two
pub record Stored (c : Cell) (rs : Chapters) (table : List ℕ) (before : Run) (outcome : ℕ) (verdict : Verdict) (after : Run) : Type 0 where
  pub told : verdict ≡ (report_of c rs table before outcome).verdict
  pub kept : after ≡ (report_of c rs table before outcome).run

-- what a place call gives: its verdict and the place
pub record Place : Type 0 where
  pub verdict : Verdict
  pub place : ℕ

-- an answer of `Run::place`: the place, or a refusal, with which the place is 255
unfoldable pub place_of : Result ℕ Broken → Place
place_of (Ok place) = record { verdict = Accepted; place = place }
place_of (Err broken) = record { verdict = Err broken; place = 255 }

-- "A place call has no table and stops after rule 16; it gives a part's place, or 255 for a part number of P or more"; "a refused
-- place call 255"; P is "the greatest over all" chapters
unfoldable pub part_place : Cell → Chapters → Run → ℕ → Place
part_place c rs run part =
    let verdict = first_refusal (place_rules c rs run) in
    let place = cond (ltb part (parts_in rs)) (get_or run.configuration.place part 0) 255 in
    record { verdict = verdict; place = if_accepted verdict place 255 }
