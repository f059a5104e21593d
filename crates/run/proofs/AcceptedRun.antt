-- What a cell, chapters, a table and a run have that the rules up to 16 accept. Assumes nothing.
use mathlib.Core.Path.{◌≡◌, refl}
use mathlib.Core.Bool.{Bool, true, false}
use mathlib.Core.List.{List}
use Prim.Native.Nat.{ℕ, ◌<◌, ◌≤◌}
use native.Mathlib.Omega.{arith}
use lib.ListN.{length}
use lib.Dec.{eqb, ltb}
use borrow.Author.Tests.{eqb-true, eqb-false, ltb-true, ltb-false, not-false}
use Rattle.refusals.specs.Verdict.{Accepted, first_refusal}
use Rattle.refusals.proofs.Verdicts.{and_left, and_right, no_line_accepts}
use Rattle.refusals.proofs.Rules.{first_accepts, rest_accepts, left_accepts, right_accepts}
use Rattle.cell.specs.declared.Cell.{Cell}
use Rattle.recipe.specs.declared.Recipe.{Recipe}
use Rattle.recipe.specs.Rules.{check_recipe}
use Rattle.positions.specs.declared.Configuration.{Configuration}
use Rattle.positions.specs.Sizes.{points_of}
use Rattle.positions.specs.Rules.{is_position}
use Rattle.positions.specs.Checked.{Checked}
use Rattle.positions.proofs.CheckedSizes.{checked_points}
use Rattle.positions.proofs.PositionNumbers.{inside}
use Rattle.steps.specs.Lines.{kind_of}
use Rattle.steps.specs.Entry.{entry_kind}
use Rattle.steps.specs.Effect.{leads_to}
use Rattle.steps.proofs.Effects.{leads_silent, do_leads, passed_leads, failed_leads}
use Rattle.steps.proofs.PointLines.{kind_most}
use Rattle.steps.proofs.MovesStayInRange.{then_below, else_below}
use Rattle.chapters.specs.Joined.{Chapters, Point, chapter_at}
use Rattle.chapters.specs.Sizes.{Measures, sizes_in, begins}
use Rattle.chapters.specs.Rules.{record_rules, rule14, is_position_in, rule16}
use Rattle.chapters.specs.Checked.{AllChecked}
use Rattle.chapters.proofs.AcceptedChapters.{all_checked}
use Rattle.run.specs.declared.Run.{Run}
use Rattle.run.specs.Calls.{table_rules, entry_rules}

-- what rule 16 leaves: the chapter is there, and the point and the configuration are those of a position of it
pub record InPlace (zs : Measures) (number : ℕ) (p : Point) (a : Configuration) : Type 0 where
  pub there : p.chapter < number
  pub position : is_position (zs p.chapter) p.point a ≡ true

pub in_place : (zs : Measures) (number : ℕ) (p : Point) (a : Configuration) → rule16 zs number p a ≡ Accepted → InPlace zs number p a
unfolding rule16 is_position_in
in_place zs number p a accepted =
    let inside : is_position_in zs number p a ≡ true = not-false _ (no_line_accepts _ _ accepted) in
    record { there = ltb-true _ _ (and_left _ _ inside); position = and_right (ltb p.chapter number) _ inside }

-- the chapters pass their rules, the run's is there, and its point and configuration are those of a position
pub record Judged (c : Cell) (rs : Chapters) (run : Run) : Type 0 where
  pub checked : AllChecked c rs (sizes_in c rs)
  pub there : run.chapter < length rs
  pub position : is_position (sizes_in c rs run.chapter) run.point run.configuration ≡ true
  pub own : Checked c (chapter_at rs run.chapter) (sizes_in c rs run.chapter)
  pub point_below : run.point < points_of (chapter_at rs run.chapter)

module _ (c : Cell) (rs : Chapters) (run : Run) where
  pub table_judged : (table : List ℕ) → first_refusal (entry_rules c rs table run) ≡ Accepted → Judged c rs run
  unfolding entry_rules table_rules
  table_judged table accepted =
      let rules = table_rules (sizes_in c rs) (length rs) (length table) run in
      let later = right_accepts (record_rules false c rs) rules accepted in
      let checked = all_checked false c rs (left_accepts (record_rules false c rs) rules accepted) (first_accepts _ _ later) in
      let placed = in_place _ _ _ _ (first_accepts _ _ (rest_accepts _ _ (rest_accepts _ _ later))) in
      let own = checked.each run.chapter placed.there in
      record {
        checked = checked;
        there = placed.there;
        position = placed.position;
        own = own;
        point_below = omega (arith, (inside _ _ _ placed.position).point, checked_points c _ _ own);
      }

-- the table is long enough for all chapters
pub table_long : (zs : Measures) (number n : ℕ) → rule14 zs number n ≡ Accepted → begins zs number ≤ n
unfolding rule14
table_long zs number n accepted = ltb-false _ _ (no_line_accepts _ _ accepted)

-- an entry of a do or a test leads to a point of the same chapter
pub lead_below :
    (r : Recipe) (p e outcome : ℕ)
    → check_recipe r ≡ Accepted
    → p < points_of r
    → (kind_of r p ≡ 0 → ⊥)
    → leads_to r p e outcome < points_of r
lead_below r p e outcome fine low some = decide (eqb (entry_kind e) 3) (eqb (kind_of r p) 1) (eqb outcome 1) refl refl refl
  where
    decide :
        (carry work passed : Bool)
        → eqb (entry_kind e) 3 ≡ carry
        → eqb (kind_of r p) 1 ≡ work
        → eqb outcome 1 ≡ passed
        → leads_to r p e outcome < points_of r
    decide false work passed f g h = rw (leads_silent r p e outcome (eqb-false _ _ f)) low
    decide true true passed f g h = rw (do_leads r p e outcome (eqb-true _ _ f) (eqb-true _ _ g)) (then_below r fine p low some)
    decide true false true f g h =
        rw (passed_leads r p e outcome (eqb-true _ _ f) (eqb-false _ _ g) (eqb-true _ _ h)) (then_below r fine p low some)
    decide true false false f g h =
        let ne : kind_of r p ≡ 1 → ⊥ = eqb-false (kind_of r p) 1 g in
        rw (failed_leads r p e outcome (eqb-true _ _ f) ne (eqb-false _ _ h)) (else_below r fine p low (omega (arith, kind_most r fine p low)))
