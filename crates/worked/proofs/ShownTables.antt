-- A table that is shown with ranks and stages, and passes the tests of them that the checker computes, is the one that every plan call
-- leaves: it is closed, what has no entry is lost, an earlier end has an entry exactly where the next chapter goes on, and no move
-- undercuts its ranks. For chapters of one or two lines to a point. Assumes nothing.
use mathlib.Core.Path.{◌≡◌, refl, sym, ap, ◌∙◌}
use mathlib.Core.Logic.{⊎_elim}
use mathlib.Core.Bool.{Bool, true, false, cond, not, ◌&&◌, ◌||◌}
use mathlib.Core.List.{List}
use Prim.Native.Nat.{ℕ, suc, ◌<◌, ◌≤◌}
use native.Mathlib.Omega.{arith}
use lib.ListN.{length, get_or}
use lib.Dec.{eqb, ltb, leb}
use borrow.Author.Tests.{eqb-true, eqb-false, eq-eqb, ne_eqb, ltb-true, leb-true}
use Rattle.refusals.specs.Verdict.{Verdict, Accepted}
use Rattle.refusals.proofs.Verdicts.{and_left, and_right, or_cases}
use Rattle.cell.specs.declared.Cell.{Cell}
use Rattle.positions.specs.declared.Configuration.{Configuration}
use Rattle.positions.specs.Position.{start}
use Rattle.steps.specs.Entry.{is_formed, end_entry}
use Rattle.steps.specs.Effect.{Effect, shut, silent, carried, ended, effect}
use Rattle.steps.proofs.Effects.{read_silent, read_carried}
use Rattle.chapters.specs.Joined.{Chapters, Point, point_in, first_point, recipe_at, kind_at, is_earlier, landing, then_at, else_at}
use Rattle.chapters.specs.Sizes.{Measures, sizes_in, begins, entry_in}
use Rattle.chapters.specs.Checked.{AllChecked}
use Rattle.chapters.proofs.Landing.{is_earlier_lem}
use Rattle.simulation.specs.Simulation.{PositionIn}
use Rattle.simulation.specs.Plan.{Planned, Fixed}
use Rattle.simulation.proofs.Machine.{Lost, beyond}
use Rattle.simulation.proofs.JoinedMachine.{joined_machine, landing_position}
use Rattle.simulation.proofs.ShortestTable.{SoonestTable, shortest_entry}
use Rattle.simulation.proofs.ClosedTableIsPlan.{planned}
use Rattle.simulation.proofs.PlannedEntries.{same_number}
use Rattle.planner.specs.Call.{check_plan, PlanCall, FixedCall}
use Rattle.planner.proofs.Demands.{realisable_accepted}
use Rattle.worked.proofs.FineChapters.{FineIn, fine_in_checked, fine_in_passes}
use Rattle.worked.proofs.EveryPosition.{everywhere, at_position}
use Rattle.worked.proofs.FormedEntries.{few_formed_pass, few_formed_passes}
use Rattle.worked.proofs.ChapterStages.{are_few_stages_in, few_stages_lost_in}
use Rattle.worked.proofs.ChapterCertificates.{rank_in, are_closed, tables_closed}

-- the move f, by what it does, is no better than the entry: a carry into entries is as soon only where the entry carries too, a silent move
-- to an entry where that is nearer by one, and what is as soon has no smaller number
unfoldable pub no_better : Chapters → Measures → List ℕ → List ℕ → Point → Configuration → ℕ → Effect Configuration → Bool
no_better rs zs table ranks p a f shut = true
no_better rs zs table ranks p a f (silent b) =
    eqb (entry_in zs table p b) 0
    || (leb (rank_in zs ranks p a) (suc (rank_in zs ranks p b))
    && (not (eqb (rank_in zs ranks p a) (suc (rank_in zs ranks p b))) || leb (entry_in zs table p a) f))
no_better rs zs table ranks p a f (carried b d) =
    (eqb (entry_in zs table (then_at rs p) b) 0 || (eqb (kind_at rs p) 2 && eqb (entry_in zs table (else_at rs p) d) 0))
    || (eqb (rank_in zs ranks p a) 0 && leb (entry_in zs table p a) f)
no_better rs zs table ranks p a f ended = true

unfoldable pub soonest_at : Cell → Chapters → Measures → List ℕ → List ℕ → Point → Configuration → Bool
soonest_at c rs zs table ranks p a =
    eqb (entry_in zs table p a) 0
    || (eqb (kind_at rs p) 0
    || few_formed_pass c (recipe_at rs p) p.point (λ f. no_better rs zs table ranks p a f (effect c (recipe_at rs p) p.point a f)))

-- what has no entry has a stage, or is an earlier end that passes on to a stage
unfoldable pub lost_at : Chapters → Measures → List ℕ → List ℕ → Point → Configuration → Bool
lost_at rs zs table stages p a =
    not (eqb (entry_in zs table p a) 0) || (ltb 0 (entry_in zs stages p a) || ltb 0 (entry_in zs stages (landing rs p) a))

-- "an end position there has kind 4 exactly if that next position's entry is other than 0"
unfoldable pub joint_at : Chapters → Measures → List ℕ → Point → Configuration → Bool
joint_at rs zs table p a =
    not (eqb (kind_at rs p) 0 && is_earlier rs p.chapter)
    || eqb (entry_in zs table p a) (cond (eqb (entry_in zs table (point_in (suc p.chapter) 0) a) 0) 0 end_entry)

-- all of it
unfoldable pub is_shown : Cell → Chapters → Measures → List ℕ → List ℕ → List ℕ → Bool
is_shown c rs zs table ranks stages =
    are_closed c rs zs table ranks
    && (are_few_stages_in c rs zs stages
    && (everywhere rs zs (lost_at rs zs table stages)
    && (everywhere rs zs (joint_at rs zs table) && everywhere rs zs (soonest_at c rs zs table ranks))))

-- where a test fails, its alternative holds
otherwise : (x y : Bool) → (x || y) ≡ true → x ≡ false → y ≡ true
otherwise true y all fails = cc
otherwise false y all fails = all

module _
    (c : Cell) (rs : Chapters) (zs : Measures) (K : AllChecked c rs zs) (table ranks stages : List ℕ)
    (shown : is_shown c rs zs table ranks stages ≡ true)
  where
    -- what the tests show, one by one
    record Passed : Type 0 where
      closed : are_closed c rs zs table ranks ≡ true
      staged : are_few_stages_in c rs zs stages ≡ true
      lost : everywhere rs zs (lost_at rs zs table stages) ≡ true
      joints : everywhere rs zs (joint_at rs zs table) ≡ true
      soonest : everywhere rs zs (soonest_at c rs zs table ranks) ≡ true

    passed : Passed
    unfolding is_shown
    passed =
        record {
          closed = search and_left;
          staged = search (and_left, and_right);
          lost = search (and_left, and_right);
          joints = search (and_left, and_right);
          soonest = search (and_left, and_right);
        }

    zeros : (p : Point) (a : Configuration) → PositionIn rs zs p a → entry_in zs table p a ≡ 0 → Lost (joined_machine c rs zs) p a
    unfolding lost_at
    zeros p a at none =
        let either : (ltb 0 (entry_in zs stages p a) || ltb 0 (entry_in zs stages (landing rs p) a)) ≡ true =
        otherwise (not (eqb (entry_in zs table p a) 0)) _ (at_position c rs zs K (lost_at rs zs table stages) passed.lost p a at)
        (rw (eq-eqb (entry_in zs table p a) 0 none)) in
        ⊎_elim
        (λ high. few_stages_lost_in c rs zs K stages passed.staged p a at (ltb-true 0 _ high))
        (λ high. beyond (few_stages_lost_in c rs zs K stages passed.staged (landing rs p) a (landing_position c rs zs K p a at) (ltb-true 0 _ high)))
        (or_cases (ltb 0 (entry_in zs stages p a)) _ either)

    joints :
        (p : Point) (a : Configuration)
        → PositionIn rs zs p a
        → kind_at rs p ≡ 0
        → suc p.chapter < length rs
        → entry_in zs table p a ≡ cond (eqb (entry_in zs table (point_in (suc p.chapter) 0) a) 0) 0 end_entry
    unfolding joint_at
    joints p a at end next =
        eqb-true _ _
        (otherwise (not (eqb (kind_at rs p) 0 && is_earlier rs p.chapter)) _
        (at_position c rs zs K (joint_at rs zs table) passed.joints p a at)
        (rw (eq-eqb (kind_at rs p) 0 end, is_earlier_lem rs p.chapter next)))

    -- a move from a position with an entry is no better than it
    module _ (p : Point) (a : Configuration) (at : PositionIn rs zs p a) (some : entry_in zs table p a ≡ 0 → ⊥) (going : kind_at rs p ≡ 0 → ⊥) where
      no_better_lem :
          (f : ℕ)
          → is_formed c (recipe_at rs p) p.point f ≡ true
          → no_better rs zs table ranks p a f (effect c (recipe_at rs p) p.point a f) ≡ true
      unfolding soonest_at
      no_better_lem =
          few_formed_passes c (recipe_at rs p) p.point (λ f. no_better rs zs table ranks p a f (effect c (recipe_at rs p) p.point a f))
          (otherwise (eqb (kind_at rs p) 0) _
          (otherwise (eqb (entry_in zs table p a) 0) _
          (at_position c rs zs K (soonest_at c rs zs table ranks) passed.soonest p a at) (ne_eqb (entry_in zs table p a) 0 some))
          (ne_eqb (kind_at rs p) 0 going))

      by_carry :
          (f : ℕ) (b d : Configuration)
          → effect c (recipe_at rs p) p.point a f ≡ carried b d
          → (entry_in zs table (then_at rs p) b ≡ 0 → ⊥)
          → (kind_at rs p ≡ 2 → entry_in zs table (else_at rs p) d ≡ 0 → ⊥)
          → (rank_in zs ranks p a ≡ 0) × (entry_in zs table p a ≤ f)
      unfolding no_better
      by_carry f b d is then else =
          let both : (eqb (rank_in zs ranks p a) 0 && leb (entry_in zs table p a) f) ≡ true =
          otherwise (eqb (entry_in zs table (then_at rs p) b) 0 || (eqb (kind_at rs p) 2 && eqb (entry_in zs table (else_at rs p) d) 0)) _
          (ap (no_better rs zs table ranks p a f) (sym is) ∙ no_better_lem f (read_carried c (recipe_at rs p) p.point a f is).formed)
          (rw (ne_eqb (entry_in zs table (then_at rs p) b) 0 then) (decide (eqb (kind_at rs p) 2) refl)) in
          (eqb-true _ 0 (search and_left), leb-true _ f (search and_right))
        where
          decide : (t : Bool) → eqb (kind_at rs p) 2 ≡ t → (t && eqb (entry_in zs table (else_at rs p) d) 0) ≡ false
          decide true test = ne_eqb _ 0 (else (eqb-true _ 2 test))
          decide false test = refl

      by_move :
          (f : ℕ) (b : Configuration)
          → effect c (recipe_at rs p) p.point a f ≡ silent b
          → (entry_in zs table p b ≡ 0 → ⊥)
          → (rank_in zs ranks p a ≤ suc (rank_in zs ranks p b)) × (rank_in zs ranks p a ≡ suc (rank_in zs ranks p b) → entry_in zs table p a ≤ f)
      unfolding no_better
      by_move f b is on =
          let both : (leb (rank_in zs ranks p a) (suc (rank_in zs ranks p b))
          && (not (eqb (rank_in zs ranks p a) (suc (rank_in zs ranks p b))) || leb (entry_in zs table p a) f)) ≡ true =
          otherwise (eqb (entry_in zs table p b) 0) _
          (ap (no_better rs zs table ranks p a f) (sym is) ∙ no_better_lem f (read_silent c (recipe_at rs p) p.point a f is).formed)
          (ne_eqb (entry_in zs table p b) 0 on) in (
            leb-true _ _ (search and_left),
            λ same.
                leb-true _ f
                (otherwise (not (eqb (rank_in zs ranks p a) (suc (rank_in zs ranks p b)))) _ (search and_right)
                (rw (eq-eqb (rank_in zs ranks p a) (suc (rank_in zs ranks p b)) same))),
          )

    soonest : SoonestTable c rs zs table (rank_in zs ranks)
    soonest =
        record {
          by_carry =
              λ p a at some f b d is then else.
              by_carry p a at some (read_carried c (recipe_at rs p) p.point a f is).some f b d is then else;
          by_move = λ p a at some f b is on. by_move p a at some (read_silent c (recipe_at rs p) p.point a f is).some f b is on;
        }

module _
    (c : Cell) (rs : Chapters) (K : AllChecked c rs (sizes_in c rs)) (table ranks stages : List ℕ)
    (shown : is_shown c rs (sizes_in c rs) table ranks stages ≡ true)
    (long : begins (sizes_in c rs) (length rs) ≤ length table)
  where
    abbrev lacks : Bool
    lacks = eqb (entry_in (sizes_in c rs) table first_point start) 0

    -- such a table is a plan
    pub shown_planned : Planned c rs (sizes_in c rs) table table lacks
    shown_planned =
        let zs = sizes_in c rs in
        planned c rs K table table (rank_in zs ranks) lacks long
        (tables_closed c rs zs K table ranks (passed c rs zs K table ranks stages shown).closed)
        (zeros c rs zs K table ranks stages shown) (joints c rs zs K table ranks stages shown)
        (λ some. eqb-false _ 0 some) (λ none. eqb-true _ 0 none) refl (λ n past. refl)

    -- and its entries are the fixed ones
    pub shown_fixed : Fixed c rs (sizes_in c rs) table
    shown_fixed =
        let zs = sizes_in c rs in
        record {
          shortest =
              shortest_entry c rs zs K table (rank_in zs ranks) (tables_closed c rs zs K table ranks (passed c rs zs K table ranks stages shown).closed)
              (zeros c rs zs K table ranks stages shown) (soonest c rs zs K table ranks stages shown);
        }

-- every plan call on the cell and the chapters that is lent so much accepts, and leaves the entries of the table shown
abbrev pub Leaves : Cell → Chapters → ℕ → ℕ → List ℕ → Type 0
Leaves c rs entries bytes shown =
    (table scratch table' scratch' : List ℕ) (verdict : Verdict)
    → PlanCall c rs table scratch table' scratch' verdict
    → FixedCall c rs table scratch table'
    → entries ≤ length table
    → bytes ≤ length scratch
    → (verdict ≡ Accepted) × ((n : ℕ) → n < entries → get_or table' n 0 ≡ get_or shown n 0)

-- so do all on a table that passes the tests and has an entry at the start
pub leaves_shown :
    (c : Cell) (rs : Chapters) (entries bytes : ℕ)
    → FineIn c rs entries bytes
    → (shown ranks stages : List ℕ)
    → is_shown c rs (sizes_in c rs) shown ranks stages ≡ true
    → length shown ≡ entries
    → eqb (entry_in (sizes_in c rs) shown first_point start) 0 ≡ false
    → Leaves c rs entries bytes shown
leaves_shown c rs entries bytes fine shown ranks stages good enough begun table scratch table' scratch' verdict call fixed long wide =
    (realisable_accepted c rs table scratch table' scratch' verdict call passes (plan.accepted_holds begun), λ n low. same n (omega (arith, fine.all)))
  where
    K : AllChecked c rs (sizes_in c rs)
    K = fine_in_checked c rs entries bytes fine

    passes : check_plan c rs (length table) (length scratch) ≡ Accepted
    passes = fine_in_passes c rs entries bytes fine (length table) (length scratch) long wide

    plan : Planned c rs (sizes_in c rs) shown shown (eqb (entry_in (sizes_in c rs) shown first_point start) 0)
    plan = shown_planned c rs K shown ranks stages good (omega (arith, fine.all))

    same : (n : ℕ) → n < begins (sizes_in c rs) (length rs) → get_or table' n 0 ≡ get_or shown n 0
    same = same_number c rs (sizes_in c rs) K table table' shown shown call.refused _ (call.planned passes) plan (fixed.fixed passes)
        (shown_fixed c rs K shown ranks stages good (omega (arith, fine.all)))
