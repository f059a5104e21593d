-- The rule that follows a table: under it the book meets every list of calls as it does with the table.
-- Assumes nothing.
use mathlib.Core.Path.{◌≡◌, refl}
use mathlib.Core.Bool.{Bool, true, false, cond}
use mathlib.Core.List.{List, [], ◌∷◌}
use Prim.Native.Nat.{ℕ}
use Rattle.cell.specs.declared.Cell.{Cell}
use Rattle.positions.specs.declared.Configuration.{Configuration}
use Rattle.chapters.specs.Joined.{Chapters, Point}
use Rattle.chapters.specs.Sizes.{Measures}
use Rattle.run.specs.Book.{Book, Call, asks, reports, opened, by_table, made, is_accepted, turned, noted, moments}
use Rattle.run.specs.Promises.{Rule, Promises}
use Rattle.simulation.specs.Rule.{Rules}

module _ (c : Cell) (rs : Chapters) (zs : Measures) (table : List ℕ) (p : Point) (a : Configuration) where
  -- the book to which accepted outcomes lead, the latest first
  unfoldable pub follow : List ℕ → Book
  follow [] = opened p a
  follow (outcome ∷ accepted) = made c rs (follow accepted) (by_table zs table accepted (follow accepted)) outcome

  unfoldable pub rule_of : Rule
  rule_of accepted = by_table zs table accepted (follow accepted)

  turned_follows :
      (accepted : List ℕ) (call : Call)
      → turned c rs (follow accepted) (rule_of accepted) call ≡ follow (noted c rs (follow accepted) (rule_of accepted) call accepted)
  unfolding turned noted follow rule_of
  turned_follows accepted asks = refl
  turned_follows accepted (reports outcome) = decide (is_accepted c rs (follow accepted) (by_table zs table accepted (follow accepted)) outcome)
    where
      decide :
          (b : Bool)
          → cond b (made c rs (follow accepted) (by_table zs table accepted (follow accepted)) outcome) (follow accepted)
          ≡ follow (cond b (outcome ∷ accepted) accepted)
      decide true = refl
      decide false = refl

  same_from :
      (calls : List Call) (accepted : List ℕ)
      → moments c rs (λ past b. rule_of past) accepted (follow accepted) calls ≡ moments c rs (by_table zs table) accepted (follow accepted) calls
  unfolding moments rule_of
  same_from [] accepted = refl
  same_from (call ∷ calls) accepted =
      rw (turned_follows accepted call, same_from calls (noted c rs (follow accepted) (rule_of accepted) call accepted))

  pub same_moments :
      (calls : List Call)
      → moments c rs (λ past b. rule_of past) [] (opened p a) calls ≡ moments c rs (by_table zs table) [] (opened p a) calls
  unfolding follow
  same_moments calls = same_from calls []

  -- a table that keeps every promise gives a rule that does
  pub table_rules_lem : ((calls : List Call) → Promises c rs zs table p a calls) → Rules c rs zs p a
  table_rules_lem keeps = record { rule = rule_of; keeps = λ calls. rw (same_moments calls) (keeps calls).keeps }
