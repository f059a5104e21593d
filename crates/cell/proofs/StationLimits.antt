-- The limits of a record: when one breaks a rule, and that 8 everywhere breaks none. Assumes nothing.
use mathlib.Core.Path.{◌≡◌, refl, sym, ◌∙◌}
use mathlib.Core.Bool.{Bool, true, false, ◌&&◌, true≢false}
use mathlib.Core.List.{List, ◌∷◌}
use Prim.Native.Nat.{ℕ, ◌<◌, ◌≤◌}
use native.Mathlib.Decide.{ℕ_discrete}
use native.Mathlib.Omega.{arith}
use lib.ListN.{get_or, get_or-replicate}
use lib.Dec.{leb}
use borrow.Author.Tests.{le-leb, lt-leb, eq-eqb, ne_eqb}
use Rattle.std.specs.Prelude.{Err}
use Rattle.refusals.specs.Verdict.{Verdict, Accepted, first_refusal, rule3}
use Rattle.refusals.specs.declared.Refusal.TheVariants.{Range, LimitResource}
use Rattle.refusals.specs.Search.{any_below}
use Rattle.refusals.proofs.EveryBelow.{any_none, any_not}
use Rattle.refusals.proofs.Verdicts.{no_line_kept}
use Rattle.cell.specs.declared.Cell.{Cell}
use Rattle.cell.specs.Rules.{rule4, limit_in_range, limit_leaves_range, rule4_limits, resource_count, rule5, rule6, limits_absent, rule20, rule23, cell_rules, check_cell}
use Rattle.cell.specs.Reader.{no_limits}
use Rattle.cell.specs.Inner.{after_range}

module _ (limits : List ℕ) (k : ℕ) where
  pub limit_fits : 1 ≤ get_or limits k 0 → get_or limits k 0 ≤ 8 → limit_leaves_range limits k ≡ false
  unfolding limit_leaves_range limit_in_range
  limit_fits low high = rw (le-leb 1 (get_or limits k 0) low, le-leb (get_or limits k 0) 8 high)

  module _ (R : ℕ) where
    pub limit_present : k < R → limits_absent limits R k ≡ false
    unfolding limits_absent
    limit_present low = rw (lt-leb R k low)

    limit_other : R ≤ k → (get_or limits k 0 ≡ 8 → ⊥) → limits_absent limits R k ≡ true
    unfolding limits_absent
    limit_other high ne = rw (le-leb R k high, ne_eqb (get_or limits k 0) 8 ne)

    pub limit_eight : get_or limits k 0 ≡ 8 → limits_absent limits R k ≡ false
    unfolding limits_absent
    limit_eight e = rw (eq-eqb (get_or limits k 0) 8 e) (never (leb R k))
      where
        never : (b : Bool) → (b && false) ≡ false
        never true = refl
        never false = refl

-- no limit is other than 8
module _ (limits : List ℕ) (none : any_below (limits_absent limits 0) 6 ≡ false) where
  pub all_eight : (k : ℕ) → k < 6 → get_or limits k 0 ≡ 8
  all_eight k low = decide (ℕ_discrete (get_or limits k 0) 8)
    where
      decide : Dec (get_or limits k 0 ≡ 8) → get_or limits k 0 ≡ 8
      decide (yes e) = e
      decide (no other) =
          absurd (true≢false (sym (limit_other limits k 0 (omega arith) other) ∙ any_not (limits_absent limits 0) 6 k none low))

  -- so none is at or above any R
  pub none_absent : (R : ℕ) → any_below (limits_absent limits R) 6 ≡ false
  none_absent R = any_none (limits_absent limits R) 6 (λ k low. limit_eight limits k R (all_eight k low))

-- "the cell reader's record has 8 everywhere": the rules on limits leave it to the others
module _ (c : Cell) (eights : c.limits ≡ no_limits) where
  each_eight : (k : ℕ) → k < 6 → get_or c.limits k 0 ≡ 8
  each_eight k low = rw eights (get_or-replicate {A = ℕ} 6 k 8 0 low)

  is_in_range : rule4_limits c ≡ Accepted
  unfolding rule4_limits
  is_in_range =
      no_line_kept Range _ (any_none _ 6 (λ k low. limit_fits c.limits k (omega (arith, each_eight k low)) (omega (arith, each_eight k low))))

  anywhere : rule20 c ≡ Accepted
  unfolding rule20
  anywhere =
      no_line_kept LimitResource _ (any_none _ 6 (λ k low. limit_eight c.limits k (resource_count c) (each_eight k low)))

  pub eights_pass : rule3 c.count ≡ Accepted → first_refusal (rule4 c ∷ after_range c) ≡ check_cell c
  unfolding first_refusal check_cell cell_rules after_range
  eights_pass counted = judge (rule4 c) (rule5 c) (rule6 c) (rule23 c) refl refl refl refl
    where
      judge :
          (v w x y : Verdict)
          → rule4 c ≡ v
          → rule5 c ≡ w
          → rule6 c ≡ x
          → rule23 c ≡ y
          → first_refusal (rule4 c ∷ after_range c) ≡ check_cell c
      judge (Err broken) w x y e f g h = rw (counted, e)
      judge Accepted (Err broken) x y e f g h = rw (counted, is_in_range, e, f)
      judge Accepted Accepted (Err broken) y e f g h = rw (counted, is_in_range, anywhere, e, f, g)
      judge Accepted Accepted Accepted (Err broken) e f g h = rw (counted, is_in_range, anywhere, e, f, g, h)
      judge Accepted Accepted Accepted Accepted e f g h = rw (counted, is_in_range, anywhere, e, f, g, h)
