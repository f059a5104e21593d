-- The act 4 line of a line: what it has, and that an accepted record has one at most. Assumes nothing.
use mathlib.Core.Path.{◌≡◌, sym, ◌∙◌}
use mathlib.Core.Bool.{Bool, true, false, not, ◌||◌, true≢false}
use Prim.Native.Nat.{ℕ, ◌<◌}
use native.Mathlib.Decide.{dec_lt}
use native.Mathlib.Omega.{arith}
use lib.ListN.{get_or}
use borrow.Author.Tests.{eqb-true, eq-eqb}
use Rattle.refusals.specs.Verdict.{Accepted}
use Rattle.refusals.specs.declared.Refusal.TheVariants.{RejectLine}
use Rattle.refusals.specs.Search.{any_below}
use Rattle.refusals.proofs.EveryBelow.{any_not}
use Rattle.refusals.proofs.Verdicts.{and_left, and_right, or_right, none_breaks}
use Rattle.cell.specs.declared.Cell.{Cell}
use Rattle.cell.specs.Rules.{alike, stray, rule23}

-- line k of c has the act, and the resource, from and arg of line i
abbrev pub alike_in : Cell → ℕ → ℕ → ℕ → Bool
alike_in c = alike c.resource c.from c.act c.arg

pub record Alike (c : Cell) (wanted i k : ℕ) : Type 0 where
  pub act : get_or c.act k 0 ≡ wanted
  pub resource : get_or c.resource k 0 ≡ get_or c.resource i 0
  pub from : get_or c.from k 0 ≡ get_or c.from i 0
  pub arg : get_or c.arg k 0 ≡ get_or c.arg i 0

module _ (c : Cell) (wanted i k : ℕ) where
  -- the test says so
  pub alike_line : alike_in c wanted i k ≡ true → Alike c wanted i k
  unfolding alike
  alike_line e =
      record {
        act = eqb-true _ _ (search and_left);
        resource = eqb-true _ _ (search (and_left, and_right));
        from = eqb-true _ _ (search (and_left, and_right));
        arg = eqb-true _ _ (search (and_left, and_right));
      }

  -- and back
  line_alike : Alike c wanted i k → alike_in c wanted i k ≡ true
  unfolding alike
  line_alike A =
      rw (
        eq-eqb (get_or c.act k 0) wanted A.act,
        eq-eqb (get_or c.resource k 0) (get_or c.resource i 0) A.resource,
        eq-eqb (get_or c.from k 0) (get_or c.from i 0) A.from,
        eq-eqb (get_or c.arg k 0) (get_or c.arg i 0) A.arg,
      )

module _ (c : Cell) (passes : rule23 c ≡ Accepted) (l : ℕ) where
  -- "two act 4 lines share these": of two such lines of l the later one would break rule 23
  never_two : (g h : ℕ) → g < h → h < c.count → Alike c 4 l g → Alike c 4 l h → ⊥
  unfolding rule23 stray
  never_two g h less low first second =
      let keeps : stray c.resource c.from c.act c.arg c.count h ≡ false = none_breaks RejectLine _ c.count passes h low in
      let none : (not (any_below (alike_in c 1 h) c.count) || any_below (alike_in c 4 h) h) ≡ false = rw second.act at keeps in
      let shared : alike_in c 4 h g ≡ true =
      line_alike c 4 h g
      (record {
        act = first.act;
        resource = first.resource ∙ sym second.resource;
        from = first.from ∙ sym second.from;
        arg = first.arg ∙ sym second.arg;
      }) in
      true≢false (sym shared ∙ any_not (alike_in c 4 h) h g (or_right (not (any_below (alike_in c 1 h) c.count)) _ none) less)

  -- so it has one at most
  pub one_gate : (g h : ℕ) → g < c.count → h < c.count → Alike c 4 l g → Alike c 4 l h → g ≡ h
  one_gate g h low below first second = decide (dec_lt g h) (dec_lt h g)
    where
      decide : Dec (g < h) → Dec (h < g) → g ≡ h
      decide (yes less) d = absurd (never_two g h less below first second)
      decide (no not-less) (yes more) = absurd (never_two h g more low second first)
      decide (no not-less) (no not_more) = omega arith
