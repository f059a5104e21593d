-- Which operations the lines of a recipe before line n name. Assumes nothing.
use mathlib.Core.Path.{◌≡◌, refl, sym, ap, ◌∙◌}
use mathlib.Core.Bool.{Bool, true, false, not, ◌&&◌}
use mathlib.Core.List.{List}
use Prim.Native.Nat.{ℕ, ◌+◌, ◌<◌}
use native.Mathlib.Decide.{ℕ_discrete}
use native.Mathlib.Numerals.{add-one}
use native.Mathlib.Omega.{arith}
use lib.ListN.{length, get_or, set, replicate, length-set, get_or-replicate}
use lib.Seq.{get_or-set_same, get_or-set_other}
use lib.Dec.{eqb}
use borrow.Author.Tests.{eq-eqb, ne_eqb}
use Rattle.refusals.specs.Search.{any_below}

module _ (kind op : List ℕ) where
  -- line n names operation o
  abbrev pub line_names : ℕ → ℕ → Bool
  line_names o n = not (eqb (get_or kind n 0) 0) && eqb (get_or op n 0) o

  -- the operations that the first n lines name
  pub record NamedBy (n : ℕ) (named : List Bool) : Type 0 where
    pub whole : length named ≡ 64
    pub each : (o : ℕ) → o < 64 → get_or named o false ≡ any_below (line_names o) n

  pub named_none : NamedBy 0 (replicate 64 false)
  unfolding any_below
  named_none = record { whole = refl; each = λ o low. get_or-replicate 64 o false false low }

  -- a line that names nothing, and one that names an operation
  module _ (n : ℕ) (named : List Bool) (N : NamedBy n named) where
    pub named_end : get_or kind n 0 ≡ 0 → NamedBy (n + 1) named
    unfolding any_below
    named_end e = record { whole = N.whole; each = λ o low. N.each o low ∙ rw (add-one n, eq-eqb (get_or kind n 0) 0 e) }

    pub named_one : (get_or kind n 0 ≡ 0 → ⊥) → get_or op n 0 < 64 → NamedBy (n + 1) (set named (get_or op n 0) true)
    unfolding any_below
    named_one e few = record { whole = length-set named (get_or op n 0) true ∙ N.whole; each = λ o low. at o low (ℕ_discrete o (get_or op n 0)) }
      where
        at : (o : ℕ) → o < 64 → Dec (o ≡ get_or op n 0) → get_or (set named (get_or op n 0) true) o false ≡ any_below (line_names o) (n + 1)
        at o low (yes is) =
            ap (get_d' (set named (get_or op n 0) true)) is
            ∙ get_or-set_same named (get_or op n 0) true false (omega (arith, N.whole))
            ∙ sym (rw (add-one n, ne_eqb (get_or kind n 0) 0 e, eq-eqb (get_or op n 0) o (sym is)))
          where
            get_d' : List Bool → ℕ → Bool
            get_d' l k = get_or l k false
        at o low (no other) =
            get_or-set_other named (get_or op n 0) o true false other
            ∙ N.each o low
            ∙ sym (rw (add-one n, ne_eqb (get_or kind n 0) 0 e, ne_eqb (get_or op n 0) o (λ is. other (sym is))))
