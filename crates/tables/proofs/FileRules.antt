-- Rules 1 and 2 of a file, by what the code answers that tries them. Assumes nothing.
use mathlib.Core.Path.{◌≡◌, refl, sym}
use mathlib.Core.Bool.{Bool, true, false, cond}
use mathlib.Core.List.{List, [], ◌∷◌, ◌++◌}
use Prim.Native.Nat.{ℕ}
use lib.ListN.{length}
use Rattle.std.specs.Prelude.{Ok, Err}
use Rattle.refusals.specs.declared.Refusal.TheVariants.{Names}
use Rattle.refusals.specs.declared.Broken.{Broken}
use Rattle.refusals.specs.Verdict.{Accepted, Refused}
use Rattle.tables.specs.Lines.{value_lines}
use Rattle.tables.specs.Table.{starts, rule1, rule2}
use Rattle.tables.specs.Reading.{form_of}
use Rattle.tables.proofs.NamesLine.{starts_named}
use Rattle.tables.proofs.KeptNumbers.{whole, broken, breaks_is}

-- a file that passed rule 1 with these names
module _ {done : Unit} (names f : List ℕ) (passed : rule1 names f ≡ Ok done) where
  named : starts (names ++ (10 ∷ [])) f ≡ true
  unfolding rule1
  named = decide _ passed
    where
      decide : (b : Bool) → cond b Accepted (Refused Names 1) ≡ Ok done → b ≡ true
      decide true e = refl
      decide false e = cc

  pub rule2_broken : {e : Broken} (k : ℕ) → form_of k f ≡ Err e → rule2 k f ≡ Err e
  unfolding rule2
  rule2_broken k is =
      let b = broken k f _ (sym is) in
      rw (← breaks_is k f (starts_named names f named), b.0, b.1)

  pub rule2_kept : {n : ℕ} (k : ℕ) → form_of k f ≡ Ok n → rule2 k f ≡ Accepted
  unfolding rule2
  rule2_kept k is = rw (← breaks_is k f (starts_named names f named), (whole k f _ (sym is)).0)

-- and its lines, once rule 2 has passed, too
pub lines_counted : {n : ℕ} (k : ℕ) (f : List ℕ) → form_of k f ≡ Ok n → n ≡ length (value_lines f)
lines_counted k f is = (whole k f _ (sym is)).1
