-- A file's start compared with a text, byte by byte. Assumes nothing.
use mathlib.Core.Path.{◌≡◌, refl}
use mathlib.Core.Bool.{Bool, true, false, cond, ◌&&◌, false≢true}
use mathlib.Core.List.{List, [], ◌∷◌, ◌++◌}
use Prim.Native.Nat.{ℕ, suc, ◌<◌}
use native.Mathlib.Omega.{arith}
use lib.ListN.{length}
use lib.Dec.{eqb}
use Rattle.std.specs.List.{starts_with}
use Rattle.std.proofs.lemmas.Bool.Decides.{nat_tests}
use Rattle.refusals.proofs.Verdicts.{and_right}
use Rattle.tables.specs.Table.{starts}
use Rattle.tables.specs.Reading.{up_to}

-- what the slice's own comparison finds
pub starts_as : (names file : List ℕ) → starts_with eqb file names ≡ starts names file
unfolding starts
starts_as [] file = refl
starts_as (x ∷ names) [] = refl
starts_as (x ∷ names) (b ∷ file) = rw (eqb_turned x b, starts_as names file)
  where
    eqb_turned : (m n : ℕ) → eqb m n ≡ eqb n m
    eqb_turned m n = grind (arith, nat_tests)

-- a file that starts with a text and byte 10 has a line
pub starts_named : (names file : List ℕ) → starts (names ++ (10 ∷ [])) file ≡ true → length (up_to 10 file) < length file
unfolding starts up_to
starts_named [] [] e = absurd (false≢true e)
starts_named [] (b ∷ file) e = step (eqb b 10) e
  where
    step : (t : Bool) → (t && true) ≡ true → length (cond t [] (b ∷ up_to 10 file)) < suc (length file)
    step true e = omega arith
    step false e = absurd (false≢true e)
starts_named (x ∷ names) [] e = absurd (false≢true e)
starts_named (x ∷ names) (b ∷ file) e = step (eqb b 10) (starts_named names file (and_right (eqb b x) (starts (names ++ (10 ∷ [])) file) e))
  where
    step : (t : Bool) → length (up_to 10 file) < length file → length (cond t [] (b ∷ up_to 10 file)) < suc (length file)
    step true h = omega arith
    step false h = omega arith
