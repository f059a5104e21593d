-- Lines by number: each line in range has one, and rising numbers are rising lines. Assumes nothing.
use mathlib.Core.Path.{◌≡◌, refl}
use mathlib.Core.Logic.{◌⊎◌, inl, inr}
use mathlib.Core.Bool.{Bool, true, false, ◌&&◌, ◌||◌}
use Prim.Native.Nat.{ℕ, ◌/◌, ◌%◌, ◌<◌}
use native.Mathlib.Decide.{dec_lt}
use native.Mathlib.Nat.{div-div-eq-div-mul}
use native.Mathlib.Omega.{arith}
use lib.Dec.{eqb, ltb}
use borrow.Author.Tests.{lt-ltb, eq-eqb}
use Rattle.cell.specs.declared.OperationLine.{OperationLine}
use Rattle.install.specs.Order.{comes_before}
use Rattle.install.specs.Search.{line_at, number_of}

-- the numbers of a line that a number can hold
pub record Digits (l : OperationLine) : Type 0 where
  pub from : l.from < 8
  pub operation : l.operation < 64
  pub to : l.to < 8

pub digits_at : (n : ℕ) → Digits (line_at n)
unfolding line_at
digits_at n = record { from = omega arith; operation = omega arith; to = omega arith }

pub number_line : (n : ℕ) → number_of (line_at n) ≡ n
unfolding number_of line_at
number_line n = omega (arith, div-div-eq-div-mul n 8 64, div-div-eq-div-mul n 512 8)

pub line_number : (l : OperationLine) → Digits l → line_at (number_of l) ≡ l
unfolding number_of line_at
line_number l D = λ i. record { resource = resource i; from = from i; operation = operation i; to = to i }
  where
    resource : number_of l / 4096 ≡ l.resource
    resource = omega (arith, D.from, D.operation, D.to)

    from : number_of l / 512 % 8 ≡ l.from
    from = omega (arith, D.from, D.operation, D.to)

    operation : number_of l / 8 % 64 ≡ l.operation
    operation = omega (arith, D.from, D.operation, D.to)

    to : number_of l % 8 ≡ l.to
    to = omega (arith, D.from, D.operation, D.to)

-- one number decides, or the next ones do
either : (a b : ℕ) (rest : Bool) → (a < b) ⊎ ((a ≡ b) × (rest ≡ true)) → (ltb a b || (eqb a b && rest)) ≡ true
either a b rest (inl less) = rw (lt-ltb a b less)
either a b rest (inr same) = last (ltb a b) (rw (eq-eqb a b same.0, same.1))
  where
    last : (t : Bool) {u : Bool} → u ≡ true → (t || u) ≡ true
    last true e = refl
    last false e = e

pub numbers_rise : (l m : OperationLine) → Digits l → Digits m → number_of l < number_of m → comes_before l m ≡ true
unfolding number_of comes_before
numbers_rise l m D E less = either l.resource m.resource _ (first (dec_lt l.resource m.resource))
  where
    third : l.resource ≡ m.resource → l.from ≡ m.from → Dec (l.operation < m.operation)
        → (l.operation < m.operation) ⊎ ((l.operation ≡ m.operation) × (ltb l.to m.to ≡ true))
    third a b (yes low) = inl low
    third a b (no high) =
        let same : l.operation ≡ m.operation = omega (arith, less, D.to, E.to) in
        inr (same, lt-ltb l.to m.to (omega (arith, less)))

    second : l.resource ≡ m.resource → Dec (l.from < m.from)
        → (l.from < m.from)
        ⊎ ((l.from ≡ m.from) × ((ltb l.operation m.operation || (eqb l.operation m.operation && ltb l.to m.to)) ≡ true))
    second a (yes low) = inl low
    second a (no high) =
        let same : l.from ≡ m.from = omega (arith, less, D.to, E.to, D.operation, E.operation) in
        inr (same, either l.operation m.operation _ (third a same (dec_lt l.operation m.operation)))

    first : Dec (l.resource < m.resource)
        → (l.resource < m.resource)
        ⊎ ((l.resource ≡ m.resource)
        × ((ltb l.from m.from
        || (eqb l.from m.from
        && (ltb l.operation m.operation || (eqb l.operation m.operation && ltb l.to m.to))))
        ≡ true))
    first (yes low) = inl low
    first (no high) =
        let same : l.resource ≡ m.resource = omega (arith, less, D.to, E.to, D.operation, E.operation, D.from, E.from) in
        inr (same, either l.from m.from _ (second same (dec_lt l.from m.from)))
