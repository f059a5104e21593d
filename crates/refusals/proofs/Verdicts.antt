-- The verdicts of rules: what they are, and what one that accepts says of what was judged. Assumes nothing.
use mathlib.Core.Path.{◌≡◌, refl}
use mathlib.Core.Logic.{◌⊎◌, inl, inr}
use mathlib.Core.Bool.{Bool, true, false, cond, ◌&&◌, ◌||◌}
use mathlib.Core.List.{List, ◌∷◌}
use Prim.Native.Nat.{ℕ, ◌+◌, ◌<◌, ◌≤◌}
use native.Mathlib.Omega.{arith}
use lib.Dec.{eqb, ltb}
use borrow.Author.Tests.{eqb-false, lt-ltb, le-ltb, ltb-false}
use Rattle.refusals.specs.declared.Refusal.{Refusal}
use Rattle.refusals.specs.declared.Refusal.TheVariants.{Names, Form, LineCount, Range, ResourceGap, NoPartner, PointOrder}
use Rattle.refusals.specs.declared.Refusal.TheVariants.{RepeatedPoint, UnusedField, NoParts, CommonPart, TargetPoint}
use Rattle.refusals.specs.declared.Refusal.TheVariants.{TooManyPositions, TooShort, NotRealisable, RunRange, OutcomeRange, NotOpen}
use Rattle.refusals.specs.declared.Refusal.TheVariants.{AtEnd, LimitResource, FullCell, UnreachedPoint, RejectLine, Chapters}
use Rattle.refusals.specs.declared.Refusal.TheVariants.{RunNumber}
use Rattle.std.specs.Prelude.{Ok, Err}
use Rattle.refusals.specs.Verdict.{Verdict, Accepted, Refused, first_refusal, line_verdict, first_line, no_line, rule3, refusal_in}
use Rattle.refusals.specs.Search.{first_below}
use Rattle.refusals.specs.Refusal.{number_of}
use Rattle.refusals.proofs.Scan.{first_le, first_none, first_past}

pub and_left : (a b : Bool) → (a && b) ≡ true → a ≡ true
and_left true b e = refl
and_left false b e = e

pub and_right : (a b : Bool) → (a && b) ≡ true → b ≡ true
and_right true b e = e
and_right false b e = cc

pub or_left : (a b : Bool) → (a || b) ≡ false → a ≡ false
or_left true b e = e
or_left false b e = refl

pub or_right : (a b : Bool) → (a || b) ≡ false → b ≡ false
or_right true b e = cc
or_right false b e = e

-- one of two tests holds
pub or_cases : (a b : Bool) → (a || b) ≡ true → (a ≡ true) ⊎ (b ≡ true)
or_cases true b e = inl refl
or_cases false b e = inr e

-- a verdict by a test that accepts: the test fails
pub test_fails : (b : Bool) (refusal : Refusal) (line : ℕ) → cond b (Refused refusal line) Accepted ≡ Accepted → b ≡ false
test_fails true refusal line e = cc
test_fails false refusal line e = refl

-- where a rule accepts, no line breaks it
pub none_breaks : (refusal : Refusal) (breaks : ℕ → Bool) (count : ℕ) → first_line refusal breaks count ≡ Accepted → (n : ℕ) → n < count → breaks n ≡ false
unfolding first_line line_verdict
none_breaks refusal breaks count e n low =
    let past : count ≤ first_below breaks count = ltb-false _ _ (test_fails _ _ _ e) in
    first_none breaks n count low (omega (arith, first_le breaks count))

-- where no line breaks a rule, it accepts
pub none_broken : (refusal : Refusal) (breaks : ℕ → Bool) (count : ℕ) → ((n : ℕ) → n < count → breaks n ≡ false) → first_line refusal breaks count ≡ Accepted
unfolding first_line line_verdict
none_broken refusal breaks count none = rw (first_past breaks count none, le-ltb count count (omega arith))

-- a rule that names no line, by its test
pub no_line_broken : (refusal : Refusal) (b : Bool) → b ≡ true → no_line refusal b ≡ Refused refusal 0
unfolding no_line
no_line_broken refusal b e = rw e

pub no_line_kept : (refusal : Refusal) (b : Bool) → b ≡ false → no_line refusal b ≡ Accepted
unfolding no_line
no_line_kept refusal b e = rw e

pub no_line_accepts : (refusal : Refusal) (b : Bool) → no_line refusal b ≡ Accepted → b ≡ false
unfolding no_line
no_line_accepts refusal b e = test_fails b refusal 0 e

-- what rule 3 leaves: "1 to 64 value lines"
pub record CountInRange (count : ℕ) : Type 0 where
  pub some : 1 ≤ count
  pub most : count ≤ 64

pub count_in_range : (count : ℕ) → rule3 count ≡ Accepted → CountInRange count
unfolding rule3
count_in_range count e =
    let no : (eqb count 0 || ltb 64 count) ≡ false = no_line_accepts _ _ e in
    let some : count ≡ 0 → ⊥ = eqb-false count 0 (search or_left) in
    record { some = omega arith; most = ltb-false 64 count (search or_right) }

pub count_some : {done : Unit} (count : ℕ) → rule3 count ≡ Ok done → 1 ≤ count
count_some count e = (count_in_range count e).some

pub count_most : {done : Unit} (count : ℕ) → rule3 count ≡ Ok done → count ≤ 64
count_most count e = (count_in_range count e).most

-- a verdict that refuses does not accept
pub refused_not : {v : Verdict} {refusal : Refusal} {line : ℕ} → v ≡ Refused refusal line → v ≡ Accepted → ⊥
refused_not e f = let z : ◌≡◌ {A = ℕ} 0 1 = cc in omega arith

-- a rule on each line, of which `first` is the first that breaks it: by itself, and before others
module _ (refusal : Refusal) (f : ℕ → Bool) (count first : ℕ) (found : first ≡ first_below f count) where
  pub line : {v : Verdict} → v ≡ line_verdict refusal first count → v ≡ first_line refusal f count
  unfolding first_line line_verdict
  line e = rw (← found) e

  pub broken : (rest : List Verdict) → first < count → Refused refusal (first + 2) ≡ first_refusal (first_line refusal f count ∷ rest)
  unfolding first_refusal first_line line_verdict
  broken rest low = rw (← found, lt-ltb first count low)

  pub kept : {v : Verdict} (rest : List Verdict) → count ≤ first → v ≡ first_refusal rest → v ≡ first_refusal (first_line refusal f count ∷ rest)
  unfolding first_refusal first_line line_verdict
  kept rest high next = rw (← found, le-ltb first count high) next

-- no refusal has the number 0
number_some : (refusal : Refusal) → 1 ≤ number_of refusal
number_some Names = omega arith
number_some Form = omega arith
number_some LineCount = omega arith
number_some Range = omega arith
number_some ResourceGap = omega arith
number_some NoPartner = omega arith
number_some PointOrder = omega arith
number_some RepeatedPoint = omega arith
number_some UnusedField = omega arith
number_some NoParts = omega arith
number_some CommonPart = omega arith
number_some TargetPoint = omega arith
number_some TooManyPositions = omega arith
number_some TooShort = omega arith
number_some NotRealisable = omega arith
number_some RunRange = omega arith
number_some OutcomeRange = omega arith
number_some NotOpen = omega arith
number_some AtEnd = omega arith
number_some LimitResource = omega arith
number_some FullCell = omega arith
number_some UnreachedPoint = omega arith
number_some RejectLine = omega arith
number_some Chapters = omega arith
number_some RunNumber = omega arith

-- so a verdict whose number is 0 accepts
pub zero_accepts : (v : Verdict) → refusal_in v ≡ 0 → v ≡ Accepted
unfolding refusal_in
zero_accepts Accepted none = refl
zero_accepts (Err broken) none = absurd (omega (arith, number_some broken.rule))
