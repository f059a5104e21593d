-- In a joint step each out has one in on its port, and each in one out. Assumes nothing.
use mathlib.Core.Path.{◌≡◌, refl}
use mathlib.Core.Bool.{Bool, true, false, cond}
use Prim.Native.Nat.{ℕ, zero, suc, ◌<◌, ◌≤◌}
use native.Mathlib.Omega.{arith}
use lib.Dec.{eqb}
use borrow.Author.Tests.{eqb-true, eqb-false, eq-eqb, leb-true, le-leb}
use Rattle.refusals.specs.Verdict.{Accepted}
use Rattle.refusals.specs.Search.{all_below, count_below}
use Rattle.refusals.proofs.Scan.{first_one}
use Rattle.refusals.proofs.EveryBelow.{all_by, all_at, count_none, count_many}
use Rattle.refusals.proofs.Verdicts.{and_left, and_right}
use Rattle.cell.specs.declared.Cell.{Cell}
use Rattle.cell.specs.Rules.{check_cell}
use Rattle.positions.specs.declared.Configuration.{Configuration}
use Rattle.steps.specs.Lines.{act_of, arg_of}
use Rattle.steps.specs.Joint.{Choice, acts_on, how_many, port_fits, is_step, receiver}
use Rattle.steps.proofs.ReadyLines.{both, line_is, arg_low, may_low, step_may}
use Rattle.steps.proofs.PortCounts.{of_two}

-- a number below n that passes
pub record Passing (f : ℕ → Bool) (n : ℕ) : Type 0 where
  pub at : ℕ
  pub low : at < n
  pub holds : f at ≡ true

-- what it says of the numbers that pass how many they are
module _ (f : ℕ → Bool) where
  found : (n : ℕ) → 1 ≤ count_below f n → Passing f n
  unfolding count_below
  found zero some = absurd (omega arith)
  found (suc n) some = decide (found n) (f n) refl some
    where
      decide :
          (1 ≤ count_below f n → Passing f n)
          → (b : Bool)
          → f n ≡ b
          → 1 ≤ cond b (suc (count_below f n)) (count_below f n)
          → Passing f (suc n)
      decide earlier true here more = record { at = n; low = omega arith; holds = here }
      decide earlier false here more =
          let before : Passing f n = earlier more in
          record { at = before.at; low = omega arith; holds = before.holds }

  counted : (n : ℕ) → Passing f n → 1 ≤ count_below f n
  counted n one = count_many f (λ j. one.at) n 1 (λ j less. one.low) (λ j less. one.holds) (λ i j less most same. omega arith)

  same_one : (n i j : ℕ) → count_below f n ≤ 1 → i < n → j < n → f i ≡ true → f j ≡ true → i ≡ j
  same_one n i j most i-low j-low i-holds j-holds = decide (eqb i j) refl
    where
      differ : (i ≡ j → ⊥) → (u v : ℕ) → u < v → v < 2 → cond (eqb u 0) i j ≡ cond (eqb v 0) i j → ⊥
      differ ne zero zero less low same = omega arith
      differ ne zero (suc zero) less low same = ne same
      differ ne zero (suc (suc v)) less low same = omega arith
      differ ne (suc u) v less low same = omega arith

      decide : (b : Bool) → eqb i j ≡ b → i ≡ j
      decide true e = eqb-true i j e
      decide false e =
          let two : 2 ≤ count_below f n =
          count_many f (λ u. cond (eqb u 0) i j) n 2 (of_two (λ u. cond (eqb u 0) i j < n) i-low j-low)
          (of_two (λ u. f (cond (eqb u 0) i j) ≡ true) i-holds j-holds) (differ (eqb-false i j e)) in
          absurd (omega arith)

  few : (n : ℕ) → ((i j : ℕ) → i < n → j < n → f i ≡ true → f j ≡ true → i ≡ j) → count_below f n ≤ 1
  unfolding count_below
  few zero one = omega arith
  few (suc n) one = decide (few n (λ i j i-low j-low. one i j (omega arith) (omega arith))) (f n) refl
    where
      other : f n ≡ true → (i : ℕ) → i < n → f i ≡ false
      other here i low = choose (f i) refl
        where
          choose : (b : Bool) → f i ≡ b → f i ≡ false
          choose false e = e
          choose true e = absurd (omega (arith, one i n (omega arith) (omega arith) e here))

      decide : count_below f n ≤ 1 → (b : Bool) → f n ≡ b → cond b (suc (count_below f n)) (count_below f n) ≤ 1
      decide before true here = omega (arith, count_none f n (other here))
      decide before false here = before

-- two counts of at most one, of which neither is zero alone
alike : (s t : ℕ) → s ≤ 1 → t ≤ 1 → (1 ≤ s → 1 ≤ t) → (1 ≤ t → 1 ≤ s) → s ≡ t
alike zero zero s-most t-most there back = refl
alike zero (suc t) s-most t-most there back = absurd (omega (arith, back (omega arith)))
alike (suc s) t s-most t-most there back = omega (arith, there (omega arith))

-- "For each port, there is no in and no out, or one of each."
pub record Paired (c : Cell) (x : Choice) : Type 0 where
  pub in_for : (port k : ℕ) → k < 6 → acts_on c 3 port (x k) ≡ true → Passing (λ i. acts_on c 2 port (x i)) 6
  pub out_for : (port i : ℕ) → i < 6 → acts_on c 2 port (x i) ≡ true → Passing (λ k. acts_on c 3 port (x k)) 6
  pub in_one : (port i j : ℕ) → i < 6 → j < 6 → acts_on c 2 port (x i) ≡ true → acts_on c 2 port (x j) ≡ true → i ≡ j
  pub out_one : (port i j : ℕ) → i < 6 → j < 6 → acts_on c 3 port (x i) ≡ true → acts_on c 3 port (x j) ≡ true → i ≡ j

module _ (c : Cell) (x : Choice) where
  -- choices with their ins and outs in pairs fit each port
  pub paired_fits : Paired c x → all_below (port_fits c x) 64 ≡ true
  unfolding port_fits how_many
  paired_fits paired = all_by (port_fits c x) 64 each
    where
      each : (port : ℕ) → port < 64 → port_fits c x port ≡ true
      each port low =
          let ins : ℕ → Bool = λ k. acts_on c 2 port (x k) in
          let outs : ℕ → Bool = λ k. acts_on c 3 port (x k) in
          let in-few : count_below ins 6 ≤ 1 = few ins 6 (paired.in_one port) in
          let out-few : count_below outs 6 ≤ 1 = few outs 6 (paired.out_one port) in
          let out_there : 1 ≤ count_below ins 6 → 1 ≤ count_below outs 6 =
          λ some. counted outs 6
          (let one = found ins 6 some in paired.out_for port one.at one.low one.holds) in
          let in_there : 1 ≤ count_below outs 6 → 1 ≤ count_below ins 6 =
          λ some. counted ins 6
          (let one = found outs 6 some in paired.in_for port one.at one.low one.holds) in
          both _ _ (eq-eqb _ _ (alike (count_below ins 6) (count_below outs 6) in-few out-few out_there in_there)) (le-leb _ _ out-few)

  -- the receiver takes the in
  pub receives : Paired c x → (port i : ℕ) → i < 6 → acts_on c 2 port (x i) ≡ true → receiver c x port ≡ i
  unfolding receiver
  receives paired port i low here = first_one (λ k. acts_on c 2 port (x k)) i 6 low here other
    where
      other : (j : ℕ) → j < i → acts_on c 2 port (x j) ≡ false
      other j less = decide (acts_on c 2 port (x j)) refl
        where
          decide : (b : Bool) → acts_on c 2 port (x j) ≡ b → acts_on c 2 port (x j) ≡ false
          decide false e = e
          decide true e = absurd (omega (arith, paired.in_one port j i (omega arith) low e here))

  module _ (good : check_cell c ≡ Accepted) (a : Configuration) (step : is_step c a x ≡ true) where
    -- an act that is taken is on a port below 64
    port_low : (act port k : ℕ) → k < 6 → acts_on c act port (x k) ≡ true → port < 64
    unfolding acts_on
    port_low act port k low = decide (x k) refl
      where
        decide : (u : ℕ) → x k ≡ u → acts_on c act port u ≡ true → port < 64
        decide zero e here = let z : ◌≡◌ {A = ℕ} 0 1 = cc in absurd (omega arith)
        decide (suc l) e here =
            let there : l < c.count = may_low c a k l (step_may c a x k l step low e) in
            let acted : act_of c l ≡ act = eqb-true _ _ (search and_left) in
            let on : arg_of c l ≡ port = eqb-true _ _ (search and_right) in
            omega (arith, arg_low c good act l (line_is c act l there acted))

    fits_at : (port : ℕ) → port < 64 → port_fits c x port ≡ true
    unfolding is_step
    fits_at port low = all_at (port_fits c x) 64 port (search and_right) low

    same_many : (port : ℕ) → port < 64 → how_many c x 2 port ≡ how_many c x 3 port
    unfolding port_fits
    same_many port low = let fits : port_fits c x port ≡ true = fits_at port low in eqb-true _ _ (search and_left)

    few_out : (port : ℕ) → port < 64 → how_many c x 3 port ≤ 1
    unfolding port_fits
    few_out port low = let fits : port_fits c x port ≡ true = fits_at port low in leb-true _ _ (search and_right)

    pub step_paired : Paired c x
    unfolding how_many
    step_paired =
        record {
          in_for = λ port k low here.
              let inside : port < 64 = port_low 3 port k low here in
              found (λ i. acts_on c 2 port (x i)) 6
              (omega (
                arith,
                same_many port inside,
                counted (λ i. acts_on c 3 port (x i)) 6 (record { at = k; low = low; holds = here }),
              ));
          out_for = λ port i low here.
              let inside : port < 64 = port_low 2 port i low here in
              found (λ k. acts_on c 3 port (x k)) 6
              (omega (
                arith,
                same_many port inside,
                counted (λ k. acts_on c 2 port (x k)) 6 (record { at = i; low = low; holds = here }),
              ));
          in_one = λ port i j i-low j-low i-here j-here.
              let inside : port < 64 = port_low 2 port i i-low i-here in
              same_one (λ k. acts_on c 2 port (x k)) 6 i j (omega (arith, same_many port inside, few_out port inside)) i-low j-low i-here j-here;
          out_one = λ port i j i-low j-low i-here j-here.
              same_one (λ k. acts_on c 3 port (x k)) 6 i j (few_out port (port_low 3 port i i-low i-here)) i-low j-low i-here j-here;
        }
