-- Decoding the run that was encoded gives it back, whatever bytes follow; and encoding the run that was decoded gives its bytes
-- back. Assumes nothing.
use mathlib.Core.Path.{◌≡◌, refl, sym}
use mathlib.Core.List.{List, ◌++◌}
use Prim.Native.Nat.{ℕ, ◌≤◌}
use native.Mathlib.Omega.{arith}
use lib.ListN.{length, get_or, take, length-append}
use lib.Seq.{get_or-take, length-take-le}
use borrow.Author.Tests.{le-ltb}
use Rattle.refusals.specs.Search.{tabulate}
use Rattle.refusals.proofs.TabulatedLists.{tabulate_is}
use Rattle.positions.specs.declared.Configuration.{Configuration}
use Rattle.run.specs.declared.Run.{Run}
use Rattle.capi.specs.Encoding.{run_bytes, run_from}

-- a configuration as it stands in memory: six states and eight places
pub record Whole (a : Configuration) : Type 0 where
  pub six : length a.state ≡ 6
  pub eight : length a.place ≡ 8

pub run_length : (run : Run) → length (run_bytes run) ≡ 16
unfolding run_bytes tabulate
run_length run = refl

pub run_back : (run : Run) (rest : List ℕ) → Whole run.configuration → run_from (run_bytes run ++ rest) ≡ run
unfolding run_from run_bytes tabulate
run_back run rest whole =
    let long : 16 ≤ length (run_bytes run ++ rest) = omega (arith, length-append (run_bytes run) rest) in
    rw (le-ltb _ 16 long) (λ i. record {
      point = run.point;
      configuration = record {
        state = tabulate_is (λ k. get_or run.configuration.state k 0) run.configuration.state 6 whole.six (λ k low. refl) i;
        place = tabulate_is (λ n. get_or run.configuration.place n 0) run.configuration.place 8 whole.eight (λ n low. refl) i;
      };
      chapter = run.chapter;
    })

-- a run that was decoded is encoded as the bytes that held it
pub run_bytes_back : (bytes : List ℕ) → 16 ≤ length bytes → run_bytes (run_from bytes) ≡ take 16 bytes
unfolding run_from run_bytes tabulate
run_bytes_back bytes long =
    rw (le-ltb (length bytes) 16 long)
    (tabulate_is (λ n. get_or bytes n 0) (take 16 bytes) 16 (length-take-le 16 bytes long) (λ n low. sym (get_or-take 16 bytes n 0 low)))
