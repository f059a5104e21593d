use mathlib.Core.Path.{◌≡◌, refl, ap, ◌∙◌}
use mathlib.Core.List.{[], ◌∷◌, ◌++◌}
use Prim.Native.Nat.{ℕ, suc}
use native.Mathlib.Omega.{arith}
use lib.ListN.{length, get_or, length-append}
use Rattle.refusals.proofs.TabulatedLists.{tabulate_is}
use Rattle.capi.specs.Encoding.{run_bytes}
use Rattle.buffers.proofs.StoredBytes.{put_next, put_three}
use borrow.Author.Rules.{rules}
use Rattle.capi.proofs.put.put_run.Goals as goal

pub returns : goal.returns
unfolding run_bytes
returns c =
    let old = c.args.buffer.now in
    let state = c.args.run.configuration.state in
    let place = c.args.run.configuration.place in
    let point = c.args.run.point ∷ [] in
    let chapter = c.args.run.chapter ∷ [] in
    let six : length state ≡ 6 = search rules in
    let eight : length place ≡ 8 = search rules in
    let three = put_three old _ _ _ point state place 1 7 15 refl c.put.ensures c.put-2.ensures refl (omega (arith, six)) (omega (arith, eight)) (omega (arith, c.requires)) in
    let all = put_next ((point ++ state) ++ place) old chapter _ _ 15 16 three refl
    (ap (λ (n : ℕ). suc n) (length-append state place) ∙ omega (arith, six, eight)) refl c.requires in
    rw (tabulate_is (λ k. get_or state k 0) state 6 six (λ k low. refl), tabulate_is (λ n. get_or place n 0) place 8 eight (λ n low. refl))
    all
