use mathlib.Core.Path.{◌≡◌, refl}
use mathlib.Core.List.{◌∷◌}
use native.Mathlib.Omega.{arith}
use lib.ListN.{length, get_or, set, length-set}
use borrow.Author.Rules.{rules}
use Rattle.refusals.proofs.TabulatedLists.{tabulate_is}
use Rattle.records.specs.Encoding.{rows_of, cell_row, cell_bytes}
use Rattle.buffers.proofs.StoredBytes.{put_next}
use Rattle.records.proofs.ByteRows.{rows_length, put_none, put_more, put_all}
use Rattle.records.proofs.put.put_cell.Goals as goal

pub loop-i-init : goal.loop-i-init
loop-i-init c = put_none (cell_row c.args.cell) 5 c.args.cell.count c.args.buffer.now (omega arith)

pub loop-i-preserved : goal.loop-i-preserved
unfolding cell_row
loop-i-preserved c =
    let l = c.loop-i in
    let x = c.args.cell in
    let old = set c.args.buffer.now 0 x.count in
    rw c.put.ensures
    (put_more (cell_row x) 5 (λ n. refl) x.count old l.i l.buffer l.invariant (omega (arith, length-set c.args.buffer.now 0 x.count, c.requires.1)))

pub returns : goal.returns
unfolding cell_row cell_bytes
returns c =
    let l = c.loop-i in
    let x = c.args.cell in
    let six : length x.limits ≡ 6 = search rules in
    let lines = put_all (cell_row x) 5 x.count c.args.buffer.now l.i 321 l.buffer l.invariant (omega arith) refl in
    rw (tabulate_is (λ k. get_or x.limits k 0) x.limits 6 six (λ k low. refl))
    (put_next (x.count ∷ rows_of (cell_row x) 64) c.args.buffer.now x.limits l.buffer _ 321 327 lines c.put-2.ensures
    (omega (arith, rows_length (cell_row x) 5 (λ n. refl) 64)) (omega (arith, six)) c.requires.1)
