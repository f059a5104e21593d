use mathlib.Core.Path.{refl}
use native.Mathlib.Omega.{arith}
use lib.ListN.{set, length-set}
use Rattle.records.specs.Encoding.{recipe_row, recipe_bytes}
use Rattle.records.proofs.ByteRows.{put_none, put_more, put_all}
use Rattle.records.proofs.put.put_recipe.Goals as goal

pub loop-i-init : goal.loop-i-init
loop-i-init c = put_none (recipe_row c.args.recipe) 7 c.args.recipe.count c.args.buffer.now (omega arith)

pub loop-i-preserved : goal.loop-i-preserved
unfolding recipe_row
loop-i-preserved c =
    let l = c.loop-i in
    let x = c.args.recipe in
    let old = set c.args.buffer.now 0 x.count in
    rw c.put.ensures
    (put_more (recipe_row x) 7 (λ n. refl) x.count old l.i l.buffer l.invariant (omega (arith, length-set c.args.buffer.now 0 x.count, c.requires.1)))

pub returns : goal.returns
unfolding recipe_bytes
returns c =
    let l = c.loop-i in
    let x = c.args.recipe in
    put_all (recipe_row x) 7 x.count c.args.buffer.now l.i 449 l.buffer l.invariant (omega arith) refl
