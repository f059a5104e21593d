use mathlib.Core.Path.{◌≡◌}
use mathlib.Core.List.{append_assoc}
use Prim.Native.Nat.{◌+◌, ◌-◌}
use native.Mathlib.Omega.{arith}
use lib.ListN.{length}
use lib.Seq.{drop-drop, sets-eq}
use Rattle.buffers.proofs.put.Goals as goal

pub returns : goal.returns
returns c =
    let bytes = c.args.bytes.now in
    let long : c.args.at + length bytes - c.args.at ≡ length bytes = omega arith in
    rw (c.copy_from_slice.ensures.after, long, drop-drop, sets-eq bytes c.args.buffer.now c.args.at c.requires, append_assoc)
