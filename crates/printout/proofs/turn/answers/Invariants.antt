use mathlib.Core.Path.{◌≡◌}
use mathlib.Core.Bool.{true}
use Prim.Native.Nat.{◌*◌, ◌≤◌}
use lib.ListN.{length, take}
use Rattle.records.specs.Encoding.{recipe_from}
use Rattle.printout.specs.Turn.{Answers}
use Rattle.printout.proofs.turn.answers.Given as goal

abbrev pub invariant-loop-byte : goal.invariant-loop-byte
invariant-loop-byte l =
    record {
      size : length l.text ≡ length l.initial.text;
      few : l.all.length ≤ 64 * l.byte-index;
      more : l.all.more ≡ true;
      answers : Answers l.cell (recipe_from l.recipes) l.table l.initial.all.run (take l.byte-index l.bytes) l.text l.all;
    }
