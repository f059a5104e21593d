use Rattle.std.proofs.Common.{◌≡◌, true, length}
use Rattle.records.specs.Encoding.{recipe_from}
use Rattle.walk.proofs.InputReads.{FollowingOn}
use Rattle.walk.proofs.follow.Given as goal

abbrev pub invariant-loop : goal.invariant-loop
invariant-loop g l = record {
  on :
      FollowingOn l.cell (recipe_from l.recipes) l.table l.counter l.step
      (g.I.Read.remaining l.fn.input) (g.I.Read.remaining l.input)
      (g.O.Write.contents l.fn.printer.output) (g.O.Write.contents l.printer.output);
  more : l.step.more ≡ true;
  recipes_len : length l.recipes ≡ 449;
  bytes_len : length l.bytes ≡ 1024;
  text_len : length l.text ≡ 65536;
}
