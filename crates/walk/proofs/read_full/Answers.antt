use Rattle.std.proofs.Common.{subst, sym, rules}
use Rattle.std.specs.Io.KnownBytes.{Consumes}
use Rattle.std.proofs.KnownBytes.{Consumes-trans}
use Rattle.walk.proofs.StartFilled.{start_filled}
use Rattle.walk.proofs.read_full.Goals as goal

pub loop-done-preserved : goal.loop-done-preserved
loop-done-preserved g c =
    let read = c.read_some-got in
    record {
      inside = search rules;
      taken =
          subst (Consumes _ _) (sym (start_filled _ _ _ c.loop-done.start read.new.bytes c.loop-done.invariant.inside read.ensures.inside.0))
          (Consumes-trans _ _ _ _ _ c.loop-done.invariant.taken read.ensures.read);
    }
