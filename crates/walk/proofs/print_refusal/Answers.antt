use mathlib.Core.Path.{refl, subst}
use Rattle.std.specs.Io.KnownBytes.{Appends}
use Rattle.walk.proofs.FilesDecide.{line_below}
use Rattle.walk.proofs.print_refusal.Goals as goal

pub returns : goal.returns
returns g c = λ written. subst (Appends _ _) (line_below refl c.number.ensures c.put_refusal-length.ensures) (c.print.ensures written)
