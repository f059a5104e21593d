use mathlib.Core.Path.{◌≡◌, ◌∙◌}
use lib.Dec.{eqb}
use Rattle.std.proofs.Common.{rules, tests}
use Rattle.std.specs.List.{position}
use Rattle.std.proofs.lemmas.Iterator.{YieldsList-from_slice}
use Rattle.std.proofs.lemmas.Iterator.Search.{position_from_yields_List}
use Rattle.tables.proofs.TextPieces.{up_to_found}
use Rattle.tables.proofs.lines.line_length.Goals as goal

pub returns : goal.returns
returns c =
    let s = c.args.text.now in
    let found : c.position.result ≡ position (λ b. eqb b 10) s =
    position_from_yields_List _ _ _ c.position.result c.position.ensures.ran (YieldsList-from_slice s cc) (λ x b q k. search (rules, tests)) in
    c.unwrap_or.ensures ∙ rw found (up_to_found 10 s)
