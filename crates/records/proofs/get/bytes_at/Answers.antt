use Rattle.records.proofs.ByteRows.{tabulated}
use Rattle.records.proofs.get.bytes_at.Goals as goal

pub returns : goal.returns
returns g c =
    let whole = rw c.unwrap.ensures at c.try_from.ensures.1 in
    tabulated c.args.bytes.now c.args.at g.row.N whole.same c.requires
