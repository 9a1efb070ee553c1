use Rattle.std.proofs.Common.{rules}
use Rattle.table.proofs.Records.{record_told}
use Rattle.table.proofs.Table.record.Goals as goal

pub returns-clause-told : goal.returns-clause-told
returns-clause-told c =
    let d = c.args.self.now in
    record_told d.n _ _ d.apart c.args.a c.in_ok-place.place _ (search rules) c.get.ensures
