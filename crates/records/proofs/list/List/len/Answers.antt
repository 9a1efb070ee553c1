use Rattle.std.proofs.Common.{arith}
use Rattle.std.proofs.lemmas.List.{length-take}
use Rattle.records.specs.Contents.{entries}
use Rattle.records.proofs.list.List.len.Goals as goal

pub returns : goal.returns
unfolding entries
returns g c =
    let l = c.args.self.now in
    omega (arith, l.within, length-take l.used l.records.now)
