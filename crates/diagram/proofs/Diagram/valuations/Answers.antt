use Rattle.std.proofs.Common.{arith}
use Rattle.std.proofs.lemmas.Nat.{pow_below}
use Rattle.diagram.proofs.Fields.{lawful_of}
use Rattle.diagram.proofs.Diagram.valuations.Goals as goal

pub returns : goal.returns
returns c =
    let d = c.args.self.now in
    record { count = let w = d.wide in let p = pow_below d.n 32 (omega arith) in omega arith; lawful = lawful_of d }
