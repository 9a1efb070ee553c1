use Rattle.std.proofs.Common.{arith}
use Rattle.std.proofs.lemmas.Bool.{ltb-true}
use Rattle.diagram.proofs.Operands.{half_read}
use Rattle.diagram.proofs.Tasks.{settled_cofactor}
use Rattle.diagram.proofs.kinds.RestrictExpand.at_once.Goals as goal

pub returns-then-self-top : goal.returns-then-self-top
returns-then-self-top c =
    let d = c.args.diagram.now in
    let x = c.args.self in
    settled_cofactor d x.a x.i x.t c.half.result c.requires
    (half_read d x.a c.operand-a.result c.operand-a.ensures x.i x.t _ c.half.ensures (ltb-true x.i d.n c.requires.1) (omega (arith, c.top.ensures, c.if-self-top.true)))
