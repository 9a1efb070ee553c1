use Rattle.diagram.proofs.Tasks.{settled_both}
use Rattle.diagram.proofs.kinds.ApplyExpand.at_once.Goals as goal

pub returns : goal.returns
returns g c = settled_both c.args._diagram.now g.O.Operator.OP c.args.self.a c.args.self.b c.by_sides.result c.requires (rw c.OP.ensures at c.by_sides.ensures)
