use Rattle.diagram.proofs.Tasks.{settled_not}
use Rattle.diagram.proofs.kinds.ComplementExpand.at_once.Goals as goal

pub returns : goal.returns
returns c = settled_not c.args._diagram.now c.args.self.a c.checked_sub.result c.requires c.checked_sub.ensures
