use Rattle.std.proofs.Common.{arith}
use Rattle.diagram.proofs.Fields.{few_of}
use Rattle.diagram.proofs.Diagram.used.Goals as goal

pub overflow_cast-result : goal.overflow_cast-result
overflow_cast-result c = let d = c.args.self.now in omega (arith, few_of d, d.small, c.len.ensures)
