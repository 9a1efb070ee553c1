use Rattle.std.proofs.Common.{◌≡◌}
use Rattle.nodes.specs.Graph.{value}
use Rattle.diagram.specs.Shows.{listed}
use Rattle.diagram.proofs.Diagram.truth.Given as goal

abbrev pub invariant-loop-node : goal.invariant-loop-node
invariant-loop-node l = value (listed l.self) l.at l.w ≡ value (listed l.self) l.a l.w

abbrev pub decreases-loop-node : goal.decreases-loop-node
decreases-loop-node l = l.at
