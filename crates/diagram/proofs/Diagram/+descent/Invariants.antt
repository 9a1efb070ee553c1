use Rattle.std.proofs.Common.{◌+◌, ◌*◌, ◌-◌}
use Rattle.diagram.specs.Asked.{peak}
use Rattle.diagram.specs.Shows.{listed}
use Rattle.diagram.proofs.Diagram.+descent.Given as goal

-- the distance to variable n falls
abbrev pub decreases-number : goal.decreases-number
decreases-number g l = 2 * (l.self.now.n - peak l.self.now.n (listed l.self.now) (g.T.Expand.asks l.kind)) + 1

abbrev pub decreases-descend : goal.decreases-descend
decreases-descend g l = 2 * (l.self.now.n - peak l.self.now.n (listed l.self.now) (g.T.Expand.asks l.kind))
