use Rattle.std.proofs.Common.{true, false}
use Rattle.diagram.proofs.Expanding.{expands_cofactor}
use Rattle.diagram.proofs.kinds.RestrictExpand.expand.Goals as goal

pub returns-clause-low : goal.returns-clause-low
returns-clause-low c =
    expands_cofactor c.args.diagram.now _ _ c.operand-a.ensures _ c.args.self.i c.args.self.t c.top-variable.ensures c.requires.posed c.requires.unsettled
    false _ c.half.ensures

pub returns-clause-high : goal.returns-clause-high
returns-clause-high c =
    expands_cofactor c.args.diagram.now _ _ c.operand-a.ensures _ c.args.self.i c.args.self.t c.top-variable.ensures c.requires.posed c.requires.unsettled
    true _ c.half-2.ensures
