use Rattle.std.proofs.Common.{true, false}
use Rattle.diagram.proofs.Expanding.{expands_not}
use Rattle.diagram.proofs.kinds.ComplementExpand.expand.Goals as goal

pub returns-clause-low : goal.returns-clause-low
returns-clause-low c = expands_not c.args.diagram.now _ _ c.operand-a.ensures _ c.top-variable.ensures c.requires.posed c.requires.unsettled false _ c.half-off.ensures

pub returns-clause-high : goal.returns-clause-high
returns-clause-high c = expands_not c.args.diagram.now _ _ c.operand-a.ensures _ c.top-variable.ensures c.requires.posed c.requires.unsettled true _ c.half-on.ensures
