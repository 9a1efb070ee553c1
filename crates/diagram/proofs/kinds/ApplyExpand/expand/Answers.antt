use Rattle.std.proofs.Common.{true, false, arith}
use Rattle.diagram.proofs.Expanding.{expands_both}
use Rattle.diagram.proofs.kinds.ApplyExpand.expand.Goals as goal

pub returns-clause-low : goal.returns-clause-low
returns-clause-low g c =
    expands_both c.args.diagram.now _ _ c.operand-a.ensures _ g.O.Operator.OP _ _ c.operand-b.ensures
    (omega (arith, c.min-variable.ensures, c.top.ensures, c.top-2.ensures)) c.requires.posed c.requires.unsettled
    false _ _ c.half.ensures c.half-2.ensures

pub returns-clause-high : goal.returns-clause-high
returns-clause-high g c =
    expands_both c.args.diagram.now _ _ c.operand-a.ensures _ g.O.Operator.OP _ _ c.operand-b.ensures
    (omega (arith, c.min-variable.ensures, c.top.ensures, c.top-2.ensures)) c.requires.posed c.requires.unsettled
    true _ _ c.half-3.ensures c.half-4.ensures
