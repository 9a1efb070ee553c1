use Rattle.std.proofs.Common.{◌∙◌, arith}
use Rattle.engine.proofs.Searches.{found_least, not_yet}
use Rattle.engine.proofs.finding.smallest.Goals as goal

pub returns-then-branch-clause-finds : goal.returns-then-branch-clause-finds
returns-then-branch-clause-finds g c f t =
    found_least f c.loop-x.x c.in_ok-holds.field-0 (t _ _ c.loop-x.x _ c.loop-x.invariant.0 c.loop-x-test.true c.in_ok-holds.ensures) (c.loop-x.invariant.1 f t)
    _ c.loop-x-test.true c.if-branch.true

pub loop-x-preserved : goal.loop-x-preserved
loop-x-preserved g c = (
  c.requires.still _ _ c.loop-x.x _ c.holds.ensures ∙ c.loop-x.invariant.0,
  λ f t. not_yet f c.loop-x.x c.in_ok-holds.field-0 (t _ _ c.loop-x.x _ c.loop-x.invariant.0 c.loop-x-test.true c.in_ok-holds.ensures) (c.loop-x.invariant.1 f t) c.if-branch.false,
)

pub returns-clause-finds : goal.returns-clause-finds
returns-clause-finds g c f t x l = c.loop-x.invariant.1 f t x (omega arith)
