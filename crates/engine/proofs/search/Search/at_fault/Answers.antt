use Rattle.std.proofs.Common.{sym, ◌∙◌}
use Rattle.engine.proofs.Readings.{told_still, refused, first_fails, second_tells, assumed_is, property_is, negated}
use Rattle.engine.proofs.search.Search.at_fault.Goals as goal

pub returns-in_err-truth-clause-faults : goal.returns-in_err-truth-clause-faults
returns-in_err-truth-clause-faults g c m h lq lv = refused (sym c.in_err-truth.was ∙ assumed_is _ m c.args.self.now.parts h c.args.step.state c.args.step.input _ lq lv c.truth.ensures.tells)

pub returns-in_err-truth-2-clause-faults : goal.returns-in_err-truth-2-clause-faults
returns-in_err-truth-2-clause-faults g c m h lq lv = refused (sym c.in_err-truth-2.was ∙ property_is _ m c.args.self.now.parts h c.args.step.state c.args.step.input _ lq lv
    (told_still _ _ _ _ _ _ _ c.truth.ensures.same c.truth-then-branch.ensures.tells))

pub returns-in_ok-truth-2-clause-faults : goal.returns-in_ok-truth-2-clause-faults
returns-in_ok-truth-2-clause-faults g c m h lq lv = second_tells c.in_ok-truth.field-0 _ _
    (sym c.in_ok-truth.was ∙ assumed_is _ m c.args.self.now.parts h c.args.step.state c.args.step.input _ lq lv c.truth.ensures.tells) _ c.if-branch.true
    (negated (sym c.in_ok-truth-2.was ∙ property_is _ m c.args.self.now.parts h c.args.step.state c.args.step.input _ lq lv
    (told_still _ _ _ _ _ _ _ c.truth.ensures.same c.truth-then-branch.ensures.tells)))

pub returns-else-branch-clause-faults : goal.returns-else-branch-clause-faults
returns-else-branch-clause-faults g c m h lq lv = first_fails c.in_ok-truth.field-0 _ _
    (sym c.in_ok-truth.was ∙ assumed_is _ m c.args.self.now.parts h c.args.step.state c.args.step.input _ lq lv c.truth.ensures.tells) c.if-branch.false
