use Rattle.std.proofs.Common.{Ok, sym, ap, ◌∙◌}
use Rattle.engine.proofs.Readings.{told_still, goes_still, refused, first_fails, second_tells, assumed_is, after_is}
use Rattle.engine.proofs.search.Search.leads_into.Goals as goal

pub returns-in_err-truth-clause-leads : goal.returns-in_err-truth-clause-leads
returns-in_err-truth-clause-leads g c m i h e lq lv = refused (sym c.in_err-truth.was ∙ assumed_is _ m c.args.self.now.parts h c.args.step.state c.args.step.input _ lq lv c.truth.ensures.tells)

pub returns-then-not-branch-clause-leads : goal.returns-then-not-branch-clause-leads
returns-then-not-branch-clause-leads g c m i h e lq lv = ap Ok (sym c.if-not-branch.true) ∙ first_fails c.in_ok-truth.field-0 _ _
    (sym c.in_ok-truth.was ∙ assumed_is _ m c.args.self.now.parts h c.args.step.state c.args.step.input _ lq lv c.truth.ensures.tells) c.if-not-branch.true

pub returns-clause-leads : goal.returns-clause-leads
returns-clause-leads g c m i h e lq lv = second_tells c.in_ok-truth.field-0 _ _
    (sym c.in_ok-truth.was ∙ assumed_is _ m c.args.self.now.parts h c.args.step.state c.args.step.input _ lq lv c.truth.ensures.tells) _ c.if-not-branch.false
    (after_is _ m c.args.self.now.parts h i c.args.set c.args.step.state c.args.step.input c.in_ok-next.next _ e lq lv
    (sym c.in_ok-next.was ∙ goes_still _ _ _ _ _ _ c.truth.ensures.same c.next_state.ensures.goes m h lq lv)
    (told_still _ _ _ _ _ _ _ (c.next_state.ensures.same ∙ c.truth.ensures.same) (rw c.at.ensures at c.truth-2.ensures.tells)))
