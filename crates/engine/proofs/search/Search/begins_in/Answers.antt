use Rattle.std.proofs.Common.{sym, ◌∙◌}
use Rattle.engine.proofs.Readings.{told_still, refused, first_fails, second_tells, init_is, set_is}
use Rattle.engine.proofs.search.Search.begins_in.Goals as goal

pub returns-in_err-truth-clause-begins : goal.returns-in_err-truth-clause-begins
returns-in_err-truth-clause-begins g c m i h e l = refused (sym c.in_err-truth.was ∙ init_is _ m c.args.self.now.parts h c.args.state _ l (rw c.at-start.ensures at c.truth.ensures.tells))

pub returns-in_err-truth-2-clause-begins : goal.returns-in_err-truth-2-clause-begins
returns-in_err-truth-2-clause-begins g c m i h e l = refused (sym c.in_err-truth-2.was ∙ set_is _ m c.args.self.now.parts h i c.args.set c.args.state _ e l
    (told_still _ _ _ _ _ _ _ c.truth.ensures.same (rw c.at-start.ensures at c.truth-then-branch.ensures.tells)))

pub returns-in_ok-truth-2-clause-begins : goal.returns-in_ok-truth-2-clause-begins
returns-in_ok-truth-2-clause-begins g c m i h e l = second_tells c.in_ok-truth.field-0 _ _
    (sym c.in_ok-truth.was ∙ init_is _ m c.args.self.now.parts h c.args.state _ l (rw c.at-start.ensures at c.truth.ensures.tells)) _ c.if-branch.true
    (sym c.in_ok-truth-2.was ∙ set_is _ m c.args.self.now.parts h i c.args.set c.args.state _ e l (told_still _ _ _ _ _ _ _ c.truth.ensures.same (rw c.at-start.ensures at c.truth-then-branch.ensures.tells)))

pub returns-else-branch-clause-begins : goal.returns-else-branch-clause-begins
returns-else-branch-clause-begins g c m i h e l = first_fails c.in_ok-truth.field-0 _ _
    (sym c.in_ok-truth.was ∙ init_is _ m c.args.self.now.parts h c.args.state _ l (rw c.at-start.ensures at c.truth.ensures.tells)) c.if-branch.false
