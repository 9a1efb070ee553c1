use Rattle.engine.proofs.step.Step.+valuation.Given as goal

abbrev pub decreases-valuation : goal.decreases-valuation
decreases-valuation l = l.n
