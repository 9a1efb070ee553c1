use Rattle.checker.proofs.Longest.{reported}
use Rattle.checker.proofs.check.Goals as goal

pub returns-clause-answer : goal.returns-clause-answer
returns-clause-answer g c = reported _ _ _ _ c.in_ok-job.ensures.first c.search.ensures
