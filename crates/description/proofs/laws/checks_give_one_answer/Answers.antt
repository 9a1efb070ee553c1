use Rattle.description.proofs.Checks.{some_check, one_check}
use Rattle.description.proofs.laws.checks_give_one_answer.Goals as goal

pub returns : goal.returns
returns c width x a p = record { always = some_check width x a p; one = λ r r' h h'. one_check h h' }
