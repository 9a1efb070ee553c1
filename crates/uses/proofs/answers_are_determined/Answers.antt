use Rattle.uses.proofs.answers_are_determined.Goals as goal
use Rattle.uses.proofs.Determined.{determined}

pub returns : goal.returns
returns c = determined
