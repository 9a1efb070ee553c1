use Rattle.runs.proofs.sets_are_exact.Goals as goal
use Rattle.runs.proofs.Sets.{sets}

pub returns : goal.returns
returns c = sets
