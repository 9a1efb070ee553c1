use Rattle.runs.proofs.steps_back_are_exact.Goals as goal
use Rattle.runs.proofs.Numbers.{spreads}
use Rattle.runs.proofs.Steps.{steps_back, quantified_is, sets_same}

pub returns : goal.returns
returns c = record { steps = steps_back; inputs = quantified_is; sets = sets_same; spreads = spreads }
