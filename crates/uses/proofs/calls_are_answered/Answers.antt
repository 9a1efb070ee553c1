use Rattle.uses.proofs.calls_are_answered.Goals as goal
use Rattle.uses.proofs.Possible.{possible}

pub returns : goal.returns
returns c = possible
