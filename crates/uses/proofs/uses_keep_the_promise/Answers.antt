use Rattle.uses.proofs.uses_keep_the_promise.Goals as goal
use Rattle.uses.proofs.Promises.{promised}

pub returns : goal.returns
returns c = promised
