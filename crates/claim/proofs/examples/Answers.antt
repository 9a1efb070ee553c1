use Rattle.claim.proofs.Tried.{examples}
use Rattle.claim.proofs.examples.Goals as goal

pub returns : goal.returns
returns c = examples
