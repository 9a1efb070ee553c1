use Rattle.claim.proofs.Decimals.{decimals}
use Rattle.claim.proofs.numbers_are_spelled_once.Goals as goal

pub returns : goal.returns
returns c = decimals
