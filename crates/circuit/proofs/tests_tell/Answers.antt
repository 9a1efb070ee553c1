use Rattle.circuit.proofs.Checks.{tested}
use Rattle.circuit.proofs.tests_tell.Goals as goal

pub returns : goal.returns
returns c = tested
