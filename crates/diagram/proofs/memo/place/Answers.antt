use Rattle.std.proofs.Common.{rules}
use Rattle.diagram.specs.Remembered.{place}
use Rattle.diagram.proofs.memo.place.Goals as goal

pub returns-clause-hashed : goal.returns-clause-hashed
unfolding place
returns-clause-hashed c = search rules
