use Rattle.std.proofs.Common.{rules}
use Rattle.table.specs.Hash.{mixed}
use Rattle.table.proofs.truths.TruthsEntry.hash.Goals as goal

pub returns : goal.returns
unfolding mixed
returns c = search rules
