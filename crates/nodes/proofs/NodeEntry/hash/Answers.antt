use Rattle.std.proofs.Common.{rules}
use Rattle.nodes.specs.Hash.{mixed}
use Rattle.nodes.proofs.NodeEntry.hash.Goals as goal

pub returns : goal.returns
unfolding mixed
returns c = search rules
