use Rattle.nodes.proofs.Facts.{pairs_cost_six}
use Rattle.diagram.proofs.facts.pairs_price.Goals as goal

pub returns : goal.returns
returns c = pairs_cost_six
