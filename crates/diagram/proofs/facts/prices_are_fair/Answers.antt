use Rattle.nodes.proofs.Facts.{fair_prices}
use Rattle.diagram.proofs.facts.prices_are_fair.Goals as goal

pub returns : goal.returns
returns c = fair_prices
