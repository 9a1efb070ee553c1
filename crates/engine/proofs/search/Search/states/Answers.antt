use Rattle.engine.proofs.Spreads.{shifted}
use Rattle.engine.proofs.search.Search.states.Goals as goal

pub returns : goal.returns
returns c = rw (← c.registers.ensures.counts) (shifted c.registers.result c.registers.ensures.few)
