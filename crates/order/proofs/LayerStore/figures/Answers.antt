use Rattle.std.proofs.Common.{ap}
use Rattle.order.specs.Listing.{order_of}
use Rattle.order.proofs.Calls.{figures_ordered}
use Rattle.order.proofs.LayerStore.figures.Goals as goal

pub returns-clause-told : goal.returns-clause-told
returns-clause-told g c = figures_ordered c.args.self.now.order.places.items _ _ c.figures.ensures.told

pub returns-clause-order : goal.returns-clause-order
returns-clause-order g c = ap (λ s. order_of s.vars c.args.self.now.order.places.items) c.figures.ensures.same
