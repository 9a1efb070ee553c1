use Rattle.std.proofs.Common.{ap}
use Rattle.order.specs.Listing.{order_of}
use Rattle.order.proofs.Calls.{value_ordered, value_as_below}
use Rattle.order.proofs.LayerStore.value.Goals as goal

pub returns-clause-told : goal.returns-clause-told
returns-clause-told g c =
    let l = c.args.self.now in
    value_ordered l.order.places.items _ l.order.once l.fits _ _ _ _ c.valuation_below.ensures c.value.ensures.told

pub returns-clause-below : goal.returns-clause-below
returns-clause-below g c =
    let l = c.args.self.now in
    value_as_below l.order.places.items _ l.order.once l.fits _ _ _ _ c.valuation_below.ensures c.value.ensures.told

pub returns-clause-order : goal.returns-clause-order
returns-clause-order g c = ap (λ s. order_of s.vars c.args.self.now.order.places.items) c.value.ensures.same
