use Rattle.std.proofs.Common.{ap, sym, ◌∙◌}
use Rattle.order.specs.Listing.{order_of}
use Rattle.order.proofs.Calls.{made_ordered, made_as_below, reply_vars}
use Rattle.order.proofs.Lists.{permutes_order}
use Rattle.order.proofs.Rename.{reorders}
use Rattle.order.proofs.LayerStore.answer.Goals as goal

pub invariant_of-self : goal.invariant_of-self
invariant_of-self g c = record { fits = λ some. c.args.self.now.fits some ∙ sym (reply_vars _ _ _ _ _ _ c.answer.ensures) }

pub returns-clause-told : goal.returns-clause-told
returns-clause-told g c =
    let l = c.args.self.now in
    made_ordered l.order.places.items _ l.order.once l.fits _ _ _ _ c.task_below.ensures c.answer.ensures

pub returns-clause-below : goal.returns-clause-below
returns-clause-below g c =
    let l = c.args.self.now in
    made_as_below l.order.places.items _ l.order.once l.fits _ _ _ _ c.task_below.ensures c.answer.ensures

pub returns-clause-order : goal.returns-clause-order
returns-clause-order g c =
    let places = c.args.self.now.order.places.items in
    ap (λ n. order_of n places) (reply_vars _ _ _ _ _ _ c.answer.ensures)

pub returns-clause-reorders : goal.returns-clause-reorders
returns-clause-reorders g c = reorders _ _ (permutes_order _ c.args.self.now.order.places.items) c.answer.ensures.after
