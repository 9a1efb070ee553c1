use Rattle.std.proofs.Common.{rules}
use Rattle.order.proofs.Lists.{short, order_itself}
use Rattle.order.proofs.order.Order.of.Goals as goal

pub returns-in_err-places : goal.returns-in_err-places
returns-in_err-places c = absurd (short c.args.n c.args.p.now (search rules) c.requires (search rules))

pub invariant_of-result : goal.invariant_of-result
invariant_of-result c = record { once = order_itself c.args.n c.args.p.now c.in_ok-places.places.items (search rules) (search rules) }
