use Rattle.std.proofs.Common.{ap, length}
use Rattle.order.specs.Listing.{is_order}
use Rattle.order.proofs.order.OrderDefault.default.Goals as goal

pub invariant_of-result : goal.invariant_of-result
unfolding is_order
invariant_of-result c = record { once = ap (λ xs. is_order (length xs) xs) c.new.ensures }
