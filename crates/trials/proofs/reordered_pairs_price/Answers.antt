use Rattle.std.proofs.Common.{◌≡◌, ℕ, ◌&&◌, List, [], ◌∷◌, refl, ◌∙◌, arith, lit<}
use Rattle.store.specs.Fun.{eqv}
use Rattle.nodes.specs.Facts.{pairs}
use Rattle.nodes.specs.Price.{constant, cost}
use Rattle.nodes.specs.Shows.{shown}
use Rattle.nodes.proofs.Facts.{empty_price}
use Rattle.nodes.proofs.Laws.{lawful}
use Rattle.nodes.proofs.Props.{sound_none}
use Rattle.order.specs.Facts.{StandsFor}
use Rattle.order.specs.Listing.{is_order, order_of}
use Rattle.order.proofs.Lists.{permutes_order}
use Rattle.order.proofs.Rename.{price_as}
use Rattle.trials.proofs.reordered_pairs_price.Goals as goal

abbrev order : List ℕ
order = 0 ∷ 2 ∷ 1 ∷ 3 ∷ []

counted : cost 4 (constant 4) (pairs 0 2 1 3) ≡ 9
unfolding cost
counted = refl

-- below, b is variable 2 and c variable 1
stands : StandsFor 4 (order_of 4 order) (pairs 0 1 2 3) (pairs 0 2 1 3)
unfolding is_order
stands w v _ _ h i = eqv (h 0 (lit< tt) i) (h 1 (lit< tt) i) && eqv (h 2 (lit< tt) i) (h 3 (lit< tt) i)

pub returns : goal.returns
returns c capacity small =
    price_as (order_of 4 order) (shown 4 [] capacity) (permutes_order 4 order)
    (lawful 4 capacity (omega arith) (omega arith) small [] (omega arith) (sound_none 4)) (pairs 0 1 2 3) (pairs 0 2 1 3) stands
    ∙ empty_price 4 capacity (pairs 0 2 1 3)
    ∙ counted
