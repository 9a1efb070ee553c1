-- What a layer shows, and the store below it.
use Rattle.std.specs.Prelude.{ℕ}
use Rattle.store.specs.declared.Store as store
use Rattle.store.specs.Meaning.{Shown}
use Rattle.order.specs.declared.Layer.{Layer}
use Rattle.order.specs.Listing.{order_of}
use Rattle.order.specs.Renaming.{ordered}

module _ {S : Type 0} {g : store.Ghosts S} (l : Layer S g) where
  -- what the store below shows
  abbrev pub below : Shown
  below = g.shows l.store

  -- the variable below for each variable
  abbrev pub order : ℕ → ℕ
  order = order_of below.vars l.order.places.items

  abbrev pub above : Shown
  above = ordered l.order.places.items below
