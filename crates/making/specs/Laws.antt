-- What a list of making calls leaves, when it is not refused, and how long the lists are.
use Rattle.std.specs.Prelude.{◌≡◌, ℕ, ◌*◌, ◌<◌, ◌≤◌, List, length}
use Rattle.store.specs.Meaning.{Shown, price, free}
use Rattle.claim.specs.Grammar.{post, operators}
use Rattle.claim.specs.Faults.{Read}
use Rattle.runs.specs.Models.{Model, sizes}
use Rattle.making.specs.Making.{Item, Runs, Stops, Held, first, missing}
use Rattle.making.specs.Loads.{load_list, advance_list}
use Rattle.making.specs.Bounds.{load_bound, advance_bound}

pub record ListsAreHeld : Type 0 where
  -- after an accepted list every result is held
  pub held : (s t : Shown) (l : List Item) → Runs s l t → Held t l
  -- the call that was refused is the first whose result is not held then, and its price is above the free units
  pub refused : (s t : Shown) (l : List Item) (x : Item) → Stops s l x t → missing t l ≡ first x
  pub above : (s t : Shown) (l : List Item) (x : Item) → Stops s l x t → free t < price t x.fn
  -- no list is refused for which the free units suffice at the top price
  pub covered : (s t : Shown) (l : List Item) (x : Item) → Stops s l x t → free s < length l * s.top
  -- what the store shows at the end says whether a list was accepted, and which call of it was refused
  pub one_way :
      (s s' t : Shown) (l : List Item) (x : Item)
      → Runs s l t
      → Stops s' l x t
      → ⊥
  pub one_stop :
      (s s' t : Shown) (l : List Item) (x y : Item)
      → Stops s l x t
      → Stops s' l y t
      → x ≡ y

-- a and p are texts that are read as the claims
pub record ListsAreShort (m : Model) : Type 0 where
  pub load :
      (a p : List ℕ)
      → Read a (sizes m.circuit) m.assumption
      → Read p (sizes m.circuit) m.property
      → length (load_list m) ≤ load_bound m (length a) (length p)
  -- no more than the claims' operators count
  pub load_operators : length (load_list m) ≤ load_bound m (operators (post m.assumption)) (operators (post m.property))
  pub advance : (j : ℕ) → length (advance_list m j) ≤ advance_bound m
