-- What the session's own numbers stand for.
use Rattle.std.specs.Prelude.{◌≡◌, ℕ, ◌<◌, List, ◌∷◌, Option, Some, None, MatchOption, length, slice_index}
use Rattle.store.specs.Meaning.{Shown, Lawful}
use Rattle.making.specs.Making.{Means}
use Rattle.making.specs.Loads.{registers_of, Kept}
use Rattle.runs.specs.Valuations.{claim_fn, next_fn, init_fn, set_fn}
use Rattle.runs.specs.Models.{Model, Valid}
use Rattle.engine.specs.declared.search.Search.{Search}
use Rattle.engine.specs.declared.session.Session.{Session}
use Rattle.uses.specs.Calls.{State, empty, loaded, told, Call, stand, Event, event}
use Rattle.uses.specs.Uses.{Use}

-- a session: what its store shows, and its search
pub record World : Type 0 where
  pub store : Shown
  pub search : Option Search

abbrev pub world : {S : Type 0} → (S → Shown) → Session S → World
world shows s = record { store = shows s.store; search = s.search }

-- a session that is loaded
abbrev pub searching : Shown → Search → World
searching s k = record { store = s; search = Some k }

-- the numbers are those of the model's claims, Init, copies and next values, and of its sets up to B_j
pub record Sets (m : Model) (j : ℕ) (s : Shown) (k : Search) : Type 0 where
  pub valid : Valid m
  pub lawful : Lawful s
  pub registers : registers_of k.parts ≡ m.circuit.registers
  pub inputs : k.parts.m ≡ m.circuit.inputs
  pub count : length k.earlier.items ≡ j
  pub verdict : k.last.verdict ≡ told (loaded m j)
  pub parts : Kept s k.parts (next_fn m) (claim_fn m m.assumption)
  pub property : Means s k.parts.property (claim_fn m m.property)
  pub init : Means s k.parts.init (init_fn m)
  pub earlier : (i : ℕ) → i < j → Means s (slice_index k.earlier.items i) (set_fn m i)
  pub set : Means s k.last.set (set_fn m j)

-- the session's search is that of this state
abbrev pub Keeps : State → World → Type 0
Keeps empty w = w.search ≡ None
Keeps (loaded m j) w = MatchOption w.search ⊥ (Sets m j w.store)

-- the call leads every use that led to w on to v, from the same start, and adds just this event
abbrev pub Next : World → Call → World → Type 0
Next w c v =
    (start : Shown) (history : List Event) (state : State)
    → Use start history (stand state w.store)
    → Keeps state w
    → (state' : State)
    × Use start (event (stand state w.store) c (stand state' v.store) ∷ history) (stand state' v.store)
    × Keeps state' v
