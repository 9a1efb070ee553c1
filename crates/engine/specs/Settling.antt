-- Advances up to a settled verdict.
use Rattle.std.specs.Prelude.{◌≡◌, List, Option, None, Some, Result, MatchResult}
use Rattle.store.specs.Meaning.{Shown}
use Rattle.uses.specs.declared.fault.Fault.{Fault}
use Rattle.runs.specs.Models.{Model, system}
use Rattle.runs.specs.Search.{verdict}
use Rattle.uses.specs.Calls.{State, loaded, stand, Event}
use Rattle.uses.specs.Uses.{Use}
use Rattle.engine.specs.declared.search.Search.{Search}
use Rattle.engine.specs.declared.settled.Settled.{Settled}
use Rattle.engine.specs.Keeping.{World, Keeps}
use Rattle.engine.specs.Settled.{Undecided, Decided, Stuck, advances_of, verdict_of}

-- every use that led to w was led on by advances alone, up to a settled verdict or to an advance that was refused
abbrev pub Settles : World → Result Settled Fault → World → Type 0
Settles w r v =
    (start : Shown) (history : List Event) (state : State)
    → Use start history (stand state w.store)
    → Keeps state w
    → MatchResult r (Decided start history (stand state w.store) v) (Stuck start history (stand state w.store) v)

-- what is said of each state that the search is of
abbrev pub SettledOn : Option Search → Option Settled → Type 0
SettledOn k None = (state : State) (s : Shown) → Keeps state (record { store = s; search = k }) → Undecided state
SettledOn k (Some a) =
    (state : State) (s : Shown)
    → Keeps state (record { store = s; search = k })
    → (m : Model) × (state ≡ loaded m (advances_of a)) × (verdict (system m) (advances_of a) ≡ verdict_of a)
