-- What stands after advances up to a settled verdict.
use Rattle.std.specs.Prelude.{◌≡◌, ℕ, List, [], ◌∷◌, ◌++◌, Ok, Err}
use Rattle.store.specs.Meaning.{Shown}
use Rattle.uses.specs.declared.fault.Fault.{Fault}
use Rattle.runs.specs.Models.{Model, system}
use Rattle.runs.specs.Search.{Verdict, unsafe, safe, open_yet, verdict}
use Rattle.uses.specs.declared.verdict.Verdict.{Verdict as Answer}
use Rattle.uses.specs.Calls.{State, empty, loaded, advance, Stand, stand, Event, event}
use Rattle.uses.specs.Uses.{Step, Use}
use Rattle.engine.specs.declared.settled.Settled.{Settled}
use Rattle.engine.specs.declared.settled.Settled.TheVariants as settled
use Rattle.engine.specs.Keeping.{World, Keeps}

-- accepted advances and no other calls, from one stand to another; the latest first
pub data Advances (from : Stand) : List Event → Stand → Type 0 where
  none : Advances from [] from
  more :
      {events : List Event} {before after : Stand} {answer : Answer}
      → Advances from events before
      → Step before (advance (Ok answer)) after
      → Advances from (event before (advance (Ok answer)) after ∷ events) after

-- how many advances the session has accepted
abbrev pub advances_of : Settled → ℕ
advances_of (settled.Safe d) = d.advances
advances_of (settled.Unsafe d) = d.advances

-- the verdict
abbrev pub verdict_of : Settled → Verdict
verdict_of (settled.Safe d) = safe
verdict_of (settled.Unsafe d) = unsafe d.advances

-- the verdict is not settled
abbrev pub Undecided : State → Type 0
Undecided empty = Unit {0}
Undecided (loaded m j) = verdict (system m) j ≡ open_yet

-- the advances `made` were accepted, and the verdict is settled
pub record Decided (start : Shown) (history : List Event) (from : Stand) (v : World) (a : Settled) : Type 0 where
  pub model : Model
  pub made : List Event
  pub advanced : Advances from made (stand (loaded model (advances_of a)) v.store)
  pub led : Use start (made ++ history) (stand (loaded model (advances_of a)) v.store)
  pub keeps : Keeps (loaded model (advances_of a)) v
  pub settled : verdict (system model) (advances_of a) ≡ verdict_of a

-- the advances `made` were accepted, and the next one was refused: the verdict was not settled
pub record Stuck (start : Shown) (history : List Event) (from : Stand) (v : World) (e : Fault) : Type 0 where
  pub state : State
  pub store : Shown
  pub made : List Event
  pub advanced : Advances from made (stand state store)
  pub undecided : Undecided state
  pub led :
      Use start
      (event (stand state store) (advance (Err e)) (stand state v.store) ∷ made ++ history)
      (stand state v.store)
  pub keeps : Keeps state v
