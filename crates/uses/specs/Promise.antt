-- What every use of a session comes to, over any store.
use Rattle.std.specs.Prelude.{List, All}
use Rattle.store.specs.Meaning.{Shown}
use Rattle.uses.specs.declared.verdict.Verdict.{Verdict}
use Rattle.uses.specs.Calls.{State, told, Stand, Event}
use Rattle.uses.specs.Uses.{Use}
use Rattle.uses.specs.Fair.{Fair}
use Rattle.uses.specs.Says.{Says, Accepted}

-- every call was fair, the circuit and the claims are those of the one accepted load,
-- and the verdict means what it says
pub record Promise (start : Shown) (history : List Event) (state : State) (answer : Verdict) : Type 0 where
  pub fair : All Fair history
  pub accepted : Accepted start history state
  pub says : Says state answer

abbrev pub Promised : Type 0
Promised =
    (start : Shown) (history : List Event) (end : Stand)
    → Use start history end
    → Promise start history end.state (told end.state)
