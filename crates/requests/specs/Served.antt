-- The promise about any use of a session.
use Rattle.std.specs.Prelude.{List}
use Rattle.store.specs.Meaning.{Shown, Grown}
use Rattle.uses.specs.Calls.{State, told, stand, Event}
use Rattle.uses.specs.Uses.{Use}
use Rattle.uses.specs.Promise.{Promise}
use Rattle.requests.specs.declared.exchange.Exchange.{Exchange}
use Rattle.requests.specs.Calling.{AreCalls, calls}

-- A session was made over a store that showed `start`. All that was asked of it are these exchanges, as they were
-- handed in and as they came back, and then its store shows `end`. There is a history of just these calls, which led
-- from `start` to `end` by the rules of the calls. Each event of it is fair. What the call verdict would answer at the
-- end, asked or not, means what it says of the runs of the circuit that was loaded. Nothing that the store had is lost.
pub record Served (start : Shown) (asked answered : List Exchange) (end : Shown) : Type 0 where
  pub history : List Event
  pub state : State
  pub led : Use start history (stand state end)
  pub calls_are : AreCalls asked answered (calls history)
  pub promise : Promise start history state (told state)
  pub grown : Grown start end
