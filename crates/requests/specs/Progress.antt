-- How far the requests have come.
use Rattle.std.specs.Prelude.{List, []}
use Rattle.store.specs.Meaning.{Shown}
use Rattle.uses.specs.Calls.{State, Call, stand, Event}
use Rattle.uses.specs.Uses.{Use}
use Rattle.engine.specs.Keeping.{World, Keeps, Next}
use Rattle.requests.specs.declared.request.Request.{Request}
use Rattle.requests.specs.declared.exchange.Exchange.{Exchange}
use Rattle.requests.specs.declared.reply.Reply.{Reply}
use Rattle.requests.specs.Calling.{IsCall, AreCalls, calls}

-- one request was made of the session w, and led on to v
pub record Answers (w : World) (asked answered : Request) (reply : Reply) (v : World) : Type 0 where
  pub call : Call
  pub is_call : IsCall asked answered reply call
  pub next : Next w call v

-- a use that began where the store showed `start` has come to the session w by these exchanges
pub record Progress (start : Shown) (asked answered : List Exchange) (w : World) : Type 0 where
  pub history : List Event
  pub state : State
  pub led : Use start history (stand state w.store)
  pub keeps : Keeps state w
  pub calls_are : AreCalls asked answered (calls history)

-- a use that has come to w by no exchange comes to v by these
abbrev pub AllAnswered : World → List Exchange → List Exchange → World → Type 0
AllAnswered w asked answered v = (start : Shown) → Progress start [] [] w → Progress start asked answered v
