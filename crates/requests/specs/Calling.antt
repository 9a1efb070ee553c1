-- Which calls of a session a list of exchanges was.
use Rattle.std.specs.Prelude.{◌≡◌, ℕ, List, [], ◌∷◌, map, reverse}
use Rattle.std.specs.Borrow.{MutBor}
use Rattle.uses.specs.Calls.{Call, load, advance, ask, trace, inside, Event}
use Rattle.requests.specs.declared.request.Request.{Request}
use Rattle.requests.specs.declared.request.Request.TheVariants as request
use Rattle.requests.specs.declared.exchange.Exchange.{Exchange}
use Rattle.requests.specs.declared.reply.Reply.{Reply}
use Rattle.requests.specs.declared.reply.Reply.TheVariants as reply

-- The calls of a history, the earliest first; a history has its latest event first.
abbrev pub calls : List Event → List Call
calls history = reverse (map (λ event. event.call) history)

-- A lent array is still the one that was lent, whatever is written to it.
abbrev pub SameArray : MutBor (List ℕ) → MutBor (List ℕ) → Type 0
SameArray asked answered = answered.ghost_name ≡ asked.ghost_name

-- The call that a request was, as the request was handed in and as it came back, with its reply.
-- Nothing of a request changes but what its arrays hold.
abbrev pub IsCall : (asked answered : Request) → Reply → Call → Type 0
IsCall (request.Load s) back (reply.Load r) c =
    (back ≡ request.Load s) × (c ≡ load s.circuit.now s.assumption.now s.property.now r)
IsCall request.Advance back (reply.Advance r) c = (back ≡ request.Advance) × (c ≡ advance r)
IsCall request.Verdict back (reply.Verdict r) c = (back ≡ request.Verdict) × (c ≡ ask r)
IsCall (request.Trace x y) (request.Trace x' y') (reply.Trace r) c =
    SameArray x x' × SameArray y y' × (c ≡ trace x.now y.now x'.now y'.now r)
IsCall (request.Inside q) back (reply.Inside r) c = (back ≡ request.Inside q) × (c ≡ inside q r)
IsCall _ _ _ c = ⊥

-- The calls are these requests with these replies, one by one.
pub data AreCalls : (asked answered : List Exchange) → List Call → Type 0 where
  none : AreCalls [] [] []
  more :
      {x y : Exchange} {c : Call} {xs ys : List Exchange} {cs : List Call}
      → IsCall x.request y.request y.reply c
      → AreCalls xs ys cs
      → AreCalls (x ∷ xs) (y ∷ ys) (c ∷ cs)
