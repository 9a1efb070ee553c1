use Rattle.std.proofs.Common.{List}
use Rattle.store.specs.Meaning.{Shown}
use Rattle.uses.specs.Calls.{State, stand, Event}
use Rattle.uses.specs.Uses.{Use}
use Rattle.engine.specs.Keeping.{world, Keeps}
use Rattle.engine.proofs.Settlings.{Going}
use Rattle.engine.proofs.session.Session.settle.Given as goal

-- every use that led here was led on by as many advances as there were turns
abbrev pub invariant-loop : goal.invariant-loop
invariant-loop g l = (start : Shown) (history : List Event) (state : State)
    → Use start history (stand state (g.S.Store.shows l.initial.self.store))
    → Keeps state (world g.S.Store.shows l.initial.self)
    → Going start history (stand state (g.S.Store.shows l.initial.self.store)) l.counter (world g.S.Store.shows l.self)
