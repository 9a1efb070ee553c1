use Rattle.std.proofs.Common.{◌≡◌, ℕ, length}
use Rattle.runs.specs.Models.{Model, system}
use Rattle.runs.specs.Search.{unsafe, verdict, Reached, TraceTo}
use Rattle.engine.specs.Keeping.{Sets}
use Rattle.engine.specs.Questions.{Spares}
use Rattle.engine.proofs.Tracings.{at}
use Rattle.engine.proofs.search.Search.walk.Given as goal

-- the trace up to t
abbrev pub invariant-loop-t : goal.invariant-loop-t
invariant-loop-t g l =
    (g.S.Store.shows l.store ≡ g.S.Store.shows l.initial.store)
    × (Spares (length l.self.earlier.items) l.initial.states l.initial.inputs l.states l.inputs)
    × ((m : Model) (j : ℕ) → Sets m j (g.S.Store.shows l.initial.store) l.self → Reached (system m) j → verdict (system m) j ≡ unsafe j
    → TraceTo (system m) j l.t (at l.states) (at l.inputs))
