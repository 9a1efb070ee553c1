use Rattle.std.proofs.Common.{◌≡◌, ℕ, ◌≤◌}
use Rattle.store.specs.Meaning.{Shown}
use Rattle.runs.specs.Models.{Model, system}
use Rattle.runs.specs.Search.{safe, verdict, inside}
use Rattle.engine.specs.Keeping.{world}
use Rattle.decide.specs.Outcomes.{tally}
use Rattle.decide.specs.Searches.{Come}
use Rattle.decide.proofs.conclude.count_inside.Given as goal

-- those below q are counted, and the session is as it was
abbrev pub invariant-loop-q : goal.invariant-loop-q
invariant-loop-q g l = (world g.S.Store.shows l.session ≡ world g.S.Store.shows l.initial.session) × (l.count ≤ l.q)
    × ((s : Shown) (m : Model) (j : ℕ) → Come s m j (world g.S.Store.shows l.initial.session) → verdict (system m) j ≡ safe → l.registers ≡ m.circuit.registers
    → l.count ≡ tally l.q (inside (system m) j))
