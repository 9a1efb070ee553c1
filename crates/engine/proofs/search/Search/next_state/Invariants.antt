use Rattle.std.proofs.Common.{◌≡◌, ◌/◌, ◌^◌, ◌<◌, List, ◌++◌, length}
use Rattle.runs.specs.Models.{Model, system}
use Rattle.runs.specs.Systems.{State, Input}
use Rattle.engine.specs.Questions.{Readable}
use Rattle.engine.proofs.search.Search.next_state.Given as goal

-- the bits above those that are to be read
abbrev pub invariant-loop-bit : goal.invariant-loop-bit
invariant-loop-bit g l =
    let rest = l.bit-iterator.iter.rest.now in
    (goal.iterator-loop-bit g).can_next l.bit-iterator
    × (goal.iterator-loop-bit g).is_finite l.bit-iterator
    × (g.S.Store.shows l.store ≡ g.S.Store.shows l.initial.store)
    × ((done : List _) × (rest ++ done ≡ l.self.parts.nexts.items) × (l.next < 2 ^ length done))
    × ((m : Model) → Readable (g.S.Store.shows l.initial.store) m l.self.parts → State (system m) l.step.state → Input (system m) l.step.input
    → l.next ≡ (system m).next l.step.state l.step.input / 2 ^ length rest)
