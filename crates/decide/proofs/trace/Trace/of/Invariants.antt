use Rattle.std.proofs.Common.{◌≡◌, length, map, take}
use Rattle.decide.proofs.trace.Trace.of.Given as goal

-- the steps so far
abbrev pub invariant-loop-state : goal.invariant-loop-state
invariant-loop-state l =
    (goal.iterator-loop-state).can_next l.state-iterator × (goal.iterator-loop-state).is_finite l.state-iterator × (length l.steps.items ≡ length l.yielded)
    × (map (λ s. s.state) l.steps.items ≡ take (length l.yielded) l.states)
    × (map (λ s. s.input) l.steps.items ≡ take (length l.yielded) l.inputs)
