-- A trace by the numbers of its steps.
use Rattle.std.specs.Prelude.{ℕ, ◌-◌, length, slice_index_or}
use Rattle.engine.specs.declared.step.Step.{Step}
use Rattle.decide.specs.declared.trace.Trace.{Trace}

-- the number of the last step
abbrev pub depth_of : Trace → ℕ
depth_of t = length t.steps.items - 1

-- what a step past the end reads as
abbrev pub none : Step
none = record { state = 0; input = 0 }

abbrev pub state_at : Trace → ℕ → ℕ
state_at t i = (slice_index_or t.steps.items i none).state

abbrev pub input_at : Trace → ℕ → ℕ
input_at t i = (slice_index_or t.steps.items i none).input
