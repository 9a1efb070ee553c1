-- How many making calls a load and an advance take at most.
use Rattle.std.specs.Prelude.{ℕ, ◌+◌, ◌*◌, length}
use Rattle.runs.specs.Models.{Model}

-- a and p are the lengths of the texts of the assumption and of the property, which have no fewer bytes than operators
abbrev pub load_bound : Model → ℕ → ℕ → ℕ
load_bound m a p = 4 * m.circuit.registers + 4 * m.circuit.inputs + 3 * length m.circuit.gates + a + p + 3

abbrev pub advance_bound : Model → ℕ
advance_bound m = 10 * m.circuit.registers + 3 * m.circuit.inputs + 3
