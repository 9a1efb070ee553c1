-- Models of a circuit.
use Rattle.std.specs.Prelude.{ℕ, ◌+◌, ◌*◌, true}
use Rattle.circuit.specs.Netlists.{Netlist}
use Rattle.claim.specs.Grammar.{Tree, const}
use Rattle.runs.specs.Models.{Model}

abbrev pub model : (circuit : Netlist) (assumption : Tree) (property : Tree) → Model
model circuit assumption property = record { circuit = circuit; assumption = assumption; property = property }

-- a circuit alone: its lines are those of each model of it
abbrev pub alone : Netlist → Model
alone c = model c (const 0 true) (const 0 true)

-- how many variables a model takes
abbrev pub width : Model → ℕ
width m = 2 * m.circuit.registers + m.circuit.inputs
