-- A netlist: registers, inputs and gates, and which line is which.
use Rattle.std.specs.Prelude.{ℕ, ◌+◌, ◌-◌, false, List, length, slice_index_or}
use Rattle.circuit.specs.declared.gate.Gate.{Gate}
use Rattle.circuit.specs.declared.sizes.Sizes.{Sizes}
use Rattle.circuit.specs.declared.sort.Sort.{Sort}
use Rattle.circuit.specs.declared.sort.Sort.TheVariants as sort

pub record Netlist : Type 0 where
  pub registers : ℕ
  pub inputs : ℕ
  pub gates : List Gate

abbrev pub sizes : Netlist → Sizes
sizes c = record { registers = c.registers; inputs = c.inputs; gates = length c.gates }

-- how many there are of a sort
abbrev pub limit : Sizes → Sort → ℕ
limit z sort.Register = z.registers
limit z sort.Input = z.inputs
limit z sort.Gate = z.gates

abbrev pub blank : Gate
blank = record { left = record { line = 0; negated = false }; right = record { line = 0; negated = false } }

abbrev pub gate : Netlist → ℕ → Gate
gate c g = slice_index_or c.gates g blank

-- line 0 is false; then come the registers, the inputs and the gates
abbrev pub register_line : ℕ → ℕ
register_line i = 1 + i

abbrev pub input_line : Netlist → ℕ → ℕ
input_line c j = 1 + c.registers + j

abbrev pub gate_line : Netlist → ℕ → ℕ
gate_line c g = 1 + c.registers + c.inputs + g

-- the line of register i, of input i or of gate i
abbrev pub name_line : Netlist → Sort → ℕ → ℕ
name_line c sort.Register i = register_line i
name_line c sort.Input j = input_line c j
name_line c sort.Gate g = gate_line c g

-- how many lines there are
abbrev pub lines : Netlist → ℕ
lines c = gate_line c (length c.gates)

-- the last gates are the next values of the registers, and then Init
abbrev pub next_line : Netlist → ℕ → ℕ
next_line c i = gate_line c (length c.gates - (c.registers + 1) + i)

abbrev pub init_line : Netlist → ℕ
init_line c = gate_line c (length c.gates - 1)
