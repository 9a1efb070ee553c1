-- What the bytes of a circuit file say, and the file of a netlist.
use Rattle.std.specs.Prelude.{ℕ, ◌+◌, ◌*◌, ◌/◌, ◌%◌, List, [], ◌∷◌, ◌++◌, length, map, slice_index}
use Rattle.std.specs.List.{range_with_len}
use Rattle.circuit.specs.declared.gate.Gate.{Gate}
use Rattle.circuit.specs.declared.sizes.Sizes.{Sizes}
use Rattle.circuit.specs.Literals.{literal_of, literal_number}
use Rattle.circuit.specs.Netlists.{Netlist}

-- number i of a file: two bytes, low byte first
abbrev pub number_at : List ℕ → ℕ → ℕ
number_at bs i = slice_index bs (2 * i) + 256 * slice_index bs (2 * i + 1)

-- the sizes
abbrev pub registers : List ℕ → ℕ
registers bs = number_at bs 0

abbrev pub inputs : List ℕ → ℕ
inputs bs = number_at bs 1

abbrev pub count : List ℕ → ℕ
count bs = number_at bs 2

abbrev pub sizes_at : List ℕ → Sizes
sizes_at bs = record { registers = registers bs; inputs = inputs bs; gates = count bs }

-- all left literals come before all right literals
abbrev pub gate_at : List ℕ → ℕ → ℕ → Gate
gate_at bs k g = record { left = literal_of (number_at bs (3 + g)); right = literal_of (number_at bs (3 + k + g)) }

abbrev pub says : List ℕ → Netlist
says bs = record {
  registers = registers bs;
  inputs = inputs bs;
  gates = map (gate_at bs (count bs)) (range_with_len 0 (count bs));
}

-- a number as it is written: two bytes, low byte first; of 65,536 or more the second would be no byte, so no file has
-- such a number
abbrev pub number_bytes : ℕ → List ℕ
number_bytes x = x % 256 ∷ x / 256 ∷ []

-- numbers as they are written, one after another
abbrev pub bytes_of : List ℕ → List ℕ
bytes_of [] = []
bytes_of (x ∷ xs) = number_bytes x ++ bytes_of xs

abbrev pub left_number : Gate → ℕ
left_number g = literal_number g.left

abbrev pub right_number : Gate → ℕ
right_number g = literal_number g.right

-- the numbers of a netlist: the three sizes, then all left literals, then all right literals
abbrev pub numbers_of : Netlist → List ℕ
numbers_of c = c.registers ∷ c.inputs ∷ length c.gates ∷ (map left_number c.gates ++ map right_number c.gates)

-- the file of a netlist
abbrev pub file_of : Netlist → List ℕ
file_of c = bytes_of (numbers_of c)
