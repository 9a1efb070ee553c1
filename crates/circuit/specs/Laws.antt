-- Which files are read, by what is written in them: the rules on reading say no more and no less.
use Rattle.std.specs.Prelude.{◌≡◌, ℕ, ◌+◌, ◌*◌, ◌≤◌, List, length}
use Rattle.circuit.specs.Files.{registers, inputs, count, says, file_of}
use Rattle.circuit.specs.Netlists.{Netlist}
use Rattle.circuit.specs.Rules.{Sound}

-- the file of the circuit c, which a store of `width` variables can hold
pub record FileOf (width : ℕ) (bs : List ℕ) (c : Netlist) : Type 0 where
  pub file : bs ≡ file_of c
  pub sound : Sound c
  pub fits : 2 * c.registers + c.inputs ≤ width

-- a file that is as long as its own sizes say, and says a circuit that a store of `width` variables can hold
pub record Acceptable (width : ℕ) (bs : List ℕ) : Type 0 where
  pub long : length bs ≡ 6 + 4 * count bs
  pub fits : 2 * registers bs + inputs bs ≤ width
  pub sound : Sound (says bs)
