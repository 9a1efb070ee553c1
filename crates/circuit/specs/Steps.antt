-- What the parts of the reader promise one another.
use Rattle.std.specs.Prelude.{◌≡◌, ℕ, ◌+◌, ◌≤◌, List, length}
use Rattle.circuit.specs.declared.sizes.Sizes.{Sizes}
use Rattle.circuit.specs.Files.{sizes_at}

pub record InRange (z : Sizes) : Type 0 where
  pub some_registers : 1 ≤ z.registers
  pub few_registers : z.registers ≤ 8
  pub few_inputs : z.inputs ≤ 8
  pub enough_gates : z.registers + 1 ≤ z.gates
  pub few_gates : z.gates ≤ 1024

-- the sizes of the file, in range
pub record Sized (bs : List ℕ) (z : Sizes) : Type 0 where
  pub long : 6 ≤ length bs
  pub are : z ≡ sizes_at bs
  pub ranged : InRange z
