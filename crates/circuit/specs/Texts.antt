-- How sizes are written.
use Rattle.std.specs.Prelude.{ℕ, List, ◌++◌, codes, decimal}
use Rattle.circuit.specs.declared.sizes.Sizes.{Sizes}

abbrev pub sizes_text : Sizes → List ℕ
sizes_text z = codes "registers " ++ (decimal z.registers ++ (codes " inputs " ++ (decimal z.inputs ++ (codes " gates " ++ decimal z.gates))))
