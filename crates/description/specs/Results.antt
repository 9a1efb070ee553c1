-- What is kept of a circuit file and two texts.
use Rattle.std.specs.Prelude.{◌≡◌, ℕ, List}
use Rattle.circuit.specs.declared.circuit.Circuit.{Circuit}
use Rattle.circuit.specs.Reading.{netlist}
use Rattle.claim.specs.Grammar.{post}
use Rattle.claim.specs.declared.codes.Codes.{Codes}
use Rattle.claim.specs.Result.{used}
use Rattle.runs.specs.Models.{Model, Describes}
use Rattle.description.specs.declared.described.Described.{Described}

abbrev pub circuit_of : Described → Circuit
circuit_of x = x.circuit

abbrev pub assumption_of : Described → Codes
assumption_of x = x.assumed

abbrev pub property_of : Described → Codes
property_of x = x.promised

-- the circuit and the codes are those of the model that the file and the texts describe
pub record Understood (width : ℕ) (file : List ℕ) (assumption : List ℕ) (property : List ℕ) (x : Described) : Type 0 where
  pub model : Model
  pub describes : Describes width file assumption property model
  pub circuit : netlist (circuit_of x) ≡ model.circuit
  pub assumed : used (assumption_of x) ≡ post model.assumption
  pub promised : used (property_of x) ≡ post model.property
