-- The circuits of the code as netlists, and the numbers and places of refusals.
use Rattle.std.specs.Prelude.{ℕ, Ok, Err, Result}
use Rattle.circuit.specs.declared.circuit.Circuit.{Circuit}
use Rattle.circuit.specs.declared.refusal.Refusal.{Refusal}
use Rattle.circuit.specs.declared.refusal.Refusal.TheVariants.{Length, Size, Width, Wire, Start}
use Rattle.circuit.specs.declared.sort.Sort.TheVariants as sort
use Rattle.circuit.specs.Netlists.{Netlist}

abbrev pub netlist : Circuit → Netlist
netlist c = c.netlist

abbrev pub answered : Result Circuit Refusal → Result Netlist Refusal
answered (Ok c) = Ok (netlist c)
answered (Err e) = Err e

abbrev pub number_of : Refusal → ℕ
number_of (Length b) = 2
number_of (Size s) = 3
number_of (Width w) = 4
number_of (Wire g) = 5
number_of (Start g) = 6

abbrev pub place_of : Refusal → ℕ
place_of (Length b) = b
place_of (Size sort.Register) = 0
place_of (Size sort.Input) = 1
place_of (Size sort.Gate) = 2
place_of (Width w) = w
place_of (Wire g) = g
place_of (Start g) = g
