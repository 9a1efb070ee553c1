use Rattle.std.proofs.Common.{◌≡◌, ℕ, ◌<◌, false}
use Rattle.circuit.specs.Rules.{miswired}
use Rattle.circuit.proofs.netlist.Netlist.check_wires.Given as goal

abbrev pub invariant-loop-g : goal.invariant-loop-g
invariant-loop-g l = (k : ℕ) → k < l.g → miswired l.self k ≡ false
