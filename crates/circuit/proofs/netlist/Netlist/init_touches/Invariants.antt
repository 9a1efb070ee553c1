use Rattle.circuit.proofs.Marks.{Marked}
use Rattle.circuit.proofs.netlist.Netlist.init_touches.Given as goal

abbrev pub invariant-loop-gate : goal.invariant-loop-gate
invariant-loop-gate l = Marked l.self l.marks.items l.gate-index
