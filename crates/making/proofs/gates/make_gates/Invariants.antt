use Rattle.std.proofs.Common.{◌≡◌, length}
use Rattle.circuit.specs.Netlists.{gate_line}
use Rattle.circuit.specs.Reading.{netlist}
use Rattle.runs.specs.Valuations.{line_fn}
use Rattle.making.specs.Models.{alone}
use Rattle.making.specs.Making.{Numbered}
use Rattle.making.proofs.Gating.{Sofar}
use Rattle.making.proofs.gates.make_gates.Given as goal

abbrev pub invariant-loop-g : goal.invariant-loop-g
invariant-loop-g g l = (length l.numbers.items ≡ gate_line (netlist l.circuit) l.g)
    × (Numbered (g.S.Store.shows l.initial.store) l.initial.numbers.items (line_fn (alone (netlist l.circuit))) (gate_line (netlist l.circuit) 0)
    → Sofar (alone (netlist l.circuit)) (g.S.Store.shows l.initial.store) (g.S.Store.shows l.store) l.numbers.items l.g)
