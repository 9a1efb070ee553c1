use Rattle.std.proofs.Common.{◌≡◌, ◌+◌, ◌-◌, ◌*◌, ◌≤◌, length}
use Rattle.circuit.specs.Reading.{netlist}
use Rattle.runs.specs.Valuations.{line_fn}
use Rattle.making.specs.Models.{alone, width}
use Rattle.making.specs.Making.{Numbered}
use Rattle.making.proofs.Varying.{Begun, Registers, Inputs}
use Rattle.making.proofs.variables.make_variables.Given as goal

abbrev pub invariant-loop-i : goal.invariant-loop-i
invariant-loop-i g l = (length l.numbers.items ≡ 1 + l.i) × (length l.copies.items ≡ l.i) × Begun (alone (netlist l.circuit)) (g.S.Store.shows l.initial.store) (g.S.Store.shows l.store) (2 * l.i)
    × (width (alone (netlist l.circuit)) ≤ (g.S.Store.shows l.initial.store).vars
    → Numbered (g.S.Store.shows l.initial.store) l.initial.numbers.items (line_fn (alone (netlist l.circuit))) 1
    → Registers (alone (netlist l.circuit)) (g.S.Store.shows l.initial.store) (g.S.Store.shows l.store) l.numbers.items l.copies.items l.i)

abbrev pub invariant-loop-x : goal.invariant-loop-x
invariant-loop-x g l = (length l.numbers.items ≡ 1 + (l.x - (netlist l.circuit).registers)) × Begun (alone (netlist l.circuit)) (g.S.Store.shows l.fn.store) (g.S.Store.shows l.store) l.x
    × (width (alone (netlist l.circuit)) ≤ (g.S.Store.shows l.fn.store).vars
    → Numbered (g.S.Store.shows l.fn.store) l.fn.numbers.items (line_fn (alone (netlist l.circuit))) 1
    → Inputs (alone (netlist l.circuit)) (g.S.Store.shows l.fn.store) (g.S.Store.shows l.store) l.numbers.items l.copies.items l.x)
