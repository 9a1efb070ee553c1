use Rattle.std.proofs.Common.{sym, ap, ◌∙◌, subst}
use Rattle.circuit.specs.Netlists.{sizes}
use Rattle.circuit.specs.Steps.{InRange}
use Rattle.circuit.proofs.Passing.{says_sizes}
use Rattle.circuit.proofs.read_netlist.Goals as goal

pub check-requires : goal.check-requires
check-requires c = subst InRange (c.in_ok-sizes.ensures.are ∙ sym (says_sizes c.args.file.now) ∙ ap sizes (sym c.read-netlist.ensures)) c.in_ok-sizes.ensures.ranged
