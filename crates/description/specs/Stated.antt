-- Codes of a claim about a circuit.
use Rattle.std.specs.Prelude.{◌≡◌, List}
use Rattle.circuit.specs.Netlists.{Netlist, sizes}
use Rattle.claim.specs.declared.code.Code.{Code}
use Rattle.claim.specs.Grammar.{Tree, post, Known}

-- the codes are those of a claim, and the circuit has what each of its names names
abbrev pub Stated : Netlist → List Code → Type 0
Stated c codes = (t : Tree) × (codes ≡ post t) × Known (sizes c) t
