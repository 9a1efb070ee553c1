use Rattle.std.proofs.Common.{◌≡◌, ◌≤◌, [], ◌∷◌, length, drop}
use Rattle.store.specs.Meaning.{Lawful}
use Rattle.circuit.specs.Netlists.{lines}
use Rattle.circuit.specs.Reading.{netlist}
use Rattle.claim.specs.Grammar.{Tree, post, Known}
use Rattle.runs.specs.Valuations.{line_fn, claim_fn}
use Rattle.runs.specs.Models.{sizes}
use Rattle.making.specs.Models.{alone}
use Rattle.making.specs.Making.{Numbered}
use Rattle.making.specs.Pieces.{operators_list}
use Rattle.making.specs.Stacks.{Going}
use Rattle.making.proofs.claims.make_claim.Given as goal

abbrev pub invariant-loop-code : goal.invariant-loop-code
invariant-loop-code g l = (length l.stack.items ≤ l.code-index) × ((t : Tree) → l.code-items ≡ post t → Known (sizes (netlist l.lines.circuit.now)) t → Lawful (g.S.Store.shows l.initial.store)
    → Numbered (g.S.Store.shows l.initial.store) l.lines.numbers.items (line_fn (alone (netlist l.lines.circuit.now))) (lines (netlist l.lines.circuit.now))
    → Going (alone (netlist l.lines.circuit.now)) l.part (g.S.Store.shows l.initial.store) (g.S.Store.shows l.store) l.stack.items (drop l.code-index l.code-items)
    (operators_list (alone (netlist l.lines.circuit.now)) l.part t) (claim_fn (alone (netlist l.lines.circuit.now)) t ∷ []))
