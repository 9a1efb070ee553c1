use Rattle.std.proofs.Common.{subst}
use Rattle.claim.specs.declared.code.Act.{Act}
use Rattle.circuit.specs.Reading.{netlist}
use Rattle.making.specs.Models.{alone}
use Rattle.making.specs.Stacks.{Acts}
use Rattle.making.proofs.Circuits.{valid_alone}
use Rattle.making.proofs.Stacking.{on_constant, on_name, on_not, on_and, on_or}
use Rattle.making.proofs.claims.act_on.Goals as goal

pub returns-in-Constant-clause-acts : goal.returns-in-Constant-clause-acts
returns-in-Constant-clause-acts g c p l fs gs k n d o =
    let m = alone (netlist c.args.lines.now.circuit.now) in
    rw c.from.ensures (on_constant m p l c.args.stack.now.items c.in-Constant.value d (subst (λ (x : Act). Acts m x fs k gs) c.in-Constant.is o))

pub returns-in-Name-clause-acts : goal.returns-in-Name-clause-acts
returns-in-Name-clause-acts g c p l fs gs k n d o =
    let m = alone (netlist c.args.lines.now.circuit.now) in
    on_name m p l (valid_alone _ c.args.lines.now.circuit.now.sound) c.args.stack.now.items c.in-Name.sort c.in-Name.i c.named.result c.args.lines.now.numbers.items
    c.named.ensures n d (subst (λ (x : Act). Acts m x fs k gs) c.in-Name.is o)

pub returns-in-Not-clause-acts : goal.returns-in-Not-clause-acts
returns-in-Not-clause-acts g c p l fs gs k n d o =
    let m = alone (netlist c.args.lines.now.circuit.now) in
    on_not m p l _ c.pop-a.new.stack.items _ c.pop-a.result d (subst (λ (x : Act). Acts m x fs k gs) c.in-Not.is o) c.pop-a.ensures.top c.not.ensures

pub returns-in-And-clause-acts : goal.returns-in-And-clause-acts
returns-in-And-clause-acts g c p l fs gs k n d o =
    let m = alone (netlist c.args.lines.now.circuit.now) in
    on_and m p l _ c.pop_two-a.new.stack.items _ c.pop_two-a.result c.pop_two-a.ensures.tops d (subst (λ (x : Act). Acts m x fs k gs) c.in-And.is o) c.and.ensures

pub returns-in-Or-clause-acts : goal.returns-in-Or-clause-acts
returns-in-Or-clause-acts g c p l fs gs k n d o =
    let m = alone (netlist c.args.lines.now.circuit.now) in
    on_or m p l _ c.pop_two-a-in-Or.new.stack.items _ c.pop_two-a-in-Or.result c.pop_two-a-in-Or.ensures.tops d (subst (λ (x : Act). Acts m x fs k gs) c.in-Or.is o) c.or.ensures
