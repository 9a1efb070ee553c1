use Rattle.std.proofs.Common.{◌≡◌, sym, ap, true, rules, below_more}
use Rattle.std.proofs.lemmas.List.{get_or_default}
use Rattle.circuit.specs.declared.refusal.Refusal.TheVariants.{Wire}
use Rattle.circuit.specs.Netlists.{gate}
use Rattle.circuit.specs.Rules.{miswired, first_miswired}
use Rattle.circuit.proofs.Checks.{least_at, wired_from}
use Rattle.circuit.proofs.netlist.Netlist.check_wires.Goals as goal

pub returns-then-not-names_below : goal.returns-then-not-names_below
returns-then-not-names_below c =
    let n = c.args.self.now in
    let g = c.loop-g.g in
    let e : c.gate-item.result ≡ gate n g = search (rules, get_or_default) in
    let m : miswired n g ≡ true = search rules in
    let f : first_miswired n ≡ g = least_at _ (miswired n) g (search rules) m c.loop-g.invariant in
    (search rules, ap Wire (sym f))

pub loop-g-preserved : goal.loop-g-preserved
loop-g-preserved c =
    let e : c.gate-item.result ≡ gate c.args.self.now c.loop-g.g = search (rules, get_or_default) in
    below_more _ _ c.loop-g.invariant (search rules)

pub returns : goal.returns
returns c g h = wired_from c.args.self.now g (c.loop-g.invariant g (search rules))
