use Rattle.std.proofs.Common.{◌≡◌, ◌-◌, length, Err, ap, rules, sym, ◌∙◌}
use Rattle.circuit.specs.declared.refusal.Refusal.TheVariants.{Start}
use Rattle.circuit.proofs.Deciding.{refused, accepted, sound}
use Rattle.circuit.proofs.netlist.Netlist.check.Goals as goal

pub returns-then-init_touches : goal.returns-then-init_touches
returns-then-init_touches c =
    let d = c.args.self.now in
    let n : c.len.result ≡ length d.gates = search rules in
    refused d c.in_ok-check_wires.ensures (sym c.if-init_touches.ensures) ∙ ap (λ k. Err (Start (k - 1))) (sym n)

pub returns : goal.returns
returns c =
    let d = c.args.self.now in
    let apart = sym c.if-init_touches.ensures in
    (accepted d c.in_ok-check_wires.ensures apart, sound d c.in_ok-check_wires.ensures c.requires apart)
