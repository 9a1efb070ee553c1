use Rattle.std.proofs.Common.{◌≡◌, suc, ◌+◌, ◌<◌, length, ap, ◌∙◌, subst, arith, rules}
use Rattle.std.proofs.lemmas.List.{get_or_default}
use Rattle.circuit.specs.Netlists.{gate, gate_line}
use Rattle.circuit.specs.Reading.{netlist}
use Rattle.description.specs.declared.part.Part.TheVariants.{Circuit}
use Rattle.making.specs.Models.{alone}
use Rattle.making.specs.Ends.{made}
use Rattle.making.proofs.Steps.{broke, ends_after}
use Rattle.making.proofs.Loops.{ends_upto}
use Rattle.making.proofs.Placing.{lies_at, placed_err, placed_ok}
use Rattle.making.proofs.Circuits.{sound_out, valid_alone}
use Rattle.making.proofs.Gating.{Sofar, gates_none, gate_ends, gate_more}
use Rattle.making.proofs.gates.make_gates.Goals as goal

pub loop-g-init : goal.loop-g-init
loop-g-init g c = (c.requires, λ h. gates_none (alone (netlist c.args.circuit.now)) _ _ h)

pub overflow_cast-g : goal.overflow_cast-g
overflow_cast-g g c =
    let n = netlist c.args.circuit.now in
    omega (arith, c.loop-g-test.true, ap length c.gates-gate-items.ensures, (sound_out n c.args.circuit.now.sound).few_gates)

pub push-requires : goal.push-requires
push-requires g c =
    let n = netlist c.args.circuit.now in
    let d = sound_out n c.args.circuit.now.sound in
    omega (arith, c.loop-g-test.true, ap length c.gates-gate-items.ensures, c.loop-g.invariant.0, d.few_registers, d.few_inputs, d.few_gates)

pub returns-in_err-number-clause-gates : goal.returns-in_err-number-clause-gates
returns-in_err-number-clause-gates g c h =
    let k = c.loop-g.g in
    let lt : k < length (netlist c.args.circuit.now).gates = omega (arith, c.loop-g-test.true, ap length c.gates-gate-items.ensures) in
    let r = c.loop-g.invariant.1 h in
    let e : c.gate-item.result ≡ gate (netlist c.args.circuit.now) k = search (rules, get_or_default) in
    let q = gate_ends _ _ (valid_alone _ c.args.circuit.now.sound) _ _ _ k lt r _ c.conjunction-made.result e _ c.deref.ensures.0 c.conjunction-made.ensures in
    broke c.from_residual.result c.in_err-number.field-0.0 c.from_residual.ensures.1
    (ends_upto _ (suc k) _ lt (ends_after r.0 (placed_err Circuit k c.conjunction-made.result c.place_at.ensures (lies_at Circuit k _) q c.in_err-number.was)))

pub loop-g-preserved : goal.loop-g-preserved
loop-g-preserved g c = (
  c.push.ensures.len ∙ ap (λ i. i + 1) c.loop-g.invariant.0 ∙ omega arith,
  λ h.
      let ok = valid_alone _ c.args.circuit.now.sound in
      let k = c.loop-g.g in
      let lt : k < length (netlist c.args.circuit.now).gates = omega (arith, c.loop-g-test.true, ap length c.gates-gate-items.ensures) in
      let r = c.loop-g.invariant.1 h in
      let e : c.gate-item.result ≡ gate (netlist c.args.circuit.now) k = search (rules, get_or_default) in
      let q = gate_ends _ _ ok _ _ _ k lt r _ c.conjunction-made.result e _ c.deref.ensures.0 c.conjunction-made.ensures in
      gate_more _ _ ok _ _ _ k lt r c.in_ok-number.number (placed_ok Circuit k c.conjunction-made.result c.place_at.ensures (lies_at Circuit k _) q c.in_ok-number.was) c.loop-g.invariant.0 c.push.new.self.items c.push.ensures.items,
)

pub returns : goal.returns
returns g c =
    let n = netlist c.args.circuit.now in
    let e : c.loop-g.g ≡ length n.gates = omega (arith, c.loop-g-test.false, c.loop-g.auto.g-end, ap length c.gates-gate-items.ensures) in
    record {
      whole = subst (λ k. length c.loop-g.numbers.items ≡ gate_line n k) e c.loop-g.invariant.0;
      gates = λ h.
          let r = subst (Sofar (alone n) (g.S.Store.shows c.args.store.now) (g.S.Store.shows c.loop-g.store) c.loop-g.numbers.items) e (c.loop-g.invariant.1 h) in
          made r.0 (r.2 (omega (arith, (sound_out n c.args.circuit.now.sound).enough_gates)), r.1);
    }
