use Rattle.std.proofs.Common.{◌≡◌, ◌+◌, ◌-◌, ◌*◌, ◌<◌, length, ap, ◌∙◌, subst, arith}
use Rattle.circuit.specs.Reading.{netlist}
use Rattle.making.specs.Models.{alone, width}
use Rattle.making.specs.Making.{ended}
use Rattle.making.specs.Ends.{made}
use Rattle.making.proofs.Circuits.{sound_out, valid_alone}
use Rattle.making.proofs.Varying.{Begun, begun_more, refused_variable, variables_lawful, Registers, Inputs, registers_more, inputs_more}
use Rattle.making.proofs.variables.make_variables.Goals as goal

pub first_input-first-requires : goal.first_input-first-requires
first_input-first-requires g c =
    omega (arith, c.registers.ensures, (sound_out (netlist c.args.circuit.now) c.args.circuit.now.sound).few_registers)

pub overflow_mul-i : goal.overflow_mul-i
overflow_mul-i g c =
    omega (arith, c.loop-i-test.true, c.registers-i-end.ensures, (sound_out (netlist c.args.circuit.now) c.args.circuit.now.sound).few_registers)

pub overflow_add-x-end : goal.overflow_add-x-end
overflow_add-x-end g c =
    let d = sound_out (netlist c.args.circuit.now) c.args.circuit.now.sound in
    omega (arith, c.first_input-first.ensures, c.registers.ensures, c.inputs.ensures, d.few_registers, d.few_inputs)

pub push-requires : goal.push-requires
push-requires g c =
    let d = sound_out (netlist c.args.circuit.now) c.args.circuit.now.sound in
    omega (arith, c.loop-i.invariant.0, c.loop-i-test.true, c.registers-i-end.ensures, d.few_registers)

pub push-requires-in-loop-i : goal.push-requires-in-loop-i
push-requires-in-loop-i g c =
    let d = sound_out (netlist c.args.circuit.now) c.args.circuit.now.sound in
    omega (arith, c.loop-i.invariant.1, c.loop-i-test.true, c.registers-i-end.ensures, d.few_registers)

pub push-requires-in-loop-x : goal.push-requires-in-loop-x
push-requires-in-loop-x g c =
    let d = sound_out (netlist c.args.circuit.now) c.args.circuit.now.sound in
    omega (arith, c.loop-x.invariant.0, c.loop-x-test.true, c.first_input-first.ensures, c.registers.ensures, c.inputs.ensures, d.few_registers, d.few_inputs)

pub loop-i-init : goal.loop-i-init
loop-i-init g c = (c.requires, ap length c.new-copies.ensures, (ended, omega arith), λ w h. (ended, h, λ i l. absurd (omega arith)))

pub returns-in_err-register-clause-makes : goal.returns-in_err-register-clause-makes
returns-in_err-register-clause-makes g c =
    let n = netlist c.args.circuit.now in
    let i = c.loop-i.i in
    let lt : i < n.registers = omega (arith, c.loop-i-test.true, c.registers-i-end.ensures) in
    refused_variable (alone n) _ _ _ (2 * i) _ (omega arith) c.loop-i.invariant.2 c.in_err-register.ensures _ _
    c.from_residual.result c.from_residual.ensures.1

pub returns-in_err-copy-clause-makes : goal.returns-in_err-copy-clause-makes
returns-in_err-copy-clause-makes g c =
    let n = netlist c.args.circuit.now in
    let i = c.loop-i.i in
    let lt : i < n.registers = omega (arith, c.loop-i-test.true, c.registers-i-end.ensures) in
    refused_variable (alone n) _ _ _ (2 * i + 1) _ (omega arith)
    (begun_more (alone n) _ _ _ (2 * i) c.in_ok-register.register c.loop-i.invariant.2 c.in_ok-register.ensures) c.in_err-copy.ensures _ _
    c.from_residual-in_err-copy.result c.from_residual-in_err-copy.ensures.1

pub loop-i-preserved : goal.loop-i-preserved
loop-i-preserved g c = (
  c.push.ensures.len ∙ ap (λ i. i + 1) c.loop-i.invariant.0 ∙ omega arith,
  c.push-in-loop-i.ensures.len ∙ ap (λ i. i + 1) c.loop-i.invariant.1,
  let m = alone (netlist c.args.circuit.now) in
      let so = begun_more m _ _ _ (2 * c.loop-i.i) c.in_ok-register.register c.loop-i.invariant.2 c.in_ok-register.ensures in
      let e : 2 * c.loop-i.i + 1 + 1 ≡ 2 * (c.loop-i.i + 1) = omega arith in
      subst (Begun m _ _) e (begun_more m _ _ _ (2 * c.loop-i.i + 1) c.in_ok-copy.copy so c.in_ok-copy.ensures),
  λ w h.
      let n = netlist c.args.circuit.now in
      let lt : c.loop-i.i < n.registers = omega (arith, c.loop-i-test.true, c.registers-i-end.ensures) in
      registers_more (alone n) _ (valid_alone n c.args.circuit.now.sound) w _ _ c.loop-i.numbers.items c.loop-i.copies.items c.loop-i.i c.in_ok-register.register lt
      (c.loop-i.invariant.3 w h) c.in_ok-register.ensures _ c.in_ok-copy.copy c.in_ok-copy.ensures c.loop-i.invariant.0 c.loop-i.invariant.1 _ _ c.push.ensures.items c.push-in-loop-i.ensures.items,
)

pub loop-x-init : goal.loop-x-init
loop-x-init g c =
    let n = netlist c.args.circuit.now in
    let e : c.loop-i.i ≡ n.registers = omega (arith, c.loop-i-test.false, c.loop-i.auto.i-end, c.registers-i-end.ensures) in
    let z : 2 * c.loop-i.i ≡ c.first_input-first.result = omega (arith, e, c.first_input-first.ensures, c.registers.ensures) in
    let x : 2 * n.registers ≡ c.first_input-first.result = omega (arith, c.first_input-first.ensures, c.registers.ensures) in
    let k : 1 + n.registers ≡ 1 + (2 * n.registers - n.registers) = omega arith in (
      c.loop-i.invariant.0 ∙ omega (arith, e, c.first_input-first.ensures, c.registers.ensures),
      subst (Begun (alone n) _ _) z c.loop-i.invariant.2,
      λ w h.
          let r = subst (Registers (alone n) (g.S.Store.shows c.args.store.now) (g.S.Store.shows c.loop-i.store) c.loop-i.numbers.items c.loop-i.copies.items) e (c.loop-i.invariant.3 w h) in
          subst (Inputs (alone n) (g.S.Store.shows c.args.store.now) (g.S.Store.shows c.loop-i.store) c.loop-i.numbers.items c.loop-i.copies.items) x
          (r.0, λ j l. r.1 j (omega (arith, k, l)), r.2),
    )

pub returns-in_err-input-clause-makes : goal.returns-in_err-input-clause-makes
returns-in_err-input-clause-makes g c =
    let n = netlist c.args.circuit.now in
    refused_variable (alone n) _ _ _ c.loop-x.x _ (omega (arith, c.loop-x-test.true, c.first_input-first.ensures, c.registers.ensures, c.inputs.ensures))
    c.loop-x.invariant.1 c.in_err-input.ensures _ _
    c.from_residual-in_err-input.result c.from_residual-in_err-input.ensures.1

pub loop-x-preserved : goal.loop-x-preserved
loop-x-preserved g c =
    let n = netlist c.args.circuit.now in (
      c.push-in-loop-x.ensures.len ∙ omega (arith, c.loop-x.invariant.0, c.loop-x.auto.x, c.first_input-first.ensures, c.registers.ensures),
      begun_more (alone n) _ _ _ c.loop-x.x c.in_ok-input.input c.loop-x.invariant.1 c.in_ok-input.ensures,
      λ w h.
          inputs_more (alone n) _ (valid_alone n c.args.circuit.now.sound) w _ _ c.loop-x.numbers.items c.loop-i.copies.items c.loop-x.x c.in_ok-input.input
          (omega (arith, c.loop-x.auto.x, c.first_input-first.ensures, c.registers.ensures)) (omega (arith, c.loop-x-test.true, c.first_input-first.ensures, c.registers.ensures, c.inputs.ensures))
          (c.loop-x.invariant.2 w h) c.in_ok-input.ensures c.loop-x.invariant.0 _ c.push-in-loop-x.ensures.items,
    )

pub returns : goal.returns
returns g c =
    let n = netlist c.args.circuit.now in
    let e : c.loop-x.x ≡ width (alone n) = omega (arith, c.loop-x-test.false, c.loop-x.auto.x-end, c.first_input-first.ensures, c.registers.ensures, c.inputs.ensures) in
    let i : c.loop-i.i ≡ n.registers = omega (arith, c.loop-i-test.false, c.loop-i.auto.i-end, c.registers-i-end.ensures) in
    record {
      lines = c.loop-x.invariant.0 ∙ omega (arith, e);
      copies = c.loop-i.invariant.1 ∙ i;
      makes =
          let d = sound_out n c.args.circuit.now.sound in
          let so = subst (Begun (alone n) _ _) e c.loop-x.invariant.1 in record {
            lawful = variables_lawful (width (alone n)) (omega (arith, d.some_registers)) so.0;
            wide = λ w h.
                let r = subst (Inputs (alone n) (g.S.Store.shows c.args.store.now) (g.S.Store.shows c.loop-x.store) c.loop-x.numbers.items c.loop-i.copies.items) e (c.loop-x.invariant.2 w h) in
                made r.0 (λ j l. r.1 j (omega (arith, l)), r.2);
            narrow = λ l. absurd (omega (arith, l, so.1));
          };
    }
