use Rattle.std.proofs.Common.{◌≡◌, ◌+◌, ◌*◌, ◌≤◌, sym, ap, ◌∙◌, subst, arith}
use Rattle.circuit.specs.Reading.{netlist}
use Rattle.runs.specs.Functions.{negated, both}
use Rattle.making.specs.Promises.{ExistsAll}
use Rattle.making.proofs.Circuits.{sound_out}
use Rattle.making.proofs.Steps.{kept, fresh, grown_more, not_answers, and_answers, ends_here, ends_later, broke}
use Rattle.making.proofs.start.first_set.Goals as goal

pub returns-in_err-broken : goal.returns-in_err-broken
returns-in_err-broken g c p l h q w mh mq =
    broke c.from_residual.result c.in_err-broken.field-0.0 c.from_residual.ensures.1
    (ends_here c.in_err-broken.ensures.lawful _ (not_answers c.in_err-broken.ensures mq))

pub returns-in_err-allowed : goal.returns-in_err-allowed
returns-in_err-allowed g c p l h q w mh mq =
    let m1 = not_answers c.in_ok-broken.ensures mq in
    broke c.from_residual-in_err-allowed.result c.in_err-allowed.field-0.0 c.from_residual-in_err-allowed.ensures.1
    (ends_later c.in_ok-broken.ensures.lawful m1 c.in_ok-broken.ensures.after
    (ends_here c.in_err-allowed.ensures.lawful _ (and_answers c.in_err-allowed.ensures (fresh m1) (kept m1.grown mh))))

pub first_input-first-requires : goal.first_input-first-requires
first_input-first-requires g c =
    omega (arith, c.registers.ensures, (sound_out (netlist c.args.circuit.now) c.args.circuit.now.sound).few_registers)

pub exists_all-requires : goal.exists_all-requires
exists_all-requires g c =
    let d = sound_out (netlist c.args.circuit.now) c.args.circuit.now.sound in
    omega (arith, c.first_input-first.ensures, c.registers.ensures, c.inputs.ensures, d.few_registers, d.few_inputs)

pub returns : goal.returns
returns g c p l h q w mh mq =
    let n = netlist c.args.circuit.now in
    let m1 = not_answers c.in_ok-broken.ensures mq in
    let m2 = and_answers c.in_ok-allowed.ensures (fresh m1) (kept m1.grown mh) in
    let s = g.S.Store.shows c.and.new.self in
    let t = g.S.Store.shows c.exists_all.new.store in
    let first : c.first_input-first.result ≡ 2 * n.registers = c.first_input-first.ensures ∙ ap (λ r. 2 * r) c.registers.ensures in
    let y = subst (λ x. ExistsAll s c.in_ok-allowed.allowed x n.inputs c.exists_all.result t) first
    (subst (λ k. ExistsAll s c.in_ok-allowed.allowed c.first_input-first.result k c.exists_all.result t) c.inputs.ensures c.exists_all.ensures.gives) in
    ends_later c.in_ok-broken.ensures.lawful m1 c.in_ok-broken.ensures.after
    (ends_later c.in_ok-allowed.ensures.lawful m2 c.in_ok-allowed.ensures.after
    (y p l (both (negated q) h) (fresh m2) (subst (λ k. 2 * n.registers + n.inputs ≤ k) (sym (grown_more m1.grown m2.grown).vars) w)))
