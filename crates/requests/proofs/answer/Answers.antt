use Rattle.std.proofs.Common.{refl}
use Rattle.uses.specs.Calls.{load, advance, ask, trace, inside}
use Rattle.requests.proofs.answer.Goals as goal

pub returns-in-Load : goal.returns-in-Load
returns-in-Load g c =
    let s = c.in-Load.source in
    rw c.in-Load.is
    (record { call = load s.circuit.now s.assumption.now s.property.now c.load.result; is_call = (refl, refl); next = c.load.ensures.next })

pub returns-in-Advance : goal.returns-in-Advance
returns-in-Advance g c = rw c.in-Advance.is (record { call = advance c.advance.result; is_call = (refl, refl); next = c.advance.ensures.next })

pub returns-in-Verdict : goal.returns-in-Verdict
returns-in-Verdict g c = rw c.in-Verdict.is (record { call = ask c.verdict.result; is_call = (refl, refl); next = c.verdict.ensures.next })

pub returns-in-Trace : goal.returns-in-Trace
returns-in-Trace g c =
    let old = c.in-Trace in
    let new = c.trace.new in
    let e = c.trace.ensures in
    rw old.is
    (record {
      call = trace old.states.now old.inputs.now new.states.now new.inputs.now c.trace.result;
      is_call = (e.same_arrays.0, e.same_arrays.1, refl);
      next = e.next;
    })

pub returns-in-Inside : goal.returns-in-Inside
returns-in-Inside g c =
    rw c.in-Inside.is (record { call = inside c.in-Inside.state c.inside.result; is_call = (refl, refl); next = c.inside.ensures.next })
