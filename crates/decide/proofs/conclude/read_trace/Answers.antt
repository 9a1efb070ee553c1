use Rattle.std.proofs.Common.{◌≡◌, suc, ◌+◌, length, map, take, replicate, refl, ap, sym, subst, ◌∙◌, length-take, arith}
use Rattle.std.proofs.lemmas.List.{length-map}
use Rattle.runs.specs.Models.{system}
use Rattle.runs.specs.Search.{Trace}
use Rattle.engine.specs.Keeping.{world}
use Rattle.decide.specs.Traces.{depth_of, state_at, input_at}
use Rattle.decide.proofs.Sessions.{handed_by}
use Rattle.decide.proofs.Traces.{step_is, trace_like}
use Rattle.decide.proofs.conclude.read_trace.Goals as goal

pub returns-in_err-trace : goal.returns-in_err-trace
returns-in_err-trace g c = record {
  same = c.trace.ensures.same;
  hands_out = λ s m k o.
      absurd (handed_by s m c.args.depth.advances (world g.S.Store.shows c.args.session.now) (world g.S.Store.shows c.trace.new.self) k o c.in_err-trace.ensures.next (omega arith) (omega arith));
}

pub returns : goal.returns
returns g c = record {
  same = c.trace.ensures.same;
  hands_out = λ s m k o.
      let d = c.args.depth.advances in
      let x = c.of.result in
      let h = handed_by s m d (world g.S.Store.shows c.args.session.now) (world g.S.Store.shows c.trace.new.self) k o c.in_ok-trace.ensures.next (omega arith) (omega arith) in
      let count : c.from-count.result + 1 ≡ suc d = omega arith in
      let a : map (λ s. s.state) x.steps.items ≡ take (suc d) c.trace.new.states = c.of.ensures.states ∙ ap (λ i. take i c.trace.new.states) count in
      let b : map (λ s. s.input) x.steps.items ≡ take (suc d) c.trace.new.inputs = c.of.ensures.inputs ∙ ap (λ i. take i c.trace.new.inputs) count in
      let n = sym (length-map x.steps.items (λ s. s.state)) ∙ ap length a ∙ length-take (suc d) c.trace.new.states in
      let e : depth_of x ≡ d = omega arith in (
        e,
        subst (λ i. Trace (system m) i (state_at x) (input_at x)) (sym e) (trace_like (system m) d h.states h.inputs (state_at x) (input_at x)
            (step_is (λ s. s.state) (suc d) h.states (replicate 257 0) c.trace.new.states x.steps.items refl h.states_are a)
            (step_is (λ s. s.input) (suc d) h.inputs (replicate 257 0) c.trace.new.inputs x.steps.items refl h.inputs_are b)
            h.trace),
      );
}
